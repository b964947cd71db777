-- The pending rows of all trees are kept after a save: of its tree there are none, and those of the others stand in the same baskets.
use Rattle.std.proofs.Common.{◌≡◌, ◌==◌, ⊎_elim, ℕ, List, [], ◌∷◌, length, map, Bool, true, false, cond, Option, Some, None, refl, sym, ap, subst, ◌∙◌}
use Rattle.std.proofs.lemmas.{Bool.{eqb-true}, Map.Views.{tells_apart}, Option.{same_Some}, Slice.Eq.{bytes_eq-Decides}}
use Rattle.std.specs.{Cmp.{eq_by_cmp_equiv}, FinMap.{get, get-insert, insert}, List.{find}, Option.{option_map_or}, Ordering.{eq_by_cmp}, Str.{bytes_eq}}
use Rattle.rio_num.specs.Word.{name_order}
use Rattle.rio_num.proofs.BytesEq.{bytes_eq-sym}
use Rattle.rio_leaf.specs.declared.branch.BranchDef.{BranchDef}
use Rattle.rio_format.specs.declared.class.ClassDef.{ClassDef}
use Rattle.rio_key.specs.{declared.head.KeyHead.{KeyHead}, Cut.{Cut}}
use Rattle.rio_dir.specs.Table.{head_of}
use Rattle.rio_chain.specs.Segments.{IsChain, Link, segment_of}
use Rattle.rio_machine.proofs.OrderLaws.{names_tie, names_total}
use Rattle.rio_machine.specs.State.{State, Tree}
use Rattle.rio_tree.specs.{WrittenLaws.{AreReadableBranches, stated_defs}, declared.basket_at.BasketAt.{BasketAt}, declared.head.Branch.{Branch}, declared.head.TreeHead.{TreeHead}}
use Rattle.rio_fill.specs.Fill.{TreeFill, all_saved, entry_count}
use Rattle.rio_state.specs.{Contents.{file_classes}, KeyedRecords.{KeyedRecord, info_key, keyed_records, record_at, top_keys, tree_records}, OneMore.{keyed_bytes}}
use Rattle.rio_state.specs.{TreeLengths.{cuts_of}, Trees.{RecordsAt, are_named_once, basket_places, header_in, places_named}}
use Rattle.rio_state.proofs.{Members.{In, found, in_map, passing}, Places.{once_apart, once_distinct}, TreesSame.{in_flat_map}}
use Rattle.rio_step.specs.{Refusing.{rows_of_tree}, Runs.{saved_of}, Step.{tree_saved}}
use Rattle.rio_effect.specs.{BasketRuns.{AreBasketsPut, places_put}, NextHeaders.{IsReplaced}, PutBaskets.{AreAllPut}}
use Rattle.rio_effect.specs.Saves.{links_put, next_cycle_of, next_head, next_key, next_place}
use Rattle.rio_effect.specs.{TreeChanges.{FileRecords, all_behind, baskets_placed, cuts_of_tree, header_record_of, open_of_tree}, TreeCommands.{KeepsTree}, TreeRecords.{header_record}}
use Rattle.rio_effect.proofs.{DistinctPlaces.{behind_in, once_from, with_in}, SaveEffect.{ended, replaced_by, with_header}, SavedHeader.{defs_then}, SavedHeads.{all_begin}}
use Rattle.rio_session.specs.{Due.{AreApart}, Fillings.{branches_become, open_list, put_open}, Fills.{FilledTree, is_tree_of, places_of_trees, put_in, put_of, with_change}}
use Rattle.rio_session.specs.{Session.{file_records}, SessionState.{SessionState}}
use Rattle.rio_session.proofs.StandsOn.{StandsOn}
use Rattle.rio_session.proofs.{FilledChanges.{put_other, put_own}, FilledTrees.{fill_of_tree}, PutsApart.{put_places, trees_apart}, ReplacedHeaders.{baskets_still, header_then, info_then, named_then, other_header, own_header}}
use Rattle.rio_session.proofs.{RowsKept.{named_in, rows_beside, rows_still}, SaveChanges.{IsSavable, can, head_same}, SaveHeads.{AreSound, are_ready, readable_then}, SaveKeys.{head_is, keeps, name_is, x}}

-- without pending rows none were put
none_put_yet : (f : RecordsAt) (saved : ℕ) (classes : List ClassDef) (bs : List Branch) → AreAllPut f saved bs (cuts_of classes (stated_defs bs) []) []
none_put_yet f saved classes [] = tt
none_put_yet f saved classes (b ∷ bs) = (record { firsts = refl; hold = tt }, none_put_yet f saved classes bs)

-- a state with another tree has the others
pub other_tree : (m : State) (name other : List ℕ) (v : Tree) → bytes_eq name other ≡ false → get (insert m.trees name v) other ≡ get m.trees other
other_tree m name other v apart =
    get-insert names_total m.trees name v other ∙ ap (λ (b : Bool). cond b (Some v) (get m.trees other)) (by (eq_by_cmp name_order other name) refl)
  where
    by : (b : Bool) → eq_by_cmp name_order other name ≡ b → b ≡ false
    by false e = refl
    by true e =
        let same : other ≡ name = tells_apart names_tie other name e in
        let never : true ≡ false = sym ((bytes_eq-Decides name other).1 (sym same)) ∙ apart in
        absurd cc

module _ (s : SessionState) (m : State) (file : List ℕ) (h : StandsOn s m file) (k : KeyHead) (t : FilledTree) (found_tree : find (is_tree_of k.name) s.trees ≡ Some t) (first : head_of k.name None s.heads ≡ Some k)
    (sound : AreSound t.fill.saved t.fill.pending t.fill.branches) (savable : IsSavable s m file h k t found_tree first sound) (apart : AreApart (places_of_trees s.trees)) where
  abbrev own : Tree
  own = x s m file h k t found_tree first

  abbrev now : FileRecords
  now = file_records s h.links

  abbrev kept : KeepsTree (file_records s h.links) m k.name (x s m file h k t found_tree first)
  kept = keeps s m file h k t found_tree first

  abbrev pub put_links : List Link
  put_links = links_put s.datime (file_records s h.links) m k.name (x s m file h k t found_tree first)

  abbrev pub last_links : List Link
  last_links = ended s.datime file (file_records s h.links) m k.name (x s m file h k t found_tree first) (can s m file h k t found_tree first sound savable)

  abbrev said : TreeHead
  said = next_head s.datime (file_records s h.links) m k.name (x s m file h k t found_tree first) (keeps s m file h k t found_tree first)

  abbrev place : ℕ
  place = next_place s.datime (file_records s h.links) m k.name (x s m file h k t found_tree first) (keeps s m file h k t found_tree first)

  abbrev pub key : KeyHead
  key = next_key s.datime (file_records s h.links) m k.name (x s m file h k t found_tree first) (keeps s m file h k t found_tree first)

  abbrev bytes : List ℕ
  bytes = header_record place s.datime k.name (next_cycle_of s.datime (file_records s h.links) m k.name (x s m file h k t found_tree first) (keeps s m file h k t found_tree first)) said

  abbrev change : TreeFill → TreeFill
  change f = all_saved (branches_become (put_open s.datime k.name (entry_count t.fill) s.segments t.fill.branches (open_list t.fill.branches)).branches f)

  abbrev pub trees_then : List FilledTree
  trees_then = with_change k.name (λ f. all_saved (branches_become (put_open s.datime k.name (entry_count t.fill) s.segments t.fill.branches (open_list t.fill.branches)).branches f)) s.trees

  abbrev pub state_then : State
  state_then = record m { trees = insert m.trees k.name (tree_saved (x s m file h k t found_tree first)) }

  -- of the tree nothing is put since, and of the others what was
  pub own_put : put_in trees_then k.name ≡ []
  own_put = put_own k.name change t s.trees found_tree

  pub other_put : (name : List ℕ) → bytes_eq k.name name ≡ false → put_in trees_then name ≡ put_in s.trees name
  other_put name other = put_other k.name change name s.trees (bytes_eq-sym name k.name ∙ other)

  -- where a file has the baskets, and one the header too
  module _ (image other : List ℕ) (chain : IsChain put_links image) (chain_then : IsChain (with_header s.datime file (file_records s h.links) m k.name (x s m file h k t found_tree first) (can s m file h k t found_tree first sound savable)) other)
      (put : AreBasketsPut s.datime k.name (length (rows_of_tree (x s m file h k t found_tree first))) h.links (x s m file h k t found_tree first).branches (open_of_tree m (x s m file h k t found_tree first))) where
    pub is : IsReplaced image other put_links (saved_of m) (keeps s m file h k t found_tree first).r (keeps s m file h k t found_tree first).head place bytes key said
    is = replaced_by s.datime file (file_records s h.links) m k.name own (can s m file h k t found_tree first sound savable) image chain put other chain_then

    abbrev placed : List (List BasketAt)
    placed = baskets_placed s.datime k.name (length (rows_of_tree own)) h.links own.branches (open_of_tree m own)

    abbrev before : List KeyedRecord
    before = keyed_records h.links

    -- ---- the tree

    readable : AreReadableBranches said.entries [] said.branches
    readable =
        let old = subst (λ (hd : TreeHead). AreReadableBranches hd.entries [] hd.branches) (head_is s m file h k t found_tree first) kept.readable in
        let bs = (put_open s.datime k.name (entry_count t.fill) (map segment_of h.links) t.fill.branches (open_list t.fill.branches)).branches in
        let then = readable_then t.fill.saved (entry_count t.fill) [] t.fill.branches bs (are_ready s.datime k.name h.links t.fill sound) old in
        subst (λ (hd : TreeHead). AreReadableBranches hd.entries [] hd.branches) (head_same s m file h k t found_tree first sound) then

    cuts_then : cuts_of_tree state_then (tree_saved own) ≡ cuts_of m.classes (stated_defs said.branches) []
    cuts_then =
        let defs = defs_then s.datime file now m k.name own (can s m file h k t found_tree first sound savable) image chain put in
        ap (λ (ds : List BranchDef). cuts_of m.classes ds []) (sym defs)

    pub own_rows : KeepsTree (record { links = last_links; put = put_in trees_then }) state_then k.name (tree_saved (x s m file h k t found_tree first))
    own_rows =
        let named = name_is s m file h k t found_tree first in
        record {
          r = keyed_bytes key bytes;
          record_is = ap (header_record_of last_links) (sym named) ∙ own_header image other put_links (saved_of m) kept.r kept.head place bytes key said is;
          head = said;
          head_is = header_then image other put_links (saved_of m) kept.r kept.head place bytes key said is;
          readable = readable;
          fits = savable.fits;
          put = subst (λ (y : List Cut × List (List BasketAt)). AreAllPut (record_at (keyed_records last_links)) said.entries said.branches y.0 y.1) (λ i. (sym cuts_then i, sym own_put i))
              (none_put_yet (record_at (keyed_records last_links)) said.entries m.classes said.branches);
          fresh = ap (λ (p : List (List BasketAt)). are_named_once (named_in last_links) (places_put p)) own_put;
        }

    -- ---- the others

    module _ (name : List ℕ) (u : Tree) (differ : bytes_eq k.name name ≡ false) (at : get m.trees name ≡ Some u) where
      abbrev old : KeepsTree (file_records s h.links) m name u
      old = h.rows name u at

      abbrev places : List ℕ
      places = places_put (put_in s.trees name)

      mid : KeepsTree (record { links = put_links; put = put_in s.trees }) m name u
      mid = rows_beside h.links put_links put.leaves put.alike.info (put_in s.trees) (put_in s.trees) m m name u u old refl refl

      -- the tree's own baskets stand elsewhere
      two_apart : (p : ℕ) → In p places → In p (places_put (put_in s.trees k.name)) → ⊥
      two_apart p i j =
          let f = fill_of_tree s m h.stands name u at in
          let one = subst (λ (b : List (List BasketAt)). In p (places_put b)) (ap (λ (o : Option FilledTree). option_map_or (λ v. put_of v.fill) o []) f.1.found) i in
          let two = subst (λ (b : List (List BasketAt)). In p (places_put b)) (ap (λ (o : Option FilledTree). option_map_or (λ v. put_of v.fill) o []) found_tree) j in
          trees_apart k.name name t f.0 s.trees differ found_tree f.1.found apart p (put_places t.fill p two) (put_places f.0.fill p one)

      -- a record begins where one was put
      begins : (p : ℕ) → In p places → In p (map (λ r. r.head.seek) before)
      begins p i =
          let there = passing (λ r. r.head.seek == p) before (all_begin before old.head.entries old.head.branches (cuts_of_tree m u) (put_in s.trees name) old.put p i) in
          subst (λ (q : ℕ). In q (map (λ (r : KeyedRecord). r.head.seek) before)) (eqb-true there.x.head.seek p there.passes) (in_map (λ (r : KeyedRecord). r.head.seek) there.x before there.among)

      own_before : (p : ℕ) → In p (basket_places kept.head) → In p (named_in h.links)
      unfolding places_named
      own_before p i =
          let among = (found (λ r. bytes_eq r.head.name k.name) kept.r (tree_records (top_keys before)) kept.record_is).among in
          let named = subst (λ (ps : List ℕ). In p ps) (sym (ap (λ (o : Option TreeHead). option_map_or basket_places o []) kept.head_is)) i in
          in_flat_map (places_named (file_classes (info_key before))) p kept.r (tree_records (top_keys before)) among named

      not_said : (p : ℕ) → In p places → In p (basket_places said) → ⊥
      not_said p i j =
          ⊎_elim (λ l. once_apart (named_in h.links) places old.fresh p i (own_before p l))
          (λ l. ⊎_elim (λ o. two_apart p i o) (λ o. once_apart (map (λ (r : KeyedRecord). r.head.seek) before) (places_put placed) put.new p o (begins p i)) (behind_in p (now.put k.name) placed l))
          (with_in p (length (rows_of_tree own)) kept.head.branches (all_behind (now.put k.name) placed) j)

      fresh : are_named_once (named_in last_links) places ≡ true
      fresh = once_from (named_in last_links) places (once_distinct (named_in h.links) places old.fresh) (λ p i j.
          ⊎_elim (λ l. not_said p i l) (λ l. once_apart (named_in put_links) places mid.fresh p i l) (named_then image other put_links (saved_of m) kept.r kept.head place bytes key said is p j))

      pub other_rows : KeepsTree (record { links = last_links; put = put_in trees_then }) state_then name u
      other_rows =
          let named = name_is s m file h k t found_tree first in
          let test : bytes_eq kept.r.head.name name ≡ false = ap (λ (n : List ℕ). bytes_eq n name) named ∙ differ in
          rows_still (record { links = put_links; put = put_in s.trees }) (record { links = last_links; put = put_in trees_then }) m state_then name u u mid
          (other_header image other put_links (saved_of m) kept.r kept.head place bytes key said is name test ∙ mid.record_is)
          (ap (λ (o : Option KeyedRecord). header_in (file_classes o) mid.r) (info_then image other put_links (saved_of m) kept.r kept.head place bytes key said is) ∙ mid.head_is)
          (other_put name differ)
          refl
          (λ offsets a entries i hold. baskets_still image other put_links (saved_of m) kept.r kept.head place bytes key said is offsets a entries hold)
          fresh

    pub rows_then : (name : List ℕ) (u : Tree) → get (insert m.trees k.name (tree_saved (x s m file h k t found_tree first))) name ≡ Some u → KeepsTree (record { links = last_links; put = put_in trees_then }) state_then name u
    rows_then name u at = by (bytes_eq k.name name) refl
      where
        by : (b : Bool) → bytes_eq k.name name ≡ b → KeepsTree (record { links = last_links; put = put_in trees_then }) state_then name u
        by true e =
            let same : k.name ≡ name = (bytes_eq-Decides k.name name).0 e in
            let here : get (insert m.trees k.name (tree_saved own)) k.name ≡ Some (tree_saved own) =
            get-insert names_total m.trees k.name (tree_saved own) k.name ∙ ap (λ (b : Bool). cond b (Some (tree_saved own)) (get m.trees k.name)) ((eq_by_cmp_equiv names_total).refl k.name) in
            let tree : tree_saved own ≡ u = same_Some (tree_saved own) u (sym here ∙ ap (get (insert m.trees k.name (tree_saved own))) same ∙ at) in
            subst (λ (y : List ℕ × Tree). KeepsTree (record { links = last_links; put = put_in trees_then }) state_then y.0 y.1) (λ i. (same i, tree i)) own_rows
        by false e = other_rows name u e (sym (other_tree m k.name name (tree_saved own) e) ∙ at)
