-- A delete takes effect on a file: the record of the key is released first, and then nothing refers to the baskets of its tree.
use Rattle.std.proofs.Common.{◌≡◌, ◌∙◌, ◌⊎◌, inl, inr, ⊎_elim, ℕ, zero, suc, ◌+◌, ◌<◌, ◌≤◌, ◌==◌, ◌||◌, List, [], ◌∷◌, ◌++◌, append_assoc, length, map, take, nat_lt, Option, Some, None, Bool, true, false, not, is_some, refl, sym, ap, subst, arith}
use Rattle.std.proofs.lemmas.{Bool.{and_from, eq-eqb, eqb-true, or_right}, List.{length-append, length-map, take_all}, List.Elements.{All-head, All-tail}, List.Sums.{sum_by-cons}, List.Sorted.{Contains-permutation, IsPermutation-sym, length_permutation}, Option.{same_Some}}
use Rattle.std.specs.{Prelude.{if◌then◌else◌}, FinMap.{get, remove}, List.{All, Contains, find, flat_map, list_any, sum_by, Sorted.{IsStrictlyIncreasing}}, Option.{option_map, option_map_or}}
use Rattle.rio_num.specs.Word.{is_item_text}
use Rattle.rio_format.specs.declared.class.ClassDef.{ClassDef}
use Rattle.rio_key.specs.declared.head.KeyHead.{KeyHead}
use Rattle.rio_dir.specs.Table.{head_of, is_at_cycle, without_head}
use Rattle.rio_tree_table.specs.{Table.{tree_of}}
use Rattle.rio_tree.specs.{HeaderLength.{basket_count}, WrittenLaws.{stated_defs}, declared.basket_at.BasketAt.{BasketAt}, declared.head.Branch.{Branch}, declared.head.TreeHead.{TreeHead}}
use Rattle.rio_fill.specs.Fill.{BranchFill, defs_of}
use Rattle.rio_chain.specs.{Adjoining.{AreSegments}, Changes.{without_record}, Segments.{IsChain, Link, chain_end}}
use Rattle.rio_machine.specs.{State.{State, Tree, names_tree}, declared.command.Command.{Command, TheVariants.{Delete}}}
use Rattle.rio_state.specs.{Closing.{KeptRecords, held_by, held_with, kept_in, kept_with}, Contents.{file_classes}, DirectoryKeys.{AreKeysOf}, Left.{info_head}, TreeLengths.{PendingRows, cuts_of, none_pending, pending_in, put_count}, Trees.{are_named_once, basket_places}}
use Rattle.rio_state.specs.KeyedRecords.{KeyedRecord, begins_at, info_key, is_top_key, keyed_records, record_at, top_keys, tree_records}
use Rattle.rio_state.specs.{OneLess.{HasRecord, NeedsNoMore, links_without}, OneMore.{HasOneMoreIn}, Reads.{AreRecordsOf}}
use Rattle.rio_state.proofs.{Insertion.{filter_more}, LessRecords.{record_less}, Members.{In, any_from, contains_in, found, in_contained, in_either, in_filter, in_left, in_map, in_right, map_in}, ObjectStands.{trees_same}, Places.{once_distinct}, Stays.{info_same}}
use Rattle.rio_step.specs.{Refusing.{refusal_of}, Runs.{saved_of}, Step.{state_behind}}
use Rattle.rio_judge.proofs.ItemsOfState.{tree_is}
use Rattle.rio_effect.specs.{AllItems.{AreAllItems}, BasketRuns.{places_put}, Changes.{Change, all_changed, released}, Deletes.{HasObject, HasObjectOf, state_without}, Garbage.{AreGarbage, StandsForSame, releases}}
use Rattle.rio_effect.specs.TreeDeletes.{AreBasketsOf, HasHeader, HasHeaderOf, put_since}
use Rattle.rio_effect.specs.Garbage as garbage
use Rattle.rio_effect.proofs.{AllItems.{items_stay_without}, DeleteEffect.{delete_key_follows, deletes_have_records, saved_delete_takes_effect}, DeleteNeeds.{delete_keeps_less, delete_needs_no_more, deletes_cost_nothing}}
use Rattle.rio_effect.proofs.{Garbage.{releases_keep_all}, HeaderLess.{headers_less, info as same_info}, Held.{chain_segments}, SavedDeletes.{deletes_ignore_pending}, SavedPuts.{trees_named}, TreeDeletes.{baskets_are_garbage, deletes_have_headers, saved_tree_delete_takes_effect}}
use Rattle.rio_effect.proofs.{TreeKeys.{tree_delete_key_follows}, TreeNeeds.{tree_delete_forgets_rows, tree_delete_keeps_less, tree_delete_needs_no_more}}
use Rattle.rio_recover.specs.{Closable.{IsClosable}, Trees.{AreTreesOf}, declared.trees.TreeAt.{TreeAt}}
use Rattle.rio_session.specs.{Due.{IsClosableWith}, Items.{IsOfKeys}, Effects.{ArePassed, IsKeptAfter, TakesEffect, links_by}, Kept.{LinksChange, all_done, changes_by, kept_by, key_place, tree_places}}
use Rattle.rio_session.specs.Fills.{FilledTree, branch_in_header, header_of, is_tree_of, kept_tree_of, places_of_fill, places_of_trees, put_baskets, put_in, put_of, saved_baskets, tree_at_of, without_filled}
use Rattle.rio_session.specs.{Releases.{AreApart}, Session.{HoldsPutRows, HoldsState}, SessionState.{SessionState, baskets_of, headers_of, kept_trees}, Sound.{IsSoundState}}
use Rattle.rio_session.proofs.{Apart.{is_among}, CutLengths.{HasBegun, defs_said, none_since, puts_alike}, FillLists.{header_found, headers_without, kept_found}, KeepsLess.{IsTakenOut, taken_out}, KeepsTrees.{closable_apart}, KeysWithout.{classes_stay}, TreesOfFile.{headers_still}}
use Rattle.rio_session.proofs.FilledFiles.{AreFilled, IsStateTree, all_in, declared_are, filled_now, opens_are, pending_is, puts_are, state_tree}
use Rattle.rio_session.proofs.{DeleteRows.{held_stay, opens_left, other_tree, put_left, rows_less}, Needs.{places_counted}, PutGarbage.{no_key, put_garbage}, PutPlaces.{put_in_fill, put_in_places, saved_in}, PutsApart.{apart_back, apart_both}, RowsBeside.{hold_without}, RowsKept.{HoldStill}}
use Rattle.rio_session.proofs.{RowsStay.{rows_stay, say_alike}, FillableBehind.{fillable_behind}, TreePlaces.{all_gone, all_releasable, baskets_apart, no_places, none_removed, places_increase, places_moved, released_are, tree_kept}, TreesGone.{headers_after, own_tree, place_begins, tree_is_gone}}

-- ---- releases, one after the other

pub done_is : (places : List ℕ) (k : ℕ) (links : List Link) → all_done (take k (map without_record places)) links ≡ all_changed links (take k (releases places))
done_is [] zero links = refl
done_is [] (suc k) links = refl
done_is (p ∷ places) zero links = refl
done_is (p ∷ places) (suc k) links = done_is places k (without_record p links)

pub all_is : (places : List ℕ) (links : List Link) → all_done (map without_record places) links ≡ all_changed links (releases places)
all_is [] links = refl
all_is (p ∷ places) links = all_is places (without_record p links)

-- what is held hangs on what is kept
held_same : (a b : PendingRows) (links : List Link) → kept_with a links ≡ kept_with b links → held_with a links ≡ held_with b links
unfolding held_with
held_same a b links same = ap (held_by (chain_end links)) same

-- where no rows are pending no basket was put
none_put_idle : (saved : ℕ) (bs : List BranchFill) (p : ℕ) → All (HasBegun saved 0) bs → In p (places_put (map (put_baskets saved) bs)) → ⊥
none_put_idle saved [] p begun i = absurd i
none_put_idle saved (b ∷ bs) p begun i =
    ⊎_elim (λ j. by (put_baskets saved b) (none_since saved b (All-head (HasBegun saved 0) b bs begun)) j) (λ j. none_put_idle saved bs p (All-tail (HasBegun saved 0) b bs begun) j)
    (in_either p (map (λ at. at.seek) (put_baskets saved b)) (places_put (map (put_baskets saved) bs)) i)
  where
    by : (ats : List BasketAt) → length ats ≡ 0 → In p (map (λ at. at.seek) ats) → ⊥
    by [] none j = j
    by (at ∷ ats) none j = absurd (omega (arith, none))

-- as many places as baskets
length-baskets : (bs : List Branch) → length (flat_map (λ (b : Branch). map (λ (at : BasketAt). at.seek) b.baskets) bs) ≡ sum_by (λ (b : Branch). length b.baskets) bs
length-baskets [] = refl
length-baskets (b ∷ bs) =
    omega (
      arith,
      length-append (map (λ (at : BasketAt). at.seek) b.baskets) (flat_map (λ (b : Branch). map (λ (at : BasketAt). at.seek) b.baskets) bs),
      length-map b.baskets (λ (at : BasketAt). at.seek),
      length-baskets bs,
      sum_by-cons (λ (b : Branch). length b.baskets) b bs,
    )

-- ---- places of baskets

-- places that are apart are named once
once_named : (before places : List ℕ) → AreApart places → ((p : ℕ) → is_among places p ≡ true → list_any (λ q. p == q) before ≡ false) → are_named_once before places ≡ true
once_named before [] apart none = refl
once_named before (p ∷ places) apart none =
    and_from (not (list_any (λ q. p == q) before)) (are_named_once (p ∷ before) places) (ap not (none p (ap (λ (b : Bool). b || is_among places p) (eq-eqb p p refl))))
    (once_named (p ∷ before) places apart.1 (λ q e. by q e (q == p) refl (none q (or_right (p == q) (is_among places q) e))))
  where
    by : (q : ℕ) → is_among places q ≡ true → (b : Bool) → (q == p) ≡ b → list_any (λ r. q == r) before ≡ false → (b || list_any (λ r. q == r) before) ≡ false
    by q e true is later = let same : q ≡ p = eqb-true q p is in let f : true ≡ false = sym e ∙ ap (is_among places) same ∙ apart.0 in absurd cc
    by q e false is later = later

-- the trees that are kept have their names
kept_named : (name : List ℕ) (trees : List FilledTree) → is_some (tree_of name (map kept_tree_of trees)) ≡ is_some (find (is_tree_of name) trees)
kept_named name trees = ap is_some (kept_found name trees) ∙ by (find (is_tree_of name) trees)
  where
    by : (o : Option FilledTree) → is_some (option_map kept_tree_of o) ≡ is_some o
    by None = refl
    by (Some t) = refl

none_some : (o : Option FilledTree) → is_some o ≡ false → o ≡ None
none_some None e = refl
none_some (Some t) e = absurd cc

-- a place of a basket is one that the header names, or one of those that were put since
place_of_either : (saved : ℕ) (b : BranchFill) (p : ℕ) → In p (map (λ at. at.seek) b.baskets) → In p (map (λ at. at.seek) (saved_baskets saved b)) ⊎ In p (map (λ at. at.seek) (put_baskets saved b))
place_of_either saved b p i =
    let (at, among, same) = map_in (λ (at : BasketAt). at.seek) p b.baskets i in
    by at among same (nat_lt at.first saved) refl
  where
    by : (at : BasketAt) → In at b.baskets → at.seek ≡ p → (c : Bool) → nat_lt at.first saved ≡ c → In p (map (λ at. at.seek) (saved_baskets saved b)) ⊎ In p (map (λ at. at.seek) (put_baskets saved b))
    by at among same true is = inl (subst (λ (q : ℕ). In q (map (λ at. at.seek) (saved_baskets saved b))) same (in_map (λ (at : BasketAt). at.seek) at (saved_baskets saved b) (in_filter (λ at. nat_lt at.first saved) at b.baskets among is)))
    by at among same false is =
        inr (subst (λ (q : ℕ). In q (map (λ at. at.seek) (put_baskets saved b))) same (in_map (λ (at : BasketAt). at.seek) at (put_baskets saved b) (in_filter (λ at. not (nat_lt at.first saved)) at b.baskets among (ap not is))))

places_either : (saved : ℕ) (bs : List BranchFill) (p : ℕ) → In p (flat_map (λ (b : BranchFill). map (λ (at : BasketAt). at.seek) b.baskets) bs)
    → In p (flat_map (λ (b : Branch). map (λ (at : BasketAt). at.seek) b.baskets) (map (branch_in_header saved) bs)) ⊎ In p (places_put (map (put_baskets saved) bs))
places_either saved [] p i = absurd i
places_either saved (b ∷ bs) p i =
    let named = flat_map (λ (b : Branch). map (λ (at : BasketAt). at.seek) b.baskets) (map (branch_in_header saved) bs) in
    let put = places_put (map (put_baskets saved) bs) in
    ⊎_elim
    (λ j. ⊎_elim (λ k. inl (in_left p (map (λ at. at.seek) (saved_baskets saved b)) named k)) (λ k. inr (in_left p (map (λ at. at.seek) (put_baskets saved b)) put k)) (place_of_either saved b p j))
    (λ j. ⊎_elim (λ k. inl (in_right p (map (λ at. at.seek) (saved_baskets saved b)) named k)) (λ k. inr (in_right p (map (λ at. at.seek) (put_baskets saved b)) put k)) (places_either saved bs p j))
    (in_either p (map (λ at. at.seek) b.baskets) (flat_map (λ (b : BranchFill). map (λ (at : BasketAt). at.seek) b.baskets) bs) i)

-- of no tree of the state one is kept
pub no_tree_of : (s : SessionState) (m : State) → IsOfKeys s m → (name : List ℕ) → names_tree m name ≡ false → find (is_tree_of name) s.trees ≡ None
no_tree_of s m keys name none = none_some (find (is_tree_of name) s.trees) (sym (tree_is s.heads (kept_trees s) m keys.keys name ∙ kept_named name s.trees) ∙ none)

module _ (s : SessionState) (m : State) (file : List ℕ) (h : HoldsState s m file) (sound : IsSoundState s) (fresh : s.failed ≡ false) where
  abbrev whole : IsClosableWith s.segments s.heads s.trees s.info s.name
  whole = sound.kept fresh

  abbrev closable : IsClosable s.segments s.heads s.info (baskets_of s) s.name
  closable = whole.closable

  abbrev saved : State
  saved = saved_of m

  abbrev pending : PendingRows
  pending = pending_in m

  pub shape : AreSegments s.segments
  shape = subst AreSegments (sym h.chain.same) (chain_segments file h.links h.chain.chain)

  pub no_tree : (name : List ℕ) → names_tree m name ≡ false → find (is_tree_of name) s.trees ≡ None
  no_tree name none = no_tree_of s m h.stands name none

  -- ---- the first release

  -- The record is released, and nothing refers to the tree's baskets.
  pub record IsFirstGone (r : KeyedRecord) : Type 0 where
    pub record_is : HasRecord file h.links r
    pub records : AreRecordsOf (keyed_records (links_without h.links r)) (saved_of (state_without m r))
    pub keys : AreKeysOf (keyed_records (links_without h.links r)) (without_head r.head.name r.head.cycle s.heads)
    pub trees : AreTreesOf (keyed_records (links_without h.links r)) (map tree_at_of (without_filled r.head.name s.trees))
    pub items : AreAllItems (links_without h.links r)
    pub info : info_key (keyed_records (links_without h.links r)) ≡ info_key (keyed_records h.links)
    pub name : (kept_in (links_without h.links r)).name ≡ (kept_in h.links).name
    pub count : (kept_with (pending_in m) (links_without h.links r)).count + 1 + length (baskets_of s) ≡ (kept_with (pending_in m) h.links).count + length (places_of_trees (without_filled r.head.name s.trees))
    pub need : NeedsNoMore (pending_in m) h.links (links_without h.links r)
    pub rows : HoldsPutRows (kept_by s m (Delete r.head.name r.head.cycle)) (state_without m r) (links_without h.links r)
    pub forgets : kept_with (pending_in (state_without m r)) (links_without h.links r) ≡ kept_with (pending_in m) (links_without h.links r)
    pub garbage : AreGarbage (links_without h.links r) (tree_places s r.head.name)

  -- no basket stands where a key's record stands
  apart_key : (r : KeyedRecord) → head_of r.head.name (Some r.head.cycle) s.heads ≡ Some r.head → (name : List ℕ) → In r.head.seek (places_put (put_in s.trees name)) → ⊥
  apart_key r is name i =
      no_key s m file h shape whole r.head (found (is_at_cycle r.head.name r.head.cycle) r.head s.heads is).among (put_in_places name s.trees r.head.seek i)

  pub object_gone : (r : KeyedRecord) → HasObject file h.links r → head_of r.head.name (Some r.head.cycle) s.heads ≡ Some r.head → names_tree m r.head.name ≡ false → find (is_tree_of r.head.name) s.trees ≡ None → IsFirstGone r
  object_gone r object is unnamed none =
      let less = delete_keeps_less pending file h.links r object in
      let old = keyed_records h.links in
      let new = keyed_records (links_without h.links r) in
      let one = record_less file h.links r object.record_is in
      let same : info_key old ≡ info_key new = info_same new old r one object.key.other in
      let tops : HasOneMoreIn (top_keys new) (top_keys old) r = filter_more (λ k. is_top_key k.head) r new old one object.key.top in
      let headers : tree_records (top_keys old) ≡ tree_records (top_keys new) = trees_same (top_keys new) (top_keys old) r tops object.key.object in
      let still : without_filled r.head.name s.trees ≡ s.trees = none_removed r.head.name s.trees none in
      let gone : tree_places s r.head.name ≡ [] = no_places s shape closable r.head.name none in
      let trees : (state_without m r).trees ≡ m.trees = ap (λ (b : Bool). (if b then record m { trees = remove m.trees r.head.name } else record m { objects = remove m.objects (r.head.name, r.head.cycle) }).trees) unnamed in
      record {
        record_is = object.record_is;
        records = saved_delete_takes_effect file h.links m r object h.records;
        keys = delete_key_follows file h.links saved s.heads r object h.records h.keys;
        trees = subst (λ (ts : List FilledTree). AreTreesOf new (map tree_at_of ts)) (sym still) (headers_still old new (headers_of s) (sym same) (sym headers) h.trees);
        items = items_stay_without file h.links r object.record_is h.items;
        info = sym same;
        name = (delete_keeps_less none_pending file h.links r object).name;
        count = omega (arith, less.count, ap (λ (ts : List FilledTree). length (places_of_trees ts)) still);
        need = delete_needs_no_more pending file h.links r object;
        rows =
            rows_stay s (kept_by s m (Delete r.head.name r.head.cycle)) m (state_without m r) h.links (links_without h.links r) (say_alike h.links (links_without h.links r) (sym same) (sym headers)) still trees
            (λ name x there. ap (λ (cs : List ClassDef). cuts_of cs x.branches x.pending) (classes_stay m r.head))
            (λ name. hold_without new old r one (places_put (put_in s.trees name)) (apart_key r is name)) h.rows;
        forgets = ap (λ ts. kept_with (λ name. option_map_or (λ (t : Tree). t.pending) (get ts name) []) (links_without h.links r)) trees;
        garbage = subst (AreGarbage (links_without h.links r)) (sym gone) (record { each = λ p there. absurd (in_contained p [] there); once = refl });
      }

  module _ (r : KeyedRecord) (head : TreeHead) (has : HasHeader file h.links r head) (is : head_of r.head.name (Some r.head.cycle) s.heads ≡ Some r.head) where
    abbrev places : List ℕ
    places = tree_places s r.head.name

    -- the tree that is kept, and its header
    pub record IsKeptTree : Type 0 where
      pub t : FilledTree
      pub found : find (is_tree_of r.head.name) s.trees ≡ Some t
      pub at : tree_at_of t ≡ record { name = r.head.name; head = head }
      pub among : In t s.trees

    pub kept_tree_is : IsKeptTree
    kept_tree_is = by (find (is_tree_of r.head.name) s.trees) refl
      where
        by : (o : Option FilledTree) → find (is_tree_of r.head.name) s.trees ≡ o → IsKeptTree
        by None e =
            let own = own_tree file h.links saved r head (headers_of s) has h.records h.trees in
            let never = sym (header_found r.head.name s.trees ∙ ap (option_map tree_at_of) e) ∙ own in absurd cc
        by (Some t) e =
            let own = own_tree file h.links saved r head (headers_of s) has h.records h.trees in
            record {
              t = t;
              found = e;
              at = same_Some (tree_at_of t) (record { name = r.head.name; head = head }) (sym (header_found r.head.name s.trees ∙ ap (option_map tree_at_of) e) ∙ own);
              among = (found (is_tree_of r.head.name) t s.trees e).among;
            }

    abbrev pub its : FilledTree
    its = kept_tree_is.t

    head_is : header_of kept_tree_is.t.fill ≡ head
    head_is = ap (λ (v : TreeAt). v.head) kept_tree_is.at

    name_is : kept_tree_is.t.name ≡ r.head.name
    name_is = ap (λ (v : TreeAt). v.name) kept_tree_is.at

    pub filled : AreFilled s m h.links
    filled = filled_now s m file h whole

    -- the tree of the state
    abbrev state_is : IsStateTree s m h.links filled kept_tree_is.t
    state_is = state_tree s m h.links filled kept_tree_is.t kept_tree_is.among

    pub its_there : get m.trees r.head.name ≡ Some (state_tree s m h.links filled kept_tree_is.t kept_tree_is.among).x
    its_there = ap (get m.trees) (sym name_is) ∙ state_is.there

    -- its baskets stand at these places
    pub places_moved_to : ((p : ℕ) → Contains (places_of_fill kept_tree_is.t.fill) p → Contains (tree_places s r.head.name) p) × ((p : ℕ) → Contains (tree_places s r.head.name) p → Contains (places_of_fill kept_tree_is.t.fill) p)
    places_moved_to =
        let moved = places_moved s shape closable r.head.name kept_tree_is.t kept_tree_is.found in (
          λ p there. Contains-permutation (places_of_fill kept_tree_is.t.fill) places p moved there,
          λ p there. Contains-permutation places (places_of_fill kept_tree_is.t.fill) p (IsPermutation-sym (places_of_fill kept_tree_is.t.fill) places moved) there,
        )

    pub tree_rises : IsStrictlyIncreasing (tree_places s r.head.name)
    tree_rises = places_increase s shape closable r.head.name kept_tree_is.t kept_tree_is.found

    apart : AreApart (tree_places s r.head.name)
    apart = (subst AreApart (released_are s shape closable r.head is) (all_releasable s shape closable r.head is).apart).1

    -- those that the header names, and those that were put since
    pub either_place : (p : ℕ) → In p (places_of_fill kept_tree_is.t.fill) → In p (basket_places head) ⊎ In p (places_put (put_in s.trees r.head.name))
    either_place p i =
        let t = kept_tree_is.t in
        let begun = all_in (λ (u : FilledTree). All (HasBegun u.fill.saved u.fill.pending) u.fill.branches) t s.trees filled.begun kept_tree_is.among in
        let put : put_in s.trees r.head.name ≡ put_of t.fill = ap (λ (o : Option FilledTree). option_map_or (λ (u : FilledTree). put_of u.fill) o []) kept_tree_is.found in
        ⊎_elim (λ j. inl (subst (λ (d : TreeHead). In p (basket_places d)) head_is j))
        (λ j. inr (subst (λ (ps : List (List BasketAt)). In p (places_put ps)) (sym put) (some (t.fill.pending == 0) refl j begun)))
        (places_either t.fill.saved t.fill.branches p i)
      where
        some : (b : Bool) → (kept_tree_is.t.fill.pending == 0) ≡ b → In p (places_put (map (put_baskets kept_tree_is.t.fill.saved) kept_tree_is.t.fill.branches))
            → All (HasBegun kept_tree_is.t.fill.saved kept_tree_is.t.fill.pending) kept_tree_is.t.fill.branches → In p (places_put (put_of kept_tree_is.t.fill))
        some false is j begun = subst (λ (b : Bool). In p (places_put (if b then [] else map (put_baskets kept_tree_is.t.fill.saved) kept_tree_is.t.fill.branches))) (sym is) j
        some true is j begun =
            let zero : kept_tree_is.t.fill.pending ≡ 0 = eqb-true kept_tree_is.t.fill.pending 0 is in
            absurd (none_put_idle kept_tree_is.t.fill.saved kept_tree_is.t.fill.branches p (subst (λ (n : ℕ). All (HasBegun kept_tree_is.t.fill.saved n) kept_tree_is.t.fill.branches) zero begun) j)

    pub its_named : (p : ℕ) → In p (basket_places head) → In p (places_of_fill kept_tree_is.t.fill)
    its_named p i = saved_in kept_tree_is.t.fill.saved p kept_tree_is.t.fill.branches (subst (λ (d : TreeHead). In p (basket_places d)) (sym head_is) i)

    pub its_put : (p : ℕ) → In p (places_put (put_in s.trees r.head.name)) → In p (places_of_fill kept_tree_is.t.fill)
    its_put p i =
        let put : put_in s.trees r.head.name ≡ put_of kept_tree_is.t.fill = ap (λ (o : Option FilledTree). option_map_or (λ (u : FilledTree). put_of u.fill) o []) kept_tree_is.found in
        put_in_fill kept_tree_is.t p (subst (λ (ps : List (List BasketAt)). In p (places_put ps)) put i)

    -- a record begins at each of them
    pub its_begins : (p : ℕ) → In p (places_of_fill kept_tree_is.t.fill) → begins_at (keyed_records h.links) p ≡ true
    its_begins p i =
        ⊎_elim (λ j. place_begins file h.links saved r head (headers_of s) has h.records h.trees p j)
        (λ j.
        let g = put_garbage s m file h shape whole r.head.name state_is.x its_there p j in
        any_from (λ (k : KeyedRecord). k.head.seek == p) g.r (keyed_records h.links) (in_contained g.r (keyed_records h.links) g.among) (eq-eqb g.r.head.seek p g.seek))
        (either_place p i)

    baskets_named : AreBasketsOf h.links head (tree_places s r.head.name)
    baskets_named = record {
      each = λ p there.
          ⊎_elim (λ j. inl (contains_in p (basket_places head) j))
          (λ j. inr (put_garbage s m file h shape whole r.head.name state_is.x its_there p j))
          (either_place p (in_contained p (places_of_fill kept_tree_is.t.fill) (places_moved_to.1 p there)));
      once = once_named [] places apart (λ p e. refl);
    }

    counted : length (baskets_of s) ≡ length (places_of_fill kept_tree_is.t.fill) + length (places_of_trees (without_filled r.head.name s.trees))
    counted =
        let moved = baskets_apart r.head.name kept_tree_is.t s.trees kept_tree_is.found in
        sym (length_permutation (baskets_of s) (places_of_fill kept_tree_is.t.fill ++ places_of_trees (without_filled r.head.name s.trees)) moved)
        ∙ length-append (places_of_fill kept_tree_is.t.fill) (places_of_trees (without_filled r.head.name s.trees))

    -- as many as the header names, and as were put since
    its_count : length (places_of_fill kept_tree_is.t.fill) ≡ length (basket_places head) + put_since (pending_in m) (file_classes (info_key (keyed_records h.links))) r head
    its_count =
        let t = kept_tree_is.t in
        let classes = declared_are s m h.links filled in
        let puts = puts_alike m.classes t.name (pending_in m t.name) t.fill (pending_is s m h.links filled t kept_tree_is.among) (opens_are s m h.links filled t kept_tree_is.among) (puts_are s m h.links filled t kept_tree_is.among) in
        let defs : stated_defs head.branches ≡ defs_of t.fill.branches = ap (λ (d : TreeHead). stated_defs d.branches) (sym head_is) ∙ defs_said t.fill.saved t.fill.branches in
        let since : put_since (pending_in m) (file_classes (info_key (keyed_records h.links))) r head ≡ put_count (cuts_of m.classes (defs_of t.fill.branches) (pending_in m t.name)) = λ i. put_count (cuts_of (classes i) (defs i) (pending_in m (sym name_is i))) in
        let named : length (basket_places head) ≡ basket_count (header_of t.fill) = ap (λ (d : TreeHead). length (basket_places d)) (sym head_is) ∙ length-baskets (header_of t.fill).branches in
        omega (arith, puts, since, named, sym (places_counted t.fill.branches))

    pub tree_gone : IsFirstGone r
    tree_gone =
        let less = tree_delete_keeps_less pending file h.links r head has in
        let gone = saved_tree_delete_takes_effect file h.links m r head has h.records in
        let one = record_less file h.links r has.record_is in
        let old = keyed_records h.links in
        let new = keyed_records (links_without h.links r) in
        let info = same_info old new r one has.items has.tree in
        record {
          record_is = has.record_is;
          records = gone.records;
          keys = tree_delete_key_follows file h.links saved s.heads r head has h.records h.keys;
          trees = subst (AreTreesOf new) (sym (headers_without r.head.name s.trees)) (tree_is_gone file h.links saved r head (headers_of s) has h.records h.trees);
          items = gone.items;
          info = info;
          name = (tree_delete_keeps_less none_pending file h.links r head has).name;
          count = omega (arith, less.count, counted, its_count);
          need = tree_delete_needs_no_more pending file h.links r head has;
          rows = λ name x there.
              let o = other_tree m r.head.name r.head.cycle name x there in
              rows_less s (kept_by s m (Delete r.head.name r.head.cycle)) m (state_without m r) h.links (links_without h.links r) r one info (headers_less old new r one has.items has.tree)
              name x (h.rows name x o.there) o.other (put_left s m r.head name o.other) (classes_stay m r.head) (apart_key r is name);
          forgets = tree_delete_forgets_rows file h.links m r head has h.records;
          garbage = baskets_are_garbage file h.links saved r head places has h.records baskets_named;
        }

  -- ---- all releases

  module _ (r : KeyedRecord) (first : IsFirstGone r) (is : head_of r.head.name (Some r.head.cycle) s.heads ≡ Some r.head) where
    abbrev c : Command
    c = Delete r.head.name r.head.cycle

    abbrev gone : List Link
    gone = links_without h.links r

    abbrev after : List ℕ
    after = tree_places s r.head.name

    changes_are : changes_by s m (Delete r.head.name r.head.cycle) ≡ map without_record (r.head.seek ∷ tree_places s r.head.name)
    changes_are = ap (map without_record) (released_are s shape closable r.head is)

    count_is : length (changes_by s m (Delete r.head.name r.head.cycle)) ≡ 1 + length (tree_places s r.head.name)
    count_is = omega (arith, ap length changes_are, length-map (r.head.seek ∷ after) without_record)

    -- the links after some of them
    links_are : (k : ℕ) → links_by s m (Delete r.head.name r.head.cycle) (suc k) h.links ≡ all_changed (links_without h.links r) (take k (releases (tree_places s r.head.name)))
    links_are k = ap (λ (cs : List LinksChange). all_done (take (suc k) cs) h.links) changes_are ∙ done_is after k gone

    passed_then : (k : ℕ) → ArePassed s m (Delete r.head.name r.head.cycle) (suc k) h.links → garbage.ArePassed (links_without h.links r) (releases (tree_places s r.head.name)) k
    passed_then k passed j low = let p = passed (suc j) (omega (arith, low)) in (p.0, subst (λ (l : List Link). IsChain l p.0) (links_are j) p.1)

    same_then : (k : ℕ) → k ≤ length (tree_places s r.head.name) → ArePassed s m (Delete r.head.name r.head.cycle) (suc k) h.links
        → StandsForSame (links_without h.links r) (all_changed (links_without h.links r) (take k (releases (tree_places s r.head.name))))
    same_then k within passed = releases_keep_all gone after k first.garbage within (passed_then k passed)

    late : (k : ℕ) → 0 < k → k ≤ length (changes_by s m (Delete r.head.name r.head.cycle)) → ArePassed s m (Delete r.head.name r.head.cycle) k h.links
        → AreRecordsOf (keyed_records (links_by s m (Delete r.head.name r.head.cycle) k h.links)) (saved_of (state_behind m (Delete r.head.name r.head.cycle)))
    late zero low within passed = absurd (omega (arith, low))
    late (suc k) low within passed =
        let same = same_then k (omega (arith, within, count_is)) passed in
        subst (λ (l : List Link). AreRecordsOf (keyed_records l) (saved_of (state_behind m c))) (sym (links_are k)) (same.alike.records (saved_of (state_behind m c)) first.records)

    out : IsTakenOut r.head s.heads (without_head r.head.name r.head.cycle s.heads)
    out = taken_out (is_at_cycle r.head.name r.head.cycle) r.head s.heads is

    -- with all of them released
    module _ (passed : garbage.ArePassed (links_without h.links r) (releases (tree_places s r.head.name)) (length (tree_places s r.head.name))) where
      abbrev end : List Link
      end = all_changed (links_without h.links r) (releases (tree_places s r.head.name))

      all_taken : take (length (tree_places s r.head.name)) (releases (tree_places s r.head.name)) ≡ releases (tree_places s r.head.name)
      all_taken = take_all (length after) (releases after) (omega (arith, length-map after released))

      pub same_all : StandsForSame (links_without h.links r) (all_changed (links_without h.links r) (releases (tree_places s r.head.name)))
      same_all = subst (λ (cs : List Change). StandsForSame gone (all_changed gone cs)) all_taken (releases_keep_all gone after (length after) first.garbage (omega arith) passed)

      headers : tree_records (top_keys (keyed_records (all_changed (links_without h.links r) (releases (tree_places s r.head.name))))) ≡ tree_records (top_keys (keyed_records (links_without h.links r)))
      headers = subst (λ (cs : List Change). tree_records (top_keys (keyed_records (all_changed gone cs))) ≡ tree_records (top_keys (keyed_records gone))) all_taken (headers_after gone after (length after) first.garbage (omega arith) passed)

      -- the baskets of the other trees stand elsewhere
      elsewhere : (name : List ℕ) (p : ℕ) → In p (tree_places s r.head.name) → In p (places_put (put_in (without_filled r.head.name s.trees) name)) → ⊥
      elsewhere name p i j =
          let others = places_of_trees (without_filled r.head.name s.trees) in
          let all = subst AreApart (append_assoc (key_place s.info) (map (λ (k : KeyHead). k.seek) s.heads) (after ++ others)) (closable_apart s.segments s.heads s.info (after ++ others) s.name shape (tree_kept s shape closable r.head.name)) in
          let back = apart_back (key_place s.info) (map (λ (k : KeyHead). k.seek) s.heads ++ (after ++ others)) all in
          apart_both after others (apart_back (map (λ (k : KeyHead). k.seek) s.heads) (after ++ others) back) p i (put_in_places name (without_filled r.head.name s.trees) p j)

      held_then : (name : List ℕ) → HoldStill (record_at (keyed_records (links_without h.links r))) (record_at (keyed_records end)) (places_put (put_in (without_filled r.head.name s.trees) name))
      held_then name =
          let targets = places_put (put_in (without_filled r.head.name s.trees) name) in
          subst (λ (cs : List Change). HoldStill (record_at (keyed_records gone)) (record_at (keyed_records (all_changed gone cs))) targets) all_taken
          (held_stay gone after (length after) targets (elsewhere name) (λ p i. first.garbage.each p (contains_in p after i)) (once_distinct [] after first.garbage.once) (omega arith) passed)

      rows_then : HoldsPutRows (kept_by s m (Delete r.head.name r.head.cycle)) (state_behind m (Delete r.head.name r.head.cycle)) end
      rows_then =
          rows_stay (kept_by s m c) (kept_by s m c) (state_behind m c) (state_behind m c) gone end (say_alike gone end same_all.alike.info headers) refl refl (λ name x there. refl) held_then first.rows

      kept_then : is_item_text r.head.name ≡ true → refusal_of m (Delete r.head.name r.head.cycle) None ≡ None
          → IsKeptAfter s m (Delete r.head.name r.head.cycle) h.links (all_changed (links_without h.links r) (releases (tree_places s r.head.name)))
      kept_then named free =
          let alike = same_all.alike in
          let less_pending = pending_in (state_without m r) in
          let kept = alike.kept less_pending ∙ first.forgets in
          let left = all_gone s shape closable r.head is in
          let idle = alike.kept none_pending in
          record {
            records = alike.records (saved_of (state_behind m c)) first.records;
            fillable = fillable_behind m c named free h.fillable;
            rows = rows_then;
            opens = opens_left s m r.head h.opens;
            keys = alike.keys (without_head r.head.name r.head.cycle s.heads) first.keys;
            trees = headers_still (keyed_records gone) (keyed_records end) (map tree_at_of (without_filled r.head.name s.trees)) alike.info headers first.trees;
            items = alike.items first.items;
            info = h.info ∙ ap info_head (sym (alike.info ∙ first.info));
            name = ap (λ (k : KeptRecords). k.name) idle ∙ first.name;
            count = omega (arith, ap (λ (k : KeptRecords). k.count) kept, first.count, h.count, closable.count, left.count, out.one);
            held = omega (arith, held_same less_pending pending gone first.forgets, (same_all.need less_pending).held, first.need.held, deletes_cost_nothing m r.head.name r.head.cycle);
          }

    ends : is_item_text r.head.name ≡ true → refusal_of m (Delete r.head.name r.head.cycle) None ≡ None → ArePassed s m (Delete r.head.name r.head.cycle) (length (changes_by s m (Delete r.head.name r.head.cycle))) h.links
        → IsKeptAfter s m (Delete r.head.name r.head.cycle) h.links (all_done (changes_by s m (Delete r.head.name r.head.cycle)) h.links)
    ends named free passed =
        let all : ArePassed s m c (suc (length after)) h.links = λ j low. passed j (omega (arith, low, count_is)) in
        subst (λ (l : List Link). IsKeptAfter s m c h.links l) (sym (ap (λ (cs : List LinksChange). all_done cs h.links) changes_are ∙ all_is after gone)) (kept_then (passed_then (length after) all) named free)

    pub takes : is_item_text r.head.name ≡ true → refusal_of m (Delete r.head.name r.head.cycle) None ≡ None → TakesEffect s m (Delete r.head.name r.head.cycle) h.links
    takes named free = record {
      turn = 0;
      within = omega (arith, count_is);
      early = λ k low passed.
          let none : 0 ≡ k = omega (arith, low) in
          subst (λ (n : ℕ). AreRecordsOf (keyed_records (links_by s m c n h.links)) (saved_of m)) none h.records;
      late = λ k low within passed. late k low within passed;
      ends = λ passed. ends named free passed;
    }

  -- ---- which record it is

  -- the record of a key that is to be deleted, and what its release leaves
  pub record IsToGo (name : List ℕ) (cycle : ℕ) : Type 0 where
    pub r : KeyedRecord
    pub first : IsFirstGone r
    pub name_is : r.head.name ≡ name
    pub cycle_is : r.head.cycle ≡ cycle
    pub found : head_of name (Some cycle) s.heads ≡ Some r.head

  pub own_key : (name : List ℕ) (cycle : ℕ) (r : KeyedRecord) → r.head.name ≡ name → r.head.cycle ≡ cycle → head_of name (Some cycle) s.heads ≡ Some r.head → head_of r.head.name (Some r.head.cycle) s.heads ≡ Some r.head
  own_key name cycle r name_is cycle_is there = (λ i. head_of (name_is i) (Some (cycle_is i)) s.heads) ∙ there

  pub object_of_delete : (name : List ℕ) (cycle : ℕ) → refusal_of m (Delete name cycle) None ≡ None → names_tree m name ≡ false → HasObjectOf file h.links s.heads name cycle
  object_of_delete name cycle free none = deletes_have_records file h.links s.heads saved name cycle None h.chain.chain h.keys h.records (trees_named m name ∙ none) ((deletes_ignore_pending m name cycle).refused None ∙ free)

  pub header_of_delete : (name : List ℕ) (cycle : ℕ) → refusal_of m (Delete name cycle) None ≡ None → names_tree m name ≡ true → HasHeaderOf file h.links s.heads name cycle
  header_of_delete name cycle free some = deletes_have_headers file h.links s.heads m name cycle None h.chain.chain h.keys h.records h.items some free

  pub to_go : (name : List ℕ) (cycle : ℕ) → refusal_of m (Delete name cycle) None ≡ None → IsToGo name cycle
  to_go name cycle free = by (names_tree m name) refl
    where
      by : (b : Bool) → names_tree m name ≡ b → IsToGo name cycle
      by false none =
          let x = object_of_delete name cycle free none in
          let first = object_gone x.r x.object (own_key name cycle x.r x.name_is x.cycle_is x.found) (ap (names_tree m) x.name_is ∙ none) (ap (λ (n : List ℕ). find (is_tree_of n) s.trees) x.name_is ∙ no_tree name none) in
          record { r = x.r; first = first; name_is = x.name_is; cycle_is = x.cycle_is; found = x.found }
      by true some =
          let x = header_of_delete name cycle free some in
          let first = tree_gone x.r x.head x.has (own_key name cycle x.r x.name_is x.cycle_is x.found) in
          record { r = x.r; first = first; name_is = x.name_is; cycle_is = x.cycle_is; found = x.found }

  pub delete_takes_effect_on : (k : KeyHead) → head_of k.name (Some k.cycle) s.heads ≡ Some k → is_item_text k.name ≡ true → refusal_of m (Delete k.name k.cycle) None ≡ None → TakesEffect s m (Delete k.name k.cycle) h.links
  delete_takes_effect_on k is named free =
      let x = to_go k.name k.cycle free in
      let same : x.r.head ≡ k = same_Some x.r.head k (sym x.found ∙ is) in
      let own = subst (λ (j : KeyHead). head_of j.name (Some j.cycle) s.heads ≡ Some j) (sym same) is in
      subst (λ (j : KeyHead). TakesEffect s m (Delete j.name j.cycle) h.links) same
      (takes x.r x.first own (subst (λ (j : KeyHead). is_item_text j.name ≡ true) (sym same) named) (subst (λ (j : KeyHead). refusal_of m (Delete j.name j.cycle) None ≡ None) (sym same) free))
