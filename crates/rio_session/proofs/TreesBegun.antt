-- What a session keeps of the trees of a file that is opened: no rows are pending, so no basket is open and none was put.
use Rattle.std.proofs.Common.{◌≡◌, ◌∙◌, ℕ, List, [], ◌∷◌, map, Option, Some, None, refl, sym, ap, subst}
use Rattle.std.proofs.lemmas.Option.{same_Some}
use Rattle.std.specs.{FinMap.{get}, List.{All, find, flat_map}, Option.{option_map, option_map_or}}
use Rattle.rio_key.specs.{Cut.{Cut, cut_of}, declared.head.KeyHead.{KeyHead}}
use Rattle.rio_chain.specs.Segments.{Link}
use Rattle.rio_machine.specs.State.{State, Tree}
use Rattle.rio_tree.specs.{WrittenLaws.{stated_defs}, declared.basket_at.BasketAt.{BasketAt}, declared.head.Branch.{Branch}}
use Rattle.rio_state.specs.{DirectoryKeys.{AreKeysOf}, KeyedRecords.{keyed_records, record_at}, Reads.{AreRecordsOf}, TreeLengths.{cuts_of, entries_by_branch, none_pending, pending_in}, Trees.{RecordsAt, all_places_named, are_named_once}}
use Rattle.rio_state.specs.{Contents.{file_classes}, KeyedRecords.{info_key, top_keys, tree_records}}
use Rattle.rio_step.specs.Storable.{IsFillable}
use Rattle.rio_effect.specs.{PutBaskets.{AreAllPut}, TreeChanges.{cuts_of_tree}, TreeCommands.{KeepsTree}}
use Rattle.rio_fill.specs.{Fill.{BranchFill, branch_fill_of, defs_of}}
use Rattle.rio_tree_table.specs.declared.table.KeptTree.{KeptTree}
use Rattle.rio_recover.specs.{Trees.{AreTreesOf}, declared.trees.TreeAt.{TreeAt}}
use Rattle.rio_session.specs.{Fills.{FilledTree, filled_tree_of, is_tree_of, put_in, put_of}, Items.{IsOfKeys}, Opening.{IsOpenHead}, Session.{file_records}, SessionState.{SessionState}}
use Rattle.rio_session.proofs.{FillLists.{find_mapped}, FilledFiles.{all_in}, FilledTrees.{tree_of_fill}, HeaderOfFill.{defs_begun}, ItemsOpened.{kept_of_header}, TreesRead.{HeaderOf, header_of_tree}}

-- A state that commands leave, of headers from which trees can go on.
pub record CanGoOn (m : State) (trees : List TreeAt) : Type 0 where
  pub fillable : IsFillable m
  pub heads : All (λ t. IsOpenHead t.head) trees

-- ---- one tree

-- without rows no branch has entries
rests_none : (bs : List Branch) → map (λ (b : BranchFill). b.entries) (map branch_fill_of bs) ≡ map (λ (cut : Cut). cut.rest) (map cut_of (entries_by_branch (stated_defs bs) []))
rests_none [] = refl
rests_none (b ∷ bs) = ap (λ (l : List (List (List ℕ))). [] ∷ l) (rests_none bs)

puts_none : (at_place : RecordsAt) (saved : ℕ) (bs : List Branch) → AreAllPut at_place saved bs (map cut_of (entries_by_branch (stated_defs bs) [])) []
puts_none at_place saved [] = tt
puts_none at_place saved (b ∷ bs) = (record { firsts = refl; hold = tt }, puts_none at_place saved bs)

-- none was put of a tree with nothing pending
none_put_of : (o : Option TreeAt) → option_map_or (λ (t : FilledTree). put_of t.fill) (option_map filled_tree_of o) [] ≡ []
none_put_of None = refl
none_put_of (Some t) = refl

pub none_put_in : (name : List ℕ) (trees : List TreeAt) → put_in (map filled_tree_of trees) name ≡ []
none_put_in name trees =
    ap (λ (o : Option FilledTree). option_map_or (λ (t : FilledTree). put_of t.fill) o []) (find_mapped filled_tree_of (is_tree_of name) trees) ∙ none_put_of (find (λ t. is_tree_of name (filled_tree_of t)) trees)

-- a tree that is found is that of a header
begun_of : (t : FilledTree) (o : Option TreeAt) → option_map filled_tree_of o ≡ Some t → (a : TreeAt) × (filled_tree_of a ≡ t)
begun_of t None e = absurd cc
begun_of t (Some a) e = (a, same_Some (filled_tree_of a) t e)

-- ---- the file

module _ (links : List Link) (m : State) (is : AreRecordsOf (keyed_records links) m) where
  none_of : (name : List ℕ) (o : Option Tree) → get m.trees name ≡ o → option_map_or (λ (t : Tree). t.pending) o [] ≡ []
  none_of name None e = refl
  none_of name (Some x) e = ap (λ (u : Tree). u.pending) (sym (header_of_tree (keyed_records links) m is name x e).tree.tree)

  -- no rows are pending
  pub idle : pending_in m ≡ none_pending
  idle = λ i name. none_of name (get m.trees name) refl i

  cuts_none : (name : List ℕ) (x : Tree) (h : HeaderOf (keyed_records links) m is name x) → cuts_of_tree m x ≡ map cut_of (entries_by_branch (stated_defs h.tree.head.branches) [])
  cuts_none name x h = λ i. cuts_of m.classes (sym h.tree.tree i).branches (sym h.tree.tree i).pending

  -- so what is kept of each tree holds
  module _ (heads : List KeyHead) (trees : List TreeAt) (keys : AreKeysOf (keyed_records links) heads) (are : AreTreesOf (keyed_records links) trees) (can : CanGoOn m trees)
      (s : SessionState) (begun : s.trees ≡ map filled_tree_of trees) (stands : IsOfKeys s m) where
    pub rows_begun : (name : List ℕ) (x : Tree) → get m.trees name ≡ Some x → KeepsTree (file_records s links) m name x
    rows_begun name x there =
        let h = header_of_tree (keyed_records links) m is name x there in
        let among = kept_of_header (keyed_records links) heads trees m keys are is h.r h.tree.head h.among h.tree.header in
        let own : IsOpenHead h.tree.head = all_in (λ (t : TreeAt). IsOpenHead t.head) (record { name = h.r.head.name; head = h.tree.head }) trees can.heads among in
        let none : put_in s.trees name ≡ [] = ap (λ (ts : List FilledTree). put_in ts name) begun ∙ none_put_in name trees in
        let put : AreAllPut (record_at (keyed_records links)) h.tree.head.entries h.tree.head.branches (cuts_of_tree m x) [] =
        subst (λ (cuts : List Cut). AreAllPut (record_at (keyed_records links)) h.tree.head.entries h.tree.head.branches cuts []) (sym (cuts_none name x h)) (puts_none (record_at (keyed_records links)) h.tree.head.entries h.tree.head.branches) in
        record {
          r = h.r;
          record_is = h.found;
          head = h.tree.head;
          head_is = h.tree.header;
          readable = own.readable;
          fits = own.fits;
          put = subst (λ (ats : List (List BasketAt)). AreAllPut (record_at (keyed_records links)) h.tree.head.entries h.tree.head.branches (cuts_of_tree m x) ats) (sym none) put;
          fresh = ap (λ (ats : List (List BasketAt)). are_named_once (all_places_named (file_classes (info_key (keyed_records links))) (tree_records (top_keys (keyed_records links)))) (flat_map (map (λ (at : BasketAt). at.seek)) ats)) none;
        }

    -- and no basket is open
    pub opens_begun : (name : List ℕ) (t : FilledTree) (x : Tree) → find (is_tree_of name) s.trees ≡ Some t → get m.trees name ≡ Some x → map (λ b. b.entries) t.fill.branches ≡ map (λ cut. cut.rest) (cuts_of_tree m x)
    opens_begun name t x found there =
        let h = header_of_tree (keyed_records links) m is name x there in
        let a = begun_of t (find (λ u. is_tree_of name (filled_tree_of u)) trees) (sym (find_mapped filled_tree_of (is_tree_of name) trees) ∙ ap (find (is_tree_of name)) (sym begun) ∙ found) in
        let own = tree_of_fill s m stands name t found in
        let same : own.0 ≡ x = same_Some own.0 x (sym own.1.there ∙ there) in
        let defs : stated_defs a.0.head.branches ≡ x.branches =
        sym (defs_begun a.0.head.branches) ∙ ap (λ (u : FilledTree). defs_of u.fill.branches) a.1 ∙ ap (λ (k : KeptTree). k.branches) own.1.kept ∙ ap (λ (u : Tree). u.branches) same in
        let pending : [] ≡ x.pending = ap (λ (u : Tree). u.pending) h.tree.tree in
        ap (λ (u : FilledTree). map (λ (b : BranchFill). b.entries) u.fill.branches) (sym a.1)
        ∙ rests_none a.0.head.branches
        ∙ (λ i. map (λ (cut : Cut). cut.rest) (cuts_of m.classes (defs i) (pending i)))
