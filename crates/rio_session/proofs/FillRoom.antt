-- What a close needs with a row more.
use Rattle.std.proofs.Common.{◌≡◌, ◌∙◌, ℕ, suc, ◌+◌, ◌-◌, ◌≤◌, List, [], ◌∷◌, ◌++◌, codes, length, map, not, ◌==◌, Bool, true, false, Some, refl, sym, ap, arith}
use Rattle.std.specs.List.{find, sum_by}
use Rattle.rio_leaf.specs.declared.branch.BranchDef.{BranchDef}
use Rattle.rio_chain.specs.{Placing.{place_of, record_count, with_segment}, declared.segment.Segment.{Segment}}
use Rattle.rio_dir.specs.Table.{heads_size}
use Rattle.rio_key.specs.Cut.{basket_with}
use Rattle.rio_machine.specs.{Limits.{head_length}, State.{Row, State, Tree}, declared.command.Command.TheVariants.{Fill}}
use Rattle.rio_state.specs.{Closing.{padded_length}, Sizes.{close_size}, TreeLengths.{BasketLengths, TreeLengths, basket_lengths, save_lengths}}
use Rattle.rio_tree.specs.HeaderLength.{header_length}
use Rattle.rio_fill.proofs.Kept.{defs_added}
use Rattle.rio_fill.specs.Fill.{BranchFill, TreeFill, branches_added, defs_of, entry_count, row_added}
use Rattle.rio_step.specs.Step.{state_behind}
use Rattle.rio_effect.specs.TreeRecords.{length_of_basket}
use Rattle.rio_recover.specs.Closable.{list_count}
use Rattle.rio_session.specs.{Due.{IsClosableWith, due_of, due_of_fill, open_lengths, written_count}, Fillings.{BasketsPut, branches_become, filling_with, full_list, put_open, words_of_open}, Fills.{AreNamesOrdered, FilledTree, is_tree_of}}
use Rattle.rio_session.specs.{Items.{IsOfKeys}, Marks.{basket_total, state_need}, RowPlans.{due_changed, need_of_row}, SessionState.{SessionState, kept_trees}, TreeWorks.{due_behind}, declared.open_tree.Due.{Due}}
use Rattle.rio_session.proofs.{BasketsPlaced.{defs_put, puts_are}, FilledTrees.{IsFilledOf}, FillStands.{fill_stands}, FillSums.{need_by_due, sum_changed, sum_without}, Needs.{baskets_counted, need_by_keys}, PutCounts.{written_added, written_put}}

-- ---- wherever and whenever the baskets are put

open_same : (tree name : List ℕ) (d e count : ℕ) (ss us : List Segment) (bs : List BranchFill) (flags : List Bool) (row : List (List ℕ)) → length row ≡ length bs
    → open_lengths tree (branches_added (put_open d name count ss bs flags).branches row) ≡ open_lengths tree (branches_added (put_open e name count us bs flags).branches row)
open_same tree name d e count ss us [] flags row long = refl
open_same tree name d e count ss us (b ∷ bs) [] row long = refl
open_same tree name d e count ss us (b ∷ bs) (flag ∷ flags) [] long = absurd (omega (arith, long))
open_same tree name d e count ss us (b ∷ bs) (true ∷ flags) (x ∷ row) long =
    let n = length_of_basket (words_of_open name d b) in
    let k = length_of_basket (words_of_open name e b) in
    ap (λ (l : List BasketLengths). map (basket_lengths tree b.def) (basket_with (x ∷ [])) ++ l)
    (open_same tree name d e count (with_segment (place_of ss n) n ss) (with_segment (place_of us k) k us) bs flags row (omega (arith, long)))
open_same tree name d e count ss us (b ∷ bs) (false ∷ flags) (x ∷ row) long =
    ap (λ (l : List BasketLengths). map (basket_lengths tree b.def) (basket_with (b.entries ++ x ∷ [])) ++ l) (open_same tree name d e count ss us bs flags row (omega (arith, long)))

changes_same : (name : List ℕ) (d e count : ℕ) (ss us : List Segment) (bs : List BranchFill) (flags : List Bool) → length (put_open d name count ss bs flags).changes ≡ length (put_open e name count us bs flags).changes
changes_same name d e count ss us [] flags = refl
changes_same name d e count ss us (b ∷ bs) [] = refl
changes_same name d e count ss us (b ∷ bs) (true ∷ flags) =
    let n = length_of_basket (words_of_open name d b) in
    let k = length_of_basket (words_of_open name e b) in
    ap (λ (c : ℕ). suc c) (changes_same name d e count (with_segment (place_of ss n) n ss) (with_segment (place_of us k) k us) bs flags)
changes_same name d e count ss us (b ∷ bs) (false ∷ flags) = changes_same name d e count ss us bs flags

pub many_lengths : (d : ℕ) (name : List ℕ) (count : ℕ) (ss : List Segment) (bs : List BranchFill) (flags : List Bool) → length (put_open d name count ss bs flags).lengths ≡ length (put_open d name count ss bs flags).changes
many_lengths d name count ss [] flags = refl
many_lengths d name count ss (b ∷ bs) [] = refl
many_lengths d name count ss (b ∷ bs) (true ∷ flags) =
    let n = length_of_basket (words_of_open name d b) in
    ap (λ (c : ℕ). suc c) (many_lengths d name count (with_segment (place_of ss n) n ss) bs flags)
many_lengths d name count ss (b ∷ bs) (false ∷ flags) = many_lengths d name count ss bs flags

module _ (s : SessionState) (t : FilledTree) (entries : List (List ℕ)) (long : length entries ≡ length t.fill.branches) where
  abbrev bs : List BranchFill
  bs = t.fill.branches

  abbrev full_flags : List Bool
  full_flags = full_list t.fill.branches entries

  abbrev put_now : BasketsPut
  put_now = put_open s.datime t.name (entry_count t.fill) s.segments t.fill.branches (full_list t.fill.branches entries)

  abbrev other : BasketsPut
  other = put_open 0 t.name (entry_count t.fill) [] t.fill.branches (full_list t.fill.branches entries)

  defs_same : defs_of (branches_added put_now.branches entries) ≡ defs_of (branches_added other.branches entries)
  defs_same =
      let one = defs_put (entry_count t.fill) bs full_flags put_now.branches (puts_are s.datime t.name (entry_count t.fill) s.segments bs full_flags) in
      let two = defs_put (entry_count t.fill) bs full_flags other.branches (puts_are 0 t.name (entry_count t.fill) [] bs full_flags) in
      defs_added put_now.branches entries ∙ one ∙ sym two ∙ sym (defs_added other.branches entries)

  written_same : written_count (branches_added put_now.branches entries) ≡ written_count (branches_added other.branches entries)
  written_same =
      omega (
        arith,
        written_added put_now.branches entries,
        written_added other.branches entries,
        written_put s.datime t.name (entry_count t.fill) s.segments bs full_flags,
        written_put 0 t.name (entry_count t.fill) [] bs full_flags,
        changes_same t.name s.datime 0 (entry_count t.fill) s.segments [] bs full_flags,
      )

  abbrev lengths_by : List BranchDef → ℕ → List BasketLengths → TreeLengths
  lengths_by ds written baskets = record {
    pending = not ((t.fill.pending + 1) == 0);
    header = head_length (codes "TTree") t.name + header_length t.name ds (written + length baskets);
    baskets = baskets;
  }

  abbrev due_by : TreeLengths → Due
  due_by lengths = record { bytes = sum_by padded_length (save_lengths lengths); baskets = length lengths.baskets }

  pub due_is : due_of_fill t.name (row_added (branches_become put_now.branches t.fill) entries) ≡ due_behind t entries
  due_is =
      let opens = open_same t.name t.name s.datime 0 (entry_count t.fill) s.segments [] bs full_flags entries long in
      let ds = defs_same in
      let written = written_same in
      λ i. due_by (lengths_by (ds i) (written i) (opens i))

  -- so the others write what they wrote
  abbrev its_change : TreeFill → TreeFill
  its_change f = row_added (branches_become put_now.branches f) entries

  abbrev own : Due
  own = due_of_fill t.name t.fill

  abbrev its : Due
  its = due_of_fill t.name (row_added (branches_become put_now.branches t.fill) entries)

  pub changed_due : AreNamesOrdered s.trees → find (is_tree_of t.name) s.trees ≡ Some t → due_of (filling_with s t.name entries t.fill).kept.trees ≡ due_changed (due_of s.trees) (due_of_fill t.name t.fill) (due_behind t entries)
  changed_due ordered found =
      let after = (filling_with s t.name entries t.fill).kept.trees in
      let bytes = sum_changed (λ (u : FilledTree). (due_of_fill u.name u.fill).bytes) t.name its_change t s.trees ordered found in
      let baskets = sum_changed (λ (u : FilledTree). (due_of_fill u.name u.fill).baskets) t.name its_change t s.trees ordered found in
      let low_bytes = sum_in (λ (u : FilledTree). (due_of_fill u.name u.fill).bytes) t s.trees found in
      let low_baskets = sum_in (λ (u : FilledTree). (due_of_fill u.name u.fill).baskets) t s.trees found in
      let one : (due_of after).bytes ≡ (due_of s.trees).bytes - own.bytes + its.bytes = omega (arith, bytes, low_bytes) in
      let two : (due_of after).baskets ≡ (due_of s.trees).baskets - own.baskets + its.baskets = omega (arith, baskets, low_baskets) in
      (λ i. record { bytes = one i; baskets = two i }) ∙ ap (due_changed (due_of s.trees) own) due_is
    where
      sum_in : (f : FilledTree → ℕ) (u : FilledTree) (trees : List FilledTree) → find (is_tree_of u.name) trees ≡ Some u → f u ≤ sum_by f trees
      sum_in f u trees found = let less = sum_without f u.name u trees found in omega (arith, less)

-- ---- the need

module _ (s : SessionState) (m : State) (keys : IsOfKeys s m) (kept : IsClosableWith s.segments s.heads s.trees s.info s.name) (ordered : AreNamesOrdered s.trees)
    (t : FilledTree) (x : Tree) (is : IsFilledOf s m t.name t x) (row : Row) (entries : List (List ℕ)) (long : length entries ≡ length t.fill.branches) where
  abbrev flags : List Bool
  flags = full_list t.fill.branches entries

  abbrev put : BasketsPut
  put = put_open s.datime t.name (entry_count t.fill) s.segments t.fill.branches (full_list t.fill.branches entries)

  abbrev change : TreeFill → TreeFill
  change f = row_added (branches_become put.branches f) entries

  abbrev then : SessionState
  then = (filling_with s t.name entries t.fill).kept

  stands : IsOfKeys then (state_behind m (Fill t.name row))
  stands =
      let defs = defs_put (entry_count t.fill) t.fill.branches flags put.branches (puts_are s.datime t.name (entry_count t.fill) s.segments t.fill.branches flags) in
      fill_stands s m keys t.name t x is row put.branches defs entries put.segments

  count_is : 1 + list_count s.info + length s.heads + basket_total then.trees ≡ record_count s.segments + length (filling_with s t.name entries t.fill).lengths
  count_is =
      let f = λ (u : FilledTree). written_count u.fill.branches in
      omega (
        arith,
        kept.closable.count,
        baskets_counted s.trees,
        sum_changed f t.name change t s.trees ordered is.found,
        written_added put.branches entries,
        written_put s.datime t.name (entry_count t.fill) s.segments t.fill.branches flags,
        many_lengths s.datime t.name (entry_count t.fill) s.segments t.fill.branches flags,
      )

  pub row_need_is : state_need s.name (list_count s.info) (filling_with s t.name entries t.fill).kept.trees (state_behind m (Fill t.name row)) ≡ need_of_row s t entries
  row_need_is =
      let due = changed_due s t entries long ordered is.found in
      need_by_keys s.heads (kept_trees then) (state_behind m (Fill t.name row)) stands.keys stands.trees kept.closable.sized s.name (list_count s.info) then.trees
      ∙ need_by_due s.name s.heads (1 + list_count s.info + length s.heads + basket_total then.trees) then.trees
      ∙ (λ i. (due i).bytes + close_size s.name (heads_size s.heads) (count_is i + (due i).baskets))
