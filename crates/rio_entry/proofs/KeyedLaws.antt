-- The baskets of a tree by the keys of a file's records: all there, as they stand in the file, or one isn't there.
use Rattle.std.proofs.Common.{◌≡◌, ℕ, ◌&&◌, Bool, true, false, List, [], ◌∷◌, ◌++◌, map, Option, Some, None, is_some, is_none, refl, sym, ap, ◌∙◌}
use Rattle.std.proofs.lemmas.Bool.{and_parts}
use Rattle.std.specs.{List.{list_all, range_with_len}, Option.{option_and_then, option_map}}
use Rattle.rio_key.specs.declared.head.KeyHead.{KeyHead}
use Rattle.rio_num.specs.Reading.{some_if}
use Rattle.rio_machine.specs.State.{Row}
use Rattle.rio_tree.specs.{Index.{basket_counts}, WrittenLaws.{stated_defs}, declared.basket_at.BasketAt.{BasketAt}, declared.head.Branch.{Branch}, declared.head.TreeHead.{TreeHead}}
use Rattle.rio_format.specs.declared.class.ClassDef.{ClassDef}
use Rattle.rio_tree.specs.SavedEntries.{BasketBytes, all_there, branch_entries, counted_entries, entries_at, entries_of_baskets, rows_by}
use Rattle.rio_entry.specs.SavedRows.{file_baskets, has_basket, has_baskets, keyed_baskets, saved_rows}
use Rattle.rio_machine.specs.RowEntries.{fitting_row}
use Rattle.rio_entry.specs.StoredEntries.{basket_bytes}
use Rattle.rio_entry.proofs.SavedTrees.{all_none}

module _ (keys : List KeyHead) (file : List ℕ) where
  abbrev keyed : BasketBytes
  keyed = keyed_baskets keys file

  -- ---- the baskets of a branch

  abbrev one_then : Bool → ℕ → Option (List ℕ) → Option (List (List ℕ)) → Option (List (List ℕ))
  one_then offsets count bytes rest = option_and_then (λ own. option_and_then (λ entries. option_map (λ more. entries ++ more) rest) (counted_entries offsets count own)) bytes

  then_none : (offsets : Bool) (count : ℕ) (bytes : Option (List ℕ)) → one_then offsets count bytes None ≡ None
  then_none offsets count None = refl
  then_none offsets count (Some own) = by (counted_entries offsets count own)
    where
      by : (o : Option (List (List ℕ))) → option_and_then (λ entries. option_map (λ more. entries ++ more) None) o ≡ None
      by None = refl
      by (Some entries) = refl

  baskets_there : (offsets : Bool) (ats : List BasketAt) (counts : List ℕ) → list_all (has_basket keys) ats ≡ true → entries_of_baskets keyed offsets ats counts ≡ entries_of_baskets (file_baskets file) offsets ats counts
  baskets_there offsets [] counts all = refl
  baskets_there offsets (at ∷ ats) [] all = refl
  baskets_there offsets (at ∷ ats) (count ∷ counts) all =
      let two = and_parts (has_basket keys at) (list_all (has_basket keys) ats) all in
      ap (λ (b : Bool). one_then offsets count (some_if b (basket_bytes file at)) (entries_of_baskets keyed offsets ats counts)) two.0
      ∙ ap (one_then offsets count (Some (basket_bytes file at))) (baskets_there offsets ats counts two.1)

  basket_lacks : (offsets : Bool) (ats : List BasketAt) (counts : List ℕ) → list_all (has_basket keys) ats ≡ false → entries_of_baskets keyed offsets ats counts ≡ None
  basket_lacks offsets [] counts none = absurd cc
  basket_lacks offsets (at ∷ ats) [] none = refl
  basket_lacks offsets (at ∷ ats) (count ∷ counts) none = by (has_basket keys at) refl none (basket_lacks offsets ats counts)
    where
      by : (b : Bool) → has_basket keys at ≡ b → (b && list_all (has_basket keys) ats) ≡ false → (list_all (has_basket keys) ats ≡ false → entries_of_baskets keyed offsets ats counts ≡ None)
          → one_then offsets count (some_if (has_basket keys at) (basket_bytes file at)) (entries_of_baskets keyed offsets ats counts) ≡ None
      by false e h rest = ap (λ (b : Bool). one_then offsets count (some_if b (basket_bytes file at)) (entries_of_baskets keyed offsets ats counts)) e
      by true e h rest = ap (one_then offsets count (some_if (has_basket keys at) (basket_bytes file at))) (rest h) ∙ then_none offsets count (some_if (has_basket keys at) (basket_bytes file at))

  -- ---- the branches

  branches_there : (bs : List Branch) → list_all (has_baskets keys) bs ≡ true → all_there (map (branch_entries keyed) bs) ≡ all_there (map (branch_entries (file_baskets file)) bs)
  branches_there [] all = refl
  branches_there (b ∷ bs) all =
      let two = and_parts (has_baskets keys b) (list_all (has_baskets keys) bs) all in
      let own : branch_entries keyed b ≡ branch_entries (file_baskets file) b = ap (option_and_then _) (baskets_there b.offsets b.baskets (basket_counts b.baskets b.entries) two.0) in
      ap (λ (o : Option (List (List ℕ))). all_there (o ∷ map (branch_entries keyed) bs)) own
      ∙ with_rest (branch_entries (file_baskets file) b) (branches_there bs two.1)
    where
      with_rest : (o : Option (List (List ℕ))) → all_there (map (branch_entries keyed) bs) ≡ all_there (map (branch_entries (file_baskets file)) bs)
          → all_there (o ∷ map (branch_entries keyed) bs) ≡ all_there (o ∷ map (branch_entries (file_baskets file)) bs)
      with_rest None rest = refl
      with_rest (Some x) rest = ap (option_map (λ xs. x ∷ xs)) rest

  branch_lacks : (bs : List Branch) → list_all (has_baskets keys) bs ≡ false → all_there (map (branch_entries keyed) bs) ≡ None
  branch_lacks [] none = absurd cc
  branch_lacks (b ∷ bs) none = by (has_baskets keys b) refl none (branch_lacks bs)
    where
      by : (t : Bool) → has_baskets keys b ≡ t → (t && list_all (has_baskets keys) bs) ≡ false → (list_all (has_baskets keys) bs ≡ false → all_there (map (branch_entries keyed) bs) ≡ None)
          → all_there (branch_entries keyed b ∷ map (branch_entries keyed) bs) ≡ None
      by false e h rest = ap (λ (o : Option (List (List ℕ))). all_there (option_and_then (some_if (is_none b.refused)) o ∷ map (branch_entries keyed) bs)) (basket_lacks b.offsets b.baskets (basket_counts b.baskets b.entries) e)
      by true e h rest = all_none (branch_entries keyed b) (map (branch_entries keyed) bs) (rest h)

  -- ---- the tree

  module _ (classes : List ClassDef) (head : TreeHead) where
    abbrev rows_in : Option (List (List (List ℕ))) → Option (List Row)
    rows_in entries = option_and_then (λ all. all_there (map (λ e. fitting_row classes (stated_defs head.branches) (entries_at all e)) (range_with_len 0 head.entries))) entries

    pub keyed_rows : list_all (has_baskets keys) head.branches ≡ true → saved_rows classes (file_baskets file) head ≡ saved_rows classes keyed head
    unfolding rows_by
    keyed_rows all = ap rows_in (sym (branches_there head.branches all))

    pub no_keyed_rows : list_all (has_baskets keys) head.branches ≡ false → false ≡ is_some (saved_rows classes keyed head)
    unfolding rows_by
    no_keyed_rows none = sym (ap (λ (o : Option (List (List (List ℕ)))). is_some (rows_in o)) (branch_lacks head.branches none))
