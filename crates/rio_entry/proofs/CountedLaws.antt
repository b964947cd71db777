-- What is counted for leaves, where what counts is looked up by name.
use Rattle.std.proofs.{Common.{◌≡◌, ℕ, ℤ, ◌+◌, ◌≤◌, List, [], ◌∷◌, length, map, drop, slice_get, Option, Some, None, refl, sym, ap, ◌∙◌}, lemmas.List.{drop_all}}
use Rattle.std.specs.{Prelude.{pos, unwrap_or}, Map.{lookup}, Str.{bytes_eq}}
use Rattle.rio_leaf.specs.declared.{leaf.Dim.{Dim, TheVariants.{One, Fixed, Counted}}, leaf.Leaf.{Leaf}}
use Rattle.rio_format.specs.{Bodies.{Counters}, declared.value.Value.{Value, Int}}
use Rattle.rio_machine.specs.Rows.{leaf_column}
use Rattle.rio_entry.specs.Leaves.{last_number, numbers_after, numbers_with}
use Rattle.rio_machine.specs.RowEntries.{count_before, counts_before}
use Rattle.rio_tree.specs.{Header.{branch_leaves}, declared.head.Branch.{Branch}}
use Rattle.rio_entry.specs.Counters.{leaf_count, number_in_branch, number_said, values_or_none}
use Rattle.rio_entry.specs.Counted.{noted_branch, noted_branches}

-- ---- what they say

last_is : (name : List ℕ) (ls : List Leaf) (vs : List Value) (own : Counters) → lookup (bytes_eq name) (numbers_after ls vs own) ≡ last_number name ls vs (lookup (bytes_eq name) own)
last_is name [] vs own = refl
last_is name (l ∷ ls) [] own = refl
last_is name (l ∷ ls) (v ∷ vs) own = last_is name ls vs (numbers_with l v own)

said_in : (name : List ℕ) (b : Option Branch) (vs : List Value) (own : Counters) → lookup (bytes_eq name) (noted_branch b vs own) ≡ number_in_branch name b vs (lookup (bytes_eq name) own)
said_in name None vs own = refl
said_in name (Some b) vs own = last_is name (branch_leaves b) vs own

said_by_all : (name : List ℕ) (branches : List Branch) (row : List (List Value)) (ks : List ℕ) (own : Counters) → lookup (bytes_eq name) (noted_branches branches row ks own) ≡ number_said name branches row ks (lookup (bytes_eq name) own)
said_by_all name branches row [] own = refl
said_by_all name branches row (k ∷ ks) own =
    said_by_all name branches row ks (noted_branch (slice_get branches k) (values_or_none (slice_get row k)) own)
    ∙ ap (number_said name branches row ks) (said_in name (slice_get branches k) (values_or_none (slice_get row k)) own)

-- ---- what is counted

module _ (branches : List Branch) (row : List (List Value)) (ks : List ℕ) where
  abbrev all : Counters
  all = noted_branches branches row ks []

  one_counted : (dim : Dim) (name : List ℕ) (letter : ℕ) → Int (count_before dim all) ≡ leaf_count branches row ks (record { name = name; letter = letter; dim = dim })
  one_counted One name letter = refl
  one_counted (Fixed n) name letter = refl
  one_counted (Counted counter times) name letter = ap (λ (o : Option ℤ). Int (unwrap_or o (pos 0))) (said_by_all counter branches row ks [])

  pub all_counted : (ls : List Leaf) → counts_before (map leaf_column ls) all ≡ map (leaf_count branches row ks) ls
  all_counted [] = refl
  all_counted (l ∷ ls) =
      ap (λ (v : Value). v ∷ counts_before (map leaf_column ls) all) (one_counted l.dim l.name l.letter)
      ∙ ap (λ (vs : List Value). leaf_count branches row ks l ∷ vs) (all_counted ls)

-- ---- a loop over the branches

module _ (branches : List Branch) (row : List (List Value)) (ks : List ℕ) (j : ℕ) (now : Counters) (total : Counters) where
  pub noted_next : (k : ℕ) → drop j ks ≡ k ∷ drop (j + 1) ks → noted_branches branches row (drop j ks) now ≡ total → noted_branches branches row (drop (j + 1) ks) (noted_branch (slice_get branches k) (values_or_none (slice_get row k)) now) ≡ total
  noted_next k split so_far =
      let one : noted_branches branches row (drop j ks) now ≡ noted_branches branches row (drop (j + 1) ks) (noted_branch (slice_get branches k) (values_or_none (slice_get row k)) now) = rw split refl in
      sym one ∙ so_far

  pub noted_all : length ks ≤ j → noted_branches branches row (drop j ks) now ≡ total → now ≡ total
  noted_all le so_far =
      let none : drop j ks ≡ [] = drop_all j ks le in
      let one : noted_branches branches row (drop j ks) now ≡ now = rw none refl in
      sym one ∙ so_far
