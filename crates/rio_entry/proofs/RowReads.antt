-- A row is read branch after branch.
use Rattle.std.proofs.Common.{◌≡◌, ℕ, ◌+◌, ◌<◌, ◌≤◌, List, [], ◌∷◌, ◌++◌, length, map, drop, Option, Some, None, Result, Ok, Err, refl, sym, ap, ◌∙◌, append_assoc, slice_index_or, arith}
use Rattle.std.proofs.lemmas.List.{append-nil, drop_all}
use Rattle.std.specs.Option.{option_map}
use Rattle.rio_num.specs.Reading.{◌>>=◌}
use Rattle.rio_leaf.specs.{declared.branch.BranchDef.{BranchDef}, declared.leaf.Leaf.{Leaf}}
use Rattle.rio_format.specs.{Bodies.{Counters}, declared.class.ClassDef.{ClassDef}, declared.value.Value.{Value}}
use Rattle.rio_machine.specs.Rows.{leaf_column, leaf_numbers_after}
use Rattle.rio_entry.specs.{Leaves.{numbers_after, numbers_with}, Rows.{broken_from, first_broken}}
use Rattle.rio_machine.specs.RowEntries.{branch_values, numbers_behind, row_from}
use Rattle.rio_machine.specs.declared.entry_fault.EntryFault.{EntryFault}
use Rattle.rio_entry.proofs.Counting.{left_begins}

-- ---- the numbers of leaves

pub numbers_as_columns : (ls : List Leaf) (vs : List Value) (before : Counters) → numbers_after ls vs before ≡ leaf_numbers_after (map leaf_column ls) vs before
numbers_as_columns [] vs before = refl
numbers_as_columns (l ∷ ls) [] before = refl
numbers_as_columns (l ∷ ls) (v ∷ vs) before = numbers_as_columns ls vs (numbers_with l v before)

nothing_left : (ls : List Leaf) (now : Counters) → numbers_after ls [] now ≡ now
nothing_left [] now = refl
nothing_left (l ∷ ls) now = refl

module _ (ls : List Leaf) (vs : List Value) (k : ℕ) (now all : Counters) where
  pub noted_next : (l : Leaf) (v : Value) → k < length ls → k < length vs → l ≡ slice_index_or ls k l → v ≡ slice_index_or vs k v → numbers_after (drop k ls) (drop k vs) now ≡ all → numbers_after (drop (k + 1) ls) (drop (k + 1) vs) (numbers_with l v now) ≡ all
  noted_next l v lt low e f so_far =
      let leaf : drop k ls ≡ l ∷ drop (k + 1) ls = left_begins ls k l lt e in
      let value : drop k vs ≡ v ∷ drop (k + 1) vs = left_begins vs k v low f in
      let one : numbers_after (drop k ls) (drop k vs) now ≡ numbers_after (drop (k + 1) ls) (drop (k + 1) vs) (numbers_with l v now) = rw (leaf, value) refl in
      sym one ∙ so_far

  pub noted_past : length vs ≤ k → numbers_after (drop k ls) (drop k vs) now ≡ all → now ≡ all
  noted_past le so_far =
      let none : drop k vs ≡ [] = drop_all k vs le in
      sym (nothing_left (drop k ls) now) ∙ ap (λ (rest : List Value). numbers_after (drop k ls) rest now) (sym none) ∙ so_far

  pub noted_all : length ls ≤ k → numbers_after (drop k ls) (drop k vs) now ≡ all → now ≡ all
  noted_all le so_far =
      let none : drop k ls ≡ [] = drop_all k ls le in
      ap (λ (rest : List Leaf). numbers_after rest (drop k vs) now) (sym none) ∙ so_far

-- ---- the values

-- the values of a row, behind those of the branches before
abbrev pub with_front : List Value → Result (List Value) EntryFault → Result (List Value) EntryFault
with_front front r = r >>= (λ more. Ok (front ++ more))

longer_front : (front values : List Value) (r : Result (List Value) EntryFault) → with_front front (with_front values r) ≡ with_front (front ++ values) r
longer_front front values (Err e) = refl
longer_front front values (Ok more) = ap (λ (vs : List Value). let s : Result (List Value) EntryFault = Ok vs in s) (sym (append_assoc front values more))

module _ {P : Type 0} (classes : List ClassDef) (branch : P → BranchDef) (entry : P → List ℕ) (parts : List P) (k : ℕ) (now : Counters) where
  abbrev pub left : ℕ → Counters → Result (List Value) EntryFault
  left i = row_from classes (map branch (drop i parts)) (map entry (drop i parts))

  abbrev pub broken_left : ℕ → Counters → Option ℕ
  broken_left i = broken_from classes (map branch (drop i parts)) (map entry (drop i parts))

  module _ (p : P) (lt : k < length parts) (is : p ≡ slice_index_or parts k p) where
    next_part : drop k parts ≡ p ∷ drop (k + 1) parts
    next_part = left_begins parts k p lt is

    read_next : left k now ≡ (branch_values classes (branch p) (entry p) now >>= (λ values. with_front values (left (k + 1) (numbers_behind (branch p) values now))))
    read_next = ap (λ (rest : List P). row_from classes (map branch rest) (map entry rest) now) next_part

    broken_next : broken_left k now ≡ first_broken (branch_values classes (branch p) (entry p) now) (λ values. broken_left (k + 1) (numbers_behind (branch p) values now))
    broken_next = ap (λ (rest : List P). broken_from classes (map branch rest) (map entry rest) now) next_part

    pub row_goes_on : (front values : List Value) (total : Result (List Value) EntryFault) → branch_values classes (branch p) (entry p) now ≡ Ok values → with_front front (left k now) ≡ total → with_front (front ++ values) (left (k + 1) (numbers_behind (branch p) values now)) ≡ total
    row_goes_on front values total e so_far =
        sym (longer_front front values (left (k + 1) (numbers_behind (branch p) values now)))
        ∙ ap (λ (r : Result (List Value) EntryFault). with_front front (r >>= (λ vs. with_front vs (left (k + 1) (numbers_behind (branch p) vs now))))) (sym e)
        ∙ ap (with_front front) (sym read_next) ∙ so_far

    pub row_fails : (front : List Value) (fault : EntryFault) (total : Result (List Value) EntryFault) → branch_values classes (branch p) (entry p) now ≡ Err fault → with_front front (left k now) ≡ total → total ≡ Err fault
    row_fails front fault total e so_far =
        sym so_far ∙ ap (with_front front) read_next
        ∙ ap (λ (r : Result (List Value) EntryFault). with_front front (r >>= (λ vs. with_front vs (left (k + 1) (numbers_behind (branch p) vs now))))) e

    pub broken_goes_on : (values : List Value) (total : Option ℕ) → branch_values classes (branch p) (entry p) now ≡ Ok values → option_map (λ j. j + k) (broken_left k now) ≡ total → option_map (λ j. j + (k + 1)) (broken_left (k + 1) (numbers_behind (branch p) values now)) ≡ total
    broken_goes_on values total e so_far =
        one_on (broken_left (k + 1) (numbers_behind (branch p) values now))
        ∙ ap (λ (r : Result (List Value) EntryFault). option_map (λ j. j + k) (first_broken r (λ vs. broken_left (k + 1) (numbers_behind (branch p) vs now)))) (sym e)
        ∙ ap (option_map (λ j. j + k)) (sym broken_next) ∙ so_far
      where
        one_on : (o : Option ℕ) → option_map (λ j. j + (k + 1)) o ≡ option_map (λ j. j + k) (option_map (λ j. j + 1) o)
        one_on None = refl
        one_on (Some j) = ap (λ (i : ℕ). let o : Option ℕ = Some i in o) (omega arith)

    pub broken_here : (fault : EntryFault) (total : Option ℕ) → branch_values classes (branch p) (entry p) now ≡ Err fault → option_map (λ j. j + k) (broken_left k now) ≡ total → total ≡ Some k
    broken_here fault total e so_far =
        sym so_far ∙ ap (option_map (λ j. j + k)) broken_next
        ∙ ap (λ (r : Result (List Value) EntryFault). option_map (λ j. j + k) (first_broken r (λ vs. broken_left (k + 1) (numbers_behind (branch p) vs now)))) e
        ∙ ap (λ (i : ℕ). let o : Option ℕ = Some i in o) (omega arith)

  pub row_done : (front : List Value) (total : Result (List Value) EntryFault) → length parts ≤ k → with_front front (left k now) ≡ total → total ≡ Ok front
  row_done front total le so_far =
      sym so_far ∙ ap (λ (rest : List P). with_front front (row_from classes (map branch rest) (map entry rest) now)) (drop_all k parts le)
      ∙ ap (λ (vs : List Value). let r : Result (List Value) EntryFault = Ok vs in r) (append-nil front)

  pub none_broken : (total : Option ℕ) → length parts ≤ k → option_map (λ j. j + k) (broken_left k now) ≡ total → total ≡ None
  none_broken total le so_far =
      sym so_far ∙ ap (λ (rest : List P). option_map (λ j. j + k) (broken_from classes (map branch rest) (map entry rest) now)) (drop_all k parts le)
