-- The rows that a header names in a file are those that are summed up.
use Rattle.std.proofs.Common.{◌≡◌, ℕ, zero, suc, ◌+◌, ◌<◌, ◌≤◌, Bool, true, false, List, [], ◌∷◌, map, slice_get, Option, Some, None, is_some, is_none, unwrap_or, refl, sym, ap, ◌∙◌, arith}
use Rattle.std.proofs.{lemmas.Bool.{and_parts}, lemmas.List.Elements.{All-head, All-tail}, lemmas.Option.{same_Some}}
use Rattle.std.specs.{List.{All, list_all, range_with_len}, Option.{option_and_then, option_map}}
use Rattle.rio_format.specs.declared.class.ClassDef.{ClassDef}
use Rattle.rio_machine.specs.{RowEntries.{fitting_row}, State.{Row}}
use Rattle.rio_tree.specs.{WrittenLaws.{stated_defs}, declared.head.Branch.{Branch}, declared.head.TreeHead.{TreeHead}}
use Rattle.rio_tree.specs.SavedEntries.{all_there, branch_entries, entries_at, rows_by}
use Rattle.rio_entry.specs.SavedRows.{AreInOrder, IsInOrder, file_baskets, filled_entry, is_whole, row_there, saved_rows}
use Rattle.rio_entry.proofs.{SavedLaws.{branch_entry_is, none_is}, SavedTrees.{not_whole}}
use Rattle.rio_report.specs.Summary.{rows_there}

-- ---- of a list of what may be there

all_parts : {A : Type 0} (o : Option A) (os : List (Option A)) (xs : List A) → all_there (o ∷ os) ≡ Some xs → (y : A) × (ys : List A) × (o ≡ Some y) × (all_there os ≡ Some ys) × (xs ≡ y ∷ ys)
all_parts None os xs is = absurd cc
all_parts {A} (Some y) os xs is = by (all_there os) refl is
  where
    by : (r : Option (List A)) → all_there os ≡ r → option_map (λ l. y ∷ l) r ≡ Some xs → (z : A) × (zs : List A) × (Some y ≡ Some z) × (all_there os ≡ Some zs) × (xs ≡ z ∷ zs)
    by None e h = absurd cc
    by (Some ys) e h = (y, ys, refl, e, let same : y ∷ ys ≡ xs = cc in sym same)

-- each row, where all are there
each_row : (f : ℕ → Option Row) (start n : ℕ) (rows : List Row) → all_there (map f (range_with_len start n)) ≡ Some rows → map (λ e. unwrap_or (f e) []) (range_with_len start n) ≡ rows
each_row f start zero rows is = same_Some [] rows is
each_row f start (suc n) rows is =
    let parts = all_parts (f start) (map f (range_with_len (start + 1) n)) rows is in
    ap (λ (o : Option Row). unwrap_or o [] ∷ map (λ e. unwrap_or (f e) []) (range_with_len (start + 1) n)) parts.2
    ∙ ap (λ (l : List Row). parts.0 ∷ l) (each_row f (start + 1) n parts.1 parts.3)
    ∙ sym parts.4

same_from : (f g : ℕ → Option Row) (start n : ℕ) → ((e : ℕ) → start ≤ e → e < start + n → f e ≡ g e) → map f (range_with_len start n) ≡ map g (range_with_len start n)
same_from f g start zero same = refl
same_from f g start (suc n) same =
    let here = same start (omega arith) (omega arith) in
    let rest = same_from f g (start + 1) n (λ e low lt. same e (omega (arith, low)) (omega (arith, lt))) in
    λ i. here i ∷ rest i

-- ---- the branches

module _ (file : List ℕ) (n : ℕ) where
  abbrev IsOrdered : Branch → Type 0
  IsOrdered b = b.refused ≡ None → IsInOrder n b

  abbrev entries_of : List Branch → Option (List (List (List ℕ)))
  entries_of bs = all_there (map (branch_entries (file_baskets file)) bs)

  abbrev filled : List Branch → ℕ → Option (List (List ℕ))
  filled bs e = all_there (map (λ b. filled_entry file b e) bs)

  order_of : (b : Branch) → (b.refused ≡ None → IsInOrder n b) → is_whole b ≡ true → IsInOrder n b
  order_of b order whole = order (none_is b.refused (and_parts (is_none b.refused) _ whole).0)

  filled_at : (bs : List Branch) → All IsOrdered bs → list_all is_whole bs ≡ true → (all : List (List (List ℕ))) → entries_of bs ≡ Some all → (e : ℕ) → e < n → filled bs e ≡ Some (entries_at all e)
  filled_at [] order whole all is e lt = let same : [] ≡ all = cc in ap (λ (l : List (List (List ℕ))). Some (entries_at l e)) same
  filled_at (b ∷ bs) order whole all is e lt =
      let two = and_parts (is_whole b) (list_all is_whole bs) whole in
      let parts = all_parts (branch_entries (file_baskets file) b) (map (branch_entries (file_baskets file)) bs) all is in
      let own = branch_entry_is file n b (order_of b (All-head IsOrdered b bs order) two.0) two.0 e parts.0 lt parts.2 in
      let rest = filled_at bs (All-tail IsOrdered b bs order) two.1 parts.1 parts.3 e lt in
      ap (λ (o : Option (List ℕ)). all_there (o ∷ map (λ c. filled_entry file c e) bs)) own
      ∙ ap (option_map (λ xs. unwrap_or (slice_get parts.0 e) [] ∷ xs)) rest
      ∙ ap (λ (l : List (List (List ℕ))). Some (entries_at l e)) (sym parts.4)

-- ---- the tree

module _ (file : List ℕ) (classes : List ClassDef) (head : TreeHead) (order : AreInOrder head) (rows : List Row) (saved : saved_rows classes (file_baskets file) head ≡ Some rows) where
  abbrev fit : List (List ℕ) → Option Row
  fit = fitting_row classes (stated_defs head.branches)

  abbrev rows_in : Option (List (List (List ℕ))) → Option (List Row)
  rows_in entries = option_and_then (λ all. all_there (map (λ e. fit (entries_at all e)) (range_with_len 0 head.entries))) entries

  rows_are : rows_in (entries_of file head.entries head.branches) ≡ Some rows
  unfolding rows_by
  rows_are = saved

  whole : list_all is_whole head.branches ≡ true
  whole = by (list_all is_whole head.branches) refl
    where
      by : (b : Bool) → list_all is_whole head.branches ≡ b → b ≡ true
      by true e = refl
      by false e = let none : false ≡ true = not_whole file classes head e ∙ ap is_some saved in absurd cc

  with_entries : (all : List (List (List ℕ))) → entries_of file head.entries head.branches ≡ Some all → all_there (map (λ e. fit (entries_at all e)) (range_with_len 0 head.entries)) ≡ Some rows
      → rows_there file classes head.branches head.entries ≡ rows
  with_entries all is fits =
      let same = same_from (row_there file classes head.branches) (λ e. fit (entries_at all e)) 0 head.entries
      (λ e low lt. ap (option_and_then fit) (filled_at file head.entries head.branches order whole all is e (omega (arith, lt)))) in
      each_row (row_there file classes head.branches) 0 head.entries rows (ap all_there same ∙ fits)

  pub rows_there_are : rows_there file classes head.branches head.entries ≡ rows
  rows_there_are = by (entries_of file head.entries head.branches) refl rows_are
    where
      by : (o : Option (List (List (List ℕ)))) → entries_of file head.entries head.branches ≡ o → rows_in o ≡ Some rows → rows_there file classes head.branches head.entries ≡ rows
      by None e is = absurd cc
      by (Some all) e is = with_entries all e is
