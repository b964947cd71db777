-- The rows of a tree are saved where no branch is refused or has an empty basket, and each entry has a row.
use Rattle.std.proofs.Common.{◌≡◌, ℕ, zero, suc, ◌+◌, ◌-◌, ◌<◌, ◌≤◌, ◌&&◌, Bool, true, false, List, [], ◌∷◌, map, slice_get, Option, Some, None, is_some, is_none, unwrap_or, refl, sym, ap, ◌∙◌, arith}
use Rattle.std.proofs.{lemmas.Bool.{and_parts}, lemmas.List.Elements.{All-head, All-tail}}
use Rattle.std.specs.{List.{All, list_all, range_with_len}, Option.{option_and_then, option_map}}
use Rattle.rio_format.specs.declared.class.ClassDef.{ClassDef}
use Rattle.rio_machine.specs.State.{Row}
use Rattle.rio_tree.specs.{WrittenLaws.{stated_defs}, declared.head.Branch.{Branch}, declared.head.TreeHead.{TreeHead}}
use Rattle.rio_tree.specs.SavedEntries.{all_there, branch_entries, entries_at, rows_by}
use Rattle.rio_entry.specs.SavedRows.{AreInOrder, IsInOrder, file_baskets, filled_entry, is_whole, row_there, saved_rows}
use Rattle.rio_machine.specs.RowEntries.{fitting_row}
use Rattle.rio_entry.proofs.SavedLaws.{branch_entry_is, branch_none, branch_there, none_is}

-- ---- of a list of what may be there

module _ {A : Type 0} where
  all_some : (o : Option A) (os : List (Option A)) → is_some (all_there (o ∷ os)) ≡ (is_some o && is_some (all_there os))
  all_some None os = refl
  all_some (Some x) os = by (all_there os)
    where
      by : (r : Option (List A)) → is_some (option_map (λ xs. x ∷ xs) r) ≡ is_some r
      by None = refl
      by (Some xs) = refl

  all_parts : (o : Option A) (os : List (Option A)) (xs : List A) → all_there (o ∷ os) ≡ Some xs → (y : A) × (ys : List A) × (o ≡ Some y) × (all_there os ≡ Some ys) × (xs ≡ y ∷ ys)
  all_parts None os xs is = absurd cc
  all_parts (Some y) os xs is = by (all_there os) refl is
    where
      by : (r : Option (List A)) → all_there os ≡ r → option_map (λ l. y ∷ l) r ≡ Some xs → (z : A) × (zs : List A) × (Some y ≡ Some z) × (all_there os ≡ Some zs) × (xs ≡ z ∷ zs)
      by None e h = absurd cc
      by (Some ys) e h = (y, ys, refl, e, let same : y ∷ ys ≡ xs = cc in sym same)

  pub all_none : (o : Option A) (os : List (Option A)) → all_there os ≡ None → all_there (o ∷ os) ≡ None
  all_none None os none = refl
  all_none (Some x) os none = ap (option_map (λ xs. x ∷ xs)) none

-- so many are there where each is
all_numbers : {A : Type 0} (f : ℕ → Option A) (start n : ℕ) → is_some (all_there (map f (range_with_len start n))) ≡ list_all (λ e. is_some (f e)) (range_with_len start n)
all_numbers f start zero = refl
all_numbers f start (suc n) = all_some (f start) (map f (range_with_len (start + 1) n)) ∙ ap (λ (b : Bool). is_some (f start) && b) (all_numbers f (start + 1) n)

same_numbers : (p q : ℕ → Bool) (start n : ℕ) → ((e : ℕ) → start ≤ e → e < start + n → p e ≡ q e) → list_all p (range_with_len start n) ≡ list_all q (range_with_len start n)
same_numbers p q start zero same = refl
same_numbers p q start (suc n) same =
    ap (λ (b : Bool). b && list_all p (range_with_len (start + 1) n)) (same start (omega arith) (omega arith))
    ∙ ap (λ (b : Bool). q start && b) (same_numbers p q (start + 1) n (λ e low lt. same e (omega (arith, low)) (omega (arith, lt))))

each_number : (p : ℕ → Bool) (start n : ℕ) → list_all p (range_with_len start n) ≡ true → (e : ℕ) → start ≤ e → e < start + n → p e ≡ true
each_number p start zero all e low lt = absurd (omega (arith, low, lt))
each_number p start (suc n) all e low lt = by (and_parts (p start) (list_all p (range_with_len (start + 1) n)) all) (λ rest above. each_number p (start + 1) n rest e above (omega (arith, lt)))
  where
    at_start : (k : ℕ) → start + k ≡ e → p start ≡ true → list_all p (range_with_len (start + 1) n) ≡ true → (list_all p (range_with_len (start + 1) n) ≡ true → start + 1 ≤ e → p e ≡ true) → p e ≡ true
    at_start zero is one rest on = ap p (omega (arith, is)) ∙ one
    at_start (suc k) is one rest on = on rest (omega (arith, is))

    by : (p start ≡ true) × (list_all p (range_with_len (start + 1) n) ≡ true) → (list_all p (range_with_len (start + 1) n) ≡ true → start + 1 ≤ e → p e ≡ true) → p e ≡ true
    by two on = at_start (e - start) (omega (arith, low)) two.0 two.1 on

-- ---- the branches

module _ (file : List ℕ) (n : ℕ) where
  abbrev IsOrdered : Branch → Type 0
  IsOrdered b = b.refused ≡ None → IsInOrder n b

  abbrev Ordered : List Branch → Type 0
  Ordered bs = All IsOrdered bs

  abbrev entries_of : List Branch → Option (List (List (List ℕ)))
  entries_of bs = all_there (map (branch_entries (file_baskets file)) bs)

  abbrev filled : List Branch → ℕ → Option (List (List ℕ))
  filled bs e = all_there (map (λ b. filled_entry file b e) bs)

  order_of : (b : Branch) → (b.refused ≡ None → IsInOrder n b) → is_whole b ≡ true → IsInOrder n b
  order_of b order whole = order (none_is b.refused (and_parts (is_none b.refused) _ whole).0)

  filled_at : (bs : List Branch) → Ordered bs → list_all is_whole bs ≡ true → (all : List (List (List ℕ))) → entries_of bs ≡ Some all → (e : ℕ) → e < n → filled bs e ≡ Some (entries_at all e)
  filled_at [] order whole all is e lt = let same : [] ≡ all = cc in ap (λ (l : List (List (List ℕ))). Some (entries_at l e)) same
  filled_at (b ∷ bs) order whole all is e lt =
      let two = and_parts (is_whole b) (list_all is_whole bs) whole in
      let parts = all_parts (branch_entries (file_baskets file) b) (map (branch_entries (file_baskets file)) bs) all is in
      let own = branch_entry_is file n b (order_of b (All-head IsOrdered b bs order) two.0) two.0 e parts.0 lt parts.2 in
      let rest = filled_at bs (All-tail IsOrdered b bs order) two.1 parts.1 parts.3 e lt in
      ap (λ (o : Option (List ℕ)). all_there (o ∷ map (λ c. filled_entry file c e) bs)) own
      ∙ ap (option_map (λ xs. unwrap_or (slice_get parts.0 e) [] ∷ xs)) rest
      ∙ ap (λ (l : List (List (List ℕ))). Some (entries_at l e)) (sym parts.4)

  filled_all : (bs : List Branch) → Ordered bs → list_all is_whole bs ≡ true → ((e : ℕ) → e < n → is_some (filled bs e) ≡ true) → is_some (entries_of bs) ≡ true
  filled_all [] order whole all = refl
  filled_all (b ∷ bs) order whole all =
      let two = and_parts (is_whole b) (list_all is_whole bs) whole in
      let each : (e : ℕ) → e < n → (is_some (filled_entry file b e) ≡ true) × (is_some (filled bs e) ≡ true) = λ e lt. and_parts (is_some (filled_entry file b e)) (is_some (filled bs e)) (sym (all_some (filled_entry file b e) (map (λ c. filled_entry file c e) bs)) ∙ all e lt) in
      let own = branch_there file n b (order_of b (All-head IsOrdered b bs order) two.0) two.0 (λ e lt. (each e lt).0) in
      let rest = filled_all bs (All-tail IsOrdered b bs order) two.1 (λ e lt. (each e lt).1) in
      all_some (branch_entries (file_baskets file) b) (map (branch_entries (file_baskets file)) bs)
      ∙ ap (λ (c : Bool). c && is_some (entries_of bs)) own ∙ rest

  no_entries : (bs : List Branch) → list_all is_whole bs ≡ false → entries_of bs ≡ None
  no_entries [] none = absurd cc
  no_entries (b ∷ bs) none = by (is_whole b) refl none (no_entries bs)
    where
      by : (t : Bool) → is_whole b ≡ t → (t && list_all is_whole bs) ≡ false → (list_all is_whole bs ≡ false → entries_of bs ≡ None) → entries_of (b ∷ bs) ≡ None
      by false e h rest = ap (λ (o : Option (List (List ℕ))). all_there (o ∷ map (branch_entries (file_baskets file)) bs)) (branch_none file n b e)
      by true e h rest = all_none (branch_entries (file_baskets file) b) (map (branch_entries (file_baskets file)) bs) (rest h)

-- ---- the tree

module _ (file : List ℕ) (classes : List ClassDef) (head : TreeHead) where
  abbrev fit : List (List ℕ) → Option Row
  fit = fitting_row classes (stated_defs head.branches)

  abbrev rows_in : Option (List (List (List ℕ))) → Option (List Row)
  rows_in entries = option_and_then (λ all. all_there (map (λ e. fit (entries_at all e)) (range_with_len 0 head.entries))) entries

  rows_are : saved_rows classes (file_baskets file) head ≡ rows_in (entries_of file head.entries head.branches)
  unfolding rows_by
  rows_are = refl

  pub not_whole : list_all is_whole head.branches ≡ false → false ≡ is_some (saved_rows classes (file_baskets file) head)
  not_whole none = sym (ap is_some (rows_are ∙ ap rows_in (no_entries file head.entries head.branches none)))

  row_is : (e : ℕ) → row_there file classes head.branches e ≡ option_and_then fit (filled file head.entries head.branches e)
  row_is e = refl

  module _ (order : AreInOrder head) (whole : list_all is_whole head.branches ≡ true) where
    with_entries : (all : List (List (List ℕ))) → entries_of file head.entries head.branches ≡ Some all
        → list_all (λ e. is_some (row_there file classes head.branches e)) (range_with_len 0 head.entries) ≡ is_some (saved_rows classes (file_baskets file) head)
    with_entries all is =
        same_numbers (λ e. is_some (row_there file classes head.branches e)) (λ e. is_some (fit (entries_at all e))) 0 head.entries
        (λ e low lt. ap is_some (ap (option_and_then fit) (filled_at file head.entries head.branches order whole all is e (omega (arith, lt)))))
        ∙ sym (all_numbers (λ e. fit (entries_at all e)) 0 head.entries)
        ∙ sym (ap is_some (rows_are ∙ ap rows_in is))

    some_first : {A B : Type 0} (f : A → Option B) (o : Option A) → is_some (option_and_then f o) ≡ true → is_some o ≡ true
    some_first f None h = absurd cc
    some_first f (Some x) h = refl

    without : entries_of file head.entries head.branches ≡ None → list_all (λ e. is_some (row_there file classes head.branches e)) (range_with_len 0 head.entries) ≡ is_some (saved_rows classes (file_baskets file) head)
    without none = by (list_all (λ e. is_some (row_there file classes head.branches e)) (range_with_len 0 head.entries)) refl
      where
        by : (t : Bool) → list_all (λ e. is_some (row_there file classes head.branches e)) (range_with_len 0 head.entries) ≡ t → t ≡ is_some (saved_rows classes (file_baskets file) head)
        by false e = sym (ap is_some (rows_are ∙ ap rows_in none))
        by true e =
            let each = each_number (λ k. is_some (row_there file classes head.branches k)) 0 head.entries e in
            let there = filled_all file head.entries head.branches order whole (λ k lt. some_first fit (filled file head.entries head.branches k) (each k (omega arith) (omega (arith, lt)))) in
            let no : is_some (entries_of file head.entries head.branches) ≡ false = ap is_some none in
            absurd (let bad : false ≡ true = sym no ∙ there in cc)

    pub whole_rows : list_all (λ e. is_some (row_there file classes head.branches e)) (range_with_len 0 head.entries) ≡ is_some (saved_rows classes (file_baskets file) head)
    whole_rows = by (entries_of file head.entries head.branches) refl
      where
        by : (o : Option (List (List (List ℕ)))) → entries_of file head.entries head.branches ≡ o → list_all (λ e. is_some (row_there file classes head.branches e)) (range_with_len 0 head.entries) ≡ is_some (saved_rows classes (file_baskets file) head)
        by None e = without e
        by (Some all) e = with_entries all e
