-- The entries of a row, branch after branch.
use Rattle.std.proofs.Common.{◌≡◌, ◌&&◌, ◌||◌, ℕ, ℤ, Bool, true, false, cond, List, [], ◌∷◌, ◌++◌, length, map, take, Option, Some, None, Result, Ok, Err, refl, sym, ap, subst, ◌∙◌, append_assoc}
use Rattle.std.proofs.{lemmas.Bool.{and_parts}, lemmas.List.{append-nil, Folds.{list_any-append}}}
use Rattle.std.specs.{Map.{lookup}, Prelude.{is_some, pos, unwrap_or, ◌==◌, not}, Str.{bytes_eq}}
use Rattle.rio_num.proofs.BytesEq.{bytes_eq-sym}
use Rattle.rio_num.specs.Word.{is_name_text}
use Rattle.rio_leaf.specs.Leaves.{can_count, has_counting_leaf, has_leaf, is_dim, is_letter_of}
use Rattle.rio_leaf.specs.Stated.{are_stated_leaves, is_stated_leaf, is_stated_shape, leaves_of}
use Rattle.rio_leaf.specs.{declared.branch.Shape.{Shape, TheVariants.{Leaves, Class}}}
use Rattle.rio_leaf.specs.{declared.leaf.Dim.{Dim, TheVariants.{One, Fixed as Several, Counted}}, declared.leaf.Leaf.{Leaf}}
use Rattle.rio_format.specs.{Bodies.{Counters}, declared.class.ClassDef.{ClassDef}, Accessors.{number_in}, declared.value.Value.{Value, Int, out-Value, out-roll-Value, TheVariants.{rolls-Int}}}
use Rattle.rio_format.proofs.CounterLaws.{lookup_behind}
use Rattle.rio_machine.specs.Limits.{is_too_long}
use Rattle.rio_machine.specs.Rows.{Column, leaf_column, column_slot, columns_bytes, columns_fit, leaf_numbers_after, leaf_numbers_behind, shape_columns, stands_in}
use Rattle.rio_format.specs.declared.value.Value.TheOpen as layer
use Rattle.rio_entry.specs.{Entries.{branch_entry_bytes, entry_written, within_limit}, Laws.{AreCounts, IsCount, IsCountFor}}
use Rattle.rio_machine.specs.Entries.{given_count}
use Rattle.rio_machine.specs.RowEntries.{count_before, counts_before}
use Rattle.rio_machine.specs.declared.entry_fault.EntryFault.{EntryFault, TheVariants.{BadRow, TooLarge}}
use Rattle.rio_entry.proofs.RowLaws.{entry_is_part_of_row}
use Rattle.rio_fill.specs.{Parts.{with_part}, Prepare.{HaveNumbers, part_written}, declared.prepared.Parts.{Parts}}

-- ---- the columns of one branch, and those behind

module _ (classes : List ClassDef) where
  pub front_bytes : (cs : List Column) (row : List Value) (before : Counters) → columns_bytes classes cs (take (length cs) row) before ≡ columns_bytes classes cs row before
  front_bytes [] row before = refl
  front_bytes (c ∷ cs) [] before = refl
  front_bytes (c ∷ cs) (v ∷ vs) before = let same = front_bytes cs vs (leaf_numbers_behind c v before) in rw same refl

-- ---- the leaves that say a number

only_first : (x y : Bool) → (x || (y || false)) ≡ true → y ≡ false → x ≡ true
only_first true y h e = refl
only_first false true h e = absurd cc
only_first false false h e = absurd cc

have_one : (done : List Leaf) (leaf : Leaf) (n : ℤ) (before : Counters) → HaveNumbers done before → HaveNumbers (done ++ leaf ∷ []) ((leaf.name, n) ∷ before)
have_one done leaf n before have name has = by (bytes_eq name leaf.name) refl
  where
    by : (b : Bool) → bytes_eq name leaf.name ≡ b → is_some (lookup (bytes_eq name) ((leaf.name, n) ∷ before)) ≡ true
    by true e = rw e refl
    by false e =
        let parts = sym (list_any-append (λ (l : Leaf). bytes_eq l.name name) done (leaf ∷ [])) ∙ has in
        rw e (have name (only_first (has_leaf done name) (bytes_eq leaf.name name) parts (bytes_eq-sym leaf.name name ∙ e)))

module _ (classes : List ClassDef) where
  have_leaves : (ls : List Leaf) (row : List Value) (done : List Leaf) (before : Counters) → columns_fit classes (map leaf_column ls) row before ≡ true → HaveNumbers done before → HaveNumbers (done ++ ls) (leaf_numbers_after (map leaf_column ls) row before)
  have_leaves [] row done before fit have = subst (λ (l : List Leaf). HaveNumbers l before) (sym (append-nil done)) have
  have_leaves (l ∷ ls) [] done before fit have = absurd cc
  have_leaves (l ∷ ls) (v ∷ vs) done before fit have =
      let now = leaf_numbers_behind (leaf_column l) v before in
      let parts = and_parts (stands_in classes (column_slot before (leaf_column l)) v) (columns_fit classes (map leaf_column ls) vs now) fit in
      let more = have_leaves ls vs (done ++ l ∷ []) now parts.1 (have_one done l (number_in (out-Value v)) before have) in
      subst (λ (all : List Leaf). HaveNumbers all (leaf_numbers_after (map leaf_column ls) vs now)) (append_assoc done (l ∷ []) ls) more

  pub have_shape : (shape : Shape) (row : List Value) (done : List Leaf) (before : Counters) → columns_fit classes (shape_columns shape) row before ≡ true → HaveNumbers done before → HaveNumbers (done ++ leaves_of shape) (leaf_numbers_after (shape_columns shape) row before)
  have_shape (Leaves ls) row done before fit have = have_leaves ls row done before fit have
  have_shape (Class class) [] done before fit have = subst (λ (l : List Leaf). HaveNumbers l before) (sym (append-nil done)) have
  have_shape (Class class) (v ∷ vs) done before fit have = subst (λ (l : List Leaf). HaveNumbers l before) (sym (append-nil done)) have

-- ---- the counts beside an entry

number_is : (n : ℤ) (vs : List Value) → given_count (Int n ∷ vs) ≡ n
number_is n vs = ap number_in (ap out-Value (sym (rolls-Int n)) ∙ out-roll-Value (layer.Int n))

counting_there : (ls : List Leaf) (name : List ℕ) → has_counting_leaf ls name ≡ true → has_leaf ls name ≡ true
counting_there [] name e = absurd cc
counting_there (l ∷ ls) name e = elim (bytes_eq l.name name) as (λ b. ((b && can_count l) || has_counting_leaf ls name) ≡ true → (b || has_leaf ls name) ≡ true) [ true ↦ λ h. refl | false ↦ λ h. counting_there ls name h ] e

some_is : (o : Option ℤ) → is_some o ≡ true → o ≡ Some (unwrap_or o (pos 0))
some_is (Some n) h = refl
some_is None h = absurd cc

dim_count : (dim : Dim) (all : List Leaf) (own before : Counters) → is_dim (has_counting_leaf all) dim ≡ true → HaveNumbers all (own ++ before) → IsCount dim (count_before dim before) own before
dim_count One all own before fit have = tt
dim_count (Several n) all own before fit have = tt
dim_count (Counted counter times) all own before fit have = λ lacks.
    let outer = and_parts (is_name_text counter && has_counting_leaf all counter) (times == 1) fit in
    let inner = and_parts (is_name_text counter) (has_counting_leaf all counter) outer.0 in
    let there = have counter (counting_there all counter inner.1) in
    let same : lookup (bytes_eq counter) (own ++ before) ≡ lookup (bytes_eq counter) before = lookup_behind (bytes_eq counter) own before ∙ ap (λ (o : Option ℤ). cond (is_some o) o (lookup (bytes_eq counter) before)) lacks in
    some_is (lookup (bytes_eq counter) before) (ap is_some (sym same) ∙ there)

are_counts : (ls : List Leaf) (row : List Value) (all : List Leaf) (own before : Counters) → HaveNumbers all (own ++ before) → are_stated_leaves all ls ≡ true → AreCounts (map leaf_column ls) (counts_before (map leaf_column ls) before) row own before
are_counts [] row all own before have stated = tt
are_counts (l ∷ ls) [] all own before have stated = tt
are_counts (l ∷ ls) (v ∷ vs) all own before have stated =
    let both = and_parts (is_stated_leaf all l) (are_stated_leaves (all ++ l ∷ []) ls) stated in
    let outer = and_parts (is_name_text l.name && not (has_leaf all l.name) && is_dim (has_counting_leaf all) l.dim) (is_letter_of l.dim l.letter) both.0 in
    let dim = and_parts (is_name_text l.name && not (has_leaf all l.name)) (is_dim (has_counting_leaf all) l.dim) outer.0 in
    let n = number_in (out-Value v) in
    let count : IsCount l.dim (count_before l.dim before) own before = dim_count l.dim all own before dim.1 have in (
      subst (λ (m : ℤ). IsCountFor (leaf_column l) m own before) (sym (number_is (count_before l.dim before) (counts_before (map leaf_column ls) before))) (λ numbered. count),
      are_counts ls vs (all ++ l ∷ []) ((l.name, n) ∷ own) before (have_one all l n (own ++ before) have) both.1,
    )

shape_counts : (shape : Shape) (row : List Value) (all : List Leaf) (before : Counters) → HaveNumbers all before → is_stated_shape all shape ≡ true → AreCounts (shape_columns shape) (counts_before (map leaf_column (leaves_of shape)) before) row [] before
shape_counts (Leaves ls) row all before have stated = are_counts ls row all [] before have (and_parts (not (length ls == 0)) (are_stated_leaves all ls) stated).1
shape_counts (Class class) [] all before have stated = tt
shape_counts (Class class) (v ∷ vs) all before have stated = (tt, tt)

-- the entry of a branch is a part of the row
pub part_is : (classes : List ClassDef) (shape : Shape) (row : List Value) (all : List Leaf) (before : Counters) → HaveNumbers all before → is_stated_shape all shape ≡ true
    → entry_written classes shape (counts_before (map leaf_column (leaves_of shape)) before) row ≡ part_written classes shape row before
part_is classes shape row all before have stated =
    let counts = counts_before (map leaf_column (leaves_of shape)) before in
    let parts = entry_is_part_of_row classes shape counts row before (shape_counts shape row all before have stated) in
    let bad : Result (List ℕ) EntryFault = Err BadRow in
    ap (λ (b : Bool). cond b (within_limit (branch_entry_bytes classes shape counts row)) bad) parts.0
    ∙ ap (λ (bytes : List ℕ). cond (columns_fit classes (shape_columns shape) row before) (within_limit bytes) bad) parts.1

-- ---- what is kept of it

module _ (classes : List ClassDef) (shape : Shape) (row : List Value) (before : Counters) where
  abbrev fit : Bool
  fit = columns_fit classes (shape_columns shape) row before

  abbrev bytes : List ℕ
  bytes = columns_bytes classes (shape_columns shape) row before

  abbrev by_tests : Bool → Bool → Result (List ℕ) EntryFault
  by_tests fits long = cond fits (cond long (Err TooLarge) (Ok bytes)) (Err BadRow)

  pub part_kept : (entry : List ℕ) → part_written classes shape row before ≡ Ok entry → (fit ≡ true) × ((p : Parts) → record { entries = p.entries ++ entry ∷ []; long = p.long } ≡ with_part p bytes)
  part_kept entry e = by fit (is_too_long (length bytes)) refl refl e
    where
      by : (f l : Bool) → fit ≡ f → is_too_long (length bytes) ≡ l → by_tests f l ≡ Ok entry → (fit ≡ true) × ((p : Parts) → record { entries = p.entries ++ entry ∷ []; long = p.long } ≡ with_part p bytes)
      by true false fits long is =
          let same : bytes ≡ entry = cc in
          (fits, λ p. rw long (ap (λ (b : List ℕ). let made : Parts = record { entries = p.entries ++ b ∷ []; long = p.long } in made) (sym same)))
      by true true fits long is = absurd cc
      by false l fits long is = absurd cc

  pub part_long : part_written classes shape row before ≡ Err TooLarge → (fit ≡ true) × ((p : Parts) → record { entries = p.entries; long = true } ≡ with_part p bytes)
  part_long e = by fit (is_too_long (length bytes)) refl refl e
    where
      by : (f l : Bool) → fit ≡ f → is_too_long (length bytes) ≡ l → by_tests f l ≡ Err TooLarge → (fit ≡ true) × ((p : Parts) → record { entries = p.entries; long = true } ≡ with_part p bytes)
      by true true fits long is = (fits, λ p. rw long refl)
      by true false fits long is = absurd cc
      by false l fits long is = absurd cc

  pub part_bad : part_written classes shape row before ≡ Err BadRow → fit ≡ false
  part_bad e = by fit (is_too_long (length bytes)) refl e
    where
      by : (f l : Bool) → fit ≡ f → by_tests f l ≡ Err BadRow → fit ≡ false
      by true true fits is = absurd cc
      by true false fits is = absurd cc
      by false l fits is = fits
