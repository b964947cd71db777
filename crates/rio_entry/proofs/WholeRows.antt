-- What is written for a row is read as the row, and a row is read where no branch breaks.
use Rattle.std.proofs.Common.{◌≡◌, ◌&&◌, ℕ, ◌+◌, ◌≤◌, ℤ, Bool, true, false, cond, List, [], ◌∷◌, ◌++◌, length, take, drop, Option, Some, None, Result, Ok, Err, refl, sym, ap, subst, ◌∙◌, arith}
use Rattle.std.proofs.{lemmas.Bool.{and_parts, ltb-false, not-true, or_parts}, lemmas.List.{take-append-drop, Folds.{list_all-append}}}
use Rattle.std.specs.{List.{list_all, list_any}, Map.{lookup}, Option.{option_map}, Prelude.{IsTrue, is_none, is_ok, is_some, pos, unwrap_or}, Str.{bytes_eq}}
use Rattle.rio_num.specs.Reading.{◌>>=◌}
use Rattle.rio_leaf.specs.{declared.branch.BranchDef.{BranchDef}, declared.leaf.Dim.{Dim, TheVariants.{One, Fixed as Several, Counted}}}
use Rattle.rio_leaf.specs.declared.leaf.Leaf.{Leaf}
use Rattle.rio_format.specs.{Bodies.{Counters}, Slots.{kinded}, WrittenBytes.{length_limit}, Accessors.{number_in}, declared.value.Value.{Value, Int, out-Value, out-roll-Value, TheVariants.{rolls-Int}}}
use Rattle.rio_format.proofs.CounterLaws.{lookup_behind}
use Rattle.rio_machine.specs.Limits.{is_too_long}
use Rattle.rio_machine.specs.Rows.{Column, leaf_column, object_column, column_slot, columns_bytes, columns_fit, columns_of, counted_leaf_kind, entries_from, leaf_kind, leaf_numbers_after, leaf_numbers_behind, letter_kind, shape_columns, sized_kind, stands_in, kind_of_nothing}
use Rattle.rio_format.specs.{declared.class.ClassDef.{ClassDef}, declared.kind.Kind.{Kind}, declared.kind.Primitive.{Primitive}}
use Rattle.rio_format.specs.declared.value.Value.TheOpen as layer
use Rattle.rio_entry.specs.{Entries.{branch_entry_bytes, entry_fits}, Laws.{AreCounts, IsCount, IsCountFor, can_be_read_back}}
use Rattle.rio_machine.specs.Entries.{given_count, entry_in}
use Rattle.rio_entry.specs.Rows.{BrokenRowsHaveABranch, WrittenRowsAreRead, broken_from, first_broken}
use Rattle.rio_machine.specs.RowEntries.{branch_values, column_count, count_before, counts_before, numbers_behind, row_from}
use Rattle.rio_machine.specs.declared.entry_fault.EntryFault.{EntryFault}
use Rattle.rio_entry.proofs.{EntryLaws.{spelled_is_read, written_spelled}, LeafKinds.{kind_some}, RowLaws.{behind_is, entry_is_part_of_row}}
use Rattle.rio_entry.proofs.Singles.{stands_is}

-- ---- the columns of one branch, and those behind

module _ (classes : List ClassDef) where
  front_fits : (cs rest : List Column) (row : List Value) (before : Counters) → columns_fit classes (cs ++ rest) row before ≡ true → columns_fit classes cs (take (length cs) row) before ≡ true
  front_fits [] rest row before fit = refl
  front_fits (c ∷ cs) rest [] before fit = absurd cc
  front_fits (c ∷ cs) rest (v ∷ vs) before fit =
      let both = and_parts (stands_in classes (column_slot before c) v) (columns_fit classes (cs ++ rest) vs (leaf_numbers_behind c v before)) fit in
      ap (λ (b : Bool). b && columns_fit classes cs (take (length cs) vs) (leaf_numbers_behind c v before)) both.0 ∙ front_fits cs rest vs (leaf_numbers_behind c v before) both.1

  rest_fits : (cs rest : List Column) (row : List Value) (before : Counters) → columns_fit classes (cs ++ rest) row before ≡ true → columns_fit classes rest (drop (length cs) row) (leaf_numbers_after cs row before) ≡ true
  rest_fits [] rest row before fit = fit
  rest_fits (c ∷ cs) rest [] before fit = absurd cc
  rest_fits (c ∷ cs) rest (v ∷ vs) before fit =
      let both = and_parts (stands_in classes (column_slot before c) v) (columns_fit classes (cs ++ rest) vs (leaf_numbers_behind c v before)) fit in
      rest_fits cs rest vs (leaf_numbers_behind c v before) both.1

  front_bytes : (cs : List Column) (row : List Value) (before : Counters) → columns_bytes classes cs (take (length cs) row) before ≡ columns_bytes classes cs row before
  front_bytes [] row before = refl
  front_bytes (c ∷ cs) [] before = refl
  front_bytes (c ∷ cs) (v ∷ vs) before = let same = front_bytes cs vs (leaf_numbers_behind c v before) in rw same refl

  front_numbers : (cs : List Column) (row : List Value) (before : Counters) → leaf_numbers_after cs (take (length cs) row) before ≡ leaf_numbers_after cs row before
  front_numbers [] row before = refl
  front_numbers (c ∷ cs) [] before = refl
  front_numbers (c ∷ cs) (v ∷ vs) before = front_numbers cs vs (leaf_numbers_behind c v before)

-- ---- the counts of a row that fits

number_is : (n : ℤ) (vs : List Value) → given_count (Int n ∷ vs) ≡ n
number_is n vs = ap number_in (ap out-Value (sym (rolls-Int n)) ∙ out-roll-Value (layer.Int n))

module _ (classes : List ClassDef) (before : Counters) where
  -- where a counter is lacking nothing fits
  none_fits : (v : Value) (of : Primitive) (times : ℕ) → stands_in classes (kinded (counted_leaf_kind of times None)) v ≡ false
  none_fits v of times = stands_is classes kind_of_nothing v tt

  counted_is : (counter : List ℕ) (times : ℕ) (of : Primitive) (v : Value) (own : Counters) → stands_in classes (kinded (counted_leaf_kind of times (lookup (bytes_eq counter) (own ++ before)))) v ≡ true → lookup (bytes_eq counter) own ≡ None → lookup (bytes_eq counter) before ≡ Some (unwrap_or (lookup (bytes_eq counter) before) (pos 0))
  counted_is counter times of v own fit lacks =
      let there : lookup (bytes_eq counter) (own ++ before) ≡ lookup (bytes_eq counter) before = lookup_behind (bytes_eq counter) own before ∙ ap (λ (o : Option ℤ). cond (is_some o) o (lookup (bytes_eq counter) before)) lacks in
      by (lookup (bytes_eq counter) before) (ap (λ (o : Option ℤ). stands_in classes (kinded (counted_leaf_kind of times o)) v) (sym there) ∙ fit)
    where
      by : (o : Option ℤ) → stands_in classes (kinded (counted_leaf_kind of times o)) v ≡ true → o ≡ Some (unwrap_or o (pos 0))
      by (Some n) fit = refl
      by None fit = let none = none_fits v of times in absurd cc

  dim_count : (leaf : Leaf) (dim : Dim) (of : Primitive) (v : Value) (own : Counters) → stands_in classes (kinded (sized_kind (own ++ before) of dim)) v ≡ true → IsCount dim (count_before dim before) own before
  dim_count leaf One of v own fit = tt
  dim_count leaf (Several n) of v own fit = tt
  dim_count leaf (Counted counter times) of v own fit = counted_is counter times of v own fit

  leaf_count : (leaf : Leaf) (v : Value) (own : Counters) → stands_in classes (kinded (leaf_kind (own ++ before) leaf)) v ≡ true → IsTrue (is_some (letter_kind leaf.letter)) → IsCount leaf.dim (count_before leaf.dim before) own before
  leaf_count leaf v own fit numbered = by (letter_kind leaf.letter) refl numbered
    where
      by : (o : Option Primitive) → letter_kind leaf.letter ≡ o → IsTrue (is_some o) → IsCount leaf.dim (count_before leaf.dim before) own before
      by (Some of) e some = dim_count leaf leaf.dim of v own (ap (λ (k : Kind). stands_in classes (kinded k) v) (sym (kind_some (own ++ before) leaf of e)) ∙ fit)
      by None e some = absurd cc

  column_is : (c : Column) (v : Value) (own : Counters) → stands_in classes (column_slot (own ++ before) c) v ≡ true → IsCountFor c (column_count c before) own before
  column_is (leaf_column leaf) v own fit = leaf_count leaf v own fit
  column_is (object_column class) v own fit = tt

  are_counts : (cs : List Column) (row : List Value) (own : Counters) → columns_fit classes cs row (own ++ before) ≡ true → AreCounts cs (counts_before cs before) row own before
  are_counts [] row own fit = tt
  are_counts (c ∷ cs) [] own fit = tt
  are_counts (c ∷ cs) (v ∷ vs) own fit =
      let both = and_parts (stands_in classes (column_slot (own ++ before) c) v) (columns_fit classes cs vs (leaf_numbers_behind c v (own ++ before))) fit in
      let behind : columns_fit classes cs vs (leaf_numbers_behind c v own ++ before) ≡ true = ap (columns_fit classes cs vs) (behind_is c v own before) ∙ both.1 in
      (subst (λ (n : ℤ). IsCountFor c n own before) (sym (number_is (column_count c before) (counts_before cs before))) (column_is c v own both.0), are_counts cs vs (leaf_numbers_behind c v own) behind)

-- ---- what is written is read

module _ (classes : List ClassDef) where
  -- the entry of one branch
  entry_read : (b : BranchDef) (row : List Value) (before : Counters) → columns_fit classes (shape_columns b.shape) row before ≡ true → list_all can_be_read_back row ≡ true → length (columns_bytes classes (shape_columns b.shape) row before) ≤ length_limit → branch_values classes b (columns_bytes classes (shape_columns b.shape) row before) before ≡ Ok row
  entry_read b row before fit back room =
      let counts = counts_before (shape_columns b.shape) before in
      let parts = entry_is_part_of_row classes b.shape counts row before (are_counts classes before (shape_columns b.shape) row [] fit) in
      let own : entry_fits classes b.shape counts row ≡ true = parts.0 ∙ fit in
      let short : length (branch_entry_bytes classes b.shape counts row) ≤ length_limit = omega (arith, room, ap length parts.1) in
      let spelled = written_spelled classes b.shape counts row own back short in
      ap (entry_in classes b.shape counts) (sym parts.1) ∙ spelled_is_read classes b.shape counts (branch_entry_bytes classes b.shape counts row) row spelled

  rows_read : (bs : List BranchDef) (row : List Value) (before : Counters) → columns_fit classes (columns_of bs) row before ≡ true → list_any (λ entry. is_too_long (length entry)) (entries_from classes bs row before) ≡ false → list_all can_be_read_back row ≡ true → row_from classes bs (entries_from classes bs row before) before ≡ Ok row
  rows_read [] [] before fit short back = refl
  rows_read [] (v ∷ vs) before fit short back = absurd cc
  rows_read (b ∷ bs) row before fit short back =
      let cs = shape_columns b.shape in
      let front = take (length cs) row in
      let more = drop (length cs) row in
      let after = leaf_numbers_after cs row before in
      let whole : front ++ more ≡ row = take-append-drop (length cs) row in
      let backs = and_parts (list_all can_be_read_back front) (list_all can_be_read_back more) (sym (list_all-append can_be_read_back front more) ∙ ap (list_all can_be_read_back) whole ∙ back) in
      let shorts = or_parts (is_too_long (length (columns_bytes classes cs row before))) (list_any (λ entry. is_too_long (length entry)) (entries_from classes bs more after)) short in
      let same = front_bytes classes cs row before in
      let room : length (columns_bytes classes cs row before) ≤ length_limit = ltb-false _ _ shorts.0 in
      let one : branch_values classes b (columns_bytes classes cs row before) before ≡ Ok front =
      ap (λ (bytes : List ℕ). branch_values classes b bytes before) (sym same)
      ∙ entry_read b front before (front_fits classes cs (columns_of bs) row before fit) backs.0 (omega (arith, room, ap length same)) in
      let numbers : numbers_behind b front before ≡ after = front_numbers classes cs row before in
      let others = rows_read bs more after (rest_fits classes cs (columns_of bs) row before fit) shorts.1 backs.1 in
      ap (λ (r : Result (List Value) EntryFault). r >>= (λ values. row_from classes bs (entries_from classes bs more after) (numbers_behind b values before) >>= (λ rest. Ok (values ++ rest)))) one
      ∙ ap (λ (now : Counters). row_from classes bs (entries_from classes bs more after) now >>= (λ rest. let r : Result (List Value) EntryFault = Ok (front ++ rest) in r)) numbers
      ∙ ap (λ (r : Result (List Value) EntryFault). r >>= (λ rest. let s : Result (List Value) EntryFault = Ok (front ++ rest) in s)) others
      ∙ ap (λ (vs : List Value). let r : Result (List Value) EntryFault = Ok vs in r) whole

pub written_rows_read : WrittenRowsAreRead
written_rows_read classes branches row fit short back = rows_read classes branches row [] fit (not-true _ short) back

-- ---- where no branch breaks

ok_still : (values : List Value) (r : Result (List Value) EntryFault) → is_ok (r >>= (λ more. let s : Result (List Value) EntryFault = Ok (values ++ more) in s)) ≡ is_ok r
ok_still values (Ok more) = refl
ok_still values (Err e) = refl

none_still : (o : Option ℕ) → is_none (option_map (λ k. k + 1) o) ≡ is_none o
none_still None = refl
none_still (Some k) = refl

module _ (classes : List ClassDef) where
  reads : (bs : List BranchDef) (es : List (List ℕ)) (before : Counters) → is_ok (row_from classes bs es before) ≡ is_none (broken_from classes bs es before)
  reads [] es before = refl
  reads (b ∷ bs) [] before = refl
  reads (b ∷ bs) (e ∷ es) before = by (branch_values classes b e before) (λ values. reads bs es (numbers_behind b values before))
    where
      by : (r : Result (List Value) EntryFault) → ((values : List Value) → is_ok (row_from classes bs es (numbers_behind b values before)) ≡ is_none (broken_from classes bs es (numbers_behind b values before)))
          → is_ok (r >>= (λ values. row_from classes bs es (numbers_behind b values before) >>= (λ more. Ok (values ++ more)))) ≡ is_none (first_broken r (λ values. broken_from classes bs es (numbers_behind b values before)))
      by (Err fault) behind = refl
      by (Ok values) behind =
          ok_still values (row_from classes bs es (numbers_behind b values before)) ∙ behind values ∙ sym (none_still (broken_from classes bs es (numbers_behind b values before)))

pub broken_has_branch : BrokenRowsHaveABranch
broken_has_branch classes branches entries = reads classes branches entries []
