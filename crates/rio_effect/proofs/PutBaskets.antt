-- A basket that is put is read as its entries, and rows of the entries that are written for them.
use Rattle.std.proofs.Common.{◌≡◌, ◌∙◌, pos, codes, List, [], ◌∷◌, length, Bool, true, false, not, ◌==◌, ◌&&◌, Some, Ok, Result, refl, sym, ap, append-nil, arith}
use Rattle.std.proofs.lemmas.Bool.{and_from, and_parts, eq-eqb, le-leb, ltb-false, not-true, or_parts}
use Rattle.std.specs.{Prelude.{option_and_then}, List.{list_all, list_any}, Result.{result_ok}}
use Rattle.rio_num.specs.Reading.{some_if}
use Rattle.rio_num.proofs.Cases.{some_of}
use Rattle.rio_leaf.specs.declared.branch.BranchDef.{BranchDef}
use Rattle.rio_format.specs.{declared.class.ClassDef.{ClassDef}, Depth.{depth_of}, declared.value.Value.{Value}, Bodies.{Counters}, Fits.{fitting_of}, Laws.{has_versions}, Objects.{depth_limit}}
use Rattle.rio_chain.specs.{Changes.{with_record}}
use Rattle.rio_model.specs.StateClasses.{StateClasses}
use Rattle.rio_machine.specs.{Limits.{has_long_entry, has_long_list, is_too_deep}, RowEntries.{row_in}, Rows.{Column, column_slot, columns_fit, columns_of, entries_of, leaf_numbers_behind, row_fits, stands_in}, State.{Row}}
use Rattle.rio_machine.specs.declared.entry_fault.EntryFault.{EntryFault}
use Rattle.rio_entry.proofs.WholeRows.{written_rows_read}
use Rattle.rio_entry.specs.Laws.{can_be_read_back}
use Rattle.rio_key.specs.BasketEntries.{entries_in}
use Rattle.rio_key.proofs.WrittenBaskets.{are_basket_records}
use Rattle.rio_state.specs.{KeyedRecords.{KeyedRecord, has_class, keyed_records}, OneMore.{keyed_bytes}, Trees.{basket_bytes, bytes_as_said}}
use Rattle.rio_state.proofs.{Insertion.{find_more}, MoreRecords.{key_is_read, record_more}}
use Rattle.rio_effect.specs.{PutBaskets.{BasketsHaveRecords, PendingRowsAreRead, PutBasketIsRead}, TreeRecords.{basket_at, basket_with_words, key_of_basket, length_of_basket, record_of_basket}}
use Rattle.rio_effect.proofs.{BasketLength.{record_long}, PutClasses.{versions_in_range}, Versions.{ranged}}

-- ---- the record

pub baskets_have_records : BasketsHaveRecords
baskets_have_records place words can =
    let is = are_basket_records place words.tree words.branch words.datime (basket_with_words words) can.fits can.even in
    record {
      whole = record {
        head = key_of_basket place words;
        key = is.key;
        small = omega arith;
        seek = refl;
        nbytes = ap pos (sym is.size);
        parts = sym is.size;
        aligned = is.aligned;
      };
      read = key_is_read place (record_of_basket place words) (key_of_basket place words) is.key;
    }

pub put_basket_is_read : PutBasketIsRead
unfolding basket_bytes
put_basket_is_read links place first words free can =
    let bytes = record_of_basket place words in
    let is = are_basket_records place words.tree words.branch words.datime (basket_with_words words) can.fits can.even in
    let x = keyed_bytes (key_of_basket place words) bytes in
    let more = record_more links place bytes (key_of_basket place words) (baskets_have_records place words can).read in
    let new = keyed_records (with_record place bytes links) in
    let found = find_more (λ (r : KeyedRecord). r.head.seek == place) x (keyed_records links) new more (eq-eqb place place refl) free in
    let long : (length bytes == length_of_basket words) ≡ true = eq-eqb (length bytes) (length_of_basket words) (record_long place words) in
    record {
      bytes = bytes;
      there = ap (option_and_then (bytes_as_said (basket_at place first words))) found ∙ ap (λ (b : Bool). some_if (has_class (codes "TBasket") x.head && b) bytes) long;
      read = ap (entries_in words.offsets) (sym (append-nil bytes)) ∙ is.entries_are [];
      some = can.some;
    }

-- ---- rows

module _ (classes : List ClassDef) (are : StateClasses classes) where
  -- what fits its column has versions that can be written, and isn't too deep
  columns_back : (cs : List Column) (row : List Value) (counters : Counters) → columns_fit classes cs row counters ≡ true → list_any is_too_deep row ≡ false → list_all can_be_read_back row ≡ true
  columns_back [] [] counters fit shallow = refl
  columns_back [] (v ∷ vs) counters fit shallow = absurd cc
  columns_back (c ∷ cs) [] counters fit shallow = absurd cc
  columns_back (c ∷ cs) (v ∷ vs) counters fit shallow =
      let two = and_parts (stands_in classes (column_slot counters c) v) (columns_fit classes cs vs (leaf_numbers_behind c v counters)) fit in
      let deep = or_parts (is_too_deep v) (list_any is_too_deep vs) shallow in
      let there = some_of ((fitting_of classes v).fits (column_slot counters c) []) two.0 in
      let versions : has_versions v ≡ true = ranged classes (versions_in_range classes are) v (column_slot counters c) [] there.0 there.1 in
      let low = ltb-false depth_limit (depth_of v) deep.0 in
      and_from _ _ (and_from _ _ (le-leb (depth_of v) depth_limit low) versions) (columns_back cs vs (leaf_numbers_behind c v counters) two.1 deep.1)

  row_again : (branches : List BranchDef) (row : Row) (r : Result (List Value) EntryFault) → r ≡ Ok row → row_fits classes branches row ≡ true
      → option_and_then (λ x. some_if (row_fits classes branches x) x) (result_ok r) ≡ Some row
  row_again branches row r is fit = ap (λ (t : Result (List Value) EntryFault). option_and_then (λ x. some_if (row_fits classes branches x) x) (result_ok t)) is ∙ ap (λ (b : Bool). some_if b row) fit

pub pending_rows_are_read : PendingRowsAreRead
pending_rows_are_read classes branches row are stored =
    let last = and_parts (row_fits classes branches row && not (has_long_entry classes branches row) && not (list_any is_too_deep row)) (not (list_any has_long_list row)) stored in
    let third = and_parts (row_fits classes branches row && not (has_long_entry classes branches row)) (not (list_any is_too_deep row)) last.0 in
    let second = and_parts (row_fits classes branches row) (not (has_long_entry classes branches row)) third.0 in
    let back = columns_back classes are (columns_of branches) row [] second.0 (not-true _ third.1) in
    row_again classes are branches row (row_in classes branches (entries_of classes branches row)) (written_rows_read classes branches row second.0 second.1 back) second.0
