-- With one class more a row that fits its branches is read as it was.
use Rattle.std.proofs.Common.{◌≡◌, ℕ, List, [], ◌∷◌, ◌++◌, true, Result, Ok, sym, subst, ◌∙◌}
use Rattle.std.proofs.lemmas.Bool.{and_parts}
use Rattle.rio_leaf.specs.declared.branch.BranchDef.{BranchDef}
use Rattle.rio_num.proofs.{Cases.{some_of}, ReadLaws.{bind_is, bind_ok}}
use Rattle.rio_format.specs.{declared.class.ClassDef.{ClassDef}, declared.value.Value.{Value}, Bodies.{Counters}, Fits.{fitting_of}, Slots.{Slot}, Growth.{PicksStay}}
use Rattle.rio_format.proofs.{ValueCases.{Each}, AllRead.{AllRead, each_back, each_front}, FittingRead.{is_read}, Picks.{later_leave_picks}}
use Rattle.rio_machine.specs.Rows.{Column, column_slot, columns_fit, columns_of, leaf_numbers_behind, row_fits, stands_in}
use Rattle.rio_machine.specs.declared.entry_fault.EntryFault.{EntryFault}
use Rattle.rio_machine.specs.RowEntries.{branch_values, numbers_behind, row_from}
use Rattle.rio_entry.specs.Growth.{FittingRowStays}
use Rattle.rio_entry.proofs.EntriesStay.{entry_kept}

module _ (classes : List ClassDef) where
  stands_read : (slot : Slot) (v : Value) → stands_in classes slot v ≡ true → AllRead v
  stands_read slot v e =
      let there = some_of ((fitting_of classes v).fits slot []) e in
      is_read classes v slot [] there.0 there.1

  columns_read : (cs : List Column) (row : List Value) (counters : Counters) → columns_fit classes cs row counters ≡ true → Each AllRead row
  columns_read [] [] counters e = tt
  columns_read [] (v ∷ vs) counters e = absurd cc
  columns_read (c ∷ cs) [] counters e = absurd cc
  columns_read (c ∷ cs) (v ∷ vs) counters e =
      let two = and_parts (stands_in classes (column_slot counters c) v) (columns_fit classes cs vs (leaf_numbers_behind c v counters)) e in
      (stands_read (column_slot counters c) v two.0, columns_read cs vs (leaf_numbers_behind c v counters) two.1)

  pub row_read : (branches : List BranchDef) (row : List Value) → row_fits classes branches row ≡ true → Each AllRead row
  row_read branches row e = columns_read (columns_of branches) row [] e

module _ (old new : List ClassDef) (stay : PicksStay old new) where
  pub row_kept : (bs : List BranchDef) (entries : List (List ℕ)) (before : Counters) (row : List Value) → Each AllRead row → row_from old bs entries before ≡ Ok row → row_from new bs entries before ≡ Ok row
  row_kept [] entries before row all e = e
  row_kept (b ∷ bs) [] before row all e = e
  row_kept (b ∷ bs) (entry ∷ entries) before row all e =
      let one = bind_ok (branch_values old b entry before) _ row e in
      let two = bind_ok (row_from old bs entries (numbers_behind b one.0 before)) _ row one.2 in
      let whole : one.0 ++ two.0 ≡ row = ok_same (one.0 ++ two.0) row two.2 in
      let each : Each AllRead (one.0 ++ two.0) = subst (Each AllRead) (sym whole) all in
      let first = entry_kept old new stay b.shape _ one.0 entry (each_front AllRead one.0 two.0 each) one.1 in
      let others = row_kept bs entries (numbers_behind b one.0 before) two.0 (each_back AllRead one.0 two.0 each) two.1 in
      bind_is (branch_values new b entry before) one.0 _ first ∙ bind_is (row_from new bs entries (numbers_behind b one.0 before)) two.0 _ others ∙ two.2
    where
      ok_same : (x y : List Value) → (let r : Result (List Value) EntryFault = Ok x in r) ≡ Ok y → x ≡ y
      ok_same x y h = cc

pub fitting_row_stays : FittingRowStays
fitting_row_stays classes class branches entries row fit e =
    row_kept classes (classes ++ class ∷ []) (later_leave_picks classes (class ∷ [])) branches entries [] row (row_read classes branches row fit) e
