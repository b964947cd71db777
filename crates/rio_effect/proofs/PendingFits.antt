-- The pending rows of a state fit the branches of their trees in the file.
use Rattle.std.proofs.Common.{◌≡◌, ◌∙◌, List, [], true, not, ◌&&◌, Option, Some, None, refl, sym, ap}
use Rattle.std.proofs.{lemmas.Bool.{and_parts}, lemmas.Option.{same_Some}, lemmas.Slice.Eq.{bytes_eq-Decides}}
use Rattle.std.specs.{FinMap.{get}, List.{list_all, list_any}, Option.{option_map_or}}
use Rattle.rio_leaf.specs.declared.branch.BranchDef.{BranchDef}
use Rattle.rio_format.specs.declared.class.ClassDef.{ClassDef}
use Rattle.rio_machine.specs.{Limits.{has_long_entry, has_long_list, is_too_deep}, Rows.{row_fits}, State.{Row, Tree}}
use Rattle.rio_tree.specs.{WrittenLaws.{stated_defs}, declared.head.TreeHead.{TreeHead}}
use Rattle.rio_state.specs.{Contents.{file_classes}, KeyedRecords.{info_key, is_tree_record, keyed_records, top_keys, tree_records}, Trees.{header_in}}
use Rattle.rio_state.proofs.{Members.{filter_in, in_contained}, Removal.{all_weaker}}
use Rattle.rio_step.specs.{Runs.{saved_of}, Storable.{is_stored_row}}
use Rattle.rio_effect.specs.{TreeMade.{PendingRowsFit}}
use Rattle.rio_effect.proofs.{FillNeeds.{header_of_tree}, HeaderNames.{only_key}}

stored_fits : (classes : List ClassDef) (branches : List BranchDef) (row : Row) → is_stored_row classes branches row ≡ true → row_fits classes branches row ≡ true
stored_fits classes branches row e =
    let last = and_parts (row_fits classes branches row && not (has_long_entry classes branches row) && not (list_any is_too_deep row)) (not (list_any has_long_list row)) e in
    let third = and_parts (row_fits classes branches row && not (has_long_entry classes branches row)) (not (list_any is_too_deep row)) last.0 in
    (and_parts (row_fits classes branches row) (not (has_long_entry classes branches row)) third.0).0

pub pending_rows_fit : PendingRowsFit
pending_rows_fit file links m chain items fillable is r head c header = by (get m.trees r.head.name) refl
  where
    by : (o : Option Tree) → get m.trees r.head.name ≡ o → list_all (row_fits (file_classes (info_key (keyed_records links))).declared (stated_defs head.branches)) (option_map_or (λ t. t.pending) o []) ≡ true
    by None e = refl
    by (Some t) e =
        let h = header_of_tree file links m r.head.name t chain is items e in
        let among = filter_in (is_tree_record (top_keys (keyed_records links))) r (top_keys (keyed_records links)) (in_contained r (tree_records (top_keys (keyed_records links))) c) in
        let own = (bytes_eq-Decides r.head.name h.under.r.head.name).1 (sym h.under.name_is) in
        let one = only_key file links (saved_of m) h.under.r h.under.held.head h.has is r among.0 own in
        let same : head ≡ h.under.held.head = same_Some head h.under.held.head (sym header ∙ ap (header_in (file_classes (info_key (keyed_records links)))) (sym one) ∙ h.under.held.header) in
        let defs : stated_defs head.branches ≡ t.branches = ap (λ (x : TreeHead). stated_defs x.branches) same ∙ h.defs in
        let classes = h.classes in
        (λ i. list_all (row_fits (classes i) (defs i)) t.pending)
        ∙ all_weaker (is_stored_row m.classes t.branches) (row_fits m.classes t.branches) (stored_fits m.classes t.branches) t.pending (fillable.trees r.head.name t e).rows
