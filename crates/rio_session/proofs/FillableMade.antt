-- The trees of the state as which a file reads can be filled.
use Rattle.std.proofs.Common.{◌≡◌, ◌∙◌, ℕ, List, length, Bool, true, false, not, ◌&&◌, ◌==◌, Option, Some, None, refl, sym, ap, subst}
use Rattle.std.proofs.lemmas.{Bool.{and_parts, not-true}}
use Rattle.std.specs.{Prelude.{MatchBool}, Cmp.{eq_by_cmp_equiv}, FinMap.{contains_key, contains_key-keys, get, keys}, List.{list_any}, Ordering.{eq_by_cmp}, Str.{bytes_eq}}
use Rattle.std.proofs.lemmas.Slice.Eq.{bytes_eq-Decides}
use Rattle.rio_num.specs.Word.{is_item_text}
use Rattle.rio_num.proofs.Cases.{some_of}
use Rattle.rio_format.specs.declared.class.ClassDef.{ClassDef}
use Rattle.rio_leaf.specs.{Stated.{are_stated_branches}, declared.branch.BranchDef.{BranchDef}}
use Rattle.rio_dir.specs.Unborn.{is_unborn}
use Rattle.rio_model.specs.{Declaring.{shape_lacks_class}, StateClasses.{StateClasses}}
use Rattle.rio_machine.specs.{Limits.{has_many_branches}, State.{NameAndCycle, State, Tree, empty_state, item_order, names_object, names_tree}}
use Rattle.rio_machine.proofs.OrderLaws.{items_total}
use Rattle.rio_tree.specs.WrittenLaws.{stated_defs}
use Rattle.rio_state.specs.{Contents.{HasStateClasses, file_classes, state_classes}, KeyedRecords.{KeyedRecord, has_info_name, info_key, is_in_directory, is_top_key, is_tree_record, keyed_records, top_keys}}
use Rattle.rio_state.specs.{Reads.{AreRecordsOf, ReadsAsMade, ReadsAsState, is_named_key}, Trees.{can_be_branches}}
use Rattle.rio_state.proofs.{KeyRecords.{holder, item_is, tree_apart}, Members.{all_at, any_from, filter_in, passing}}
use Rattle.rio_step.specs.{Laws.{AreNamesApart}, Refusing.{is_list_name}, Storable.{IsFillable, IsFillableTree, IsTreeName}}
use Rattle.rio_step.proofs.FillableLaws.{stays_fillable}
use Rattle.rio_session.proofs.{HeadersRead.{header_read}, TreesRead.{header_of_tree}}

module _ (records : List KeyedRecord) (m : State) (is : AreRecordsOf records m) where
  abbrev tops : List KeyedRecord
  tops = top_keys records

  -- ---- classes

  listed_declared : (info : Option KeyedRecord) → HasStateClasses info → StateClasses (state_classes info)
  listed_declared None listed = tt
  listed_declared (Some info) listed = listed.declared

  declared : StateClasses m.classes
  declared = subst StateClasses (sym is.stand.classes) (listed_declared (info_key records) is.stand.listed)

  -- ---- names

  tree_name : (name : List ℕ) (t : Tree) → get m.trees name ≡ Some t → IsTreeName name
  tree_name name t there =
      let h = header_of_tree records m is name t there in
      let among = (filter_in (is_tree_record tops) h.r tops h.among).0 in
      let top : is_top_key h.r.head ≡ true = (filter_in (λ s. is_top_key s.head) h.r records among).1 in
      let named : is_named_key h.r.head ≡ true = all_at (λ s. is_named_key s.head) h.r tops is.stand.named among in
      record {
        item = ap is_item_text (sym h.named) ∙ (and_parts (is_item_text h.r.head.name) (length h.r.head.title == 0) named).0;
        free = ap is_list_name (sym h.named) ∙ not-true (has_info_name h.r.head) (and_parts (is_in_directory h.r.head) (not (has_info_name h.r.head)) top).1;
      }

  -- an item under a key is there
  item_there : (item : NameAndCycle) → list_any (eq_by_cmp item_order item) (keys m.objects) ≡ true → contains_key m.objects item ≡ true
  item_there item e = contains_key-keys m.objects item ∙ e

  both_named : (name : List ℕ) → names_object m name ≡ true → names_tree m name ≡ true → ⊥
  both_named name object tree =
      let key = passing (λ (item : NameAndCycle). bytes_eq item.0 name) (keys m.objects) object in
      let found = item_there key.x (any_from (eq_by_cmp item_order key.x) key.x (keys m.objects) key.among ((eq_by_cmp_equiv items_total).refl key.x)) in
      let v = some_of (get m.objects key.x) found in
      let o = holder records m is key.x v.0 v.1 in
      let t = some_of (get m.trees name) tree in
      let h = header_of_tree records m is name t.0 t.1 in
      tree_apart records m is h.r o.r h.among o.among (h.named ∙ sym ((bytes_eq-Decides key.x.0 name).0 key.passes) ∙ sym (item_is key.x o.r o.has).0)

  apart : AreNamesApart m
  apart name object = by (names_tree m name) refl
    where
      by : (b : Bool) → names_tree m name ≡ b → b ≡ false
      by false e = refl
      by true e = absurd (both_named name object e)

  -- ---- trees

  none_of : (b : Bool) → not b ≡ true → b ≡ false
  none_of true e = absurd cc
  none_of false e = refl

  tree_fillable : (name : List ℕ) (t : Tree) → get m.trees name ≡ Some t → IsFillableTree m.classes t
  tree_fillable name t there =
      let h = header_of_tree records m is name t there in
      let read = header_read (file_classes (info_key records)) h.r h.tree.head h.tree.header in
      let defs = stated_defs h.tree.head.branches in
      let can : can_be_branches m.classes defs ≡ true = ap (λ (cs : List ClassDef). can_be_branches cs defs) is.stand.classes ∙ read.branches in
      let one = and_parts (are_stated_branches defs && not (has_many_branches defs)) (not (list_any (λ b. shape_lacks_class m.classes b.shape) defs)) can in
      let two = and_parts (are_stated_branches defs) (not (has_many_branches defs)) one.0 in
      subst (IsFillableTree m.classes) h.tree.tree (record {
        stated = two.0;
        few = none_of (has_many_branches defs) two.1;
        known = none_of (list_any (λ b. shape_lacks_class m.classes b.shape) defs) one.1;
        rows = refl;
      })

  pub fillable_of : IsFillable m
  fillable_of = record { classes = declared; apart = apart; tree_names = tree_name; trees = tree_fillable }

pub fillable_made : (file : List ℕ) (m : State) → ReadsAsState file m → IsFillable m
fillable_made file m reads = by (is_unborn file) reads
  where
    by : (b : Bool) → MatchBool b (m ≡ empty_state) (ReadsAsMade file m) → IsFillable m
    by true same = subst IsFillable (sym same) stays_fillable.empty
    by false made = fillable_of (keyed_records made.links) m made.records
