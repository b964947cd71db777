use Rattle.std.proofs.Common.{◌≡◌, ◌∙◌, Ok, codes, sym, rules}
use Rattle.rio_format.specs.{ClassList.{class_list_at}, TreeClasses.{written_classes}}
use Rattle.rio_state.specs.{Contents.{described_in}, KeyedRecords.{KeyedRecord}}
use Rattle.rio_recover.proofs.Declared.{is_list, list_cycle, list_other}
use Rattle.rio_recover.proofs.classes.listed_classes.Goals.{in_default-via-in-Some+else-has_cycle_of, in_default-via-in_default}
use Rattle.rio_recover.proofs.classes.listed_classes.Goals as goal

pub returns-in-Some : goal.returns-in-Some
returns-in-Some c =
    let head = c.args.head.now in
    let r : KeyedRecord = record { head = head; bytes = c.args.bytes.now } in
    let told = rw c.in-Some.is at c.in_ok-registry.ensures in
    let class : head.class ≡ codes "TList" = search rules in
    let described : described_in r ≡ Ok c.in-Ok.classes = (λ i. class_list_at (sym c.from.ensures i) (sym c.data_of.ensures i)) ∙ c.in-Ok.ensures.exact in
    let list : described_in r ≡ Ok (written_classes c.in-Some.registry) = described ∙ (λ i. Ok (told.0 i)) in
    is_list r (record { described = c.in-Ok.classes; registry = c.in-Some.registry }) described (record { class = class; list = list; declared = told.1; cycle = c.has_cycle_of.ensures.0 c.if-has_cycle_of.true })

pub returns-in_default : goal.returns-in_default
returns-in_default c =
    let head = c.args.head.now in
    let r : KeyedRecord = record { head = head; bytes = c.args.bytes.now } in
    let described : described_in r ≡ Ok c.in-Ok.classes = (λ i. class_list_at (sym c.from.ensures i) (sym c.data_of.ensures i)) ∙ c.in-Ok.ensures.exact in
    elim c.in_default.branch [
      | in_default-via-in-Some+else-has_cycle_of w ↦
          let told = rw w.in-Some.is at c.in_ok-registry.ensures in
          list_cycle r _ c.in-Ok.classes w.in-Some.registry w.has_cycle_of.result described told.0 w.has_cycle_of.ensures w.if-has_cycle_of.false
      | in_default-via-in_default w ↦
          let told = rw w.in_default.is at c.in_ok-registry.ensures in
          list_other r _ c.in-Ok.classes described told
    ]
