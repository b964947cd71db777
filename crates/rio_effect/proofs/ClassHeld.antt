-- The record of a class list raises what a file holds by no more than the cost of the class command.
use Rattle.std.proofs.Common.{◌≡◌, ◌+◌, ◌==◌, length, Option, ap, arith}
use Rattle.std.proofs.lemmas.Bool.{eqb-true}
use Rattle.std.specs.{Prelude.{if◌then◌else◌, is_some}}
use Rattle.rio_machine.specs.{declared.command.Command.TheVariants.{Class}, declared.refusal.Refusal.{Refusal}}
use Rattle.rio_state.specs.{Closing.{kept_with}, KeyedRecords.{keyed_records}}
use Rattle.rio_state.proofs.{Members.{none_from}}
use Rattle.rio_step.specs.{Costs.{accepted_cost, cost_of, info_size}, Refusing.{with_class}}
use Rattle.rio_effect.specs.{ClassRecord.{list_record, record_of_class}, Classes.{ClassHeldGrows, list_in, with_class_record}}
use Rattle.rio_effect.proofs.{ClassCommand.{can, class_takes_effect}, Held.{chain_low}, ListPut.{list_long, new_list, weight_one}, TreeNeeds.{held_is}, OldLists.{place_apart}}

pub class_held_grows : ClassHeldGrows
unfolding cost_of list_record
class_held_grows pending file links m place datime class low soon chain is stated e at fit =
    let list = can links m place datime class low soon is stated e in
    let long = list_long links place datime (with_class m.classes class) list in
    let new = new_list links place datime (with_class m.classes class) list in
    let bytes = record_of_class (list_in links) m place datime class in
    let free = none_from (λ s. s.head.seek == place) (keyed_records links) (λ s i same. place_apart file place (length bytes) s links chain at i (eqb-true s.head.seek place same)) in
    let made = (class_takes_effect file links m place datime class low soon free chain is stated e).kept pending fit in
    let end = chain_low file links place bytes chain (omega (arith, long)) new.aligned at in
    let kept = weight_one links (kept_with pending links) (kept_with pending (with_class_record links m place datime class)) made in
    let cost : cost_of m (Class class) ≡ 100 + info_size (with_class m.classes class) = ap (λ (o : Option Refusal). if is_some o then 0 else accepted_cost m (Class class)) e in
    omega (arith, long, end, kept, cost, held_is pending links, held_is pending (with_class_record links m place datime class))
