use Rattle.std.proofs.Common.{ℕ, List, Ok, Err, IfOk, Result, rules, ap, ◌∙◌, sym, subst}
use Rattle.rio_machine.specs.{declared.command.Command.{Command, TheVariants.{Class, Batch, Get}}, declared.refusal.Refusal.TheVariants.{BadLine}}
use Rattle.rio_format.specs.declared.class.ClassDef.{ClassDef}
use Rattle.rio_judge.specs.{Judging.{WorkCanBeDone}, Stops.{GoesByItems, as_item}, Trees.{AnyWorkCanBeDone}, declared.stop.Stop.{Stop, TheVariants.{Refused}}, declared.work.{AnyWork.{AnyWork, TheVariants.{Item}}, Work.TheVariants.{Ls as Listing}}}
use Rattle.rio_judge.proofs.{AllWork.{goes_with_items, no_trees, sound_with_items}, GetTests.{bad_line_refused, list_accepted}}
use Rattle.rio_judge.proofs.judging.work_of.Goals as goal

pub returns-in-Bad-clause-answers : goal.returns-in-Bad-clause-answers
returns-in-Bad-clause-answers c m same are =
    subst (λ (command : Command). GoesByItems m command (Err (Refused (BadLine c.in-Bad.line c.in-Bad.place)))) (sym c.in-Bad.is)
    (bad_line_refused m c.in-Bad.line c.in-Bad.place)

pub returns-in-Ls-clause-answers : goal.returns-in-Ls-clause-answers
returns-in-Ls-clause-answers c m same are =
    subst (λ (command : Command). GoesByItems m command (Ok (Item Listing))) (sym c.in-Ls.is) (list_accepted m, tt)

pub returns-in-Class-clause-answers : goal.returns-in-Class-clause-answers
returns-in-Class-clause-answers c m same are =
    let class = c.in-Class.class in
    subst (λ (command : Command). GoesByItems m command c.as_item.result) (sym c.in-Class.is)
    (subst (λ (r : Result AnyWork Stop). GoesByItems m (Class class) r) (sym c.as_item.ensures)
    (goes_with_items m (Class class) c.class_work.result (c.class_work.ensures.answers m same)))

pub returns-in-Class-clause-sound : goal.returns-in-Class-clause-sound
returns-in-Class-clause-sound c =
    let class = c.in-Class.class in
    subst (λ (command : Command). IfOk c.as_item.result (AnyWorkCanBeDone c.args.registry.now c.args.table.now.heads c.args.trees.now.trees command)) (sym c.in-Class.is)
    (subst (λ (r : Result AnyWork Stop). IfOk r (AnyWorkCanBeDone c.args.registry.now c.args.table.now.heads c.args.trees.now.trees (Class class))) (sym c.as_item.ensures)
    (sound_with_items c.args.registry.now c.args.table.now.heads c.args.trees.now.trees (Class class) c.class_work.result (c.class_work.ensures.sound c.args.table.now.heads) (no_trees c.class_work.result)))

pub returns-in-Batch-clause-answers : goal.returns-in-Batch-clause-answers
returns-in-Batch-clause-answers c m same are =
    let named = ap Batch c.as_slice-in-Batch.ensures ∙ sym c.in-Batch.is in
    let goes = c.batch_work.ensures.answers m (same ∙ sym c.classes-classes-in-Batch.ensures) are in
    subst (λ (r : Result AnyWork Stop). GoesByItems m c.args.command.now r) (sym c.as_item-in-Batch.ensures)
    (subst (λ (command : Command). GoesByItems m command (as_item c.batch_work.result)) named (goes_with_items m (Batch c.as_slice-in-Batch.result.now) c.batch_work.result goes))

pub returns-in-Batch-clause-sound : goal.returns-in-Batch-clause-sound
returns-in-Batch-clause-sound c =
    let heads = c.args.table.now.heads in
    let trees = c.args.trees.now.trees in
    let batch = Batch c.as_slice-in-Batch.result.now in
    let named = ap Batch c.as_slice-in-Batch.ensures ∙ sym c.in-Batch.is in
    let sound = subst (λ (cs : List ClassDef). IfOk c.batch_work.result (WorkCanBeDone cs heads batch)) c.classes-classes-in-Batch.ensures c.batch_work.ensures.sound in
    let all = sound_with_items c.args.registry.now heads trees batch c.batch_work.result sound c.batch_work.ensures.no_tree in
    subst (λ (r : Result AnyWork Stop). IfOk r (AnyWorkCanBeDone c.args.registry.now heads trees c.args.command.now)) (sym c.as_item-in-Batch.ensures)
    (subst (λ (command : Command). IfOk (as_item c.batch_work.result) (AnyWorkCanBeDone c.args.registry.now heads trees command)) named all)

pub returns-in-Delete-clause-sound : goal.returns-in-Delete-clause-sound
returns-in-Delete-clause-sound c =
    let sound = c.delete_work.ensures.sound c.args.registry.now in
    search rules

pub returns-in-Get-clause-sound : goal.returns-in-Get-clause-sound
returns-in-Get-clause-sound c =
    let get = λ (name : List ℕ). Get name c.in-Get.cycle c.in-Get.version in
    let all = sound_with_items c.args.registry.now c.args.table.now.heads c.args.trees.now.trees (get c.as_slice-in-Get.result.now) c.get_work.result (c.get_work.ensures.sound c.args.registry.now) c.get_work.ensures.no_tree in
    subst (λ (r : Result AnyWork Stop). IfOk r (AnyWorkCanBeDone c.args.registry.now c.args.table.now.heads c.args.trees.now.trees c.args.command.now)) (sym c.as_item-in-Get.ensures)
    (subst (λ (command : Command). IfOk (as_item c.get_work.result) (AnyWorkCanBeDone c.args.registry.now c.args.table.now.heads c.args.trees.now.trees command)) (ap get c.as_slice-in-Get.ensures ∙ sym c.in-Get.is) all)
