use Rattle.std.proofs.{Common.{◌≡◌, None}, lemmas.Result.{err_from_is_err_and}}
use Rattle.rio_tree_table.specs.Table.{tree_of}
use Rattle.rio_judge.proofs.{PutLaws.{can_be_stored, put_goes, stopped_by_items, stopped_by_object}, PutTests.{no_tree_named}}
use Rattle.rio_judge.proofs.put.put_work.Goals.{In_ok-check_items}
use Rattle.rio_judge.proofs.put.put_work.Goals as goal

pub returns-in_err-object-clause-answers : goal.returns-in_err-object-clause-answers
returns-in_err-object-clause-answers c =
    let p = err_from_is_err_and c.from_residual.result c.from_residual.ensures.1 in
    stopped_by_object c.args.classes.now c.args.table.now.heads c.args.trees.now.trees c.args.name.now c.args.value.now c.from_residual.result p.0 c.in_err-object.field-0.0 p.1 p.2
    c.in_err-object.ensures.told

pub returns-in_err-check_items-clause-answers : goal.returns-in_err-check_items-clause-answers
returns-in_err-check_items-clause-answers c =
    let p = err_from_is_err_and c.from_residual-in_err-check_items.result c.from_residual-in_err-check_items.ensures.1 in
    stopped_by_items c.args.classes.now c.args.table.now.heads c.args.trees.now.trees c.args.name.now c.args.value.now c.from_residual-in_err-check_items.result p.0 c.in_err-check_items.field-0.0 p.1 p.2
    c.in_ok-object.ensures.told c.in_err-check_items.ensures

-- no tree has the name
apart : (c : In_ok-check_items) → tree_of c.args.name.now c.args.trees.now.trees ≡ None
apart c = no_tree_named c.args.classes.now c.args.table.now.heads c.args.trees.now.trees c.args.name.now c.args.value.now 0 c.in_ok-object.ensures.told

pub returns-clause-answers : goal.returns-clause-answers
returns-clause-answers c =
    put_goes c.args.classes.now c.args.table.now.heads c.args.trees.now.trees c.args.name.now c.args.value.now c.in_ok-object.object c.in_ok-object.ensures.named (apart c)
    c.in_ok-object.ensures.can c.in_ok-object.ensures.told c.in_ok-check_items.ensures

pub returns-clause-sound : goal.returns-clause-sound
returns-clause-sound c =
    (c.in_ok-object.ensures.named, can_be_stored c.args.classes.now c.args.table.now.heads c.args.value.now c.in_ok-object.object c.in_ok-object.ensures.can c.in_ok-check_items.ensures)

pub returns-clause-no_tree : goal.returns-clause-no_tree
returns-clause-no_tree c = apart c
