use Rattle.std.proofs.{Common.{◌≡◌, ◌++◌, ◌∙◌, List, None, ap, sym, subst}, lemmas.Result.{err_from_is_err_and}}
use Rattle.std.specs.Prelude.{unwrap_or}
use Rattle.rio_model.specs.Resolving.{resolved_row}
use Rattle.rio_format.specs.declared.class.ClassDef.{ClassDef}
use Rattle.rio_machine.specs.declared.command.Command.TheVariants.{Fill}
use Rattle.rio_step.specs.Refusing.{first_of, refusal_of}
use Rattle.rio_judge.specs.Stops.{StopsAt}
use Rattle.rio_judge.proofs.{TestsInOrder.{same_front, stops_behind, stops_in_front}, TreeTests.{fill_refusal, fill_tests, has_tree_of, key_tests, known_tests, state_tests, stopped, stops_by}}
use Rattle.rio_judge.proofs.tree.fill_work.Goals as goal

pub returns-in_err-key-clause-answers : goal.returns-in_err-key-clause-answers
returns-in_err-key-clause-answers c m same are =
    let p = err_from_is_err_and c.from_residual.result c.from_residual.ensures.1 in
    let stop = c.in_err-key.field-0.0 in
    let keys = key_tests c.args.table.now.heads c.args.trees.now.trees c.args.name.now in
    let later = known_tests c.args.classes.now c.args.row.now ++ state_tests c.args.table.now.heads c.args.trees.now.trees m are c.args.name.now (Fill c.args.name.now c.args.row.now) in
    stopped m (Fill c.args.name.now c.args.row.now) c.from_residual.result p.0 stop p.1 p.2
    (stops_by (refusal_of m (Fill c.args.name.now c.args.row.now) None) (keys ++ later) stop (fill_refusal c.args.table.now.heads c.args.trees.now.trees m are c.args.name.now c.args.classes.now c.args.row.now same)
    (stops_in_front keys later stop c.in_err-key.ensures.told))

pub returns-in_err-row-clause-answers : goal.returns-in_err-row-clause-answers
returns-in_err-row-clause-answers c m same are =
    let p = err_from_is_err_and c.from_residual-in_err-row.result c.from_residual-in_err-row.ensures.1 in
    let stop = c.in_err-row.field-0.0 in
    let keys = key_tests c.args.table.now.heads c.args.trees.now.trees c.args.name.now in
    let known = known_tests c.args.classes.now c.args.row.now in
    let later = state_tests c.args.table.now.heads c.args.trees.now.trees m are c.args.name.now (Fill c.args.name.now c.args.row.now) in
    stopped m (Fill c.args.name.now c.args.row.now) c.from_residual-in_err-row.result p.0 stop p.1 p.2
    (stops_by (refusal_of m (Fill c.args.name.now c.args.row.now) None) (keys ++ (known ++ later)) stop (fill_refusal c.args.table.now.heads c.args.trees.now.trees m are c.args.name.now c.args.classes.now c.args.row.now same)
    (stops_behind keys (known ++ later) stop c.in_ok-key.ensures.told (stops_in_front known later stop c.in_err-row.ensures.told)))

pub returns-clause-answers : goal.returns-clause-answers
returns-clause-answers c m same are =
    let keys = key_tests c.args.table.now.heads c.args.trees.now.trees c.args.name.now in
    let known = known_tests c.args.classes.now c.args.row.now in
    let later = state_tests c.args.table.now.heads c.args.trees.now.trees m are c.args.name.now (Fill c.args.name.now c.args.row.now) in (
      fill_refusal c.args.table.now.heads c.args.trees.now.trees m are c.args.name.now c.args.classes.now c.args.row.now same
          ∙ same_front keys (known ++ later) c.in_ok-key.ensures.told ∙ same_front known later c.in_ok-row.ensures.told,
      (
        c.in_ok-name.ensures,
        sym (ap (λ (cs : List ClassDef). unwrap_or (resolved_row cs c.args.row.now) c.args.row.now) same ∙ ap (λ o. unwrap_or o c.args.row.now) c.in_ok-row.ensures.row),
        has_tree_of c.args.table.now.heads c.args.trees.now.trees m are c.args.name.now c.in_ok-key.key.now c.in_ok-key.ensures.told c.in_ok-key.ensures.key,
      ),
    )
