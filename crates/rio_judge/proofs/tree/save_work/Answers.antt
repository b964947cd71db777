use Rattle.std.proofs.{Common.{◌≡◌, ◌∙◌, None, Ok, ap, sym, subst}, lemmas.Result.{err_from_is_err_and}}
use Rattle.rio_key.specs.declared.head.KeyHead.{KeyHead}
use Rattle.rio_machine.specs.declared.command.Command.TheVariants.{Save}
use Rattle.rio_step.specs.Refusing.{refusal_of}
use Rattle.rio_judge.specs.{Stops.{GoesByTree}, declared.work.TreeWork.TheVariants.{Save as Saving}}
use Rattle.rio_judge.proofs.{TreeFacts.{key_named}, TreeTests.{has_tree_of, last_tests, save_refusal, save_stops, stopped, stops_by}}
use Rattle.rio_judge.proofs.tree.save_work.Goals as goal

pub returns-in_err-key-clause-answers : goal.returns-in_err-key-clause-answers
returns-in_err-key-clause-answers c m are =
    let p = err_from_is_err_and c.from_residual.result c.from_residual.ensures.1 in
    let stop = c.in_err-key.field-0.0 in
    stopped m (Save c.args.name.now) c.from_residual.result p.0 stop p.1 p.2 (save_stops c.args.table.now.heads c.args.trees.now.trees m are c.args.name.now stop c.in_err-key.ensures.told)

pub returns-in_err-check_cycle-clause-answers : goal.returns-in_err-check_cycle-clause-answers
returns-in_err-check_cycle-clause-answers c m are =
    let p = err_from_is_err_and c.from_residual-in_err-check_cycle.result c.from_residual-in_err-check_cycle.ensures.1 in
    let stop = c.in_err-check_cycle.field-0.0 in
    stopped m (Save c.args.name.now) c.from_residual-in_err-check_cycle.result p.0 stop p.1 p.2
    (stops_by (refusal_of m (Save c.args.name.now) None) (last_tests c.in_ok-key.key.now.cycle) stop
    (save_refusal c.args.table.now.heads c.args.trees.now.trees m are c.args.name.now c.in_ok-key.key.now c.in_ok-key.ensures.told c.in_ok-key.ensures.key) c.in_err-check_cycle.ensures)

pub returns-clause-answers : goal.returns-clause-answers
returns-clause-answers c m are =
    let h = c.in_ok-key.key.now in
    subst (λ (k : KeyHead). GoesByTree m (Save c.args.name.now) (Ok (Saving k))) (sym c.in_ok-head.ensures) (
      save_refusal c.args.table.now.heads c.args.trees.now.trees m are c.args.name.now h c.in_ok-key.ensures.told c.in_ok-key.ensures.key ∙ c.in_ok-check_cycle.ensures,
      (key_named c.args.table.now.heads c.args.name.now h c.in_ok-key.ensures.key, has_tree_of c.args.table.now.heads c.args.trees.now.trees m are c.args.name.now h c.in_ok-key.ensures.told c.in_ok-key.ensures.key),
    )
