use Rattle.std.proofs.{Common.{◌≡◌, ◌++◌, ◌∷◌, [], ◌∙◌, None, Ok, ap, sym, subst}, lemmas.Result.{err_from_is_err_and}}
use Rattle.rio_num.proofs.Cases.{or_none}
use Rattle.rio_key.specs.declared.head.KeyHead.{KeyHead}
use Rattle.rio_machine.specs.declared.command.Command.TheVariants.{Scan}
use Rattle.rio_step.specs.Refusing.{kind_change, refusal_of}
use Rattle.rio_judge.specs.{Stops.{GoesByTree}, declared.work.TreeWork.TheVariants.{Scan as Telling}}
use Rattle.rio_judge.proofs.{TestsInOrder.{same_front, stops_behind, stops_in_front}, TreeFacts.{key_named}, TreeTests.{asked_tests, has_tree_of, key_tests, scan_refusal, stopped, stops_by}}
use Rattle.rio_judge.proofs.tree.scan_work.Goals as goal

pub returns-in_err-key-clause-answers : goal.returns-in_err-key-clause-answers
returns-in_err-key-clause-answers c m same are =
    let p = err_from_is_err_and c.from_residual.result c.from_residual.ensures.1 in
    let stop = c.in_err-key.field-0.0 in
    let scan = Scan c.args.name.now c.args.class.now in
    let keys = key_tests c.args.table.now.heads c.args.trees.now.trees c.args.name.now in
    let later = asked_tests c.args.classes.now c.args.class.now ++ kind_change m scan ∷ [] in
    stopped m scan c.from_residual.result p.0 stop p.1 p.2
    (stops_by (refusal_of m scan None) (keys ++ later) stop (scan_refusal c.args.table.now.heads c.args.trees.now.trees m are c.args.name.now c.args.classes.now c.args.class.now same)
    (stops_in_front keys later stop c.in_err-key.ensures.told))

pub returns-in_err-class-clause-answers : goal.returns-in_err-class-clause-answers
returns-in_err-class-clause-answers c m same are =
    let p = err_from_is_err_and c.from_residual-in_err-class.result c.from_residual-in_err-class.ensures.1 in
    let stop = c.in_err-class.field-0.0 in
    let scan = Scan c.args.name.now c.args.class.now in
    let keys = key_tests c.args.table.now.heads c.args.trees.now.trees c.args.name.now in
    let asked = asked_tests c.args.classes.now c.args.class.now in
    let later = kind_change m scan ∷ [] in
    stopped m scan c.from_residual-in_err-class.result p.0 stop p.1 p.2
    (stops_by (refusal_of m scan None) (keys ++ (asked ++ later)) stop (scan_refusal c.args.table.now.heads c.args.trees.now.trees m are c.args.name.now c.args.classes.now c.args.class.now same)
    (stops_behind keys (asked ++ later) stop c.in_ok-key.ensures.told (stops_in_front asked later stop c.in_err-class.ensures.told)))

pub returns-clause-answers : goal.returns-clause-answers
returns-clause-answers c m same are =
    let h = c.in_ok-key.key.now in
    let scan = Scan c.args.name.now c.args.class.now in
    let keys = key_tests c.args.table.now.heads c.args.trees.now.trees c.args.name.now in
    let asked = asked_tests c.args.classes.now c.args.class.now in
    let later = kind_change m scan ∷ [] in
    subst (λ (k : KeyHead). GoesByTree m scan (Ok (Telling k c.in_ok-class.class))) (sym c.in_ok-head.ensures) (
      scan_refusal c.args.table.now.heads c.args.trees.now.trees m are c.args.name.now c.args.classes.now c.args.class.now same
          ∙ same_front keys (asked ++ later) c.in_ok-key.ensures.told ∙ same_front asked later c.in_ok-class.ensures.told ∙ or_none (kind_change m scan),
      (key_named c.args.table.now.heads c.args.name.now h c.in_ok-key.ensures.key, c.in_ok-class.ensures.class, has_tree_of c.args.table.now.heads c.args.trees.now.trees m are c.args.name.now h c.in_ok-key.ensures.told c.in_ok-key.ensures.key),
    )
