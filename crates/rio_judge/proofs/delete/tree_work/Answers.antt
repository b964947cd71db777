use Rattle.std.proofs.Common.{◌≡◌, ◌∙◌, Some, Ok, eqb, ap, sym, subst, arith}
use Rattle.std.proofs.lemmas.Bool.{ne_eqb}
use Rattle.rio_num.proofs.Cases.{some_of}
use Rattle.rio_key.specs.declared.head.KeyHead.{KeyHead}
use Rattle.rio_tree_table.specs.Table.{tree_of}
use Rattle.rio_machine.specs.declared.command.Command.TheVariants.{Delete}
use Rattle.rio_judge.specs.{Stops.{GoesByTree}, declared.work.TreeWork.TheVariants.{Delete as Deleting}}
use Rattle.rio_judge.proofs.{DeleteTests.{no_tree_cycle, takes_tree}, ItemsOfState.{names_one_tree}}
use Rattle.rio_judge.proofs.delete.tree_work.Goals as goal

pub returns-then-from-cycle-clause-answers : goal.returns-then-from-cycle-clause-answers
returns-then-from-cycle-clause-answers c m are =
    let t = some_of (tree_of c.args.name.now c.args.trees.now.trees) c.requires.tree in
    let facts = names_one_tree c.args.table.now.heads c.args.trees.now.trees m are c.args.name.now t.0 t.1 in
    let h = c.args.newest.now in
    no_tree_cycle c.args.table.now.heads m c.args.name.now c.args.cycle t.0 facts h c.requires.key (ap (λ n. eqb n c.args.cycle) (sym c.from.ensures) ∙ ne_eqb _ _ c.if-from-cycle.true)

pub returns-clause-answers : goal.returns-clause-answers
returns-clause-answers c m are =
    let t = some_of (tree_of c.args.name.now c.args.trees.now.trees) c.requires.tree in
    let facts = names_one_tree c.args.table.now.heads c.args.trees.now.trees m are c.args.name.now t.0 t.1 in
    let h = c.args.newest.now in
    subst (λ (k : KeyHead). GoesByTree m (Delete c.args.name.now c.args.cycle) (Ok (Deleting k))) (sym c.in_ok-copy.ensures)
    (takes_tree c.args.table.now.heads m c.args.name.now c.args.cycle t.0 facts h c.requires.key (omega (arith, c.from.ensures, c.if-from-cycle.false)))
