use Rattle.std.proofs.Common.{◌≡◌, Some, Ok, refl, sym, subst}
use Rattle.rio_dir.specs.Table.{head_of}
use Rattle.rio_key.specs.declared.head.KeyHead.{KeyHead}
use Rattle.rio_machine.specs.declared.command.Command.TheVariants.{Delete}
use Rattle.rio_judge.specs.{Stops.{GoesByState}, declared.work.Work.TheVariants.{Delete as Deleting}}
use Rattle.rio_judge.proofs.{DeleteTests.{no_cycle, takes_cycle}, ItemsOfState.{names_objects}}
use Rattle.rio_judge.proofs.delete.object_work.Goals as goal

pub returns-in_ok-copy-in-Some-clause-answers : goal.returns-in_ok-copy-in-Some-clause-answers
returns-in_ok-copy-in-Some-clause-answers c m are =
    let facts = names_objects c.args.table.now.heads c.args.trees.now.trees m are c.args.name.now c.requires.no_tree in
    subst (λ (k : KeyHead). GoesByState m (Delete c.args.name.now c.args.cycle) (Ok (Deleting k))) (sym c.in_ok-copy-in-Some.ensures)
    (takes_cycle c.args.table.now.heads m c.args.name.now c.args.cycle facts c.args.newest.now c.in-Some.head.now c.requires.key c.in-Some.ensures.some)

pub returns-in_ok-copy-in-Some-clause-sound : goal.returns-in_ok-copy-in-Some-clause-sound
returns-in_ok-copy-in-Some-clause-sound c classes =
    subst (λ (k : KeyHead). head_of c.args.name.now (Some c.args.cycle) c.args.table.now.heads ≡ Some k) (sym c.in_ok-copy-in-Some.ensures) c.in-Some.ensures.some

pub returns-in-None-clause-answers : goal.returns-in-None-clause-answers
returns-in-None-clause-answers c m are =
    let facts = names_objects c.args.table.now.heads c.args.trees.now.trees m are c.args.name.now c.requires.no_tree in
    no_cycle c.args.table.now.heads m c.args.name.now c.args.cycle facts c.args.newest.now c.requires.key (c.in-None.ensures.none refl are.ordered)
