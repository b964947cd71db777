use Rattle.std.proofs.Common.{sym, rules}
use Rattle.rio_judge.proofs.DeleteTests.{no_name}
use Rattle.rio_judge.proofs.delete.delete_work.Goals as goal

pub returns-in_default-clause-answers : goal.returns-in_default-clause-answers
returns-in_default-clause-answers c m are =
    no_name c.args.table.now.heads c.args.trees.now.trees m c.args.name.now are c.args.cycle (sym c.in_default.ensures)

pub returns-in_ok-work-2-clause-sound : goal.returns-in_ok-work-2-clause-sound
returns-in_ok-work-2-clause-sound c classes = (c.in_ok-work-2.ensures.sound classes, search rules)
