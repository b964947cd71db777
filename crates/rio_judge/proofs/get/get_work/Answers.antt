use Rattle.std.proofs.Common.{sym, rules}
use Rattle.rio_judge.proofs.GetTests.{no_name}
use Rattle.rio_judge.proofs.get.get_work.Goals as goal

pub returns-in_default-clause-answers : goal.returns-in_default-clause-answers
returns-in_default-clause-answers c m are =
    no_name c.args.table.now.heads c.args.trees.now.trees m c.args.name.now c.args.version are c.args.cycle (sym c.in_default.ensures)

pub returns-then-is_some-clause-answers : goal.returns-then-is_some-clause-answers
returns-then-is_some-clause-answers c m are =
    c.tree_stop.ensures c.args.table.now.heads c.args.trees.now.trees m c.args.name.now c.args.version are (sym c.in-Some.ensures) (search rules)
