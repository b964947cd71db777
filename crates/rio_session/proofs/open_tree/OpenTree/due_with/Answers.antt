use Rattle.std.proofs.Common.{◌∙◌}
use Rattle.rio_session.proofs.Measured.{due_some}
use Rattle.rio_session.proofs.open_tree.OpenTree.due_with.Goals as goal

pub returns-clause-exact : goal.returns-clause-exact
returns-clause-exact c = c.due_by.ensures.exact ∙ due_some c.args.self.now c.args.row.now c.args.flags c.requires.flags c.requires.entries
