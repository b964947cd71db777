use Rattle.std.proofs.Common.{ap, nat_lt, ◌∙◌}
use Rattle.rio_session.specs.Fills.{FilledTree}
use Rattle.rio_session.proofs.Measured.{due_none}
use Rattle.rio_session.proofs.open_tree.OpenTree.due.Goals as goal

pub returns-clause-exact : goal.returns-clause-exact
returns-clause-exact c =
    let pending = c.pending.ensures ∙ ap (λ (t : FilledTree). t.fill.pending) c.self.view_is in
    c.due_by.ensures.exact ∙ due_none c.args.self.now.name c.args.self.now.fill (nat_lt 0 c.pending.result) (ap (nat_lt 0) pending)
