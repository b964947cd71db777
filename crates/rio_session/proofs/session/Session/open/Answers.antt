use Rattle.std.proofs.Common.{inr, ◌∙◌}
use Rattle.rio_session.proofs.OpenAnswers.{reads_quiet, reads_unclosed, spares_then}
use Rattle.rio_session.proofs.OpenMoments.{then_time}
use Rattle.rio_session.proofs.session.Session.open.Goals as goal

pub returns-in_err-is_unborn-clause-unclosed : goal.returns-in_err-is_unborn-clause-unclosed
returns-in_err-is_unborn-clause-unclosed g c file quiet holds =
    reads_unclosed file (g.H.Host.view c.args.host.now) (g.H.Host.view c.is_unborn.new.host) (g.met.H.Host.lawful c.is_unborn.new.host) quiet holds c.is_unborn.ensures.calls

pub returns-then-branch-clause-any_moment : goal.returns-then-branch-clause-any_moment
returns-then-branch-clause-any_moment g c file text m quiet holds said reads =
    let law = g.met.H.Host.lawful in
    let calls = c.is_unborn.ensures.calls in
    then_time file text m (g.H.Host.view c.args.host.now) (law c.args.host.now) quiet holds said reads _ _ calls
    (c.open_new.ensures.any_moment file text m (reads_quiet (g.H.Host.view c.args.host.now) (g.H.Host.view c.is_unborn.new.host) (law c.is_unborn.new.host) quiet calls) (calls.holds ∙ holds) (calls.said ∙ said) reads)

pub returns-then-branch-clause-unclosed : goal.returns-then-branch-clause-unclosed
returns-then-branch-clause-unclosed g c file quiet holds image said left =
    let calls = c.is_unborn.ensures.calls in
    inr (c.open_new.ensures.unclosed file (reads_quiet (g.H.Host.view c.args.host.now) (g.H.Host.view c.is_unborn.new.host) (g.met.H.Host.lawful c.is_unborn.new.host) quiet calls) (calls.holds ∙ holds) image said left)

pub returns-else-branch-clause-any_moment : goal.returns-else-branch-clause-any_moment
returns-else-branch-clause-any_moment g c file text m quiet holds said reads =
    let law = g.met.H.Host.lawful in
    let calls = c.is_unborn.ensures.calls in
    then_time file text m (g.H.Host.view c.args.host.now) (law c.args.host.now) quiet holds said reads _ _ calls
    (c.open_made.ensures.any_moment file text m (reads_quiet (g.H.Host.view c.args.host.now) (g.H.Host.view c.is_unborn.new.host) (law c.is_unborn.new.host) quiet calls) (calls.holds ∙ holds) (calls.said ∙ said) reads)

pub returns-else-branch-clause-unclosed : goal.returns-else-branch-clause-unclosed
returns-else-branch-clause-unclosed g c file quiet holds =
    let calls = c.is_unborn.ensures.calls in
    c.open_made.ensures.unclosed file (reads_quiet (g.H.Host.view c.args.host.now) (g.H.Host.view c.is_unborn.new.host) (g.met.H.Host.lawful c.is_unborn.new.host) quiet calls) (calls.holds ∙ holds)

pub returns-else-branch-clause-spared : goal.returns-else-branch-clause-spared
returns-else-branch-clause-spared g c file holds =
    spares_then file (g.H.Host.view c.args.host.now) (g.H.Host.view c.is_unborn.new.host) (g.H.Host.view c.open_made.new.host) (g.met.H.Host.lawful c.is_unborn.new.host) c.is_unborn.ensures.calls
    (c.open_made.ensures.spared file (c.is_unborn.ensures.calls.holds ∙ holds))
