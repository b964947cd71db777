use Rattle.std.proofs.Common.{◌∙◌}
use Rattle.rio_session.proofs.OpenMadeMoments.{mark_time, sync_none}
use Rattle.rio_session.proofs.made_file.mark_open.Goals as goal

pub returns-in_err-sync-clause-any_moment : goal.returns-in_err-sync-clause-any_moment
returns-in_err-sync-clause-any_moment g c file holds =
    sync_none _ _ _ (g.met.H.Host.lawful c.args.host.now) c.sync.ensures.disk

pub returns-clause-any_moment : goal.returns-clause-any_moment
returns-clause-any_moment g c file holds =
    mark_time _ _ _ file (g.met.H.Host.lawful c.args.host.now) c.sync.ensures.disk (c.put_word.ensures.any_moment file (c.sync.ensures.holds ∙ holds))
