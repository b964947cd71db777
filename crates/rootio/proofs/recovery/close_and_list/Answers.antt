use Rattle.std.proofs.lemmas.Result.{err_from_is_err_and}
use Rattle.rio_dir.specs.Listing.{key_lines}
use Rattle.rootio.proofs.Recoveries.{no_lines}
use Rattle.rootio.proofs.recovery.close_and_list.Goals as goal

pub returns-in_err-lines : goal.returns-in_err-lines
returns-in_err-lines g c =
    let p = err_from_is_err_and c.from_residual.result c.from_residual.ensures.1 in
    rw (p.1, p.2) (no_lines (g.H.Host.view c.args.host.now) c.args.session (key_lines c.args.session.heads) c.requires.ready)
