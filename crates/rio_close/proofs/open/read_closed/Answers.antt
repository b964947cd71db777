use Rattle.rio_host.proofs.ReadsLaws.{reads_join}
use Rattle.rio_close.proofs.open.read_closed.Goals as goal

pub returns-in_err-keys-clause-calls : goal.returns-in_err-keys-clause-calls
returns-in_err-keys-clause-calls g c =
    reads_join (g.met.H.Host.lawful c.open_dir.new.host)
    (reads_join (g.met.H.Host.lawful c.open_head.new.host) c.open_head.ensures.calls c.open_dir.ensures.calls)
    c.open_keys.ensures.calls

pub returns-clause-calls : goal.returns-clause-calls
returns-clause-calls g c =
    reads_join (g.met.H.Host.lawful c.open_dir.new.host)
    (reads_join (g.met.H.Host.lawful c.open_head.new.host) c.open_head.ensures.calls c.open_dir.ensures.calls)
    c.open_keys.ensures.calls
