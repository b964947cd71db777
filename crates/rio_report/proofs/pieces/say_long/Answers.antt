use Rattle.std.proofs.Common.{refl}
use Rattle.rio_host.proofs.ReadsLaws.{reads_none}
use Rattle.rio_report.proofs.Gather.{gathered_reads}
use Rattle.rio_report.proofs.pieces.say_long.Goals as goal

pub returns-else-len-ge-LONG-clause-says : goal.returns-else-len-ge-LONG-clause-says
returns-else-len-ge-LONG-clause-says g c = gathered_reads (λ file. c.args.held.now.bytes) c.args.held.now.bytes (reads_none (g.H.Host.view c.args.host.now)) (λ file told. refl)
