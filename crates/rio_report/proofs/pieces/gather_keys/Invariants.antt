use Rattle.std.proofs.Common.{◌≡◌, ◌++◌, take}
use Rattle.std.specs.List.{flat_map}
use Rattle.rio_report.specs.Dump.{stored_line}
use Rattle.rio_close.specs.Causes.{NoDiskFault, NoSayFault}
use Rattle.rio_report.specs.Gathered.{Gathered}
use Rattle.rio_report.proofs.pieces.gather_keys.Given as goal

abbrev pub invariant-loop-key : goal.invariant-loop-key
invariant-loop-key g l = record {
  so_far : Gathered (λ file. l.fn.held.bytes ++ flat_map (stored_line file l.classes) (take l.key-index l.keys)) l.held.bytes (g.H.Host.view l.fn.host) (g.H.Host.view l.host);
  holds : (g.H.Host.view l.host).holds ≡ (g.H.Host.view l.fn.host).holds;
  calm : NoDiskFault (g.H.Host.view l.fn.host) (g.H.Host.view l.host);
  heard : NoSayFault (g.H.Host.view l.fn.host) (g.H.Host.view l.host);
}
