use Rattle.std.proofs.Common.{◌≡◌, ◌++◌, drop}
use Rattle.std.specs.List.{flat_map}
use Rattle.rio_dir.specs.Listing.{key_line}
use Rattle.rio_report.proofs.ls.file_listing.Given as goal

abbrev pub invariant-loop-key : goal.invariant-loop-key
invariant-loop-key l = l.text.bytes ++ flat_map key_line (drop l.key-index l.keys) ≡ flat_map key_line l.keys
