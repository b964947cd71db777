use Rattle.std.proofs.Common.{◌≡◌, drop}
use Rattle.rio_format.specs.Accessors.{part_of}
use Rattle.rio_format.proofs.accessors.part_of.Given as goal

abbrev pub invariant-loop-part : goal.invariant-loop-part
invariant-loop-part l = part_of l.name (drop l.part-index l.parts) ≡ part_of l.name l.parts
