use Rattle.std.proofs.Common.{◌≡◌, ◌+◌, ◌-◌, ◌∷◌, ◌++◌, length, drop}
use Rattle.std.specs.List.{flat_map}
use Rattle.rio_num.specs.Printed.{escaped}
use Rattle.rio_num.proofs.bytes.Bytes.put_string.Given as goal

-- the room for what is left is spare
abbrev pub invariant-loop-byte : goal.invariant-loop-byte
invariant-loop-byte l = record {
  printed : l.self.bytes ++ flat_map escaped (drop l.byte-index l.text) ≡ l.fn.self.bytes ++ 34 ∷ flat_map escaped l.text;
  spare : l.self.spare ≡ length (flat_map escaped (drop l.byte-index l.text)) + 1 + (l.fn.self.spare - (length (flat_map escaped l.text) + 2));
}
