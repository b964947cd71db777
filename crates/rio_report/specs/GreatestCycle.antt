-- Looking for the key with the greatest cycle, from the first on.
use Rattle.std.specs.Prelude.{Option, Some, None}
use Rattle.rio_key.specs.declared.head.KeyHead.{KeyHead}
use Rattle.rio_report.specs.Item.{greater_cycle_of}

-- the one with the greater cycle, the first of equal ones
abbrev pub greatest_cycle_of : Option KeyHead → Option KeyHead → Option KeyHead
greatest_cycle_of None other = other
greatest_cycle_of (Some k) other = Some (greater_cycle_of k other)
