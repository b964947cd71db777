-- An input that tells what remains.
use Rattle.std.specs.Prelude.{ℕ, List, Some}
use Rattle.rio_host.specs.Source.{Input}

abbrev pub told_input : List ℕ → ℕ → Input
told_input rest faults = record { remaining = Some rest; faults = faults }
