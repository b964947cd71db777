-- Inputs in memory, and which reads fail.
use Rattle.rio_host.specs.{Source.{Input}, SourceTold.{told_input}, Failing.{Tally}, declared.sources.MemSource.{MemSource}}
use Rattle.rio_host.specs.declared.sources.SureSource.{SureSource}

abbrev pub input_of : MemSource → Input
input_of s = told_input s.rest s.faults

abbrev pub read_tally : MemSource → Tally
read_tally s = record { made = s.made; failing = s.failing; shortages = 0 }

abbrev pub sure_input_of : SureSource → Input
sure_input_of s = told_input s.rest 0
