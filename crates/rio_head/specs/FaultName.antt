-- The names of the faults of a file.
use Rattle.std.specs.Prelude.{ℕ, List, codes}
use Rattle.rio_head.specs.declared.fault.FileFault.{FileFault, TheVariants.{NotRoot, Short, BadBegin, BadUnits, NotClosed, BadDir, BadKeyList, Compressed, BadInfo}}

abbrev pub fault_name : FileFault → List ℕ
fault_name NotRoot = codes "NotRoot"
fault_name Short = codes "Short"
fault_name BadBegin = codes "BadBegin"
fault_name BadUnits = codes "BadUnits"
fault_name NotClosed = codes "NotClosed"
fault_name BadDir = codes "BadDir"
fault_name BadKeyList = codes "BadKeyList"
fault_name Compressed = codes "Compressed"
fault_name BadInfo = codes "BadInfo"
