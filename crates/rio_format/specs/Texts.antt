-- The text of a fault: its kind, and its numbers in the order of its fields.
use Rattle.std.specs.Prelude.{ℕ, List, codes}
use Rattle.rio_num.specs.Printed.{with_number}
use Rattle.rio_format.specs.declared.fault.ObjFault.{ObjFault, TheVariants.{Short, BadCount, UnknownClassWord, UnknownRef, NoCount, BadFlag, CountMismatch, TooDeep, NoMemory}}

-- the kind of a fault, and its numbers in the order of its fields
abbrev pub object_fault_text : ObjFault → List ℕ
object_fault_text (Short place wanted) = with_number (with_number (codes "Short") place) wanted
object_fault_text (BadCount place) = with_number (codes "BadCount") place
object_fault_text (UnknownClassWord place word) = with_number (with_number (codes "UnknownClassWord") place) word
object_fault_text (UnknownRef place word) = with_number (with_number (codes "UnknownRef") place) word
object_fault_text (NoCount place) = with_number (codes "NoCount") place
object_fault_text (BadFlag place) = with_number (codes "BadFlag") place
object_fault_text (CountMismatch place said used) = with_number (with_number (with_number (codes "CountMismatch") place) said) used
object_fault_text (TooDeep place) = with_number (codes "TooDeep") place
object_fault_text NoMemory = codes "NoMemory"
