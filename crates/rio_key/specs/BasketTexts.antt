-- What is printed of a basket that isn't read.
use Rattle.std.specs.Prelude.{ℕ, List, codes}
use Rattle.rio_num.specs.Printed.{with_number}
use Rattle.rio_key.specs.declared.basket_fault.BasketFault.{BasketFault, TheVariants.{BadLast, BadOffsets, Compressed, NoMemory}}

-- the kind of a fault, and its place, if it has one
abbrev pub basket_fault_text : BasketFault → List ℕ
basket_fault_text (BadLast place) = with_number (codes "BadLast") place
basket_fault_text (BadOffsets place) = with_number (codes "BadOffsets") place
basket_fault_text Compressed = codes "Compressed"
basket_fault_text NoMemory = codes "NoMemory"
