-- Texts of faults, computed.
use Rattle.std.proofs.Common.{◌≡◌, refl}
use Rattle.std.specs.{Prelude.{codes}, Fmt.{digits}}
use Rattle.rio_format.specs.{Texts.{object_fault_text}, declared.fault.ObjFault.TheVariants.{CountMismatch, UnknownClassWord}}

-- the numbers of a fault stand in the order of its fields
mismatch_text : object_fault_text (CountMismatch 40 16 15) ≡ codes "CountMismatch 40 16 15"
unfolding digits
mismatch_text = refl

class_word_text : object_fault_text (UnknownClassWord 7 99) ≡ codes "UnknownClassWord 7 99"
unfolding digits
class_word_text = refl
