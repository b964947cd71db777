-- What is read of a key list, without the head that a fault stands in.
use Rattle.std.specs.Prelude.{List, Result, Ok, Err}
use Rattle.rio_key.specs.{declared.head.KeyHead.{KeyHead}, declared.fault.KeyFault.{KeyFault}, declared.fault.ListFault.{ListFault}}

abbrev pub heads_in : {A : Type 0} → Result (List KeyHead × A) ListFault → Result (List KeyHead) KeyFault
heads_in (Ok x) = Ok x.0
heads_in (Err e) = Err e.fault
