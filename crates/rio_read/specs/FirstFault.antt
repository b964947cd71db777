-- What a reader of objects returns where the bytes break a rule.
use Rattle.std.specs.Prelude.{ℕ, List, Result, Err}
use Rattle.rio_format.specs.{declared.class.ClassDef.{ClassDef}, declared.value.Value.{Value}, ReaderState.{ReaderState}, declared.fault.ObjFault.{ObjFault}, Objects.{depth_limit, object_of}}
use Rattle.rio_num.specs.Meanings.{Breaks}
use Rattle.rio_read.specs.Reading.{Answers}

-- the bytes that are left break with this fault as an object of the class, behind what was met before
abbrev pub BreaksNext : List ClassDef → List ℕ → ReaderState → ObjFault → Type 0
BreaksNext classes class s fault = Breaks (object_of depth_limit classes class) s.at.place s.words s.at.rest fault

-- where the bytes break with a fault it is returned, unless memory ran out
abbrev pub RefusesBreak : (ObjFault → Type 0) → Result Value ObjFault → Type 0
RefusesBreak breaks result = (fault : ObjFault) → breaks fault → Answers result (Err fault)
