-- Parts of an object, for the readers of this crate.
use Rattle.std.specs.Prelude.{ℕ, List, [], ◌∷◌, Option, Some, None}
use Rattle.rio_format.specs.{declared.kind.Primitive.TheVariants.{I32}, declared.value.Part.{Part}, declared.value.Value.{Value, List as Items, Text}, Frames.{ObjLayout}, declared.fault.ObjFault.TheVariants.{Short}}
use Rattle.rio_num.specs.Layout.{done, text, ◌>>=◌}
use Rattle.rio_format.specs.{Bodies.{part}, Objects.{number_value, pid_part}}

-- a counter of this name
unfoldable pub counter_part : List ℕ → ObjLayout Part
counter_part name = do
  v ← number_value I32
  done (part name v)

-- an item of a TList, behind its pointer
abbrev pub link_behind : Value → ObjLayout Value
link_behind pointer = do
  option ← text Short
  done (Items (pointer ∷ Text option ∷ []))

-- fPid, if it is there
abbrev pub pid_parts : Option ℕ → List Part
pid_parts None = []
pid_parts (Some pid) = pid_part pid ∷ []
