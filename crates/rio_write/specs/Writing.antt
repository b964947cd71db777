-- What the writers of objects do.
use Rattle.std.specs.Prelude.{◌≡◌, ◌<◌, ◌^◌, ℕ, ◌+◌, ◌-◌, ◌%◌, suc, ℤ, pos, negsuc, List, [], ◌++◌, length, IsTrue, Result, Ok, Err}
use Rattle.rio_num.specs.declared.no_memory.NoMemory.{NoMemory}
use Rattle.rio_format.specs.{declared.class.ClassDef.{ClassDef}, declared.value.Part.{Part}, declared.value.Value.{Value}, Fits.{Fits}, Written.{Writing, both, counted, labelled, writing_of}, BuiltIn.{is_small_builtin}}
use Rattle.rio_format.specs.Writer.{Writer, class_bytes, WriterState, next_place}

-- what is written at the next place stands at the end
unfoldable pub with_written : Writer → WriterState → WriterState
with_written write s = let a = write (next_place s) s.words in record s { bytes = s.bytes ++ a.0; words = a.1 }

-- It was written, or memory ran out.
abbrev pub Writes : Writer → Result (Unit {0}) NoMemory → WriterState → WriterState → Type 0
Writes write (Ok x) old new = new ≡ with_written write old
Writes write (Err e) old new = Unit {0}

-- all its places can be referred to
unfoldable pub HasRoom : Writer → WriterState → Type 0
HasRoom write s = next_place s + length (write (next_place s) s.words).0 < 2 ^ 30 - 2

-- a pointer to an object that is written there: a count word, the class word, and the object, which has the next label
abbrev pub pointer_to : List ℕ → Writer → Writer
pointer_to class object p t = counted (both (class_bytes class) (labelled p object) (p + 4) t)

abbrev pub part_writing : List ClassDef → Part → Writing
part_writing classes p = writing_of classes p.value

-- the bits of a number in two's complement, in an unsigned type of this size; a number below all that it can hold is 0
abbrev pub bits_within : ℕ → ℤ → ℕ
bits_within size (pos n) = n % size
bits_within size (negsuc n) = (size - suc n) % size

-- ---- built-in classes

-- an object of one of these classes that fits it
abbrev pub IsSmallBuiltin : Value → Type 0
IsSmallBuiltin v = (class : List ℕ) × IsTrue (is_small_builtin class) × Fits [] class v
