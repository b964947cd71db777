-- Single values in bytes.
use Rattle.std.specs.{Prelude.{ℕ, pos, ◌==◌, not}, Int.{w8, w16, w32, w64, cast_signed}}
use Rattle.rio_format.specs.{declared.kind.Primitive.{Primitive, TheVariants.{I8, I16, I32, I64, U8, U16, U32, U64, Bool as Boolean, F32, F64}}, declared.value.Value.{Value, Int, Bits32, Bits64, Bool as Truth}}

-- how many bytes a value of the kind has
abbrev pub width_of : Primitive → ℕ
width_of I8 = 1
width_of I16 = 2
width_of I32 = 4
width_of I64 = 8
width_of U8 = 1
width_of U16 = 2
width_of U32 = 4
width_of U64 = 8
width_of Boolean = 1
width_of F32 = 4
width_of F64 = 8

-- the value whose bytes give the number: integers in two's complement, and any number but 0 is true
abbrev pub value_of_prim : Primitive → ℕ → Value
value_of_prim I8 n = Int (cast_signed w8 n)
value_of_prim I16 n = Int (cast_signed w16 n)
value_of_prim I32 n = Int (cast_signed w32 n)
value_of_prim I64 n = Int (cast_signed w64 n)
value_of_prim U8 n = Int (pos n)
value_of_prim U16 n = Int (pos n)
value_of_prim U32 n = Int (pos n)
value_of_prim U64 n = Int (pos n)
value_of_prim Boolean n = Truth (not (n == 0))
value_of_prim F32 n = Bits32 n
value_of_prim F64 n = Bits64 n
