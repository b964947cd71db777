-- Classes as their declarations are printed, on one line.
use Rattle.std.specs.{Prelude.{ℕ, List, [], ◌∷◌, ◌++◌, codes}, Fmt.{decimal, signed_decimal}}
use Rattle.rio_num.specs.Printed.{name_text}
use Rattle.rio_format.specs.{declared.class.Base.{Base}, declared.class.ClassDef.{ClassDef}, declared.class.Member.{Member}}
use Rattle.rio_format.specs.declared.kind.Kind.{Kind, TheVariants.{Plain, Counter, Fixed, Counted, Text, Inline, Pointer, Other}}
use Rattle.rio_format.specs.declared.kind.Primitive.{Primitive, TheVariants.{I8, I16, I32, I64, U8, U16, U32, U64, Bool, F32, F64}}
use Rattle.rio_model.specs.Lists.{separated}

abbrev pub primitive_text : Primitive → List ℕ
primitive_text I8 = codes "i8"
primitive_text I16 = codes "i16"
primitive_text I32 = codes "i32"
primitive_text I64 = codes "i64"
primitive_text U8 = codes "u8"
primitive_text U16 = codes "u16"
primitive_text U32 = codes "u32"
primitive_text U64 = codes "u64"
primitive_text Bool = codes "bool"
primitive_text F32 = codes "f32"
primitive_text F64 = codes "f64"

abbrev pub kind_text : Kind → List ℕ
kind_text (Plain prim) = primitive_text prim
kind_text Counter = codes "i32"
kind_text (Fixed prim count) = primitive_text prim ++ codes "[" ++ decimal count ++ codes "]"
kind_text (Counted prim counter) = primitive_text prim ++ codes "[" ++ name_text counter ++ codes "]"
kind_text Text = codes "text"
kind_text (Inline class) = name_text class
kind_text (Pointer class) = name_text class ++ codes "*"
kind_text (Other code) = codes "other(" ++ signed_decimal code ++ codes ")"

-- NAME: KIND
abbrev pub member_text : Member → List ℕ
member_text member = name_text member.name ++ codes ": " ++ kind_text member.kind

abbrev pub base_text : Base → List ℕ
base_text base = name_text base.name

-- a colon and the bases, or nothing where there are none
abbrev pub bases_text : List Base → List ℕ
bases_text [] = []
bases_text (base ∷ bases) = codes " : " ++ separated base_text (base ∷ bases)

-- the members in braces
abbrev pub members_text : List Member → List ℕ
members_text [] = codes "{ }"
members_text (member ∷ members) = codes "{ " ++ separated member_text (member ∷ members) ++ codes " }"

-- class NAME VERSION : BASE, BASE { NAME: KIND, NAME: KIND }
unfoldable pub text_of_class : ClassDef → List ℕ
text_of_class class =
    codes "class " ++ name_text class.name ++ codes " " ++ signed_decimal class.version ++ bases_text class.bases ++ codes " " ++ members_text class.members
