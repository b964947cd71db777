-- The text of a class is one line.
use Rattle.std.proofs.Common.{ℕ, List, [], ◌∷◌, ◌++◌, codes, refl}
use Rattle.std.specs.Fmt.{decimal, signed_decimal}
use Rattle.rio_num.specs.Printed.{name_text}
use Rattle.rio_format.specs.{declared.class.Base.{Base}, declared.class.ClassDef.{ClassDef}, declared.class.Member.{Member}}
use Rattle.rio_format.specs.declared.kind.Kind.{Kind, TheVariants.{Plain, Counter, Fixed, Counted, Text, Inline, Pointer, Other}}
use Rattle.rio_format.specs.declared.kind.Primitive.{Primitive, TheVariants.{I8, I16, I32, I64, U8, U16, U32, U64, Bool, F32, F64}}
use Rattle.rio_model.specs.{Lists.{separated}, ClassText.{base_text, bases_text, kind_text, member_text, members_text, primitive_text, text_of_class}}
use Rattle.rio_model.proofs.OneLineLaws.{Line, both, decimal_line, each, name_line, signed_line}

primitive_line : (of : Primitive) → Line (primitive_text of)
primitive_line I8 = refl
primitive_line I16 = refl
primitive_line I32 = refl
primitive_line I64 = refl
primitive_line U8 = refl
primitive_line U16 = refl
primitive_line U32 = refl
primitive_line U64 = refl
primitive_line Bool = refl
primitive_line F32 = refl
primitive_line F64 = refl

-- a kind with its length or counter in brackets
bracketed_line : (of : Primitive) (text : List ℕ) → Line text → Line (primitive_text of ++ codes "[" ++ text ++ codes "]")
bracketed_line of text is =
    both (primitive_text of ++ codes "[" ++ text) (codes "]") (both (primitive_text of ++ codes "[") text (both (primitive_text of) (codes "[") (primitive_line of) refl) is) refl

kind_line : (kind : Kind) → Line (kind_text kind)
kind_line (Plain of) = primitive_line of
kind_line Counter = refl
kind_line (Fixed of count) = bracketed_line of (decimal count) (decimal_line count)
kind_line (Counted of counter) = bracketed_line of (name_text counter) (name_line counter)
kind_line Text = refl
kind_line (Inline class) = name_line class
kind_line (Pointer class) = both (name_text class) (codes "*") (name_line class) refl
kind_line (Other code) = both (codes "other(" ++ signed_decimal code) (codes ")") (both (codes "other(") (signed_decimal code) refl (signed_line code)) refl

member_line : (m : Member) → Line (member_text m)
member_line m = both (name_text m.name ++ codes ": ") (kind_text m.kind) (both (name_text m.name) (codes ": ") (name_line m.name) refl) (kind_line m.kind)

separated_each : {X : Type 0} (text : X → List ℕ) (xs : List X) → ((x : X) → Line (text x)) → Line (separated text xs)
separated_each text [] h = refl
separated_each text (x ∷ xs) h = both (text x) _ (h x) (each (λ x. codes ", " ++ text x) xs (λ x. both (codes ", ") (text x) refl (h x)))

bases_line : (bases : List Base) → Line (bases_text bases)
bases_line [] = refl
bases_line (b ∷ bs) = both (codes " : ") (separated base_text (b ∷ bs)) refl (separated_each base_text (b ∷ bs) (λ b. name_line b.name))

members_line : (members : List Member) → Line (members_text members)
members_line [] = refl
members_line (m ∷ ms) =
    both (codes "{ " ++ separated member_text (m ∷ ms)) (codes " }") (both (codes "{ ") (separated member_text (m ∷ ms)) refl (separated_each member_text (m ∷ ms) member_line)) refl

pub class_line : (class : ClassDef) → Line (text_of_class class)
unfolding text_of_class
class_line c =
    let named : Line (codes "class " ++ name_text c.name) = both (codes "class ") (name_text c.name) refl (name_line c.name) in
    let spaced : Line (codes "class " ++ name_text c.name ++ codes " ") = both (codes "class " ++ name_text c.name) (codes " ") named refl in
    let numbered : Line (codes "class " ++ name_text c.name ++ codes " " ++ signed_decimal c.version) = both (codes "class " ++ name_text c.name ++ codes " ") (signed_decimal c.version) spaced (signed_line c.version) in
    let based : Line (codes "class " ++ name_text c.name ++ codes " " ++ signed_decimal c.version ++ bases_text c.bases) =
    both (codes "class " ++ name_text c.name ++ codes " " ++ signed_decimal c.version) (bases_text c.bases) numbered (bases_line c.bases) in
    both (codes "class " ++ name_text c.name ++ codes " " ++ signed_decimal c.version ++ bases_text c.bases ++ codes " ") (members_text c.members)
    (both (codes "class " ++ name_text c.name ++ codes " " ++ signed_decimal c.version ++ bases_text c.bases) (codes " ") based refl) (members_line c.members)
