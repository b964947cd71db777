-- Objects with fPid are written alike, whatever classes and words there are.
use Rattle.std.proofs.Common.{◌≡◌, ℕ, ◌+◌, ◌^◌, pos, List, [], ◌∷◌, ◌++◌, length, codes, sym, ap, subst, ◌∙◌}
use Rattle.std.specs.Int.{w16, w32, cast_unsigned}
use Rattle.byteorder.specs.Endian.{big_bytes}
use Rattle.rio_num.specs.Text.{text_bytes}
use Rattle.rio_format.specs.{declared.class.ClassDef.{ClassDef}, declared.kind.Kind.TheVariants.{Inline}, declared.value.Value.{Value, Int, Text, Object}}
use Rattle.rio_format.specs.declared.value.Value.TheOpen as layer
use Rattle.rio_format.specs.{Bodies.{part}, Objects.{bare_object, pid_part}, Slots.{kinded}, Written.{Writing, int_bytes, plainly, writing_of, writing_step}}
use Rattle.rio_format.proofs.{ValueCases.{fold_Int, fold_Text}, WrittenValues.{write_object}}
use Rattle.rio_write.specs.Small.{IsNamedWithPid, IsObjectWithPid, IsStringWithPid, own_writing}
use Rattle.rio_write.proofs.SmallValues.{Steady}

number_writing : (classes : List ClassDef) (n : ℕ) → writing_of classes (Int (pos n)) ≡ plainly (int_bytes (pos n))
number_writing classes n = fold_Int (writing_step classes) (λ p. p.value) (pos n)

text_writing : (classes : List ClassDef) (text : List ℕ) → writing_of classes (Text text) ≡ plainly (λ slot. text_bytes text)
text_writing classes text = fold_Text (writing_step classes) (λ p. p.value) text

-- ---- a TObject

module _ (id bits pid : ℕ) where
  abbrev object : Value
  object = bare_object id bits (pid_part pid ∷ [])

  -- what is written for it, in any slot
  abbrev base_bytes : List ℕ
  base_bytes = big_bytes 2 1 ++ (big_bytes 4 (cast_unsigned w32 (pos id)) ++ (big_bytes 4 (cast_unsigned w32 (pos bits)) ++ big_bytes 2 (cast_unsigned w16 (pos pid))))

  abbrev base_writing : List ClassDef → Writing
  base_writing classes = writing_step classes (layer.Object (codes "TObject") (pos 1) (plainly (int_bytes (pos id)) ∷ plainly (int_bytes (pos bits)) ∷ plainly (int_bytes (pos pid)) ∷ []))

  base_is : (classes : List ClassDef) → writing_of classes object ≡ base_writing classes
  base_is classes =
      write_object classes (codes "TObject") (pos 1) (part (codes "fUniqueID") (Int (pos id)) ∷ part (codes "fBits") (Int (pos bits)) ∷ pid_part pid ∷ [])
      ∙ λ i. writing_step classes (layer.Object (codes "TObject") (pos 1) (number_writing classes id i ∷ number_writing classes bits i ∷ number_writing classes pid i ∷ []))

  base_steady : Steady (λ classes. own_writing classes object)
  base_steady = (base_bytes, λ classes p t. ap (λ (w : Writing). w.bytes (kinded (Inline w.class)) p t) (base_is classes))

  -- ---- a TNamed

  module _ (name title : List ℕ) where
    abbrev named : Value
    named = Object (codes "TNamed") (pos 1) (part [] object ∷ part (codes "fName") (Text name) ∷ part (codes "fTitle") (Text title) ∷ [])

    abbrev named_inner : List ℕ
    named_inner = big_bytes 2 (cast_unsigned w16 (pos 1)) ++ (base_bytes ++ (text_bytes name ++ (text_bytes title ++ [])))

    named_is : (classes : List ClassDef) → writing_of classes named ≡ writing_step classes (layer.Object (codes "TNamed") (pos 1) (base_writing classes ∷ plainly (λ slot. text_bytes name) ∷ plainly (λ slot. text_bytes title) ∷ []))
    named_is classes =
        write_object classes (codes "TNamed") (pos 1) (part [] object ∷ part (codes "fName") (Text name) ∷ part (codes "fTitle") (Text title) ∷ [])
        ∙ λ i. writing_step classes (layer.Object (codes "TNamed") (pos 1) (base_is classes i ∷ text_writing classes name i ∷ text_writing classes title i ∷ []))

    whole_steady : Steady (λ classes. own_writing classes named)
    whole_steady = (big_bytes 4 (length named_inner + 2 ^ 30) ++ named_inner, λ classes p t. ap (λ (w : Writing). w.bytes (kinded (Inline w.class)) p t) (named_is classes))

  -- ---- a TObjString

  module _ (text : List ℕ) where
    abbrev string : Value
    string = Object (codes "TObjString") (pos 1) (part [] object ∷ part (codes "fString") (Text text) ∷ [])

    abbrev string_inner : List ℕ
    string_inner = big_bytes 2 (cast_unsigned w16 (pos 1)) ++ (base_bytes ++ (text_bytes text ++ []))

    string_is : (classes : List ClassDef) → writing_of classes string ≡ writing_step classes (layer.Object (codes "TObjString") (pos 1) (base_writing classes ∷ plainly (λ slot. text_bytes text) ∷ []))
    string_is classes =
        write_object classes (codes "TObjString") (pos 1) (part [] object ∷ part (codes "fString") (Text text) ∷ [])
        ∙ λ i. writing_step classes (layer.Object (codes "TObjString") (pos 1) (base_is classes i ∷ text_writing classes text i ∷ []))

    text_steady : Steady (λ classes. own_writing classes string)
    text_steady = (big_bytes 4 (length string_inner + 2 ^ 30) ++ string_inner, λ classes p t. ap (λ (w : Writing). w.bytes (kinded (Inline w.class)) p t) (string_is classes))

-- ---- by their definitions

abbrev IsSteady : Value → Type 0
IsSteady v = Steady (λ classes. own_writing classes v)

pub object_steady : (v : Value) → IsObjectWithPid v → IsSteady v
object_steady v own = subst IsSteady (sym own.value) (base_steady own.id own.bits own.pid)

pub named_steady : (v : Value) → IsNamedWithPid v → IsSteady v
named_steady v own =
    let base = own.with_pid in
    let value = own.value ∙ ap (λ (b : Value). Object (codes "TNamed") (pos 1) (part [] b ∷ part (codes "fName") (Text own.name) ∷ part (codes "fTitle") (Text own.title) ∷ [])) base.value in
    subst IsSteady (sym value) (whole_steady base.id base.bits base.pid own.name own.title)

pub string_steady : (v : Value) → IsStringWithPid v → IsSteady v
string_steady v own =
    let base = own.with_pid in
    let value = own.value ∙ ap (λ (b : Value). Object (codes "TObjString") (pos 1) (part [] b ∷ part (codes "fString") (Text own.text) ∷ [])) base.value in
    subst IsSteady (sym value) (text_steady base.id base.bits base.pid own.text)
