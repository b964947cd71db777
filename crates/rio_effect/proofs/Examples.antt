-- Records of objects as they are put, computed.
use Rattle.std.proofs.Common.{◌≡◌, ℕ, pos, List, [], ◌∷◌, ◌++◌, Option, Some, None, refl, sym, ap, ◌∙◌}
use Rattle.std.specs.Prelude.{codes, unwrap_or}
use Rattle.byteorder.specs.Endian.{big_bytes}
use Rattle.rio_format.specs.{declared.class.ClassDef.{ClassDef}, declared.kind.Kind.TheVariants.{Plain, Inline, Pointer}, declared.kind.Primitive.TheVariants.{I32}, declared.value.Part.{Part}}
use Rattle.rio_format.specs.{declared.value.Value.{Value, Int, Object, Pointed, Null, out-roll-Value, TheOpen.{Value-F}, TheVariants.{rolls-Object}}, ReaderState.{no_words}}
use Rattle.rio_format.specs.declared.value.Value.TheOpen as layer
use Rattle.rio_format.specs.{Bodies.{member, part}, Slots.{kinded}, Written.{Writing, writing_of, writing_step}}
use Rattle.rio_format.proofs.{ValueCases.{fold_Int, fold_Null, fold_Pointed}, WrittenValues.{write_object}}
use Rattle.rio_chain.specs.{Record.{record_bytes}, declared.key_words.KeyWords.{KeyWords}}
use Rattle.rio_step.specs.Refusing.{object_class}
use Rattle.rio_effect.specs.ObjectRecord.{object_data, object_record, object_words, words_of_value}

-- the class of an object
class_told : (class : List ℕ) (parts : List Part) → object_class (Object class (pos 1) parts) ≡ Some class
class_told class parts = ap object_class (sym (rolls-Object class (pos 1) parts)) ∙ ap told (out-roll-Value (layer.Object class (pos 1) parts))
  where
    told : Value-F Value Part → Option (List ℕ)
    told (layer.Object class version parts) = Some class
    told other = None

-- ---- three nodes

abbrev classes : List ClassDef
classes =
    record { name = codes "Node"; version = pos 1; sum = 0; bases = []; members = member (codes "val") (Plain I32) ∷ member (codes "next") (Pointer (codes "Node")) ∷ [] } ∷ []

abbrev node_parts : ℕ → Value → List Part
node_parts val next = part (codes "val") (Int (pos val)) ∷ part (codes "next") next ∷ []

abbrev node : ℕ → Value → Value
node val next = Object (codes "Node") (pos 1) (node_parts val next)

chain : Value
chain = node 1 (Pointed 0 (node 2 (Pointed 1 (node 3 Null))))

-- what is written for a node
abbrev node_writing : ℕ → Writing → Writing
node_writing val next = writing_step classes (layer.Object (codes "Node") (pos 1) (writing_step classes (layer.Int (pos val)) ∷ next ∷ []))

node_written : (val : ℕ) (next : Value) (w : Writing) → writing_of classes next ≡ w → writing_of classes (node val next) ≡ node_writing val w
node_written val next w e =
    let own = fold_Int (writing_step classes) (λ p. p.value) (pos val) in
    write_object classes (codes "Node") (pos 1) (node_parts val next) ∙ (λ i. node_writing_of (own i) (e i))
  where
    node_writing_of : Writing → Writing → Writing
    node_writing_of a b = writing_step classes (layer.Object (codes "Node") (pos 1) (a ∷ b ∷ []))

abbrev pointed_writing : ℕ → Writing → Writing
pointed_writing label w = writing_step classes (layer.Pointed label w)

pointed_written : (label : ℕ) (object : Value) (w : Writing) → writing_of classes object ≡ w → writing_of classes (Pointed label object) ≡ pointed_writing label w
pointed_written label object w e = fold_Pointed (writing_step classes) (λ p. p.value) label object ∙ ap (pointed_writing label) e

chain_written : writing_of classes chain ≡ node_writing 1 (pointed_writing 0 (node_writing 2 (pointed_writing 1 (node_writing 3 (writing_step classes layer.Null)))))
unfolding chain
chain_written =
    let last = node_written 3 Null (writing_step classes layer.Null) (fold_Null (writing_step classes) (λ p. p.value)) in
    let second = node_written 2 (Pointed 1 (node 3 Null)) _ (pointed_written 1 (node 3 Null) _ last) in
    node_written 1 (Pointed 0 (node 2 (Pointed 1 (node 3 Null)))) _ (pointed_written 0 (node 2 (Pointed 1 (node 3 Null))) _ second)

chain_class : object_class chain ≡ Some (codes "Node")
unfolding chain
chain_class = class_told (codes "Node") (node_parts 1 (Pointed 0 (node 2 (Pointed 1 (node 3 Null)))))

abbrev words : KeyWords
words = object_words 208 1 (codes "n") 1 (codes "Node")

words_told : words_of_value 208 1 (codes "n") 1 chain ≡ words
words_told = ap (λ (o : Option (List ℕ)). object_words 208 1 (codes "n") 1 (unwrap_or o [])) chain_class

-- the three nodes behind a key of 34 bytes: the name of the class stands at 48, and the third node refers to it
abbrev chain_bytes : List ℕ
chain_bytes =
    big_bytes 4 0x40000033 ++ big_bytes 2 1 ++ big_bytes 4 1
    ++ big_bytes 4 0x40000029 ++ big_bytes 4 0xFFFFFFFF ++ codes "Node" ++ (0 ∷ [])
    ++ big_bytes 4 0x4000001C ++ big_bytes 2 1 ++ big_bytes 4 2
    ++ big_bytes 4 0x40000012 ++ big_bytes 4 0x80000032
    ++ big_bytes 4 0x4000000A ++ big_bytes 2 1 ++ big_bytes 4 3 ++ big_bytes 4 0

data_told : object_data classes words chain ≡ chain_bytes
data_told = ap (λ (w : Writing). (w.bytes (kinded (Inline w.class)) 34 no_words).0) chain_written

record_told : record_bytes words chain_bytes
    ≡ big_bytes 4 92 ++ big_bytes 2 4 ++ big_bytes 4 58 ++ big_bytes 4 1 ++ big_bytes 2 34 ++ big_bytes 2 1 ++ big_bytes 4 208 ++ big_bytes 4 100
    ++ (4 ∷ codes "Node") ++ (1 ∷ codes "n") ++ (0 ∷ []) ++ chain_bytes ++ (0 ∷ 0 ∷ 0 ∷ [])
unfolding record_bytes
record_told = refl

-- the record has a length of 92, its data with three zero bytes one of 58
chain_record : object_record classes 208 1 (codes "n") 1 chain
    ≡ big_bytes 4 92 ++ big_bytes 2 4 ++ big_bytes 4 58 ++ big_bytes 4 1 ++ big_bytes 2 34 ++ big_bytes 2 1 ++ big_bytes 4 208 ++ big_bytes 4 100
    ++ (4 ∷ codes "Node") ++ (1 ∷ codes "n") ++ (0 ∷ []) ++ chain_bytes ++ (0 ∷ 0 ∷ 0 ∷ [])
unfolding object_record
chain_record = ap (λ (k : KeyWords). record_bytes k (object_data classes k chain)) words_told ∙ ap (record_bytes words) data_told ∙ record_told
