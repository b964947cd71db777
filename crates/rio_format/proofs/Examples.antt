-- Some bytes, and what they are read as.
use Rattle.std.proofs.Common.{◌≡◌, ℕ, pos, List, [], ◌∷◌, ◌++◌, Ok, Err, true, refl, ap, ◌∙◌}
use Rattle.std.specs.Prelude.{codes}
use Rattle.byteorder.specs.Endian.{big_bytes}
use Rattle.rio_num.specs.{Reading.{text_at}, Layout.{each}}
use Rattle.rio_format.specs.{declared.class.ClassDef.{ClassDef}, declared.kind.Kind.TheVariants.{Plain, Inline, Pointer}, declared.kind.Primitive.TheVariants.{I32}}
use Rattle.rio_format.specs.declared.value.Value.{Value, Int, Text, Object, Pointed, Null, Back, Opaque}
use Rattle.rio_format.specs.{Bodies.{part, member}, Fits.{fits, fitting_step}, Slots.{kinded}, Written.{Writing, written_form, writing_step, writing_of}}
use Rattle.rio_format.specs.Objects.{value_at, object_of, formed, headed, body, whole_object, closed, parts, base_part, member_part, member_parts, kind_value, number_value, count_of, text_value, pointer, pointed, bare_layout, list_parts, link, unread}
use Rattle.rio_format.specs.declared.value.Value.TheOpen as layer
use Rattle.rio_format.specs.{ReaderState.{no_words}, Frames.{header, pointer_word, new_word, class_word, new_class}, declared.fault.ObjFault.TheVariants.{CountMismatch}}
use Rattle.rio_format.proofs.{ValueCases.{fold_Int, fold_Pointed, fold_Back}, WrittenValues.{fit_object, write_object}}

node_class : ClassDef
node_class = record { name = codes "Node"; version = pos 1; sum = 0; bases = []; members = member (codes "val") (Plain I32) ∷ member (codes "next") (Pointer (codes "Node")) ∷ [] }

node : ℕ → Value → Value
node val next = Object (codes "Node") (pos 1) (part (codes "val") (Int (pos val)) ∷ part (codes "next") next ∷ [])

-- a node that points to a second one, which points back to itself
loop_bytes : List ℕ
loop_bytes = big_bytes 4 1073741857 ++ big_bytes 2 1 ++ big_bytes 4 1 ++ big_bytes 4 1073741847 ++ big_bytes 4 4294967295 ++ codes "Node" ++ (0 ∷ []) ++ big_bytes 4 1073741834 ++ big_bytes 2 1 ++ big_bytes 4 2 ++ big_bytes 4 46

loop : Value
loop = node 1 (Pointed 0 (node 2 (Back 0)))

loop_read : value_at (node_class ∷ []) (codes "Node") 34 (loop_bytes ++ 0 ∷ []) ≡ Ok loop
unfolding node_class node loop_bytes loop object_of formed headed body unread header whole_object closed parts base_part member_parts member_part each kind_value number_value pointer pointer_word pointed new_word class_word new_class
loop_read = refl

-- three nodes
chain_bytes : List ℕ
chain_bytes = big_bytes 4 0x40000033 ++ big_bytes 2 1 ++ big_bytes 4 1 ++ big_bytes 4 0x40000029 ++ big_bytes 4 0xFFFFFFFF ++ codes "Node" ++ (0 ∷ []) ++ big_bytes 4 0x4000001C ++ big_bytes 2 1 ++ big_bytes 4 2 ++ big_bytes 4 0x40000012 ++ big_bytes 4 0x80000032 ++ big_bytes 4 0x4000000A ++ big_bytes 2 1 ++ big_bytes 4 3 ++ big_bytes 4 0

chain_read : value_at (node_class ∷ []) (codes "Node") 34 (chain_bytes ++ 0 ∷ 0 ∷ 0 ∷ []) ≡ Ok (node 1 (Pointed 0 (node 2 (Pointed 1 (node 3 Null)))))
unfolding node_class node chain_bytes object_of formed headed body unread header whole_object closed parts base_part member_parts member_part each kind_value number_value pointer pointer_word pointed new_word class_word new_class
chain_read = refl

-- a string, and the same with a count that is one too high
string_read : value_at [] (codes "TObjString") 40 (big_bytes 4 0x4000000F ++ big_bytes 2 1 ++ big_bytes 2 1 ++ big_bytes 8 0 ++ 2 ∷ 0x68 ∷ 0x69 ∷ 0 ∷ []) ≡ Ok (Object (codes "TObjString") (pos 1) (part [] (Object (codes "TObject") (pos 1) (part (codes "fUniqueID") (Int (pos 0)) ∷ part (codes "fBits") (Int (pos 0)) ∷ [])) ∷ part (codes "fString") (Text (codes "hi")) ∷ []))
unfolding object_of formed headed body unread header whole_object closed parts base_part member_parts member_part each kind_value text_value bare_layout text_at
string_read = refl

string_fault : value_at [] (codes "TObjString") 40 (big_bytes 4 0x40000010 ++ big_bytes 2 1 ++ big_bytes 2 1 ++ big_bytes 8 0 ++ 2 ∷ 0x68 ∷ 0x69 ∷ 0 ∷ []) ≡ Err (CountMismatch 40 16 15)
unfolding object_of formed headed body unread header whole_object closed parts base_part member_parts member_part each kind_value text_value bare_layout text_at
string_fault = refl

-- a string of another version
string_opaque : value_at [] (codes "TObjString") 40 (big_bytes 4 0x40000004 ++ big_bytes 2 2 ++ big_bytes 2 7 ++ 5 ∷ []) ≡ Ok (Opaque (codes "TObjString") 4)
unfolding object_of formed headed body unread header
string_opaque = refl

-- a checksum that picks no class, and a count that does not hold it
string_opaque_short : value_at [] (codes "TObjString") 40 (big_bytes 4 0x40000004 ++ big_bytes 2 0 ++ big_bytes 4 7 ++ 5 ∷ []) ≡ Err (CountMismatch 40 4 6)
unfolding object_of formed headed body unread header
string_opaque_short = refl

-- a list whose count is one too low
list_fault : value_at [] (codes "TList") 0 (big_bytes 4 0x4000001B ++ big_bytes 2 5 ++ big_bytes 2 1 ++ big_bytes 8 0 ++ 0 ∷ (big_bytes 4 2 ++ big_bytes 4 0 ++ 1 ∷ 65 ∷ (big_bytes 4 0 ++ 0 ∷ []))) ≡ Err (CountMismatch 0 27 28)
unfolding object_of formed headed body unread header whole_object closed each text_at bare_layout list_parts count_of link pointer pointer_word pointed
list_fault = refl

-- the nodes fit their class, and these bytes are written for them
loop_fits : fits (node_class ∷ []) (codes "Node") loop ≡ true
unfolding node_class node loop
loop_fits =
    let classes : List ClassDef = node_class ∷ [] in
    let inner = part (codes "val") (Int (pos 2)) ∷ part (codes "next") (Back 0) ∷ [] in
    let outer = part (codes "val") (Int (pos 1)) ∷ part (codes "next") (Pointed 0 (Object (codes "Node") (pos 1) inner)) ∷ [] in
    rw (
      fit_object classes (codes "Node") (pos 1) outer,
      fold_Int (fitting_step classes) (λ p. (p.name, p.value)) (pos 1),
      fold_Pointed (fitting_step classes) (λ p. (p.name, p.value)) 0 (Object (codes "Node") (pos 1) inner),
      fit_object classes (codes "Node") (pos 1) inner,
      fold_Int (fitting_step classes) (λ p. (p.name, p.value)) (pos 2),
      fold_Back (fitting_step classes) (λ p. (p.name, p.value)) 0,
    ) refl

-- what is written for a node, by what is written for its pointer
node_writing : (classes : List ClassDef) (val : ℕ) (next : Value) (w : Writing) → writing_of classes next ≡ w → writing_of classes (node val next) ≡ writing_step classes (layer.Object (codes "Node") (pos 1) (writing_step classes (layer.Int (pos val)) ∷ w ∷ []))
unfolding node
node_writing classes val next w is =
    let value = fold_Int (writing_step classes) (λ p. p.value) (pos val) in
    write_object classes (codes "Node") (pos 1) (part (codes "val") (Int (pos val)) ∷ part (codes "next") next ∷ []) ∙ λ i. writing_step classes (layer.Object (codes "Node") (pos 1) (value i ∷ is i ∷ []))

loop_written : written_form (node_class ∷ []) 34 loop ≡ loop_bytes
unfolding loop loop_bytes node node_class
loop_written =
    let classes : List ClassDef = node_class ∷ [] in
    let back = fold_Back (writing_step classes) (λ p. p.value) 0 in
    let inner = node_writing classes 2 (Back 0) (writing_step classes (layer.Back 0)) back in
    let inner_writing = writing_step classes (layer.Object (codes "Node") (pos 1) (writing_step classes (layer.Int (pos 2)) ∷ writing_step classes (layer.Back 0) ∷ [])) in
    let pointed = fold_Pointed (writing_step classes) (λ p. p.value) 0 (node 2 (Back 0)) ∙ ap (λ (w : Writing). writing_step classes (layer.Pointed 0 w)) inner in
    let outer = node_writing classes 1 (Pointed 0 (node 2 (Back 0))) (writing_step classes (layer.Pointed 0 inner_writing)) pointed in
    ap (λ (w : Writing). (w.bytes (kinded (Inline w.class)) 34 no_words).0) outer
