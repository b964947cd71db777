-- How long class lists are, apart from the names of classes that they spell out: which classes reach TObject makes no difference.
use Rattle.std.proofs.Common.{◌≡◌, ◌≤◌, ◌+◌, ℕ, ℤ, pos, Bool, true, false, codes, List, [], ◌∷◌, ◌++◌, length, map, refl, sym, ap, subst, ◌∙◌, arith}
use Rattle.std.proofs.lemmas.List.{append-nil}
use Rattle.byteorder.specs.Endian.{big_bytes}
use Rattle.rio_num.specs.Text.{text_bytes}
use Rattle.rio_format.specs.{declared.class.Base.{Base}, declared.class.ClassDef.{ClassDef}, declared.class.Member.{Member}}
use Rattle.rio_format.specs.{declared.kind.Kind.{Kind, TheVariants.{Plain, Counter, Fixed, Counted, Text as Texted, Inline, Pointer, Other}}, declared.kind.Primitive.TheVariants.{I32, U32}}
use Rattle.rio_format.specs.{declared.value.Part.{Part}, declared.value.Value.{Value, Int, Text, List as Items, Object, Pointed, TheFolds.{fold_out-Part}}, Writer.{Writer}}
use Rattle.rio_format.specs.{Bodies.{form_of, member, part}, Descriptions.{description_classes, element_base}, Slots.{Slot, any_pointer, base_field, based, flags, kinded, link, many, member_field}}
use Rattle.rio_format.specs.Written.{Writing, all, fields_bytes, form_bytes, headed_bytes, int_bytes, list_bytes, pointed_bytes, writing_of, writing_step}
use Rattle.rio_format.specs.WrittenElements.{WrittenElement, base_element, inline_element, kind_element, member_element, pointer_element, primitive_name, reaches_object, starred, written_elements}
use Rattle.rio_format.specs.WrittenList.{array_object, class_links, class_list_value, class_pointer, element_object, element_parts, index_list, info_object, linked, list_object, number_part, plain_object, pointers_from, titled_object}
use Rattle.rio_format.proofs.ValueCases.{fold_Int, fold_List, fold_Object, fold_Pointed, fold_Text}
use Rattle.rio_model.proofs.ListElements.{common}
use Rattle.rio_write.specs.Writing.{part_writing}
use Rattle.rio_info.proofs.NamedAmounts.{Amounts, all_used, both_amounts, headed_amounts, just_amounts, pointed_classes, pointer_amounts, stands_once, total}

-- ---- values

abbrev writing : Value → Writing
writing = writing_of description_classes

-- so many bytes are written for the value in the slot, apart from the names of these classes
abbrev Takes : ℕ → List (List ℕ) → Value → Slot → Type 0
Takes n used v slot = Amounts n used ((writing v).bytes slot)

module _ (n : ℕ) (used : List (List ℕ)) where
  -- of two equal writings
  takes_as : (w w' : Writing) (slot : Slot) → w ≡ w' → Amounts n used (w'.bytes slot) → Amounts n used (w.bytes slot)
  takes_as w w' slot e = subst (λ (x : Writing). Amounts n used (x.bytes slot)) (sym e)

int_takes : (z : ℤ) (slot : Slot) → Takes (length (int_bytes z slot)) [] (Int z) slot
int_takes z slot = takes_as (length (int_bytes z slot)) [] _ _ slot (fold_Int (writing_step description_classes) (λ p. p.value) z) (just_amounts (int_bytes z slot))

text_takes : (text : List ℕ) (slot : Slot) → Takes (length (text_bytes text)) [] (Text text) slot
text_takes text slot = takes_as (length (text_bytes text)) [] _ _ slot (fold_Text (writing_step description_classes) (λ p. p.value) text) (just_amounts (text_bytes text))

items_take : (n : ℕ) (used : List (List ℕ)) (items : List Value) (slot : Slot) → Amounts n used (list_bytes (map writing items) slot) → Takes n used (Items items) slot
items_take n used items slot = takes_as n used _ _ slot (fold_List (writing_step description_classes) (λ p. p.value) items)

-- what is written for an object of the class with these parts
abbrev object_bytes : List ℕ → ℤ → List Part → Writer
object_bytes class version parts = form_bytes description_classes class version (form_of class) (map (part_writing description_classes) parts)

abbrev object_writing : List ℕ → ℤ → List Writing → Writing
object_writing class version parts = record { class = class; count = 0; bytes = λ slot. form_bytes description_classes class version (form_of class) parts }

object_is : (class : List ℕ) (version : ℤ) (parts : List Part) → writing (Object class version parts) ≡ object_writing class version (map (part_writing description_classes) parts)
object_is class version parts =
    fold_Object (writing_step description_classes) (λ p. p.value) class version parts
    ∙ ap (λ (g : Part → Writing). object_writing class version (map g parts)) (λ i p. fold_out-Part Writing Writing (writing_step description_classes) (λ q. q.value) p i)

module _ (n : ℕ) (used : List (List ℕ)) (class : List ℕ) (version : ℤ) (parts : List Part) (inside : Amounts n used (object_bytes class version parts)) where
  object_takes : (slot : Slot) → Takes n used (Object class version parts) slot
  object_takes slot = takes_as n used _ _ slot (object_is class version parts) inside

  pointer_takes : (label : ℕ) (slot : Slot) → stands_once class pointed_classes ≡ true → Takes (8 + n) (class ∷ used) (Pointed label (Object class version parts)) slot
  pointer_takes label slot once =
      let is = fold_Pointed (writing_step description_classes) (λ p. p.value) label (Object class version parts) in
      let object = ap pointed_bytes (object_is class version parts) in
      subst (λ (w : Writer). Amounts (8 + n) (class ∷ used) w) (sym (ap (λ (w : Writing). w.bytes slot) is ∙ object)) (pointer_amounts class once n used (object_bytes class version parts) inside)

-- ---- the bases that all objects have

plain_takes : (slot : Slot) → Takes 10 [] plain_object slot
unfolding plain_object
plain_takes slot =
    object_takes 10 [] (codes "TObject") (pos 1) (number_part (codes "fUniqueID") 0 ∷ number_part (codes "fBits") 0 ∷ [])
    (both_amounts 2 8 [] [] _ _ (just_amounts (big_bytes 2 1)) (both_amounts 4 4 [] [] _ _ (int_takes (pos 0) (kinded (Plain U32))) (int_takes (pos 0) flags))) slot

abbrev named_amount : List ℕ → ℕ
named_amount name = 6 + (10 + (length (text_bytes name) + (1 + 0)))

named_takes : (name : List ℕ) (slot : Slot) → Takes (named_amount name) [] (titled_object name []) slot
unfolding titled_object
named_takes name slot =
    object_takes (named_amount name) [] (codes "TNamed") (pos 1) (part [] plain_object ∷ part (codes "fName") (Text name) ∷ part (codes "fTitle") (Text []) ∷ [])
    (headed_amounts (pos 1) (10 + (length (text_bytes name) + (1 + 0))) [] _
    (both_amounts 10 (length (text_bytes name) + (1 + 0)) [] [] _ _ (plain_takes (based (codes "TObject") (pos 1)))
    (both_amounts (length (text_bytes name)) (1 + 0) [] [] _ _ (text_takes name (kinded Texted)) (both_amounts 1 0 [] [] _ _ (text_takes [] (kinded Texted)) (just_amounts []))))) slot

-- ---- elements

indices_take : (count : ℕ) → Takes 20 [] (index_list count) (kinded (Fixed I32 5))
indices_take count =
    let zero : Takes 4 [] (Int (pos 0)) (kinded (Plain I32)) = int_takes (pos 0) (kinded (Plain I32)) in
    items_take 20 [] (Int (pos count) ∷ Int (pos 0) ∷ Int (pos 0) ∷ Int (pos 0) ∷ Int (pos 0) ∷ []) (kinded (Fixed I32 5))
    (both_amounts 4 16 [] [] _ _ (int_takes (pos count) (kinded (Plain I32))) (both_amounts 4 12 [] [] _ _ zero (both_amounts 4 8 [] [] _ _ zero
    (both_amounts 4 4 [] [] _ _ zero (both_amounts 4 0 [] [] _ _ zero (just_amounts []))))))

-- behind the name of an element
abbrev behind_name : List ℕ → ℕ
behind_name type_name = 4 + (4 + (4 + (4 + (20 + (length (text_bytes type_name) + 0)))))

abbrev stated_amount : List ℕ → List ℕ → ℕ
stated_amount name type_name = 6 + (named_amount name + behind_name type_name)

stated_takes : (e : WrittenElement) (slot : Slot) → Takes (stated_amount e.name e.type_name) [] (common e) slot
unfolding element_parts description_classes
stated_takes e slot =
    let typed = length (text_bytes e.type_name) in
    let number = λ (z : ℤ). int_takes z (kinded (Plain I32)) in
    object_takes (stated_amount e.name e.type_name) [] (codes "TStreamerElement") (pos 4) (element_parts e)
    (headed_amounts (pos 4) (named_amount e.name + behind_name e.type_name) [] _
    (both_amounts (named_amount e.name) (behind_name e.type_name) [] [] _ _ (named_takes e.name (based (codes "TNamed") (pos 1)))
    (both_amounts 4 (4 + (4 + (4 + (20 + (typed + 0))))) [] [] _ _ (number e.code) (both_amounts 4 (4 + (4 + (20 + (typed + 0)))) [] [] _ _ (number (pos e.size))
    (both_amounts 4 (4 + (20 + (typed + 0))) [] [] _ _ (number (pos e.count)) (both_amounts 4 (20 + (typed + 0)) [] [] _ _ (number (pos e.dimensions))
    (both_amounts 20 (typed + 0) [] [] _ _ (indices_take e.count) (both_amounts typed 0 [] [] _ _ (text_takes e.type_name (kinded Texted)) (just_amounts []))))))))) slot

-- of an element with this name and the name of its type, whose class adds so many bytes
abbrev pub element_amount : List ℕ → List ℕ → ℕ → ℕ
element_amount name type_name added = 8 + (6 + (stated_amount name type_name + added))

-- the class has a header in this version, and behind it a TStreamerElement and these members
abbrev IsElementClass : List ℕ → ℤ → List Member → Type 0
IsElementClass class version members =
    (ws : List Writing) → form_bytes description_classes class version (form_of class) ws ≡ headed_bytes version (fields_bytes (base_field element_base ∷ map member_field members) ws)

-- so many bytes behind the TStreamerElement
abbrev Adds : ℕ → List Part → List Member → Type 0
Adds n parts members = Amounts n [] (fields_bytes (map member_field members) (map (part_writing description_classes) parts))

-- the amount of a pointer to the element's object, with the name of its class alone
abbrev IsAmount : ℕ → WrittenElement → Type 0
IsAmount n e = (label : ℕ) → Takes n (e.class ∷ []) (Pointed label (element_object e)) any_pointer

element_takes : (e : WrittenElement) (members : List Member) (n : ℕ) → IsElementClass e.class e.version members → stands_once e.class pointed_classes ≡ true → Adds n e.added members → IsAmount (element_amount e.name e.type_name n) e
unfolding element_object
element_takes e members n is once adds label =
    let own = part [] (common e) ∷ e.added in
    let inner = stated_amount e.name e.type_name in
    let body = both_amounts inner n [] [] _ _ (stated_takes e (based (codes "TStreamerElement") (pos 4))) adds in
    let object = subst (λ (w : Writer). Amounts (6 + (inner + n)) [] w) (sym (is (map (part_writing description_classes) own))) (headed_amounts e.version (inner + n) [] _ body) in
    pointer_takes (6 + (inner + n)) [] e.class e.version own object label any_pointer once

-- ---- bases and members

abbrev pub base_amount : Base → ℕ
base_amount b = element_amount b.name (codes "BASE") (4 + 0)

base_amounts : (b : Base) → IsAmount (base_amount b) (base_element b)
unfolding description_classes
base_amounts b =
    element_takes (base_element b) (member (codes "fBaseVersion") (Plain I32) ∷ []) (4 + 0) (λ ws. refl) refl
    (both_amounts 4 0 [] [] _ _ (int_takes b.version (kinded (Plain I32))) (just_amounts []))

-- what the class of a counted array adds
abbrev counted_amount : ClassDef → List ℕ → ℕ
counted_amount owner counter = 4 + (length (text_bytes counter) + (length (text_bytes owner.name) + 0))

abbrev pub kind_amount : ClassDef → List ℕ → Kind → ℕ
kind_amount owner name (Plain of) = element_amount name (primitive_name of) 0
kind_amount owner name Counter = element_amount name (codes "int") 0
kind_amount owner name (Fixed of count) = element_amount name (primitive_name of) 0
kind_amount owner name (Counted of counter) = element_amount name (starred (primitive_name of)) (counted_amount owner counter)
kind_amount owner name Texted = element_amount name (codes "TString") 0
kind_amount owner name (Inline class) = element_amount name class 0
kind_amount owner name (Pointer class) = element_amount name (starred class) 0
kind_amount owner name (Other code) = element_amount name [] 0

inline_amounts : (reaches : Bool) (name class : List ℕ) → IsAmount (element_amount name class 0) (inline_element reaches name class)
unfolding description_classes
inline_amounts true name class = element_takes (inline_element true name class) [] 0 (λ ws. refl) refl (just_amounts [])
inline_amounts false name class = element_takes (inline_element false name class) [] 0 (λ ws. refl) refl (just_amounts [])

behind_amounts : (reaches : Bool) (name class : List ℕ) → IsAmount (element_amount name (starred class) 0) (pointer_element reaches name class)
unfolding description_classes
behind_amounts true name class = element_takes (pointer_element true name class) [] 0 (λ ws. refl) refl (just_amounts [])
behind_amounts false name class = element_takes (pointer_element false name class) [] 0 (λ ws. refl) refl (just_amounts [])

abbrev counted_members : List Member
counted_members = member (codes "fCountVersion") (Plain I32) ∷ member (codes "fCountName") Texted ∷ member (codes "fCountClass") Texted ∷ []

module _ (classes : List ClassDef) (owner : ClassDef) where
  kind_amounts : (name : List ℕ) (kind : Kind) → IsAmount (kind_amount owner name kind) (kind_element classes owner name kind)
  unfolding description_classes
  kind_amounts name (Plain of) = element_takes (kind_element classes owner name (Plain of)) [] 0 (λ ws. refl) refl (just_amounts [])
  kind_amounts name Counter = element_takes (kind_element classes owner name Counter) [] 0 (λ ws. refl) refl (just_amounts [])
  kind_amounts name (Fixed of count) = element_takes (kind_element classes owner name (Fixed of count)) [] 0 (λ ws. refl) refl (just_amounts [])
  kind_amounts name (Counted of counter) =
      let own = length (text_bytes owner.name) in
      let count = length (text_bytes counter) in
      element_takes (kind_element classes owner name (Counted of counter)) counted_members (counted_amount owner counter) (λ ws. refl) refl
      (both_amounts 4 (count + (own + 0)) [] [] _ _ (int_takes owner.version (kinded (Plain I32)))
      (both_amounts count (own + 0) [] [] _ _ (text_takes counter (kinded Texted)) (both_amounts own 0 [] [] _ _ (text_takes owner.name (kinded Texted)) (just_amounts []))))
  kind_amounts name Texted = element_takes (kind_element classes owner name Texted) [] 0 (λ ws. refl) refl (just_amounts [])
  kind_amounts name (Inline class) = inline_amounts (reaches_object classes class) name class
  kind_amounts name (Pointer class) = behind_amounts (reaches_object classes class) name class
  kind_amounts name (Other code) = element_takes (kind_element classes owner name (Other code)) [] 0 (λ ws. refl) refl (just_amounts [])

-- ---- the elements of a class

-- pointers to these elements, with the labels from this one on
abbrev pointers : ℕ → List WrittenElement → Writer
pointers label es = all any_pointer (map writing (pointers_from label (map element_object es)))

-- of all together, with so many behind them
abbrev total_before : {X : Type 0} → (X → ℕ) → List X → ℕ → ℕ
total_before cost [] n = n
total_before cost (x ∷ xs) n = cost x + total_before cost xs n

module _ {X : Type 0} (f : X → WrittenElement) (cost : X → ℕ) (each : (x : X) → IsAmount (cost x) (f x)) (rest : List WrittenElement) (n : ℕ) (used : List (List ℕ)) (behind : (label : ℕ) → Amounts n used (pointers label rest)) where
  pointers_take : (xs : List X) (label : ℕ) → Amounts (total_before cost xs n) (map (λ x. (f x).class) xs ++ used) (pointers label (map f xs ++ rest))
  unfolding pointers_from
  pointers_take [] label = behind label
  pointers_take (x ∷ xs) label = both_amounts (cost x) (total_before cost xs n) ((f x).class ∷ []) (map (λ y. (f y).class) xs ++ used) _ _ (each x label) (pointers_take xs (label + 1))

abbrev members_amount : ClassDef → ℕ
members_amount c = total_before (λ m. kind_amount c m.name m.kind) c.members 0

abbrev elements_amount : ClassDef → ℕ
elements_amount c = total_before base_amount c.bases (members_amount c)

abbrev pub element_names : List ClassDef → ClassDef → List (List ℕ)
element_names classes c = map (λ b. (base_element b).class) c.bases ++ (map (λ m. (member_element classes c m).class) c.members ++ [])

-- ---- classes

abbrev array_amount : ℕ → ℕ
array_amount n = 6 + (10 + (1 + (4 + (4 + n))))

abbrev info_amount : ClassDef → ℕ → ℕ
info_amount c n = 6 + (named_amount c.name + (4 + (4 + (n + 0))))

unfoldable pub class_amount : ClassDef → ℕ
class_amount c = (8 + info_amount c (8 + array_amount (elements_amount c))) + (1 + 0)

abbrev pub class_names : List ClassDef → ClassDef → List (List ℕ)
class_names classes c = (codes "TStreamerInfo" ∷ ((codes "TObjArray" ∷ element_names classes c) ++ [])) ++ []

-- a pointer to an array of these items, and one to a class with these elements
module _ (n : ℕ) (used : List (List ℕ)) where
  array_takes : (label : ℕ) (items : List Value) (slot : Slot) → Amounts n used (all any_pointer (map writing items)) → Takes (8 + array_amount n) (codes "TObjArray" ∷ used) (Pointed label (array_object items)) slot
  unfolding array_object
  array_takes label items slot inside =
      let parts : List Part = part [] plain_object ∷ part (codes "fName") (Text []) ∷ number_part (codes "fLowerBound") 0 ∷ part (codes "items") (Items items) ∷ [] in
      let pointed = items_take n used items (many any_pointer) inside in
      let body = both_amounts 10 (1 + (4 + (4 + n))) [] used _ _ (plain_takes (based (codes "TObject") (pos 1)))
      (both_amounts 1 (4 + (4 + n)) [] used _ _ (text_takes [] (kinded Texted)) (both_amounts 4 (4 + n) [] used _ _ (just_amounts (big_bytes 4 (writing (Items items)).count))
      (both_amounts 4 n [] used _ _ (int_takes (pos 0) (kinded (Plain I32))) pointed))) in
      pointer_takes (array_amount n) used (codes "TObjArray") (pos 3) parts (headed_amounts (pos 3) (10 + (1 + (4 + (4 + n)))) used _ body) label slot refl

  info_takes : (label : ℕ) (c : ClassDef) (elements : Value) (slot : Slot) → Takes n used elements (kinded (Pointer (codes "TObjArray"))) → Takes (8 + info_amount c n) (codes "TStreamerInfo" ∷ (used ++ [])) (Pointed label (info_object c elements)) slot
  unfolding info_object description_classes
  info_takes label c elements slot inside =
      let parts : List Part = part [] (titled_object c.name []) ∷ number_part (codes "fCheckSum") c.sum ∷ part (codes "fClassVersion") (Int c.version) ∷ part (codes "fElements") elements ∷ [] in
      let name = named_amount c.name in
      let body = both_amounts name (4 + (4 + (n + 0))) [] (used ++ []) _ _ (named_takes c.name (based (codes "TNamed") (pos 1)))
      (both_amounts 4 (4 + (n + 0)) [] (used ++ []) _ _ (int_takes (pos c.sum) (kinded (Plain U32))) (both_amounts 4 (n + 0) [] (used ++ []) _ _ (int_takes c.version (kinded (Plain I32)))
      (both_amounts n 0 used [] _ _ inside (just_amounts [])))) in
      pointer_takes (info_amount c n) (used ++ []) (codes "TStreamerInfo") (pos 9) parts (headed_amounts (pos 9) (name + (4 + (4 + (n + 0)))) (used ++ []) _ body) label slot refl

module _ (classes : List ClassDef) where
  elements_take : (c : ClassDef) (label : ℕ) → Amounts (elements_amount c) (element_names classes c) (pointers label (written_elements classes c))
  unfolding written_elements pointers_from
  elements_take c label =
      let own = map (member_element classes c) c.members in
      let members = pointers_take (member_element classes c) (λ m. kind_amount c m.name m.kind) (λ m. kind_amounts classes c m.name m.kind) [] 0 [] (λ l. just_amounts []) c.members in
      let behind = λ (l : ℕ). subst (λ (es : List WrittenElement). Amounts (members_amount c) (map (λ m. (member_element classes c m).class) c.members ++ []) (pointers l es)) (append-nil own) (members l) in
      pointers_take base_element base_amount base_amounts own (members_amount c) (map (λ m. (member_element classes c m).class) c.members ++ []) behind c.bases label

  link_takes : (c : ClassDef) (label : ℕ) → Takes (class_amount c) (class_names classes c) (linked (class_pointer classes label c)) link
  unfolding class_amount class_pointer
  link_takes c label =
      let items = pointers_from (label + 2) (map element_object (written_elements classes c)) in
      let array = Pointed (label + 1) (array_object items) in
      let used = codes "TObjArray" ∷ element_names classes c in
      let n = 8 + array_amount (elements_amount c) in
      let inside = array_takes (elements_amount c) (element_names classes c) (label + 1) items (kinded (Pointer (codes "TObjArray"))) (elements_take c (label + 2)) in
      let pointer = info_takes n used label c array any_pointer inside in
      items_take (class_amount c) (class_names classes c) (class_pointer classes label c ∷ Text [] ∷ []) link
      (both_amounts (8 + info_amount c n) 1 (codes "TStreamerInfo" ∷ (used ++ [])) [] _ _ pointer (text_takes [] (kinded Texted)))

  links_take : (cs : List ClassDef) (label : ℕ) → Amounts (total class_amount cs) (all_used (class_names classes) cs) (all link (map writing (class_links classes label cs)))
  unfolding class_links
  links_take [] label = just_amounts []
  links_take (c ∷ cs) label =
      both_amounts (class_amount c) (total class_amount cs) (class_names classes c) (all_used (class_names classes) cs) _ _ (link_takes c label) (links_take cs (label + (length c.bases + length c.members + 2)))

-- no class has less
pub least_amount : (c : ClassDef) → 72 ≤ class_amount c
unfolding class_amount
least_amount c = omega arith

-- ---- the list

-- what is written for the list of these classes
abbrev pub list_writer : List ClassDef → Writer
list_writer classes = (writing (class_list_value classes)).bytes (kinded (Inline (writing (class_list_value classes)).class))

abbrev pub list_names : List ClassDef → List (List ℕ)
list_names classes = all_used (class_names classes) classes

abbrev pub list_amount : List ClassDef → ℕ
list_amount classes = 6 + (10 + (1 + (4 + total class_amount classes)))

pub list_takes : (classes : List ClassDef) → Amounts (list_amount classes) (list_names classes) (list_writer classes)
unfolding class_list_value list_object
list_takes classes =
    let items = class_links classes 0 classes in
    let n = total class_amount classes in
    let used = list_names classes in
    let parts : List Part = part [] plain_object ∷ part (codes "fName") (Text []) ∷ part (codes "items") (Items items) ∷ [] in
    let links = items_take n used items (many link) (links_take classes classes 0) in
    let body = both_amounts 10 (1 + (4 + n)) [] used _ _ (plain_takes (based (codes "TObject") (pos 1)))
    (both_amounts 1 (4 + n) [] used _ _ (text_takes [] (kinded Texted)) (both_amounts 4 n [] used _ _ (just_amounts (big_bytes 4 (writing (Items items)).count)) links)) in
    let object = headed_amounts (pos 5) (10 + (1 + (4 + n))) used _ body in
    subst (λ (w : Writing). Amounts (list_amount classes) used (w.bytes (kinded (Inline w.class)))) (sym (object_is (codes "TList") (pos 5) parts)) object
