-- The class list of no classes is short: what is written for the classes of trees is bounded part by part.
use Rattle.std.proofs.Common.{◌≡◌, ℕ, ◌+◌, ◌*◌, ◌≤◌, pos, Bool, true, false, codes, List, [], ◌∷◌, ◌++◌, append_assoc, length, map, refl, sym, subst, arith}
use Rattle.std.proofs.lemmas.List.{append-nil, length-append, length-map}
use Rattle.rio_format.specs.{declared.class.Base.{Base}, declared.class.ClassDef.{ClassDef}, declared.class.Member.{Member}}
use Rattle.rio_format.specs.declared.kind.Kind.{Kind, TheVariants.{Plain, Counter, Fixed, Counted, Text as Texted, Inline, Pointer, Other}}
use Rattle.rio_format.specs.declared.kind.Primitive.{Primitive, TheVariants.{I8, I16, I32, I64, U8, U16, U32, U64, Bool as Boolean, F32, F64}}
use Rattle.rio_format.specs.{declared.value.Part.{Part}, declared.value.Value.{Value, Int, Text, List as Items, Object, Pointed}, ReaderState.{no_words}}
use Rattle.rio_format.specs.{Bodies.{part}, Descriptions.{description_classes}, Slots.{kinded}, Written.{writing_of}}
use Rattle.rio_format.specs.TreeClasses.{branch_class, branch_members, kind_leaf, leaf_class, leaf_members, object_branch_class, object_branch_members, tree_class, tree_classes, tree_members}
use Rattle.rio_format.specs.WrittenBytes.{class_list_bytes, length_limit}
use Rattle.rio_format.specs.WrittenElements.{WrittenElement, base_element, inline_element, kind_element, member_element, pointer_element, primitive_name, reaches_object, written_elements}
use Rattle.rio_format.specs.WrittenList.{array_object, class_links, class_list_value, class_pointer, element_object, element_parts, index_list, info_object, label_count, linked, list_object, number_part, plain_object, pointers_from, titled_object}
use Rattle.rio_model.specs.StateClasses.{AreAccepted, HasShortList, StateClasses}
use Rattle.rio_session.proofs.{HeaderBound.{low_array, low_plain, low_titled}, LowForms.{AllLow, LowValue, low_int, low_less, low_list, low_object, low_pointed, low_text}}

-- ---- classes with short names and few elements

abbrev IsShortKind : Kind → Type 0
IsShortKind (Counted prim counter) = length counter ≤ 100
IsShortKind (Inline class) = length class ≤ 100
IsShortKind (Pointer class) = length class ≤ 100
IsShortKind other = Unit {0}

abbrev AreShortMembers : List Member → Type 0
AreShortMembers [] = Unit {0}
AreShortMembers (m ∷ ms) = (length m.name ≤ 100) × IsShortKind m.kind × AreShortMembers ms

abbrev AreShortBases : List Base → Type 0
AreShortBases [] = Unit {0}
AreShortBases (b ∷ bs) = (length b.name ≤ 100) × AreShortBases bs

record IsShortClass (c : ClassDef) : Type 0 where
  name : length c.name ≤ 100
  bases : AreShortBases c.bases
  members : AreShortMembers c.members
  few : length c.bases + length c.members ≤ 20

abbrev AreShortClasses : List ClassDef → Type 0
AreShortClasses [] = Unit {0}
AreShortClasses (c ∷ cs) = IsShortClass c × AreShortClasses cs

-- ---- the classes of trees

short_tree : IsShortClass tree_class
unfolding tree_members
short_tree = record {
  name = omega arith;
  bases = (omega arith, tt);
  members = (omega arith, tt, (omega arith, omega arith, (omega arith, omega arith, tt)));
  few = omega arith;
}

short_branch : IsShortClass branch_class
unfolding branch_members
short_branch = record {
  name = omega arith;
  bases = (omega arith, tt);
  members =
      (omega arith, tt, (omega arith, tt, (omega arith, tt, (omega arith, tt, (omega arith, omega arith, (omega arith, omega arith, (omega arith, omega arith, (omega arith, omega arith, (omega arith, omega arith, (omega arith, omega arith, tt))))))))));
  few = omega arith;
}

short_object_branch : IsShortClass object_branch_class
unfolding object_branch_members
short_object_branch = record { name = omega arith; bases = (omega arith, tt); members = (omega arith, tt, (omega arith, tt, tt)); few = omega arith }

short_leaf : IsShortClass leaf_class
unfolding leaf_members
short_leaf = record {
  name = omega arith;
  bases = (omega arith, tt);
  members = (omega arith, tt, (omega arith, tt, (omega arith, tt, (omega arith, omega arith, tt))));
  few = omega arith;
}

short_kind_leaf : (name : List ℕ) (sum : ℕ) → length name ≤ 100 → IsShortClass (kind_leaf name sum)
short_kind_leaf name sum short = record { name = short; bases = (omega arith, tt); members = tt; few = omega arith }

short_tree_classes : AreShortClasses tree_classes
unfolding tree_classes
short_tree_classes = (short_tree, (short_branch, (short_object_branch, (short_leaf, (short_kind_leaf (codes "TLeafB") 2112258162 (omega arith), (short_kind_leaf (codes "TLeafS") 2844052419 (omega arith), (short_kind_leaf (codes "TLeafI") 2413585209 (omega arith), (short_kind_leaf (codes "TLeafL") 2542725372 (omega arith), (short_kind_leaf (codes "TLeafF") 2284445046 (omega arith), (short_kind_leaf (codes "TLeafD") 2198351604 (omega arith), (short_kind_leaf (codes "TLeafO") 2671865535 (omega arith), (short_kind_leaf (codes "TLeafC") 2155304883 (omega arith), tt))))))))))))

tree_count : length tree_classes ≡ 12
unfolding tree_classes
tree_count = refl

-- ---- elements

short_primitive : (prim : Primitive) → length (primitive_name prim) ≤ 20
short_primitive I8 = omega arith
short_primitive I16 = omega arith
short_primitive I32 = omega arith
short_primitive I64 = omega arith
short_primitive U8 = omega arith
short_primitive U16 = omega arith
short_primitive U32 = omega arith
short_primitive U64 = omega arith
short_primitive Boolean = omega arith
short_primitive F32 = omega arith
short_primitive F64 = omega arith

module _ (classes : List ClassDef) where
  record IsShortElement (e : WrittenElement) : Type 0 where
    class : length e.class ≤ 30
    name : length e.name ≤ 100
    type_name : length e.type_name ≤ 101
    added : AllLow (map (λ y. writing_of classes y.value) e.added) 300

  abbrev AreShortElements : List WrittenElement → Type 0
  AreShortElements [] = Unit {0}
  AreShortElements (e ∷ es) = IsShortElement e × AreShortElements es

  short_base : (b : Base) → length b.name ≤ 100 → IsShortElement (base_element b)
  short_base b short = record { class = omega arith; name = short; type_name = omega arith; added = (8, 0, low_int classes b.version, tt, omega arith) }

  short_inline : (reaches : Bool) (name class : List ℕ) → length name ≤ 100 → length class ≤ 100 → IsShortElement (inline_element reaches name class)
  short_inline true name class named short = record { class = omega arith; name = named; type_name = omega (arith, short); added = tt }
  short_inline false name class named short = record { class = omega arith; name = named; type_name = omega (arith, short); added = tt }

  short_pointer : (reaches : Bool) (name class : List ℕ) → length name ≤ 100 → length class ≤ 100 → IsShortElement (pointer_element reaches name class)
  short_pointer true name class named short = record { class = omega arith; name = named; type_name = omega (arith, short, length-append class (codes "*")); added = tt }
  short_pointer false name class named short = record { class = omega arith; name = named; type_name = omega (arith, short, length-append class (codes "*")); added = tt }

  short_kind : (all : List ClassDef) (owner : ClassDef) (name : List ℕ) (kind : Kind) → length owner.name ≤ 100 → length name ≤ 100 → IsShortKind kind → IsShortElement (kind_element all owner name kind)
  short_kind all owner name (Plain prim) own named short = record { class = omega arith; name = named; type_name = omega (arith, short_primitive prim); added = tt }
  short_kind all owner name Counter own named short = record { class = omega arith; name = named; type_name = omega arith; added = tt }
  short_kind all owner name (Fixed prim count) own named short = record { class = omega arith; name = named; type_name = omega (arith, short_primitive prim); added = tt }
  short_kind all owner name (Counted prim counter) own named short = record {
    class = omega arith;
    name = named;
    type_name = omega (arith, short_primitive prim, length-append (primitive_name prim) (codes "*"));
    added = (
      8,
      (length counter + 5) + (length owner.name + 5),
      low_int classes owner.version,
      (length counter + 5, length owner.name + 5, low_text classes counter, (length owner.name + 5, 0, low_text classes owner.name, tt, omega arith), omega arith),
      omega (arith, own, short),
    );
  }
  short_kind all owner name Texted own named short = record { class = omega arith; name = named; type_name = omega arith; added = tt }
  short_kind all owner name (Inline class) own named short = short_inline (reaches_object all class) name class named short
  short_kind all owner name (Pointer class) own named short = short_pointer (reaches_object all class) name class named short
  short_kind all owner name (Other code) own named short = record { class = omega arith; name = named; type_name = omega arith; added = tt }

  short_bases : (bs : List Base) → AreShortBases bs → AreShortElements (map base_element bs)
  short_bases [] short = tt
  short_bases (b ∷ bs) short = (short_base b short.0, short_bases bs short.1)

  short_members : (all : List ClassDef) (owner : ClassDef) (ms : List Member) → length owner.name ≤ 100 → AreShortMembers ms → AreShortElements (map (member_element all owner) ms)
  short_members all owner [] own short = tt
  short_members all owner (m ∷ ms) own short = (short_kind all owner m.name m.kind own short.0 short.1, short_members all owner ms own short.2)

  short_both : (es fs : List WrittenElement) → AreShortElements es → AreShortElements fs → AreShortElements (es ++ fs)
  short_both [] fs one two = two
  short_both (e ∷ es) fs one two = (one.0, short_both es fs one.1 two)

  short_written : (all : List ClassDef) (c : ClassDef) → IsShortClass c → AreShortElements (written_elements all c)
  unfolding written_elements
  short_written all c short = short_both (map base_element c.bases) (map (member_element all c) c.members) (short_bases c.bases short.bases) (short_members all c c.members short.name short.members)

  few_written : (all : List ClassDef) (c : ClassDef) → IsShortClass c → length (written_elements all c) ≤ 20
  unfolding written_elements
  few_written all c short =
      omega (
        arith,
        length-append (map base_element c.bases) (map (member_element all c) c.members),
        length-map c.bases base_element,
        length-map c.members (member_element all c),
        short.few,
      )

  -- ---- what is written for them

  low_index : (count : ℕ) → LowValue classes (index_list count) 41
  low_index count =
      low_list classes (Int (pos count) ∷ Int (pos 0) ∷ Int (pos 0) ∷ Int (pos 0) ∷ Int (pos 0) ∷ []) 40
      (8, 32, low_int classes (pos count), (8, 24, low_int classes (pos 0), (8, 16, low_int classes (pos 0), (8, 8, low_int classes (pos 0), (8, 0, low_int classes (pos 0), tt, omega arith), omega arith), omega arith), omega arith), omega arith)

  low_element_parts : (e : WrittenElement) → AllLow (map (λ y. writing_of classes y.value) (element_parts e)) (137 + length e.name + length e.type_name)
  unfolding element_parts
  low_element_parts e =
      let t = length e.type_name in
      let last : AllLow (map (λ y. writing_of classes y.value) (part (codes "fMaxIndex") (index_list e.count) ∷ part (codes "fTypeName") (Text e.type_name) ∷ [])) (46 + t) = (41, 5 + t, low_index e.count, (t + 5, 0, low_text classes e.type_name, tt, omega arith), omega arith) in (
        59 + length e.name + 0,
        78 + t,
        low_titled classes e.name [],
        (8, 70 + t, low_int classes e.code, (8, 62 + t, low_int classes (pos e.size), (8, 54 + t, low_int classes (pos e.count), (8, 46 + t, low_int classes (pos e.dimensions), last, omega arith), omega arith), omega arith), omega arith),
        omega arith,
      )

  low_element : (e : WrittenElement) → IsShortElement e → LowValue classes (element_object e) 800
  unfolding element_object
  low_element e short =
      let n = 137 + length e.name + length e.type_name in
      let inner = Object (codes "TStreamerElement") (pos 4) (element_parts e) in
      let low : LowValue classes inner (n + 10 + 16) = low_object classes (codes "TStreamerElement") (pos 4) (element_parts e) n (low_element_parts e) in
      low_less classes (Object e.class e.version (part [] inner ∷ e.added)) (n + 10 + 16 + 300 + 10 + length e.class) 800 (omega (arith, short.class, short.name, short.type_name))
      (low_object classes e.class e.version (part [] inner ∷ e.added) (n + 10 + 16 + 300) (n + 10 + 16, 300, low, short.added, omega arith))

  low_elements : (label : ℕ) (es : List WrittenElement) → AreShortElements es → AllLow (map (writing_of classes) (pointers_from label (map element_object es))) (810 * length es)
  unfolding pointers_from
  low_elements label [] short = tt
  low_elements label (e ∷ es) short = (
    810,
    810 * length es,
    low_less classes (Pointed label (element_object e)) (800 + 9) 810 (omega arith) (low_pointed classes label (element_object e) 800 (low_element e short.0)),
    low_elements (label + 1) es short.1,
    omega arith,
  )

  -- ---- classes

  low_info : (c : ClassDef) (elements : Value) (n : ℕ) → length c.name ≤ 100 → LowValue classes elements n → LowValue classes (info_object c elements) (n + 200)
  unfolding info_object
  low_info c elements n named low =
      let parts = part [] (titled_object c.name []) ∷ number_part (codes "fCheckSum") c.sum ∷ part (codes "fClassVersion") (Int c.version) ∷ part (codes "fElements") elements ∷ [] in
      low_less classes (Object (codes "TStreamerInfo") (pos 9) parts) (75 + length c.name + n + 10 + 13) (n + 200) (omega (arith, named))
      (low_object classes (codes "TStreamerInfo") (pos 9) parts (75 + length c.name + n) (
        59 + length c.name + 0,
        16 + n,
        low_titled classes c.name [],
        (8, 8 + n, low_int classes (pos c.sum), (8, n, low_int classes c.version, (n, 0, low, tt, omega arith), omega arith), omega arith),
        omega arith,
      ))

  low_pointer : (all : List ClassDef) (label : ℕ) (c : ClassDef) → IsShortClass c → LowValue classes (class_pointer all label c) 16500
  unfolding class_pointer
  low_pointer all label c short =
      let es = written_elements all c in
      let items = pointers_from (label + 2) (map element_object es) in
      let array = array_object items in
      let n = 810 * length es in
      let low : LowValue classes array (n + 66) = low_array classes items n (low_elements (label + 2) es (short_written all c short)) in
      let pointed : LowValue classes (Pointed (label + 1) array) (n + 66 + 9) = low_pointed classes (label + 1) array (n + 66) low in
      let info = low_info c (Pointed (label + 1) array) (n + 66 + 9) short.name pointed in
      low_less classes (Pointed label (info_object c (Pointed (label + 1) array))) (n + 66 + 9 + 200 + 9) 16500 (omega (arith, few_written all c short))
      (low_pointed classes label (info_object c (Pointed (label + 1) array)) (n + 66 + 9 + 200) info)

  low_linked : (pointer : Value) → LowValue classes pointer 16500 → LowValue classes (linked pointer) 16506
  low_linked pointer low =
      low_list classes (pointer ∷ Text [] ∷ []) 16505 (16500, 5, low, (5, 0, low_text classes [], tt, omega arith), omega arith)

  low_links : (all : List ClassDef) (label : ℕ) (cs : List ClassDef) → AreShortClasses cs → AllLow (map (writing_of classes) (class_links all label cs)) (16506 * length cs)
  unfolding class_links
  low_links all label [] short = tt
  low_links all label (c ∷ cs) short =
      (16506, 16506 * length cs, low_linked (class_pointer all label c) (low_pointer all label c short.0), low_links all (label + label_count c) cs short.1, omega arith)

  low_class_list : (cs : List ClassDef) → AreShortClasses cs → LowValue classes (class_list_value cs) (16506 * length cs + 100)
  unfolding class_list_value list_object
  low_class_list cs short =
      let items = class_links cs 0 cs in
      let n = 16506 * length cs in
      let parts = part [] plain_object ∷ part (codes "fName") (Text []) ∷ part (codes "items") (Items items) ∷ [] in
      low_less classes (Object (codes "TList") (pos 5) parts) (39 + n + 10 + 5) (n + 100) (omega arith)
      (low_object classes (codes "TList") (pos 5) parts (39 + n)
      (33, 6 + n, low_plain classes, (5, n + 1, low_text classes [], (n + 1, 0, low_list classes items n (low_links cs 0 cs short), tt, omega arith), omega arith), omega arith))

-- ---- the list of no classes

trees_short : length (class_list_bytes 0 tree_classes) ≤ length_limit
trees_short =
    let w = writing_of description_classes (class_list_value tree_classes) in
    let low = low_class_list description_classes tree_classes short_tree_classes (kinded (Inline w.class)) 0 no_words in
    omega (arith, low, tree_count)

pub empty_short : HasShortList []
empty_short = subst (λ (cs : List ClassDef). length (class_list_bytes 0 cs) ≤ length_limit) (sym (append-nil tree_classes)) trees_short

accepted_short : (before after : List ClassDef) → HasShortList before → AreAccepted before after → HasShortList (before ++ after)
accepted_short before [] short are = subst HasShortList (sym (append-nil before)) short
accepted_short before (c ∷ after) short are = subst HasShortList (append_assoc before (c ∷ []) after) (accepted_short (before ++ c ∷ []) after are.1 are.2)

-- so is that of a state
pub state_short : (classes : List ClassDef) → StateClasses classes → HasShortList classes
state_short classes are = accepted_short [] classes empty_short are
