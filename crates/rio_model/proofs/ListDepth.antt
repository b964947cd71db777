-- The class list isn't too deep, and the versions of its objects can be written.
use Rattle.std.proofs.Common.{◌≡◌, ◌≤◌, ◌∙◌, ◌&&◌, ℕ, ◌+◌, ℤ, pos, int_le, Bool, true, false, List, [], ◌∷◌, ◌++◌, map, codes, refl, ap, arith}
use Rattle.std.proofs.lemmas.Bool.{and_from}
use Rattle.std.specs.List.{list_all}
use Rattle.rio_format.specs.{declared.class.Base.{Base}, declared.class.ClassDef.{ClassDef}, declared.class.Member.{Member}}
use Rattle.rio_format.specs.{declared.kind.Kind.{Kind, TheVariants.{Plain, Counter, Fixed, Counted, Text as Texted, Inline, Pointer, Other}}, Depth.{greatest, depth_step, depth_of}, declared.value.Part.{Part}}
use Rattle.rio_format.specs.{declared.value.Value.{Value, Int, Text, List as Items, Object, Pointed}, Laws.{versions_step, has_versions}}
use Rattle.rio_format.proofs.{DepthLaws.{part_depth}, ValueCases.{Each, fold_Int, fold_Text, fold_List, fold_Object, fold_Pointed}, WrittenValues.{part_versions}}
use Rattle.rio_format.specs.WrittenElements.{base_element, inline_element, kind_element, member_element, pointer_element, reaches_object, written_elements, WrittenElement}
use Rattle.rio_format.specs.WrittenList.{array_object, class_links, class_list_value, class_pointer, element_object, element_parts, info_object, label_count, list_object, plain_object, pointers_from, titled_object}
use Rattle.rio_model.specs.Described.{WrittenListHasVersions, WrittenListIsShallow}

-- it is at most so deep, and the versions of its objects can be written
abbrev IsWithin : ℕ → Value → Type 0
IsWithin n v = (depth_of v ≤ n) × (has_versions v ≡ true)

abbrev AreWithin : ℕ → List Part → Type 0
AreWithin n parts = Each (λ p. IsWithin n p.value) parts

abbrev pub in_range : ℤ → Bool
in_range version = int_le (pos 1) version && int_le version (pos 65535)

-- ---- values

int_within : (n : ℕ) (z : ℤ) → IsWithin n (Int z)
int_within n z = let d : depth_of (Int z) ≡ 0 = fold_Int depth_step (λ p. p.value) z in (rw d (omega arith), fold_Int versions_step (λ p. p.value) z)

text_within : (n : ℕ) (text : List ℕ) → IsWithin n (Text text)
text_within n text = let d : depth_of (Text text) ≡ 0 = fold_Text depth_step (λ p. p.value) text in (rw d (omega arith), fold_Text versions_step (λ p. p.value) text)

greatest_within : (n : ℕ) (vs : List Value) → Each (IsWithin n) vs → greatest (map depth_of vs) ≤ n
greatest_within n [] each = omega arith
greatest_within n (v ∷ vs) each = omega (arith, each.0.0, greatest_within n vs each.1)

all_have_versions : (n : ℕ) (vs : List Value) → Each (IsWithin n) vs → list_all (λ b. b) (map has_versions vs) ≡ true
all_have_versions n [] each = refl
all_have_versions n (v ∷ vs) each = and_from (has_versions v) (list_all (λ b. b) (map has_versions vs)) each.0.1 (all_have_versions n vs each.1)

list_within : (n : ℕ) (vs : List Value) → Each (IsWithin n) vs → IsWithin n (Items vs)
list_within n vs each =
    let d : depth_of (Items vs) ≡ greatest (map depth_of vs) = fold_List depth_step (λ p. p.value) vs in
    let h : has_versions (Items vs) ≡ list_all (λ b. b) (map has_versions vs) = fold_List versions_step (λ p. p.value) vs in
    (rw d (greatest_within n vs each), h ∙ all_have_versions n vs each)

pointed_within : (n label : ℕ) (v : Value) → IsWithin n v → IsWithin n (Pointed label v)
pointed_within n label v within =
    let d : depth_of (Pointed label v) ≡ depth_of v = fold_Pointed depth_step (λ p. p.value) label v in
    let h : has_versions (Pointed label v) ≡ has_versions v = fold_Pointed versions_step (λ p. p.value) label v in
    (rw d within.0, h ∙ within.1)

-- ---- objects

object_depth : (class : List ℕ) (version : ℤ) (parts : List Part) → depth_of (Object class version parts) ≡ greatest (map (λ (p : Part). depth_of p.value) parts) + 1
object_depth class version parts = fold_Object depth_step (λ p. p.value) class version parts ∙ ap (λ (g : Part → ℕ). greatest (map g parts) + 1) (λ i p. part_depth p i)

object_versions : (class : List ℕ) (version : ℤ) (parts : List Part) → has_versions (Object class version parts) ≡ (in_range version && list_all (λ b. b) (map (λ (p : Part). has_versions p.value) parts))
object_versions class version parts = fold_Object versions_step (λ p. p.value) class version parts ∙ ap (λ (g : Part → Bool). in_range version && list_all (λ b. b) (map g parts)) (λ i p. part_versions p i)

greatest_part : (n : ℕ) (ps : List Part) → AreWithin n ps → greatest (map (λ (p : Part). depth_of p.value) ps) ≤ n
greatest_part n [] each = omega arith
greatest_part n (p ∷ ps) each = omega (arith, each.0.0, greatest_part n ps each.1)

parts_have_versions : (n : ℕ) (ps : List Part) → AreWithin n ps → list_all (λ b. b) (map (λ (p : Part). has_versions p.value) ps) ≡ true
parts_have_versions n [] each = refl
parts_have_versions n (p ∷ ps) each = and_from (has_versions p.value) (list_all (λ b. b) (map (λ (p : Part). has_versions p.value) ps)) each.0.1 (parts_have_versions n ps each.1)

object_within : (n : ℕ) (class : List ℕ) (version : ℤ) (parts : List Part) → in_range version ≡ true → AreWithin n parts → IsWithin (n + 1) (Object class version parts)
object_within n class version parts stated each =
    (rw (object_depth class version parts) (omega (arith, greatest_part n parts each)), object_versions class version parts ∙ and_from (in_range version) (list_all (λ b. b) (map (λ (p : Part). has_versions p.value) parts)) stated (parts_have_versions n parts each))

-- ---- elements

plain_within : IsWithin 1 plain_object
unfolding plain_object
plain_within = object_within 0 (codes "TObject") (pos 1) _ refl (int_within 0 (pos 0), (int_within 0 (pos 0), tt))

named_within : (name : List ℕ) → IsWithin 2 (titled_object name [])
unfolding titled_object
named_within name = object_within 1 (codes "TNamed") (pos 1) _ refl (plain_within, (text_within 1 name, (text_within 1 [], tt)))

element_within : (e : WrittenElement) → AreWithin 3 (element_parts e)
unfolding element_parts
element_within e =
    let zero_within = int_within 3 (pos 0) in
    let named = named_within e.name in (
      (omega (arith, named.0), named.1),
      (
        int_within 3 e.code,
        (
          int_within 3 (pos e.size),
          (
            int_within 3 (pos e.count),
            (
              int_within 3 (pos e.dimensions),
              (
                list_within 3 _ (int_within 3 (pos e.count), (zero_within, (zero_within, (zero_within, (zero_within, tt))))),
                (text_within 3 e.type_name, tt),
              ),
            ),
          ),
        ),
      ),
    )

-- its version can be written, and what it adds isn't deep
abbrev IsShallow : WrittenElement → Type 0
IsShallow e = (in_range e.version ≡ true) × AreWithin 4 e.added

element_object_within : (e : WrittenElement) → IsShallow e → IsWithin 5 (element_object e)
unfolding element_object
element_object_within e shallow =
    object_within 4 e.class e.version _ shallow.0 (object_within 3 (codes "TStreamerElement") (pos 4) (element_parts e) refl (element_within e), shallow.1)

base_is_shallow : (b : Base) → IsShallow (base_element b)
base_is_shallow b = (refl, (int_within 4 b.version, tt))

inline_is_shallow : (reaches : Bool) (name class : List ℕ) → IsShallow (inline_element reaches name class)
inline_is_shallow true name class = (refl, tt)
inline_is_shallow false name class = (refl, tt)

pointer_is_shallow : (reaches : Bool) (name class : List ℕ) → IsShallow (pointer_element reaches name class)
pointer_is_shallow true name class = (refl, tt)
pointer_is_shallow false name class = (refl, tt)

kind_is_shallow : (classes : List ClassDef) (owner : ClassDef) (name : List ℕ) (kind : Kind) → IsShallow (kind_element classes owner name kind)
kind_is_shallow classes owner name (Plain of) = (refl, tt)
kind_is_shallow classes owner name Counter = (refl, tt)
kind_is_shallow classes owner name (Fixed of count) = (refl, tt)
kind_is_shallow classes owner name (Counted of counter) = (refl, (int_within 4 owner.version, (text_within 4 counter, (text_within 4 owner.name, tt))))
kind_is_shallow classes owner name Texted = (refl, tt)
kind_is_shallow classes owner name (Inline class) = inline_is_shallow (reaches_object classes class) name class
kind_is_shallow classes owner name (Pointer class) = pointer_is_shallow (reaches_object classes class) name class
kind_is_shallow classes owner name (Other code) = (refl, tt)

-- ---- classes

bases_shallow : (bases : List Base) (rest : List WrittenElement) → Each IsShallow rest → Each IsShallow (map base_element bases ++ rest)
bases_shallow [] rest each = each
bases_shallow (b ∷ bs) rest each = (base_is_shallow b, bases_shallow bs rest each)

members_shallow : (classes : List ClassDef) (owner : ClassDef) (members : List Member) → Each IsShallow (map (member_element classes owner) members)
members_shallow classes owner [] = tt
members_shallow classes owner (m ∷ ms) = (kind_is_shallow classes owner m.name m.kind, members_shallow classes owner ms)

pointers_within : (label : ℕ) (es : List WrittenElement) → Each IsShallow es → Each (IsWithin 5) (pointers_from label (map element_object es))
unfolding pointers_from
pointers_within label [] each = tt
pointers_within label (e ∷ es) each = (pointed_within 5 label (element_object e) (element_object_within e each.0), pointers_within (label + 1) es each.1)

elements_shallow : (classes : List ClassDef) (c : ClassDef) → Each IsShallow (written_elements classes c)
unfolding written_elements
elements_shallow classes c = bases_shallow c.bases (map (member_element classes c) c.members) (members_shallow classes c c.members)

array_within : (items : List Value) → Each (IsWithin 5) items → IsWithin 6 (array_object items)
unfolding array_object
array_within items each = object_within 5 (codes "TObjArray") (pos 3) _ refl ((omega (arith, plain_within.0), plain_within.1), (text_within 5 [], (int_within 5 (pos 0), (list_within 5 items each, tt))))

info_within : (c : ClassDef) (elements : Value) → IsWithin 6 elements → IsWithin 7 (info_object c elements)
unfolding info_object
info_within c elements within =
    let named = named_within c.name in
    object_within 6 (codes "TStreamerInfo") (pos 9) _ refl ((omega (arith, named.0), named.1), (int_within 6 (pos c.sum), (int_within 6 c.version, (within, tt))))

class_within : (classes : List ClassDef) (label : ℕ) (c : ClassDef) → IsWithin 7 (class_pointer classes label c)
unfolding class_pointer
class_within classes label c =
    let items = pointers_from (label + 2) (map element_object (written_elements classes c)) in
    let array = array_within items (pointers_within (label + 2) (written_elements classes c) (elements_shallow classes c)) in
    pointed_within 7 label _ (info_within c _ (pointed_within 6 (label + 1) (array_object items) array))

links_within : (classes : List ClassDef) (label : ℕ) (cs : List ClassDef) → Each (IsWithin 7) (class_links classes label cs)
unfolding class_links
links_within classes label [] = tt
links_within classes label (c ∷ cs) = (list_within 7 _ (class_within classes label c, (text_within 7 [], tt)), links_within classes (label + label_count c) cs)

list_is_within : (classes : List ClassDef) → IsWithin 8 (class_list_value classes)
unfolding class_list_value list_object
list_is_within classes = object_within 7 (codes "TList") (pos 5) _ refl ((omega (arith, plain_within.0), plain_within.1), (text_within 7 [], (list_within 7 _ (links_within classes 0 classes), tt)))

-- it isn't too deep
pub written_list_is_shallow : WrittenListIsShallow
written_list_is_shallow classes = omega (arith, (list_is_within classes).0)

-- the versions of its objects can be written
pub written_list_has_versions : WrittenListHasVersions
written_list_has_versions classes = (list_is_within classes).1
