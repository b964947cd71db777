-- What may stand at a place within a value.
use Rattle.std.specs.Prelude.{ℕ, zero, suc, ◌+◌, ℤ, pos, List, [], ◌∷◌, ◌++◌, length, map, codes, Bool, true, false, ◌&&◌, ◌||◌, not, ◌==◌, Option, Some, None, if◌then◌else◌, is_some}
use Rattle.std.specs.{Str.{bytes_eq}, List.{list_any}, Option.{option_map}, Ordering.{int_eq}}
use Rattle.rio_format.specs.{Classes.{find_in, newest_in}, declared.class.Base.{Base}, declared.class.ClassDef.{ClassDef}, declared.class.Member.{Member}}
use Rattle.rio_format.specs.{declared.kind.Kind.{Kind, TheVariants.{Plain, Text}}, declared.kind.Primitive.{Primitive, TheVariants.{I32, U32}}}
use Rattle.rio_format.specs.Bodies.{Form, bare, numbers, headed, form_of, headed_class, Body, described, listed, arrayed, opaque, built_in, t_object_base}

pub data Slot : Type 0 where
  -- a value of the kind
  kinded : Kind → Slot
  -- an object of a class, in this version
  based : List ℕ → ℤ → Slot
  -- TObject's fBits
  flags : Slot
  -- a pointer to an object of any class that can be put
  any_pointer : Slot
  -- such a pointer, and a text
  link : Slot
  -- values in a list of any length
  many : Slot → Slot

-- a part of an object: its name, and what may stand there
pub record Field : Type 0 where
  pub name : List ℕ
  pub slot : Slot

abbrev pub field : List ℕ → Slot → Field
field name slot = record { name = name; slot = slot }

abbrev pub base_field : Base → Field
base_field b = field [] (based b.name b.version)

abbrev pub member_field : Member → Field
member_field m = field m.name (kinded m.kind)

-- the body that a class has in a version, if it is built in or described in it, whether or not all of its members can be read
abbrev pub declared_body : List ClassDef → List ℕ → ℤ → Option Body
declared_body classes class version = first (built_in class version)
  where
    first : Option Body → Option Body
    first (Some body) = Some body
    first None = option_map described (find_in classes class version)

-- ---- the parts of objects, in order

abbrev pub described_fields : ClassDef → List Field
described_fields c = map base_field c.bases ++ map member_field c.members

abbrev pub listed_fields : List Field
listed_fields = base_field t_object_base ∷ field (codes "fName") (kinded Text) ∷ field (codes "items") (many link) ∷ []

abbrev pub arrayed_fields : List Field
arrayed_fields =
    base_field t_object_base ∷ field (codes "fName") (kinded Text) ∷ field (codes "fLowerBound") (kinded (Plain I32)) ∷ field (codes "items") (many any_pointer) ∷ []

abbrev pub bare_fields : List Field
bare_fields = field (codes "fUniqueID") (kinded (Plain U32)) ∷ field (codes "fBits") flags ∷ []

abbrev pub number_fields : Primitive → List Field
number_fields prim = field (codes "items") (many (kinded (Plain prim))) ∷ []

-- the parts behind a header; none where its bytes aren't read
abbrev pub body_fields : Option Body → Option (List Field)
body_fields None = None
body_fields (Some (described c)) = Some (described_fields c)
body_fields (Some listed) = Some listed_fields
body_fields (Some arrayed) = Some arrayed_fields
body_fields (Some opaque) = None

abbrev pub form_fields : List ClassDef → List ℕ → ℤ → Form → Option (List Field)
form_fields classes class version bare = if int_eq version (pos 1) then Some bare_fields else None
form_fields classes class version (numbers prim) = if int_eq version (pos 1) then Some (number_fields prim) else None
form_fields classes class version headed = body_fields (declared_body classes class version)

-- the parts of an object of a class in a version, in order; none where the version isn't known
abbrev pub fields_of : List ClassDef → List ℕ → ℤ → Option (List Field)
fields_of classes class version = form_fields classes class version (form_of class)

-- ---- which classes may be pointed to

abbrev pub body_bases : Option Body → List Base
body_bases None = []
body_bases (Some (described c)) = c.bases
body_bases (Some listed) = t_object_base ∷ []
body_bases (Some arrayed) = t_object_base ∷ []
body_bases (Some opaque) = []

-- objects of this form begin with a header
abbrev pub is_headed : Form → Bool
is_headed bare = false
is_headed (numbers prim) = false
is_headed headed = true

-- the body of a class's objects that begin with a header; others have no bases, whatever a class list says of their class
abbrev pub headed_body : List ClassDef → List ℕ → ℤ → Option Body
headed_body classes class version = if is_headed (form_of class) then declared_body classes class version else None

-- whether a class has another among its bases, at most so many levels deep
unfoldable pub has_base : ℕ → List ClassDef → List ℕ → List ℕ → ℤ → Bool
has_base zero classes target class version = false
has_base (suc levels) classes target class version =
    list_any (λ b. bytes_eq b.name target || has_base levels classes target b.name b.version) (body_bases (headed_body classes class version))

-- Whether it is the other class or has that among its bases at any depth. One level more than there are descriptions is enough:
-- a way through the bases that meets no description twice is no longer than the list and one built-in class.
abbrev pub derives_from : List ClassDef → List ℕ → List ℕ → ℤ → Bool
derives_from classes target class version = bytes_eq class target || has_base (length classes + 1) classes target class version

-- a class word can spell the name
abbrev pub can_be_word : List ℕ → Bool
can_be_word class = not (list_any (λ b. b == 0) class)

-- whether an object of this class may be put into a file under a name of its own
abbrev pub can_be_put : List ClassDef → List ℕ → Bool
can_be_put classes class = (is_headed (form_of class) && is_some (newest_in classes class)) || is_some (headed_class class)
