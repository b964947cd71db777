-- What stands in an object of a class: the classes with a body of their own, and the parts of a class that is described.
pub use Rattle.rio_format.specs.{declared.form.Form.{Form, TheVariants.{Bare as bare, Numbers as numbers, Headed as headed}}, declared.built_in.BuiltIn.{BuiltIn}}
pub use Rattle.rio_format.specs.declared.built_in.BuiltIn.TheVariants.{Object, Named, ObjString, Listed, Arrayed, Chars, Shorts, Ints, Longs, Floats, Doubles}
use Rattle.std.specs.{Prelude.{ℕ, ℤ, pos, List, [], ◌∷◌, ◌++◌, map, codes, Option, Some, None, unwrap_or, if◌then◌else◌}, Str.{bytes_eq}, Map.{lookup}}
use Rattle.std.specs.{Option.{option_map_or}, Ordering.{int_eq}}
use Rattle.rio_format.specs.{Classes.{find_in, find_sum_in}, Members.{is_counter, can_read_all}, declared.class.Base.{Base}, declared.class.ClassDef.{ClassDef}}
use Rattle.rio_format.specs.{declared.class.Member.{Member}, declared.kind.Kind.{Kind, TheVariants.{Text, Inline}}, declared.kind.Primitive.TheVariants.{I8, I16, I32, I64, F32, F64}}
use Rattle.rio_format.specs.{Accessors.{number_in}, declared.value.Value.{Value, out-Value}, declared.value.Part.{Part}}

abbrev pub part : List ℕ → Value → Part
part name value = record { name = name; value = value }

abbrev pub member : List ℕ → Kind → Member
member name kind = record { name = name; kind = kind; title = [] }

-- ---- built-in classes

-- TObject, as a base of others
abbrev pub t_object_base : Base
t_object_base = record { name = codes "TObject"; version = pos 1 }

-- built-in classes whose parts are told as those of described ones are; their sum is never looked at
abbrev pub t_named : ClassDef
t_named = record { name = codes "TNamed"; version = pos 1; sum = 0; bases = t_object_base ∷ []; members = member (codes "fName") Text ∷ member (codes "fTitle") Text ∷ [] }

abbrev pub t_obj_string : ClassDef
t_obj_string = record { name = codes "TObjString"; version = pos 1; sum = 0; bases = t_object_base ∷ []; members = member (codes "fString") Text ∷ [] }

-- what stands behind a header
pub data Body : Type 0 where
  -- the bases and members of the description
  described : ClassDef → Body
  -- the parts of a TList
  listed : Body
  -- the parts of a TObjArray
  arrayed : Body
  -- bytes that aren't read
  opaque : Body

-- a built-in class: its name, its one version, how its objects begin, and what stands behind a header
pub record BuiltInRow : Type 0 where
  pub name : List ℕ
  pub version : ℤ
  pub form : Form
  pub body : Option Body

abbrev pub without_header : List ℕ → Form → BuiltInRow
without_header name form = record { name = name; version = pos 1; form = form; body = None }

abbrev pub with_header : List ℕ → ℤ → Body → BuiltInRow
with_header name version body = record { name = name; version = version; form = headed; body = Some body }

-- the table of the built-in classes
abbrev pub row_of : BuiltIn → BuiltInRow
row_of Object = without_header (codes "TObject") bare
row_of Chars = without_header (codes "TArrayC") (numbers I8)
row_of Shorts = without_header (codes "TArrayS") (numbers I16)
row_of Ints = without_header (codes "TArrayI") (numbers I32)
row_of Longs = without_header (codes "TArrayL64") (numbers I64)
row_of Floats = without_header (codes "TArrayF") (numbers F32)
row_of Doubles = without_header (codes "TArrayD") (numbers F64)
row_of Named = with_header (codes "TNamed") (pos 1) (described t_named)
row_of ObjString = with_header (codes "TObjString") (pos 1) (described t_obj_string)
row_of Listed = with_header (codes "TList") (pos 5) listed
row_of Arrayed = with_header (codes "TObjArray") (pos 3) arrayed

abbrev pub headless_classes : List BuiltIn
headless_classes = Object ∷ Chars ∷ Shorts ∷ Ints ∷ Longs ∷ Floats ∷ Doubles ∷ []

abbrev pub headed_classes : List BuiltIn
headed_classes = Named ∷ ObjString ∷ Listed ∷ Arrayed ∷ []

-- what is said of that one of these classes that has the name, or else the other
abbrev pub by_name : {A : Type 0} → (BuiltIn → A) → A → List BuiltIn → List ℕ → A
by_name say other [] class = other
by_name say other (b ∷ bs) class = if bytes_eq class (row_of b).name then say b else by_name say other bs class

-- the built-in class of the name whose objects have no header
abbrev pub headless_class : List ℕ → Option BuiltIn
headless_class class = by_name Some None headless_classes class

-- TObject has no byte count; a TArray is a count and numbers; any other object begins with a header
abbrev pub form_of : List ℕ → Form
form_of class = by_name (λ b. (row_of b).form) headed headless_classes class

-- the built-in class of the name whose objects begin with a header
abbrev pub headed_class : List ℕ → Option BuiltIn
headed_class class = by_name Some None headed_classes class

-- the one version of such a class
abbrev pub headed_version : List ℕ → Option ℤ
headed_version class = by_name (λ b. Some (row_of b).version) None headed_classes class

-- its body, in its one version alone
abbrev pub own_body : ℤ → BuiltIn → Option Body
own_body version b = if int_eq version (row_of b).version then (row_of b).body else None

-- the bodies that a class list can't change
abbrev pub built_in : List ℕ → ℤ → Option Body
built_in class version = by_name (own_body version) None headed_classes class

-- the description that a header picks: by its version, or by the checksum behind version 0
abbrev pub picked : List ClassDef → List ℕ → ℤ → Option ℕ → Option ClassDef
picked classes class version None = find_in classes class version
picked classes class version (Some sum) = find_sum_in classes class sum

-- The version that a header states, by itself or by a checksum. A checksum that picks nothing gives 0, which is the version of no
-- built-in class.
abbrev pub stated_version : List ClassDef → List ℕ → ℤ → Option ℕ → ℤ
stated_version classes class version None = version
stated_version classes class version (Some sum) = option_map_or (λ c. c.version) (find_sum_in classes class sum) (pos 0)

-- what stands behind the header of a described class: its parts, if all of them can be read
abbrev pub by_description : Option ClassDef → Body
by_description None = opaque
by_description (Some c) = if can_read_all [] c.members then described c else opaque

-- what stands behind a header of this version, and of this checksum if there is one: what a class has that is built in, and else
-- what its description says
abbrev pub body_of : List ClassDef → List ℕ → ℤ → Option ℕ → Body
body_of classes class version sum = unwrap_or (built_in class (stated_version classes class version sum)) (by_description (picked classes class version sum))

-- ---- the parts of a described class

-- a base, as a member without a name
abbrev pub base_slot : Base → Member
base_slot b = member [] (Inline b.name)

-- its bases and then its members, in order
abbrev pub slots_of : ClassDef → List Member
slots_of c = map base_slot c.bases ++ c.members

-- the counters of an object that were met, and what they say, the last one first
abbrev pub Counters : Type 0
Counters = List (List ℕ × ℤ)

-- the counters behind a member, which may be one more of them
abbrev pub counters_with : Member → Value → Counters → Counters
counters_with m v counters = if is_counter m.kind then (m.name, number_in (out-Value v)) ∷ counters else counters

-- what the last earlier counter of the name says, and 0 without one
abbrev pub count_by : List ℕ → Counters → ℤ
count_by name counters = unwrap_or (lookup (bytes_eq name) counters) (pos 0)
