-- Objects of a class in another version, cut up as the code does it: over the parts themselves, given what is had of each
-- value within.
use Rattle.std.specs.Prelude.{ℕ, List, [], ◌++◌, length, slice_get, Bool, false, ◌==◌, ◌&&◌, Option, Some, None, Result, Ok, find, if◌then◌else◌}
use Rattle.std.specs.{List.{list_any}, Option.{option_map, option_map_or}, Str.{bytes_eq}}
use Rattle.rio_num.specs.{Answers.{GivesUnless}, Reading.{◌>>=◌}}
use Rattle.rio_format.specs.{declared.class.Base.{Base}, declared.class.ClassDef.{ClassDef}, declared.class.Member.{Member}, declared.kind.Kind.{Kind}, declared.value.Part.{Part}, declared.value.Value.{Value, out-Value}}
use Rattle.rio_model.specs.Mapping.{Asked, Mapped, Mapping, PartMapping, base_mapped, base_part_of, class_named, each_mapped, mapping_of, member_mapped, member_part_of, or_changed, part_mapping}
use Rattle.rio_model.specs.declared.map_fault.MapFault.{MapFault, TheVariants.{NoMemory}}
use Rattle.rio_map.specs.Converting.{flat_as, stays}

-- Ok holds what is had. With an Err other than NoMemory it is this fault.
abbrev pub Maps : {A : Type 0} → Result A MapFault → Mapped A → Type 0
Maps result had = GivesUnless NoMemory (λ x. x) result had

-- ---- values

-- objects are asked in this class, in its version
abbrev pub asked_in : ClassDef → Asked
asked_in c = record { class = c.name; version = c.version; described = c }

abbrev pub mapping_in : List ClassDef → ClassDef → Value → Mapping
mapping_in classes asked = mapping_of classes (asked_in asked)

-- the value as it is had
abbrev pub mapped_in : List ClassDef → ClassDef → Value → Mapped Value
mapped_in classes asked v = (mapping_in classes asked v).mapped

abbrev pub mapping_of_part : List ClassDef → ClassDef → Part → PartMapping
mapping_of_part classes asked p = part_mapping p.name (mapping_in classes asked p.value)

-- what is made of it, where it is had
abbrev pub made_of : {A B : Type 0} → (A → B) → Mapped A → Mapped B
made_of make had = had >>= λ x. Ok (make x)

-- these, with those that are had behind them
abbrev pub behind : {A : Type 0} → List A → Mapped (List A) → Mapped (List A)
behind front had = made_of (λ xs. front ++ xs) had

-- ---- the parts of an object

-- the bases of the asked version, of what is known of the parts of an object whose class has these
abbrev pub bases_as : List ClassDef → List Base → ClassDef → List PartMapping → Mapped (List Part)
bases_as classes bases asked parts = each_mapped (λ b. []) (λ b. base_mapped classes b (base_part_of bases parts b.name)) asked.bases

abbrev pub members_as : List ClassDef → List Member → ClassDef → List PartMapping → Mapped (List Part)
members_as classes members asked parts = each_mapped (λ m. m.name) (λ m. member_mapped classes m (member_part_of members parts m.name)) asked.members

-- the part is an object of the class, as a base
abbrev pub is_base_part : List ℕ → Part → Bool
is_base_part class p = (length p.name == 0) && bytes_eq (class_named (out-Value p.value)) class

-- there is a part at this place, and it has no name
abbrev pub is_nameless : List Part → ℕ → Bool
is_nameless parts k = option_map_or (λ p. length p.name == 0) (slice_get parts k) false

-- what is had of a part, if it is there
abbrev pub if_there : {A B : Type 0} → (A → Mapped B) → Option A → Mapped (Option B)
if_there had None = Ok None
if_there had (Some x) = had x >>= λ y. Ok (Some y)

-- what is there, or else this
abbrev pub or_else : {A : Type 0} → Mapped A → Option A → Mapped A
or_else other (Some x) = Ok x
or_else other None = other

abbrev pub has_base : List Base → List ℕ → Bool
has_base bases class = list_any (λ b. bytes_eq b.name class) bases

-- the base, if the object has it
abbrev pub base_found : (Value → Mapped Value) → List Base → List Part → Base → Mapped (Option Value)
base_found had bases parts b =
    if has_base bases b.name then if_there (λ p. had p.value) (find (is_base_part b.name) parts) else Ok None

-- a value of this kind in the kind of the member
abbrev pub converted : (Value → Mapped Value) → Kind → Member → Value → Mapped Value
converted had from m v = if stays from m.kind v then had v else or_changed m.name (flat_as from m.kind v)

abbrev pub kind_in : List Member → List ℕ → Option Kind
kind_in members name = option_map (λ m. m.kind) (find (λ m. bytes_eq m.name name) members)

-- the part of the member's name, of this kind
abbrev pub part_found : (Value → Mapped Value) → Member → List Part → Kind → Mapped (Option Value)
part_found had m parts from = if_there (λ p. converted had from m p.value) (find (λ p. bytes_eq p.name m.name) parts)

abbrev pub found_of_kind : (Value → Mapped Value) → Member → List Part → Option Kind → Mapped (Option Value)
found_of_kind had m parts None = Ok None
found_of_kind had m parts (Some from) = part_found had m parts from

-- the member, if the object has it
abbrev pub member_found : (Value → Mapped Value) → List Member → List Part → Member → Mapped (Option Value)
member_found had members parts m = found_of_kind had m parts (kind_in members m.name)
