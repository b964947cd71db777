-- Values with the versions that they leave open: an object of version 0 is of the version that its class has there.
use Rattle.std.specs.Prelude.{◌≡◌, ℕ, ℤ, pos, List, [], ◌∷◌, length, map, Bool, true, false, ◌==◌, ◌&&◌, not, IsTrue, Option, Some, None, is_some, option_and_then, find, if◌then◌else◌}
use Rattle.std.specs.{List.{list_all}, Option.{option_map, option_map_or, option_or}, Ordering.{int_eq}, Str.{bytes_eq}}
use Rattle.rio_format.specs.{Classes.{find_in, newest_in}, declared.class.Base.{Base}, declared.class.ClassDef.{ClassDef}, declared.value.Part.{Part}}
use Rattle.rio_format.specs.declared.value.Value.{Value, TheOpen.{Value-F, Int, Bits32, Bits64, Bool as Truth, Text, List as Items, Object, Pointed, Null, Back, Opaque}, TheFolds.{fold-Value}}
use Rattle.rio_format.specs.declared.value.Value as whole
use Rattle.rio_format.specs.{Bodies.{form_of, headed_version, part}, Slots.{body_bases, headed_body, is_headed}}

-- ---- versions

-- the one version of a built-in class, none of another class
abbrev pub built_in_version : List ℕ → Option ℤ
built_in_version class = option_or (headed_version class) (if is_headed (form_of class) then None else Some (pos 1))

-- the newest version in which a class is declared, or else its built-in one
abbrev pub newest_known : List ClassDef → List ℕ → Option ℤ
newest_known classes class = option_or (option_map (λ c. c.version) (newest_in classes class)) (built_in_version class)

-- the version of the first base of that name
abbrev pub base_version : List Base → List ℕ → Option ℤ
base_version bases class = option_map (λ b. b.version) (find (λ b. bytes_eq b.name class) bases)

-- the version that is stated; where it is 0 that of the base of the name, or else the newest
abbrev pub meant_version : List ClassDef → List Base → List ℕ → ℤ → Option ℤ
meant_version classes bases class version =
    if int_eq version (pos 0) then option_or (base_version bases class) (newest_known classes class) else Some version

-- the class is built in in the version, or it isn't built in and is declared in it
abbrev pub is_known_version : List ClassDef → List ℕ → ℤ → Bool
is_known_version classes class version =
    option_map_or (int_eq version) (built_in_version class) (is_some (find_in classes class version))

-- the version that is meant, if the class is known in it
abbrev pub resolved_version : List ClassDef → List Base → List ℕ → ℤ → Option ℤ
resolved_version classes bases class version =
    option_and_then (λ v. if is_known_version classes class v then Some v else None)
    (meant_version classes bases class version)

-- the bases that a class has in a version
abbrev pub bases_in_version : List ClassDef → List ℕ → ℤ → List Base
bases_in_version classes class version = body_bases (headed_body classes class version)

-- ---- values

-- What is to be known of a value, or of a part: what it is with its versions, given the bases of the class in which it
-- is a base; none where a class isn't known.
abbrev pub Resolving : Type 0 → Type 0
Resolving A = List Base → Option A

-- each of them, given these bases
abbrev pub each_resolved : {A : Type 0} → List Base → List (Resolving A) → Option (List A)
each_resolved bases [] = Some []
each_resolved bases (r ∷ rs) = option_and_then (λ x. option_map (λ xs. x ∷ xs) (each_resolved bases rs)) (r bases)

-- a part without a name is a base
abbrev pub part_resolved : List ℕ → Resolving Value → Resolving Part
part_resolved name value bases = option_map (part name) (value (if length name == 0 then bases else []))

-- an object of this version: its class has the bases of the version
abbrev pub object_resolved : List ClassDef → List ℕ → List (Resolving Part) → ℤ → Option Value
object_resolved classes class parts version =
    option_map (whole.Object class version) (each_resolved (bases_in_version classes class version) parts)

-- one layer of a value, with what is known of each child in its place
abbrev pub resolving_step : List ClassDef → Value-F (Resolving Value) (Resolving Part) → Resolving Value
resolving_step classes (Int z) bases = Some (whole.Int z)
resolving_step classes (Bits32 n) bases = Some (whole.Bits32 n)
resolving_step classes (Bits64 n) bases = Some (whole.Bits64 n)
resolving_step classes (Truth b) bases = Some (whole.Bool b)
resolving_step classes (Text text) bases = Some (whole.Text text)
resolving_step classes (Items items) bases = option_map whole.List (each_resolved [] items)
resolving_step classes (Object class version parts) bases =
    option_and_then (object_resolved classes class parts) (resolved_version classes bases class version)
resolving_step classes (Pointed label object) bases = option_map (whole.Pointed label) (object [])
resolving_step classes Null bases = Some whole.Null
resolving_step classes (Back label) bases = Some (whole.Back label)
resolving_step classes (Opaque class len) bases = Some (whole.Opaque class len)

abbrev pub resolving_of : List ClassDef → Value → Resolving Value
resolving_of classes =
    fold-Value (Resolving Value) (Resolving Part) (resolving_step classes) (λ p. part_resolved p.name p.value)

abbrev pub resolving_of_part : List ClassDef → Part → Resolving Part
resolving_of_part classes p = part_resolved p.name (resolving_of classes p.value)

-- the value with a version in each object; none where an object's class isn't known in its version
abbrev pub resolved : List ClassDef → Value → Option Value
resolved classes v = resolving_of classes v []

-- a row, a value for each leaf: each of them with its versions
abbrev pub resolved_row : List ClassDef → List Value → Option (List Value)
resolved_row classes row = each_resolved [] (map (resolving_of classes) row)

-- a value with its versions stays as it is
abbrev pub ResolvedStays : Type 0
ResolvedStays = (classes : List ClassDef) (v w : Value) → resolved classes v ≡ Some w → resolved classes w ≡ Some w

-- one layer of a value, with what is known of each child in its place
abbrev pub has_versions_step : Value-F Bool Bool → Bool
has_versions_step (Int z) = true
has_versions_step (Bits32 n) = true
has_versions_step (Bits64 n) = true
has_versions_step (Truth b) = true
has_versions_step (Text text) = true
has_versions_step (Items items) = list_all (λ b. b) items
has_versions_step (Object class version parts) = not (int_eq version (pos 0)) && list_all (λ b. b) parts
has_versions_step (Pointed label object) = object
has_versions_step Null = true
has_versions_step (Back label) = true
has_versions_step (Opaque class len) = true

-- no object in it leaves its version open
abbrev pub has_all_versions : Value → Bool
has_all_versions = fold-Value Bool Bool has_versions_step (λ p. p.value)

-- a resolved value leaves no version open, where no class is declared in version 0
abbrev pub ResolvedHasVersions : Type 0
ResolvedHasVersions = (classes : List ClassDef) (v w : Value)
    → IsTrue (list_all (λ c. not (int_eq c.version (pos 0))) classes) → resolved classes v ≡ Some w → has_all_versions w ≡ true
