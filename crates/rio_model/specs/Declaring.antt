-- Which classes may be declared, and what a declaration adds to the declared ones.
use Rattle.std.specs.Prelude.{ℕ, zero, suc, ◌+◌, ℤ, pos, List, [], ◌∷◌, ◌++◌, length, map, Bool, true, false, not, ◌&&◌, ◌||◌, ◌==◌, nat_le, Option, Some, None, is_some, if◌then◌else◌, IsTrue, ◌↔◌}
use Rattle.std.specs.{List.{list_all, list_any}, Option.{option_map_or, option_or}, Str.{bytes_eq}}
use Rattle.rio_leaf.specs.declared.branch.Shape.{Shape, TheVariants.{Leaves, Class}}
use Rattle.rio_format.specs.{Classes.{find_in, newest_in}, declared.class.Base.{Base}, declared.class.ClassDef.{ClassDef}, declared.kind.Kind.{Kind, TheVariants.{Inline, Pointer}}}
use Rattle.rio_format.specs.{Bodies.{headed_class, row_of}, declared.built_in.BuiltIn.TheVariants.{Named, Object}}
use Rattle.rio_model.specs.declared.declare.DeclareFault.{DeclareFault, TheVariants.{NoSuchClass, SameVersion, HoldsItself, TooMany}}

-- ---- names in a declaration

-- a class of the name is declared
abbrev pub is_declared : List ClassDef → List ℕ → Bool
is_declared classes name = list_any (λ c. bytes_eq c.name name) classes

-- a branch of objects of a class that isn't declared
abbrev pub shape_lacks_class : List ClassDef → Shape → Bool
shape_lacks_class classes (Leaves leaves) = false
shape_lacks_class classes (Class class) = not (is_declared classes class)

-- declared, or the class that is being declared: its own name counts as declared
abbrev pub is_known : List ClassDef → ClassDef → List ℕ → Bool
is_known classes class name = is_declared classes name || bytes_eq class.name name

-- a built-in class that may be a base
abbrev pub is_built_in_base : List ℕ → Bool
is_built_in_base name = bytes_eq name (row_of Object).name || bytes_eq name (row_of Named).name

-- a built-in class that a pointer may name
abbrev pub is_built_in_target : List ℕ → Bool
is_built_in_target name = bytes_eq name (row_of Object).name || is_some (headed_class name)

abbrev pub knows_base : List ClassDef → ClassDef → Base → Bool
knows_base classes class b = is_known classes class b.name || is_built_in_base b.name

abbrev pub knows_kind : List ClassDef → ClassDef → Kind → Bool
knows_kind classes class (Inline name) = is_known classes class name
knows_kind classes class (Pointer name) = is_known classes class name || is_built_in_target name
knows_kind classes class other = true

-- each class that a base or a member names may stand there
abbrev pub knows_all : List ClassDef → ClassDef → Bool
knows_all classes class = list_all (knows_base classes class) class.bases && list_all (λ m. knows_kind classes class m.kind) class.members

-- the byte is an upper-case letter, A to Z
abbrev pub is_capital : ℕ → Bool
is_capital byte = nat_le 65 byte && nat_le byte 90

-- The name begins with T (84) and an upper-case letter: it is left to the classes that come with the format.
abbrev pub is_reserved_name : List ℕ → Bool
is_reserved_name [] = false
is_reserved_name (first ∷ []) = false
is_reserved_name (first ∷ second ∷ rest) = (first == 84) && is_capital second

-- ---- classes that hold others by value

-- a member is an object of a class whose name passes
abbrev pub any_inline : (List ℕ → Bool) → Kind → Bool
any_inline test (Inline class) = test class
any_inline test other = false

-- the name of a base, or of the class of a member by value, passes
abbrev pub any_within : (List ℕ → Bool) → ClassDef → Bool
any_within test c = list_any (λ b. test b.name) c.bases || list_any (λ m. any_inline test m.kind) c.members

-- a member is an object of the class
abbrev pub is_inline : List ℕ → Kind → Bool
is_inline name kind = any_inline (bytes_eq name) kind

-- the name is that of a base, or of the class of a member by value
abbrev pub has_within : ClassDef → List ℕ → Bool
has_within c name = any_within (bytes_eq name) c

-- a class of the outer name has the inner one within, in whatever version
abbrev pub holds : List ClassDef → List ℕ → List ℕ → Bool
holds classes outer inner = list_any (λ c. bytes_eq c.name outer && has_within c inner) classes

-- the names between lead from the first to the last: each is held by the one before it
abbrev pub IsWay : List ClassDef → List ℕ → List (List ℕ) → List ℕ → Type 0
IsWay classes first [] last = IsTrue (holds classes first last)
IsWay classes first (next ∷ between) last = IsTrue (holds classes first next) × IsWay classes next between last

-- there is a way, of one step or more
abbrev pub Reaches : List ClassDef → List ℕ → List ℕ → Type 0
Reaches classes first last = (between : List (List ℕ)) × IsWay classes first between last

-- what the classes hold is declared among them, or it is a built-in class that may be a base
abbrev pub IsClosed : List ClassDef → Type 0
IsClosed classes = (outer inner : List ℕ) → IsTrue (holds classes outer inner) → IsTrue (is_declared classes inner || is_built_in_base inner)

-- the first name reaches the last in at most so many steps
unfoldable pub reaches : ℕ → List ClassDef → List ℕ → List ℕ → Bool
reaches zero classes first last = false
reaches (suc levels) classes first last =
    list_any (λ c. bytes_eq c.name first && any_within (λ next. bytes_eq last next || reaches levels classes next last) c) classes

-- The class would reach its own name through bases and members by value, over all versions of all classes: a way that meets
-- no class twice has as many steps at most as there are classes.
abbrev pub holds_itself : List ClassDef → ClassDef → Bool
holds_itself classes class = reaches (length classes + 1) (classes ++ class ∷ []) class.name class.name

-- ---- refusals

-- how many classes can be declared
abbrev pub class_limit : ℕ
class_limit = 4096

-- the first rule that the declaration breaks, of those that speak of its classes
abbrev pub rule_fault : List ClassDef → ClassDef → Option DeclareFault
rule_fault classes class =
    if not (knows_all classes class) then Some NoSuchClass
    else if is_some (find_in classes class.name class.version) then Some SameVersion
    else if holds_itself classes class then Some HoldsItself
    else None

-- it would be one class too many
abbrev pub limit_fault : List ClassDef → Option DeclareFault
limit_fault classes = if nat_le class_limit (length classes) then Some TooMany else None

-- the first fault of the declaration, if it has one
abbrev pub declare_fault : List ClassDef → ClassDef → Option DeclareFault
declare_fault classes class = option_or (rule_fault classes class) (limit_fault classes)

-- ---- the declared class

-- the greatest version of a declared class; a built-in one has the version 1
abbrev pub newest_version : List ClassDef → List ℕ → ℤ
newest_version classes name = option_map_or (λ c. c.version) (newest_in classes name) (pos 1)

abbrev pub base_declared : List ClassDef → Base → Base
base_declared classes b = record { name = b.name; version = newest_version classes b.name }

-- the class with each of its bases in the newest version
abbrev pub declared : List ClassDef → ClassDef → ClassDef
declared classes class = record class { bases = map (base_declared classes) class.bases }

-- ---- laws

-- the test of a class that would hold itself is right: it reaches its own name
abbrev pub HoldingIsReaching : Type 0
HoldingIsReaching = (classes : List ClassDef) (class : ClassDef) → IsTrue (holds_itself classes class) ↔ Reaches (classes ++ class ∷ []) class.name class.name
