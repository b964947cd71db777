-- Where classes stand in a list of them, by name and by name and number.
use Rattle.std.specs.Prelude.{◌≡◌, ℕ, ℤ, pos, Bool, false, List, length, Option, Some, None, ◌&&◌, if◌then◌else◌, slice_get, int_le, true}
use Rattle.std.specs.{BTreeMap.{BTreeMap, get, get_by}, Cmp.Lexicographic.{slice_cmp}, Option.{option_and_then, option_map_or}}
use Rattle.std.specs.{Ordering.{int_cmp, int_eq, nat_cmp, ordering_then}, Str.{bytes_eq}, declared.vec.Vec.{Vec}}
use Rattle.rio_format.specs.{Classes.{newest_in}, Chain.{IsChainOf}, Places.{is_named, place}, declared.class.ClassDef.{ClassDef}, declared.index.Index.{Index}}

-- a place, if a class that passes stands there
abbrev pub passing : (ClassDef → Bool) → List ClassDef → Option ℕ → Option ℕ
passing test classes None = None
passing test classes (Some k) = if option_map_or test (slice_get classes k) false then Some k else None

abbrev pub version_of : ClassDef → ℤ
version_of c = c.version

abbrev pub sum_of : ClassDef → ℤ
sum_of c = pos c.sum

-- it has the name and the number
abbrev pub has_number : (ClassDef → ℤ) → List ℕ → ℤ → ClassDef → Bool
has_number number name n c = bytes_eq c.name name && int_eq (number c) n

-- ---- what the maps give

abbrev pub name_place : {A : Type 0} → BTreeMap (Vec ℕ A) ℕ → List ℕ → Option ℕ
name_place names name = get_by (λ k. slice_cmp nat_cmp name k.items) names

abbrev pub number_place : BTreeMap (ℕ × ℤ) ℕ → ℕ → ℤ → Option ℕ
number_place numbers first n = get (λ x y. ordering_then (nat_cmp x.0 y.0) (int_cmp x.1 y.1)) numbers (first, n)

-- the name of each class leads to the first class of that name
abbrev pub NamesLead : List ClassDef → (List ℕ → Option ℕ) → Type 0
NamesLead classes at = (k : ℕ) (c : ClassDef) → slice_get classes k ≡ Some c → at c.name ≡ place (is_named c.name) classes

-- the first class of its name and the number of each class lead to the first class of that name and number
abbrev pub NumbersLead : (ClassDef → ℤ) → List ClassDef → (ℕ → ℤ → Option ℕ) → Type 0
NumbersLead number classes at = (k : ℕ) (c : ClassDef) (first : ℕ) → slice_get classes k ≡ Some c → place (is_named c.name) classes ≡ Some first → at first (number c) ≡ place (has_number number c.name (number c)) classes

-- the first class of each name leads to the newest of that name
abbrev pub NewestLead : List ClassDef → List ℕ → Type 0
NewestLead classes newest = (name : List ℕ) (first : ℕ) → place (is_named name) classes ≡ Some first → option_and_then (slice_get classes) (slice_get newest first) ≡ newest_in classes name

-- ---- an index

-- the place of the newest of a name, once a class of that name comes behind the others: best is the newest before it, if there is one
abbrev pub newest_place : List ClassDef → ClassDef → ℕ → ℕ
newest_place classes c best = if option_map_or (λ d. int_le c.version d.version) (slice_get classes best) true then best else length classes

pub record IsIndexOf (classes : List ClassDef) (index : Index) : Type 0 where
  pub names_lead : NamesLead classes (name_place index.names)
  pub versions_lead : NumbersLead version_of classes (number_place index.versions)
  pub sums_lead : NumbersLead sum_of classes (number_place index.sums)
  pub newest_lead : NewestLead classes index.newest.items
  pub one_each : length index.newest.items ≡ length classes
  pub chained : IsChainOf classes index.chain
