-- The labels of leaves by their names, as a map.
use Rattle.std.specs.{Prelude.{◌≡◌, ℕ, List}, BTreeMap.{BTreeMap}, Map.{lookup}}
use Rattle.std.specs.{Str.{bytes_eq}, declared.vec.Vec.{Vec}}
use Rattle.rio_format.specs.Index.{name_place}

-- the map has, for each name, the label of the first leaf of this name in the list
abbrev pub LeadsToFirst : {A : Type 0} → BTreeMap (Vec ℕ A) ℕ → List (List ℕ × ℕ) → Type 0
LeadsToFirst labels leaves = (name : List ℕ) → name_place labels name ≡ lookup (bytes_eq name) leaves
