-- Which leaf counts each leaf of a branch: found once for the branch, by the names alone.
use Rattle.std.specs.{Prelude.{◌≡◌, ℕ, ◌+◌, List, [], ◌∷◌, slice_get, Option, None, unwrap_or}, Borrow.{Bor}, BTreeMap.{BTreeMap, get_by}, Cmp.Lexicographic.{slice_cmp}, Map.{lookup}}
use Rattle.std.specs.{Ordering.{nat_cmp}, Str.{bytes_eq}}
use Rattle.rio_leaf.specs.{declared.branch.Shape.{Shape, TheVariants.{Leaves, Class}}, declared.leaf.Dim.{Dim, TheVariants.{Counted}}, declared.leaf.Leaf.{Leaf}}

-- names of leaves, each with the number of its leaf in the branch, the nearest leaf first
abbrev pub Places : Type 0
Places = List (List ℕ × ℕ)

-- these leaves, of which the first has this number, behind others
abbrev pub places_after : List Leaf → ℕ → Places → Places
places_after [] k before = before
places_after (l ∷ ls) k before = places_after ls (k + 1) ((l.name, k) ∷ before)

-- the number of the nearest leaf of the counter's name before, if there is one
abbrev pub counter_among : Dim → Places → Option ℕ
counter_among (Counted counter times) before = lookup (bytes_eq counter) before
counter_among other before = None

-- the same for each of these leaves, of which the first has this number, behind others
abbrev pub counters_from : List Leaf → ℕ → Places → List (Option ℕ)
counters_from [] k before = []
counters_from (l ∷ ls) k before = counter_among l.dim before ∷ counters_from ls (k + 1) ((l.name, k) ∷ before)

-- for each leaf of a branch the number of the leaf that counts it, if one of the branch does
abbrev pub counters_within : Shape → List (Option ℕ)
counters_within (Leaves leaves) = counters_from leaves 0 []
counters_within (Class class) = []

abbrev pub counter_at : List (Option ℕ) → ℕ → Option ℕ
counter_at counters k = unwrap_or (slice_get counters k) None

-- ---- a map of names

-- what the map has for the name
abbrev pub place_by_name : BTreeMap (Bor (List ℕ)) ℕ → List ℕ → Option ℕ
place_by_name places name = get_by (λ k. slice_cmp nat_cmp name k.now) places

-- the map has, for each name, the number of the nearest leaf of this name
abbrev pub LeadsTo : BTreeMap (Bor (List ℕ)) ℕ → Places → Type 0
LeadsTo places before = (name : List ℕ) → place_by_name places name ≡ lookup (bytes_eq name) before
