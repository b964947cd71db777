-- What the last counter of each name says, as a map of names that lie elsewhere.
use Rattle.std.specs.{Prelude.{◌≡◌, ℕ, ℤ, List, Option, map, reverse}, Borrow.{Bor}, BTreeMap.{BTreeMap, get_by}, Cmp.Lexicographic.{slice_cmp}, Map.{lookup}}
use Rattle.std.specs.{Ordering.{nat_cmp}, Str.{bytes_eq}}

-- what the map has for the name
abbrev pub number_by_name : BTreeMap (Bor (List ℕ)) ℤ → List ℕ → Option ℤ
number_by_name numbers name = get_by (λ k. slice_cmp nat_cmp name k.now) numbers

-- the map has, for each name, what the first counter of this name in the list says
abbrev pub SaysAsFirst : BTreeMap (Bor (List ℕ)) ℤ → List (List ℕ × ℤ) → Type 0
SaysAsFirst numbers counters = (name : List ℕ) → number_by_name numbers name ≡ lookup (bytes_eq name) counters

-- counters, the last one first
abbrev pub last_first : List (Bor (List ℕ) × ℤ) → List (List ℕ × ℤ)
last_first met = map (λ c. (c.0.now, c.1)) (reverse met)
