-- The names of counters as a set.
use Rattle.std.specs.{Prelude.{◌≡◌, ℕ, List}, Borrow.{Bor}, BTreeSet.{BTreeSet, contains_by}, Cmp.Lexicographic.{slice_cmp}, List.{list_any}}
use Rattle.std.specs.{Ordering.{nat_cmp}, Str.{bytes_eq}}

-- the set holds these names, however often each stands among them
abbrev pub HasNames : BTreeSet (Bor (List ℕ)) → List (List ℕ) → Type 0
HasNames set names = (name : List ℕ) → contains_by (λ k. slice_cmp nat_cmp name k.now) set ≡ list_any (bytes_eq name) names
