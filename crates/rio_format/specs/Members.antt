-- Which members can be read.
use Rattle.std.specs.{Prelude.{ℕ, List, [], ◌∷◌, Bool, true, false, ◌&&◌, if◌then◌else◌}, Str.{bytes_eq}, List.{list_any}}
use Rattle.rio_format.specs.{declared.class.Member.{Member}, declared.kind.Kind.{Kind, TheVariants.{Plain, Counter, Fixed, Counted, Text, Inline, Pointer, Other}}}

-- a member can be read behind counters of these names
abbrev pub can_read : List (List ℕ) → Kind → Bool
can_read counters (Plain prim) = true
can_read counters Counter = true
can_read counters (Fixed prim count) = true
can_read counters (Counted prim counter) = list_any (bytes_eq counter) counters
can_read counters Text = true
can_read counters (Inline class) = true
can_read counters (Pointer class) = true
can_read counters (Other code) = false

abbrev pub is_counter : Kind → Bool
is_counter (Plain prim) = false
is_counter Counter = true
is_counter (Fixed prim count) = false
is_counter (Counted prim counter) = false
is_counter Text = false
is_counter (Inline class) = false
is_counter (Pointer class) = false
is_counter (Other code) = false

abbrev pub names_with : Member → List (List ℕ) → List (List ℕ)
names_with m counters = if is_counter m.kind then m.name ∷ counters else counters

-- none is of a kind that can't be read, and each counter stands before the member that it counts
abbrev pub can_read_all : List (List ℕ) → List Member → Bool
can_read_all counters [] = true
can_read_all counters (m ∷ ms) = can_read counters m.kind && can_read_all (names_with m counters) ms
