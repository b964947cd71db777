-- The gaps of a file, sorted by place, those that touch as one: which bytes are free, and how that changes.
use Rattle.std.specs.Prelude.{◌≡◌, ◌⊎◌, ◌==◌, ◌&&◌, ℕ, ◌+◌, ◌-◌, ◌^◌, ◌<◌, ◌≤◌, Bool, List, [], ◌∷◌, Option, None, Some, false, slice_get, nat_lt, nat_le, if◌then◌else◌}
use Rattle.std.specs.{List.{All, Any, find, list_any}, Option.{option_map, option_map_or, option_or}}
use Rattle.rio_free.specs.declared.gap.Gap.{Gap}

-- gaps, and for how many more there is room
pub record FreeGaps : Type 0 where
  pub gaps : List Gap
  pub spare : ℕ

abbrev pub gap_of : ℕ → ℕ → Gap
gap_of place length = record { place = place; length = length }

-- the place of the first byte behind a gap
abbrev pub gap_end : Gap → ℕ
gap_end g = g.place + g.length

-- a gap that begins at this place or behind it, and isn't empty
pub record IsGapFrom (from : ℕ) (g : Gap) : Type 0 where
  pub behind : from ≤ g.place
  pub some : 0 < g.length
  pub fits : gap_end g < 2 ^ 64

-- gaps in order of place, the first of them from this place on: none is empty, and none touches the next
abbrev pub AreGapsFrom : ℕ → List Gap → Type 0
AreGapsFrom from [] = Unit {0}
AreGapsFrom from (g ∷ gaps) = IsGapFrom from g × AreGapsFrom (gap_end g + 1) gaps

abbrev pub AreGaps : List Gap → Type 0
AreGaps gaps = AreGapsFrom 0 gaps

-- whether a byte lies in a gap
abbrev pub lies_in : ℕ → Gap → Bool
lies_in byte g = nat_le g.place byte && nat_lt byte (gap_end g)

-- whether a byte lies in one of the gaps
abbrev pub is_free : List Gap → ℕ → Bool
is_free gaps byte = list_any (lies_in byte) gaps

-- the gap that a byte lies in
abbrev pub gap_over : ℕ → List Gap → Option Gap
gap_over byte gaps = find (lies_in byte) gaps

-- the choice for n bytes: the first gap as long, else the first that is longer by more than three
abbrev pub best_gap : ℕ → List Gap → Option Gap
best_gap n gaps = option_or (find (λ g. g.length == n) gaps) (find (λ g. nat_lt (n + 3) g.length) gaps)

abbrev pub best_place : ℕ → List Gap → Option ℕ
best_place n gaps = option_map (λ g. g.place) (best_gap n gaps)

-- n bytes can be taken of a gap: it is as long, or longer by more than three
abbrev pub IsFitFor : ℕ → Gap → Type 0
IsFitFor n g = (g.length ≡ n) ⊎ (n + 3 < g.length)

-- such a gap begins at the place
abbrev pub HasGapFor : List Gap → ℕ → ℕ → Type 0
HasGapFor gaps place n = Any (λ g. (g.place ≡ place) × IsFitFor n g) gaps

-- what is left of a gap from a place on, before the gaps behind it
abbrev pub left_from : ℕ → ℕ → List Gap → List Gap
left_from place length gaps = if length == 0 then gaps else gap_of place length ∷ gaps

-- the gaps without n bytes at the front of the gap at a place
abbrev pub taken : ℕ → ℕ → List Gap → List Gap
taken place n [] = []
taken place n (g ∷ gaps) = if g.place == place then left_from (place + n) (g.length - n) gaps else g ∷ taken place n gaps

-- a gap before others: one with the first of them where they touch
abbrev pub joined : Gap → List Gap → List Gap
joined g [] = g ∷ []
joined g (h ∷ gaps) = if gap_end g == h.place then gap_of g.place (g.length + h.length) ∷ gaps else g ∷ h ∷ gaps

-- the gaps with one more in its place among them, those that touch as one
abbrev pub given : Gap → List Gap → List Gap
given g [] = g ∷ []
given g (h ∷ gaps) = if nat_lt h.place g.place then joined h (given g gaps) else joined g (h ∷ gaps)

-- two ranges of bytes have none in common
abbrev pub AreApart : Gap → Gap → Type 0
AreApart g h = (gap_end h ≤ g.place) ⊎ (gap_end g ≤ h.place)

-- a range of bytes has none in common with the gaps
abbrev pub IsApart : Gap → List Gap → Type 0
IsApart g gaps = All (AreApart g) gaps

-- the length of a gap that begins at a place
abbrev pub length_at : ℕ → Option Gap → Option ℕ
length_at place None = None
length_at place (Some g) = if place == g.place then Some g.length else None

-- whether the gap before the one at an index ends at a place
abbrev pub ends_before : List Gap → ℕ → ℕ → Bool
ends_before gaps at place = nat_lt 0 at && option_map_or (λ g. gap_end g == place) (slice_get gaps (at - 1)) false
