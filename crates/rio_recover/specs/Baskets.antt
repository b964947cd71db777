-- The baskets that the headers of trees name, among the records of a file.
use Rattle.std.specs.{Prelude.{◌≡◌, ◌≤◌, ℕ, List, count_by, nat_lt, ◌++◌, Bool, true, ◌==◌, Option}, BTreeSet.{contains}}
use Rattle.rio_num.specs.Reading.{some_if}
use Rattle.std.specs.{List.{list_all, list_any}, Ordering.{nat_cmp}}
use Rattle.rio_key.specs.declared.head.KeyHead.{KeyHead}
use Rattle.rio_tree.specs.{declared.basket_at.BasketAt.{BasketAt}, declared.head.TreeHead.{TreeHead}}
use Rattle.rio_entry.specs.SavedRows as saved
use Rattle.rio_state.specs.Trees.{RecordsAt, are_named_once, basket_bytes}
use Rattle.rio_recover.specs.declared.named.NamedPlaces.{NamedPlaces}

-- ---- by the keys of the records

-- its record begins before the place
abbrev pub is_before_place : ℕ → KeyHead → Bool
is_before_place place h = nat_lt h.seek place

-- the key, if its record begins at the place
abbrev pub if_at_place : ℕ → KeyHead → Option KeyHead
if_at_place place h = some_if (h.seek == place) h

-- each basket that the header names is the record of one, as long as the header says
abbrev pub has_baskets : List KeyHead → TreeHead → Bool
has_baskets heads head = list_all (saved.has_baskets heads) head.branches

-- these records' baskets are those of the file with these keys
abbrev pub AreKeyedIn : List KeyHead → List ℕ → RecordsAt → Type 0
AreKeyedIn heads file at_place = (at : BasketAt) → basket_bytes at_place at ≡ saved.keyed_baskets heads file at

-- ---- places that are named

-- none of the places stands twice
abbrev pub AreOnce : List ℕ → Type 0
AreOnce places = (p : ℕ) → count_by (λ q. p == q) places ≤ 1

abbrev pub is_noted : NamedPlaces → ℕ → Bool
is_noted named p = contains nat_cmp named.places p

-- these places are noted, and no others
abbrev pub HasPlaces : List ℕ → NamedPlaces → Type 0
HasPlaces places named = (p : ℕ) → list_any (λ q. p == q) places ≡ is_noted named p

-- they are noted behind others, and none was noted before or stands twice
pub record AreNoted (others places : List ℕ) (new : NamedPlaces) (once : Bool) : Type 0 where
  pub once_is : once ≡ are_named_once others places
  pub noted : once ≡ true → HasPlaces (others ++ places) new

abbrev pub NotesPlaces : List ℕ → NamedPlaces → NamedPlaces → Bool → Type 0
NotesPlaces places old new once = (others : List ℕ) → HasPlaces others old → AreNoted others places new once
