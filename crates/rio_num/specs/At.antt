-- Where reading stands: the place of the next byte, and the bytes from there on.
use Rattle.std.specs.Prelude.{◌≡◌, ℕ, ◌+◌, ◌-◌, ◌≤◌, ◌<◌, List, [], length, drop, slice_index, nat_lt, if◌then◌else◌}

pub record At : Type 0 where
  pub place : ℕ
  pub rest : List ℕ

-- where the bytes end
abbrev pub end_place : At → ℕ
end_place s = s.place + length s.rest

-- reading at a place of bytes whose first byte stands at base; outside them nothing is left
abbrev pub standing_at : ℕ → ℕ → List ℕ → At
standing_at base place bytes = record { place = place; rest = if nat_lt place base then [] else drop (place - base) bytes }

-- reading went on, or stands still, in the same bytes
pub record GoesOn (old new : At) : Type 0 where
  pub forward : old.place ≤ new.place
  pub same_end : end_place new ≡ end_place old

-- numbers from 0 to 255
abbrev pub AreBytes : List ℕ → Type 0
AreBytes bytes = (i : ℕ) → slice_index bytes i < 256

-- how many bytes a place in a file takes, by the version of what tells it: 8 in the large form
abbrev pub place_len_of : ℕ → ℕ
place_len_of version = if nat_lt 1000 version then 8 else 4
