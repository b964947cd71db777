-- How long what is written is.
use Rattle.std.specs.{Prelude.{◌≡◌, ◌<◌, ◌≤◌, ℕ, ◌+◌, min, is_some, List, [], ◌∷◌, length, Result, Ok, Err}, List.{find, list_any}, Str.{bytes_eq}}
use Rattle.rio_num.specs.declared.no_memory.NoMemory.{NoMemory}
use Rattle.rio_format.specs.{ReaderState.{WordsMet}, Writer.{Writer, WriterState, next_place}}

pub record Measured : Type 0 where
  -- how many bytes are written so far, and one above the limit where they are more
  pub total : ℕ
  -- the names of classes that they spell out
  pub names : List (List ℕ)

abbrev pub too_long : ℕ
too_long = 16777217

abbrev pub longer : ℕ → Measured → Measured
longer n m = record m { total = min (m.total + n) too_long }

abbrev pub AreBelow : ℕ → List (ℕ × List ℕ) → Type 0
AreBelow p [] = Unit {0}
AreBelow p (e ∷ es) = (e.0 < p) × AreBelow p es

-- its names are those of the words, however often each stands among them, and the words stand below the place
pub record FollowsWords (m : Measured) (p : ℕ) (t : WordsMet) : Type 0 where
  pub names : (class : List ℕ) → list_any (bytes_eq class) m.names ≡ is_some (find (λ e. bytes_eq e.1 class) t.names)
  pub below : AreBelow p t.names
  pub small : m.total ≤ too_long

-- it grows by what is written there, wherever that is
unfoldable pub Grows : Writer → Measured → Measured → Type 0
Grows write old new = (p : ℕ) (t : WordsMet) → FollowsWords old p t → let a = write p t in (new.total ≡ min (old.total + length a.0) too_long) × FollowsWords new (p + length a.0) a.1

-- It grew so, or memory ran out.
abbrev pub Measures : Writer → Result (Unit {0}) NoMemory → Measured → Measured → Type 0
Measures write (Ok x) old new = Grows write old new
Measures write (Err e) old new = Unit {0}

-- it counts the bytes of the state, and its names are those that stand there
pub record CountsFor (m : Measured) (s : WriterState) : Type 0 where
  pub total : m.total ≡ min (length s.bytes) too_long
  pub follows : FollowsWords m (next_place s) s.words
