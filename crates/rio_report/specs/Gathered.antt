-- A text that is gathered line by line, and said piece by piece.
use Rattle.std.specs.Prelude.{◌≡◌, ℕ, List, [], ◌∷◌, ◌++◌, ◌==◌, Bool, true, Some, Result, Ok, Err}
use Rattle.rio_host.specs.{Host.{Becomes, Rose, View}, OnlyReads.{OnlySaysPieces, SaysPieces}}

-- ---- whole lines

-- there are no bytes, or the last one is a line feed
abbrev pub ends_line : List ℕ → Bool
ends_line [] = true
ends_line (x ∷ []) = x == 10
ends_line (x ∷ y ∷ rest) = ends_line (y ∷ rest)

-- these bytes stand at the end, and whole lines behind them
abbrev pub LongerByLines : List ℕ → List ℕ → List ℕ → Type 0
LongerByLines first old new = (lines : List ℕ) × (ends_line lines ≡ true) × (new ≡ old ++ (first ++ lines))

-- These bytes were said, and whole lines behind them, unless a call on the text failed.
abbrev pub SaysLines : List ℕ → View → View → Type 0
SaysLines first old new =
    ¬ Rose old.say_faults new.say_faults
    → (file : List ℕ) → old.holds ≡ Some file → Becomes (LongerByLines first) old.said new.said

-- ---- calls that go on with a text

-- A call that fails behind bytes that are held: at most a prefix of these and of its text was said, and this ends with a line,
-- at the end of these bytes or later, unless saying failed.
pub record CutShort (first : List ℕ) (text_of : List ℕ → List ℕ) (old new : View) : Type 0 where
  pub part : OnlySaysPieces (λ file. first ++ text_of file) old new
  pub lines : SaysLines first old new

-- A call that says a text: all of it, or it fails.
abbrev pub SaysByLine : {X E : Type 0} → (List ℕ → List ℕ) → View → View → Result X E → Type 0
SaysByLine text_of old new (Ok x) = SaysPieces text_of old new
SaysByLine text_of old new (Err e) = CutShort [] text_of old new

-- A prefix of the text was said, and these bytes are held, which are all that is left of it.
pub record Gathered (text_of : List ℕ → List ℕ) (held : List ℕ) (old new : View) : Type 0 where
  pub front : List ℕ → List ℕ
  pub said : SaysPieces front old new
  pub rest : (file : List ℕ) → old.holds ≡ Some file → front file ++ held ≡ text_of file

-- A call that goes on with a text behind bytes that are held: it said a prefix and holds what is left, or it fails.
abbrev pub Gathers : {X E : Type 0} → List ℕ → (List ℕ → List ℕ) → List ℕ → View → View → Result X E → Type 0
Gathers first text_of held old new (Ok x) = Gathered (λ file. first ++ text_of file) held old new
Gathers first text_of held old new (Err e) = CutShort first text_of old new
