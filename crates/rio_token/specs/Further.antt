-- Reading goes on in the same text: what is left afterwards is what was left before, without the bytes that were read.
use Rattle.std.specs.Prelude.{◌≡◌, ℕ, ◌+◌, ◌<◌, List, ◌++◌, length, Ok, Err, Bool, true, false}
use Rattle.rio_num.specs.At.{At, GoesOn}
use Rattle.rio_token.specs.declared.token.Token.{Token, TheVariants.{Word, Text, Mark}}
use Rattle.rio_token.specs.{Reading.{Read, end_at, mark_at, num_at, num_between_at, string_at, word_at, word_that_at}, Tokens.{behind, next_at, standing_in}}

-- further on in the text, or at the same place
pub record IsFurther (old new : At) : Type 0 where
  pub passed : List ℕ
  pub parts : old.rest ≡ passed ++ new.rest
  pub place : new.place ≡ old.place + length passed

-- where something was read, reading stands further on
abbrev pub EndsFurther : {A : Type 0} → At → Read A → Type 0
EndsFurther s (Ok x) = IsFurther s x.1
EndsFurther s (Err e) = Unit {0}

-- where any take succeeds, reading stands further on in the same text
pub record TakesEndFurther : Type 0 where
  pub mark : (mark : ℕ) (s : At) → EndsFurther s (mark_at mark s)
  pub word : (s : At) → EndsFurther s (word_at s)
  pub tested_word : (test : List ℕ → Bool) (s : At) → EndsFurther s (word_that_at test s)
  pub num : (s : At) → EndsFurther s (num_at s)
  pub num_between : (low high : ℕ) (s : At) → EndsFurther s (num_between_at low high s)
  pub string : (s : At) → EndsFurther s (string_at s)
  pub end : (s : At) → EndsFurther s (end_at s)

-- what is left there is the text from that place on
abbrev pub FurtherIsInText : Type 0
FurtherIsInText = (text : List ℕ) (place : ℕ) (s : At) → IsFurther (standing_in place text) s → s ≡ standing_in s.place text

abbrev pub FurtherGoesOn : Type 0
FurtherGoesOn = (old new : At) → IsFurther old new → GoesOn old new

-- a token that can be passed: a word, a string or a byte of punctuation
abbrev pub can_be_passed : Token → Bool
can_be_passed Word = true
can_be_passed Text = true
can_be_passed (Mark b) = true
can_be_passed other = false

-- it takes some of the text
abbrev pub PassedTakesSome : Type 0
PassedTakesSome = (s : At) → can_be_passed (next_at s).token ≡ true → length (behind s).rest < length s.rest
