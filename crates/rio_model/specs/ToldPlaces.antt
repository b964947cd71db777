-- The place that is told of a text that isn't read, and what the tokens before that place begin.
use Rattle.std.specs.Prelude.{◌≡◌, ℕ, suc, List, [], ◌∷◌, ◌++◌, Err, Bool, true, false, if◌then◌else◌}
use Rattle.rio_num.specs.At.{At, end_place}
use Rattle.rio_token.specs.{declared.fault.TextFault.{TextFault, TheVariants.{BadText}}, declared.token.Token.TheVariants.{Cut}, Reading.{Read, next_word}}
use Rattle.rio_token.specs.Tokens.{next_at, token_place}
use Rattle.rio_model.specs.{Lexemes.{Lexeme, Stand, chars}, ValueGrammar.{enclosed_at, value_in_text, values_at}, ValueSpelling.{SpellsRow, SpellsValue}}

-- the same token comes next: one of the same kind, and the same word
pub record HaveSameNext (s t : At) : Type 0 where
  pub token : (next_at s).token ≡ (next_at t).token
  pub word : next_word s ≡ next_word t

-- The place that is told of a token. Of a string that isn't ended it is the text's end, where a string may stand.
abbrev pub told_place : Bool → At → ℕ
told_place cut s = if cut then end_place s else token_place s

-- what stands last in a text that is completed: any string in place of one that isn't ended
abbrev pub IsLast : Bool → List Lexeme → Type 0
IsLast true ls = (text : List ℕ) × (ls ≡ chars text ∷ [])
IsLast false ls = ls ≡ []

-- Behind some tokens one comes next whose place is told. Where it comes next behind the same tokens, its place is told,
-- whatever stands behind it. What the tokens before it begin is given.
pub record TellsBadToken {A : Type 0} (read : At → Read A) (Begins : List Lexeme → Type 0) (old : At) (fault : TextFault) : Type 0 where
  pub before : List Lexeme
  pub here : At
  pub cut : Bool
  pub stands : Stand before old here
  pub unended : cut ≡ true → (next_at here).token ≡ Cut
  pub told : fault ≡ BadText (told_place cut here)
  pub always : (s t : At) → Stand before s t → HaveSameNext here t → read s ≡ Err (BadText (told_place cut t))
  pub begins : (last : List Lexeme) → IsLast cut last → Begins (before ++ last)

-- these tokens, with others behind them, spell something
abbrev pub Begin : {A : Type 0} → (A → List Lexeme → Type 0) → List Lexeme → Type 0
Begin {A} Spells ls = (more : List Lexeme) × (x : A) × Spells x (ls ++ more)

-- A text that isn't read has a token whose place is told. With others behind them the tokens before it spell something, in
-- which one bracket more may stand within another than a text may have.
pub record PlacesAreTold : Type 0 where
  pub value :
      (levels : ℕ) (old : At) (fault : TextFault) → value_in_text (enclosed_at levels) old ≡ Err fault
      → TellsBadToken (value_in_text (enclosed_at levels)) (Begin (SpellsValue (suc levels))) old fault
  pub row :
      (levels : ℕ) (old : At) (fault : TextFault) → values_at (enclosed_at levels) old ≡ Err fault
      → TellsBadToken (values_at (enclosed_at levels)) (Begin (SpellsRow (suc levels))) old fault
