-- Tokens with what they say, as they stand in a text one behind the other. Blanks before a token say nothing, and a string
-- says the bytes that it spells, with escapes or without. Where no blank may stand before a token, it is glued.
use Rattle.std.specs.Prelude.{◌≡◌, ℕ, List, [], ◌∷◌, ◌++◌, true}
use Rattle.rio_num.specs.At.{At}
use Rattle.rio_token.specs.{declared.token.Token.TheVariants.{Word, Text, Mark}, Marks.{comma}, Tokens.{behind, is_glued, next_at}}

pub data Lexeme : Type 0 where
  word : List ℕ → Lexeme
  chars : List ℕ → Lexeme
  mark : ℕ → Lexeme
  glued : Lexeme → Lexeme

-- this token comes next
abbrev pub IsNext : Lexeme → At → Type 0
IsNext (word bytes) s = ((next_at s).token ≡ Word) × ((next_at s).bytes ≡ bytes)
IsNext (chars bytes) s = ((next_at s).token ≡ Text) × ((next_at s).bytes ≡ bytes)
IsNext (mark b) s = (next_at s).token ≡ Mark b
IsNext (glued l) s = (is_glued s ≡ true) × IsNext l s

-- these tokens come next, up to the place at which reading goes on
abbrev pub Stand : List Lexeme → At → At → Type 0
Stand [] old new = new ≡ old
Stand (l ∷ ls) old new = IsNext l old × Stand ls (behind old) new

-- ---- lists with commas between their items, each spelled in knowledge of those before it

-- for each further item a comma, and the item
abbrev pub SpellsFurther : {A : Type 0} → (List A → A → List Lexeme → Type 0) → List A → List A → List Lexeme → Type 0
SpellsFurther Spells before [] ls = ls ≡ []
SpellsFurther Spells before (x ∷ xs) ls =
    (own : List Lexeme) × (others : List Lexeme) × (ls ≡ mark comma ∷ (own ++ others)) × Spells before x own
    × SpellsFurther Spells (before ++ x ∷ []) xs others

-- items, if there are any
abbrev pub SpellsItems : {A : Type 0} → (List A → A → List Lexeme → Type 0) → List A → List Lexeme → Type 0
SpellsItems Spells [] ls = ls ≡ []
SpellsItems Spells (x ∷ xs) ls =
    (own : List Lexeme) × (others : List Lexeme) × (ls ≡ own ++ others) × Spells [] x own × SpellsFurther Spells (x ∷ []) xs others
