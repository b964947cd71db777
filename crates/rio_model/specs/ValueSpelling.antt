-- Values as tokens spell them, by cases on the value. Texts that spell the same value differ in the blanks between their
-- tokens and in the escapes of their strings. An object of version 0 is one whose version is left out.
use Rattle.std.specs.Prelude.{◌≡◌, ℕ, zero, suc, ◌≤◌, ℤ, pos, negsuc, List, [], ◌∷◌, ◌++◌, codes, Some, Ok, Bool, true, false, not}
use Rattle.rio_num.specs.{At.{At}, Word.{is_name_text}}
use Rattle.rio_format.specs.{declared.value.Part.{Part}, declared.value.Value.{Value, out-Value, TheOpen.{Value-F, Int, Bits32, Bits64, Bool as Truth, Text, List as Items, Object, Pointed, Null, Back, Opaque}}}
use Rattle.rio_token.specs.declared.words.Bits.TheVariants.{Four, Eight}
use Rattle.rio_token.specs.{Marks.{at_sign, closing_brace, closing_bracket, colon, equals_sign, number_sign, opening_brace, opening_bracket}, Reading.{marked}}
use Rattle.rio_token.specs.Words.{bits_of, num_of, number_of}
use Rattle.rio_model.specs.{Lexemes.{Lexeme, SpellsItems, Stand, chars, mark, word}, ValueGrammar.{enclosed_at, opens_object, value_in_text, values_at}}

-- one layer of a value, and the tokens that spell it
abbrev pub Spelling : Type 1
Spelling = Value-F Value Part → List Lexeme → Type 0

-- what stands in the brackets, and the brackets
abbrev pub in_brackets : ℕ → List Lexeme → ℕ → List Lexeme
in_brackets opening inside closing = mark opening ∷ (inside ++ mark closing ∷ [])

-- ---- objects, by how what stands in brackets is spelled

-- the version behind a class; none is version 0
abbrev pub SpellsVersion : ℤ → List Lexeme → Type 0
SpellsVersion (pos zero) ls = ls ≡ []
SpellsVersion (pos (suc n)) ls =
    (digits : List ℕ) × (num_of digits ≡ Some (suc n)) × (suc n ≤ 32767) × (ls ≡ mark number_sign ∷ word digits ∷ [])
SpellsVersion (negsuc n) ls = ⊥

-- CLASS#VERSION and the braces
abbrev pub SpellsAsObject : Spelling → Spelling
SpellsAsObject Enclosed (Object class version parts) ls =
    (behind_class : List Lexeme) × (braces : List Lexeme) × (ls ≡ word class ∷ (behind_class ++ braces))
    × (is_name_text class ≡ true) × SpellsVersion version behind_class × Enclosed (Object class version parts) braces
SpellsAsObject Enclosed other ls = ⊥

-- ---- values, by how what stands in brackets is spelled

abbrev pub truth_word : Bool → List ℕ
truth_word true = codes "true"
truth_word false = codes "false"

abbrev pub SpellsLayer : Spelling → Spelling
SpellsLayer Enclosed (Int z) ls = (digits : List ℕ) × (number_of digits ≡ Some z) × (ls ≡ word digits ∷ [])
SpellsLayer Enclosed (Bits32 n) ls = (digits : List ℕ) × (bits_of digits ≡ Some (Four n)) × (ls ≡ word digits ∷ [])
SpellsLayer Enclosed (Bits64 n) ls = (digits : List ℕ) × (bits_of digits ≡ Some (Eight n)) × (ls ≡ word digits ∷ [])
SpellsLayer Enclosed (Truth b) ls = ls ≡ word (truth_word b) ∷ []
SpellsLayer Enclosed (Text text) ls = ls ≡ chars text ∷ []
SpellsLayer Enclosed (Items items) ls = Enclosed (Items items) ls
SpellsLayer Enclosed (Object class version parts) ls = SpellsAsObject Enclosed (Object class version parts) ls
SpellsLayer Enclosed (Pointed label object) ls =
    (digits : List ℕ) × (own : List Lexeme) × (ls ≡ mark at_sign ∷ word digits ∷ mark equals_sign ∷ own)
    × (num_of digits ≡ Some label) × SpellsAsObject Enclosed (out-Value object) own
SpellsLayer Enclosed Null ls = ls ≡ word (codes "null") ∷ []
SpellsLayer Enclosed (Back label) ls =
    (digits : List ℕ) × (num_of digits ≡ Some label) × (ls ≡ mark at_sign ∷ word digits ∷ [])
SpellsLayer Enclosed (Opaque class len) ls = ⊥

-- a member with its name before it, or, without a name, a base
abbrev pub SpellsNamed : Spelling → List ℕ → Value → List Lexeme → Type 0
SpellsNamed Enclosed [] value ls = SpellsAsObject Enclosed (out-Value value) ls
SpellsNamed Enclosed (b ∷ bs) value ls =
    (own : List Lexeme) × (ls ≡ word (b ∷ bs) ∷ mark colon ∷ own) × (is_name_text (b ∷ bs) ≡ true) × SpellsLayer Enclosed (out-Value value) own

-- ---- brackets

-- what stands in brackets, by how brackets inside are spelled
abbrev pub SpellsBrackets : Spelling → Spelling
SpellsBrackets Inner (Items items) ls =
    (inside : List Lexeme) × (ls ≡ in_brackets opening_bracket inside closing_bracket)
    × SpellsItems (λ before v. SpellsLayer Inner (out-Value v)) items inside
SpellsBrackets Inner (Object class version parts) ls =
    (inside : List Lexeme) × (ls ≡ in_brackets opening_brace inside closing_brace)
    × SpellsItems (λ before p. SpellsNamed Inner p.name p.value) parts inside
SpellsBrackets Inner other ls = ⊥

-- with at most so many brackets within one another
abbrev pub SpellsWithin : ℕ → Spelling
SpellsWithin zero y ls = ⊥
SpellsWithin (suc levels) y ls = SpellsBrackets (SpellsWithin levels) y ls

-- these tokens spell the value, with at most so many brackets within one another
unfoldable pub SpellsValue : ℕ → Value → List Lexeme → Type 0
SpellsValue levels v ls = SpellsLayer (SpellsWithin levels) (out-Value v) ls

-- these tokens spell the row: its values, with their brackets, in its own
unfoldable pub SpellsRow : ℕ → List Value → List Lexeme → Type 0
SpellsRow levels values ls =
    (inside : List Lexeme) × (ls ≡ in_brackets opening_bracket inside closing_bracket)
    × SpellsItems (λ before. SpellsValue levels) values inside

-- ---- the laws

-- where a value ends: behind a name no version and no brace comes next, behind a label no equals sign
abbrev pub ends_here : Value-F Value Part → At → Bool
ends_here (Truth b) s = not (opens_object s)
ends_here Null s = not (opens_object s)
ends_here (Back label) s = not (marked equals_sign s)
ends_here other s = true

-- what is spelled is read, wherever it stands, where it ends
pub record SpelledAreRead : Type 0 where
  pub value :
      (levels : ℕ) (v : Value) (ls : List Lexeme) (old new : At) → SpellsValue levels v ls → Stand ls old new
      → ends_here (out-Value v) new ≡ true → value_in_text (enclosed_at levels) old ≡ Ok (v, new)
  pub row :
      (levels : ℕ) (values : List Value) (ls : List Lexeme) (old new : At) → SpellsRow levels values ls
      → Stand ls old new → values_at (enclosed_at levels) old ≡ Ok (values, new)

-- what is read is spelled
pub record ReadAreSpelled : Type 0 where
  pub value :
      (levels : ℕ) (v : Value) (old new : At) → value_in_text (enclosed_at levels) old ≡ Ok (v, new)
      → (ls : List Lexeme) × SpellsValue levels v ls × Stand ls old new × (ends_here (out-Value v) new ≡ true)
  pub row :
      (levels : ℕ) (values : List Value) (old new : At) → values_at (enclosed_at levels) old ≡ Ok (values, new)
      → (ls : List Lexeme) × SpellsRow levels values ls × Stand ls old new
