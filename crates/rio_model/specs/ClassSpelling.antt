-- Declarations of classes as tokens spell them, by cases on what is declared. Texts that declare the same class differ in
-- the blanks between their tokens.
use Rattle.std.specs.Prelude.{◌≡◌, ℕ, pos, List, [], ◌∷◌, ◌++◌, codes, Ok, Some, None, Bool, true, not, ◌&&◌}
use Rattle.rio_num.specs.{At.{At}, Word.{is_name_text}}
use Rattle.rio_format.specs.{declared.class.Base.{Base}, declared.class.ClassDef.{ClassDef}, declared.class.Member.{Member}, declared.kind.Kind.{Kind, TheVariants.{Plain, Fixed, Counted, Text, Inline, Pointer}}}
use Rattle.rio_token.specs.{declared.token.Token.TheVariants.{End}, Marks.{asterisk, closing_brace, closing_bracket, colon, opening_brace, opening_bracket}}
use Rattle.rio_token.specs.{Reading.{marked}, Tokens.{behind, next_at}, Words.{num_between_of}}
use Rattle.rio_model.specs.{ClassGrammar.{class_at, class_of, has_i32, is_new_base, is_new_member}, ClassText.{primitive_text}}
use Rattle.rio_model.specs.{Lexemes.{Lexeme, SpellsItems, Stand, mark, word}, Stated.{is_class_word}, ValueSpelling.{in_brackets}}

-- ---- kinds

-- The kind of a member as it is declared, in knowledge of the members before. Where an i32 counts, it is declared as an i32.
abbrev pub SpellsKind : List Member → Kind → List Lexeme → Type 0
SpellsKind before (Plain prim) ls = ls ≡ word (primitive_text prim) ∷ []
SpellsKind before (Fixed prim count) ls =
    (digits : List ℕ) × (num_between_of 1 100000 digits ≡ Some count)
    × (ls ≡ word (primitive_text prim) ∷ in_brackets opening_bracket (word digits ∷ []) closing_bracket)
SpellsKind before (Counted prim counter) ls =
    (num_between_of 1 100000 counter ≡ None) × (has_i32 before counter ≡ true)
    × (ls ≡ word (primitive_text prim) ∷ in_brackets opening_bracket (word counter ∷ []) closing_bracket)
SpellsKind before Text ls = ls ≡ word (codes "text") ∷ []
SpellsKind before (Inline class) ls = (is_class_word class ≡ true) × (ls ≡ word class ∷ [])
SpellsKind before (Pointer class) ls = (is_name_text class ≡ true) × (ls ≡ word class ∷ mark asterisk ∷ [])
SpellsKind before other ls = ⊥

-- where a kind ends: behind a word no asterisk comes next, behind one of single values no bracket either
abbrev pub ends_kind : Kind → At → Bool
ends_kind (Plain prim) s = not (marked asterisk s) && not (marked opening_bracket s)
ends_kind Text s = not (marked asterisk s)
ends_kind (Inline class) s = not (marked asterisk s)
ends_kind other s = true

-- ---- members and bases

abbrev pub SpellsMember : List Member → Member → List Lexeme → Type 0
SpellsMember before m ls =
    (own : List Lexeme) × (ls ≡ word m.name ∷ mark colon ∷ own) × (is_new_member before m.name ≡ true) × (m.title ≡ [])
    × SpellsKind before m.kind own

abbrev pub SpellsBase : List Base → Base → List Lexeme → Type 0
SpellsBase before b ls = (ls ≡ word b.name ∷ []) × (is_new_base before b.name ≡ true) × (b.version ≡ pos 0)

-- the bases, if there are any, and the opening brace
abbrev pub SpellsBases : List Base → List Lexeme → Type 0
SpellsBases [] ls = ls ≡ mark opening_brace ∷ []
SpellsBases (b ∷ bs) ls = (inside : List Lexeme) × (ls ≡ in_brackets colon inside opening_brace) × SpellsItems SpellsBase (b ∷ bs) inside

-- ---- classes

-- these tokens declare the class: its members are those that are declared, in which each i32 that counts is a counter
pub record SpellsDeclaration (class : ClassDef) (ls : List Lexeme) : Type 0 where
  pub version : ℕ
  pub digits : List ℕ
  pub members : List Member
  pub front : List Lexeme
  pub inside : List Lexeme
  pub tokens : ls ≡ word (codes "class") ∷ word class.name ∷ word digits ∷ (front ++ (inside ++ mark closing_brace ∷ []))
  pub named : is_name_text class.name ≡ true
  pub numbered : num_between_of 1 32767 digits ≡ Some version
  pub based : SpellsBases class.bases front
  pub listed : SpellsItems SpellsMember members inside
  pub whole : class ≡ class_of class.name version class.bases members

-- ---- the laws

-- what is spelled is read, wherever it stands, where the text ends behind it
abbrev pub SpelledClassesAreRead : Type 0
SpelledClassesAreRead =
    (class : ClassDef) (ls : List Lexeme) (old here : At) → SpellsDeclaration class ls → Stand ls old here
    → (next_at here).token ≡ End → class_at old ≡ Ok (class, behind here)

-- what is read is spelled
abbrev pub ReadClassesAreSpelled : Type 0
ReadClassesAreSpelled =
    (class : ClassDef) (old new : At) → class_at old ≡ Ok (class, new)
    → (ls : List Lexeme) × (here : At) × SpellsDeclaration class ls × Stand ls old here × ((next_at here).token ≡ End) × (new ≡ behind here)
