-- The grammar of commands and their reading belong together.
use Rattle.std.specs.Prelude.{◌≡◌, ℕ, suc, ◌^◌, ◌<◌, List, [], ◌∷◌, ◌++◌, codes, length, Ok, Err, Bool, true, false}
use Rattle.rio_num.specs.At.{At}
use Rattle.rio_token.specs.{declared.fault.TextFault.{TextFault, TheVariants.{BadText}}, declared.token.Token.TheVariants.{Cut, End}, Reading.{Read}}
use Rattle.rio_token.specs.Tokens.{behind, is_glued, next_at, standing_in}
use Rattle.rio_model.specs.{ClassGrammar.{class_at}, ClassSpelling.{SpellsDeclaration}, Lexemes.{IsNext, Lexeme, Stand}}
use Rattle.rio_model.specs.{ToldPlaces.{Begin, HaveSameNext, IsLast, told_place}, ValueGrammar.{bracket_limit}}
use Rattle.rio_machine.specs.declared.command.Command.{Command, TheVariants.{Bad}}
use Rattle.rio_step.specs.{CommandSpelling.{SpellsCommand}, Script.{comes_next, command_at, line_command}}

-- these tokens are all that is left of the line, and reading goes on at its end
abbrev pub StandToEnd : List Lexeme → At → At → Type 0
StandToEnd ls old new = (here : At) × Stand ls old here × ((next_at here).token ≡ End) × (new ≡ behind here)

-- and they spell the command
abbrev pub IsSpelledLine : Command → At → At → Type 0
IsSpelledLine command old new = (ls : List Lexeme) × SpellsCommand bracket_limit command ls × StandToEnd ls old new

-- what is spelled is read, wherever it stands
abbrev pub SpelledCommandsAreRead : Type 0
SpelledCommandsAreRead = (command : Command) (old new : At) → IsSpelledLine command old new → command_at old ≡ Ok (command, new)

-- what is read is spelled
abbrev pub ReadCommandsAreSpelled : Type 0
ReadCommandsAreSpelled = (command : Command) (old new : At) → command_at old ≡ Ok (command, new) → IsSpelledLine command old new

-- ---- the first token that can't stand

-- the same token comes next; where blanks count, with a blank before it in both places or in neither
pub record HaveSameToken (blanks_count : Bool) (s t : At) : Type 0 where
  pub next : HaveSameNext s t
  pub glue : blanks_count ≡ true → is_glued s ≡ is_glued t

-- The tokens that stand in one place stand in another, up to a place, and the token behind them is the same.
abbrev pub StandAlike : Bool → List Lexeme → At → At → At → Type 0
StandAlike blanks_count [] old s t = (t ≡ s) × HaveSameToken blanks_count old s
StandAlike blanks_count (l ∷ ls) old s t =
    IsNext l s × HaveSameToken blanks_count old s × StandAlike blanks_count ls (behind old) (behind s) t

-- Behind some tokens one comes next that can't stand, and its place is told. In every text in which they stand alike, its place
-- is told, whatever stands behind it. The tokens before it are the beginning of what is read.
pub record IsFirstBadToken {A : Type 0} (blanks_count : Bool) (read : At → Read A) (Begins : List Lexeme → Type 0) (old : At) (fault : TextFault) : Type 0 where
  pub before : List Lexeme
  pub here : At
  pub cut : Bool
  pub stands : Stand before old here
  pub unended : cut ≡ true → (next_at here).token ≡ Cut
  pub told : fault ≡ BadText (told_place cut here)
  pub always : (s t : At) → StandAlike blanks_count before old s t → read s ≡ Err (BadText (told_place cut t))
  pub begins : (last : List Lexeme) → IsLast cut last → Begins (before ++ last)

-- These tokens begin something, if they are so few that there is a new name left for a leaf or a member.
abbrev pub BeginIfFew : {A : Type 0} → (A → List Lexeme → Type 0) → List Lexeme → Type 0
BeginIfFew Spells ls = length ls < 2 ^ 32 → Begin Spells ls

-- This is told of a line that is no command. Blanks count in that of a tree. One bracket more than may be open is enough to
-- complete what stands before the token.
abbrev pub IsBadLine : At → TextFault → Type 0
IsBadLine old = IsFirstBadToken (comes_next (codes "tree") old) command_at (BeginIfFew (SpellsCommand (suc bracket_limit))) old

-- a line that isn't read has a first token that can't stand
abbrev pub CommandPlacesAreTold : Type 0
CommandPlacesAreTold = (old : At) (fault : TextFault) → command_at old ≡ Err fault → IsBadLine old fault

-- A text that isn't read as a declaration has a first token that can't stand.
abbrev pub DeclarationPlacesAreTold : Type 0
DeclarationPlacesAreTold =
    (old : At) (fault : TextFault) → class_at old ≡ Err fault
    → IsFirstBadToken false class_at (BeginIfFew SpellsDeclaration) old fault

-- ---- the lines of a script

-- the command that the line of this number is
abbrev pub IsLine : ℕ → List ℕ → Command → Type 0
IsLine number line (Bad n place) = (n ≡ number) × IsBadLine (standing_in 0 line) (BadText place)
IsLine number line command = (new : At) × IsSpelledLine command (standing_in 0 line) new

-- each line that counts is read as the command that it is, and is no other
pub record LinesAreSpelled : Type 0 where
  pub is : (number : ℕ) (line : List ℕ) → IsLine number line (line_command number line)
  pub only : (number : ℕ) (line : List ℕ) (command : Command) → IsLine number line command → command ≡ line_command number line
