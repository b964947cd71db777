-- Each line of a script is read as the command that it is, and is no other.
use Rattle.std.proofs.Common.{codes, Bool, ◌≡◌, ℕ, List, [], ◌∷◌, Ok, Err, refl, sym, ◌∙◌, ap}
use Rattle.rio_num.specs.At.{At}
use Rattle.rio_token.specs.{declared.fault.TextFault.TheVariants.{BadText, NoMemory}, Reading.{Read}, Tokens.{behind, standing_in}}
use Rattle.rio_model.specs.Lexemes.{Lexeme, Stand}
use Rattle.rio_machine.specs.declared.command.Command.{Command, TheVariants.{Bad, Class, Put, Batch, Delete, Tree as MakeTree, Fill, Save, Get, Scan, Ls}}
use Rattle.rio_step.specs.CommandLaws.{IsBadLine, IsLine, IsSpelledLine, LinesAreSpelled, StandAlike}
use Rattle.rio_step.specs.Script.{comes_next, command_at, line_command, or_bad_line}
use Rattle.rio_step.proofs.{CommandAgain.{spelled_commands_are_read}, CommandTells.{command_places_are_told, read_commands_are_spelled}}

-- ---- what is read

abbrev Spelled : List ℕ → Command → Type 0
Spelled line c = (new : At) × IsSpelledLine c (standing_in 0 line) new

spelled_line : (number : ℕ) (line : List ℕ) (c : Command) → Spelled line c → IsLine number line c
spelled_line number line (Bad n place) d = absurd d.1.1
spelled_line number line other d = d

never : (old : At) → IsBadLine old NoMemory → ⊥
never old b = let e = b.told in cc

line_is : (number : ℕ) (line : List ℕ) (r : Read Command) → command_at (standing_in 0 line) ≡ r → IsLine number line (or_bad_line number r)
line_is number line (Ok x) is = spelled_line number line x.0 (x.1, read_commands_are_spelled x.0 (standing_in 0 line) x.1 is)
line_is number line (Err (BadText place)) is = (refl, command_places_are_told (standing_in 0 line) (BadText place) is)
line_is number line (Err NoMemory) is = absurd (never (standing_in 0 line) (command_places_are_told (standing_in 0 line) NoMemory is))

-- ---- and only that

alike : (strict : Bool) (ls : List Lexeme) (s t : At) → Stand ls s t → StandAlike strict ls s s t
alike strict [] s t h = (h, record { next = record { token = refl; word = refl }; glue = λ _. refl })
alike strict (l ∷ ls) s t h = (h.0, record { next = record { token = refl; word = refl }; glue = λ _. refl }, alike strict ls (behind s) t h.1)

abbrev Again : ℕ → List ℕ → Command → Type 0
Again number line c = c ≡ or_bad_line number (command_at (standing_in 0 line))

line_again : (number : ℕ) (line : List ℕ) (c : Command) → Spelled line c → Again number line c
line_again number line c d = let h = spelled_commands_are_read c (standing_in 0 line) d.0 d.1 in rw h refl

bad_again : (number n : ℕ) (line : List ℕ) (place : ℕ) → n ≡ number → IsBadLine (standing_in 0 line) (BadText place) → Again number line (Bad n place)
bad_again number n line place e b =
    let old = standing_in 0 line in
    let h : command_at old ≡ Err (BadText place) = b.always old b.here (alike (comes_next (codes "tree") old) b.before old b.here b.stands) ∙ ap (λ f. let r : Read Command = Err f in r) (sym b.told) in
    rw (h, e) refl

only_line : (number : ℕ) (line : List ℕ) (c : Command) → IsLine number line c → Again number line c
only_line number line (Bad n place) d = bad_again number n line place d.0 d.1
only_line number line (Class class) d = line_again number line (Class class) d
only_line number line (Put name v) d = line_again number line (Put name v) d
only_line number line (Batch puts) d = line_again number line (Batch puts) d
only_line number line (Delete name cycle) d = line_again number line (Delete name cycle) d
only_line number line (MakeTree name branches) d = line_again number line (MakeTree name branches) d
only_line number line (Fill name row) d = line_again number line (Fill name row) d
only_line number line (Save name) d = line_again number line (Save name) d
only_line number line (Get name cycle version) d = line_again number line (Get name cycle version) d
only_line number line (Scan name class) d = line_again number line (Scan name class) d
only_line number line Ls d = line_again number line Ls d

pub lines_are_spelled : LinesAreSpelled
unfolding line_command
lines_are_spelled = record {
  is = λ number line. line_is number line (command_at (standing_in 0 line)) refl;
  only = λ number line c d. only_line number line c d;
}
