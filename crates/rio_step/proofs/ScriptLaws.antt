-- The commands of a script can be stated.
use Rattle.std.proofs.{Common.{ap, length, suc, ◌≡◌, ℕ, ◌+◌, ◌-◌, ◌<◌, List, [], ◌∷◌, ◌++◌, Bool, true, false, Ok, Err, refl, arith}, lemmas.Bool.{and_from, lt-ltb}}
use Rattle.std.specs.{List.{filter, list_all}, Prelude.{if◌then◌else◌, nat_lt}, Str.Lines.{lines}}
use Rattle.rio_token.specs.{declared.fault.TextFault.TheVariants.{BadText, NoMemory}, Reading.{Read}, Tokens.{standing_in}}
use Rattle.rio_model.proofs.{ClassAgain.{spelled_classes_are_read}, StatedClasses.{read_classes_are_stated}}
use Rattle.rio_model.specs.{ClassGrammar.{only_class}, Lexemes.{Lexeme, SpellsFurther}, ValueGrammar.{bracket_limit}}
use Rattle.rio_num.specs.{At.{At}, Word.{is_item_text}}
use Rattle.rio_machine.specs.declared.command.Command.{Command, TheVariants.{Bad, Class, Put, Batch, Delete, Tree as MakeTree, Fill, Save, Get, Scan, Ls}}
use Rattle.rio_machine.specs.declared.command.PutItem.{PutItem}
use Rattle.rio_step.proofs.{CommandTells.{read_commands_are_spelled}, TreeLaws.{branches_stated}}
use Rattle.rio_step.specs.{CommandLaws.{StandToEnd}, CommandSpelling.{SpellsCommand, SpellsPut, SpellsPuts}}
use Rattle.rio_step.specs.Script.{LinesGiveCommands, command_at, commands_from, is_command_line, line_command, or_bad_line}
use Rattle.rio_step.specs.Statable.{ScriptsAreStatable, is_statable}

abbrev Stated : Command → Type 0
Stated c = is_statable c ≡ true

further_stated : (levels : ℕ) (puts front : List PutItem) (ls : List Lexeme) → SpellsFurther (λ before. SpellsPut levels) front puts ls → list_all (λ p. is_item_text p.name) puts ≡ true
further_stated levels [] front ls d = refl
further_stated levels (p ∷ ps) front ls d = and_from _ _ d.3.2 (further_stated levels ps (front ++ p ∷ []) d.1 d.4)

puts_stated : (levels : ℕ) (puts : List PutItem) (ls : List Lexeme) → SpellsPuts levels puts ls → Stated (Batch puts)
puts_stated levels [] ls d = absurd d
puts_stated levels (p ∷ ps) ls d =
    let items = d.2 in
    let some : 0 < length (p ∷ ps) = omega arith in
    and_from (nat_lt 0 (length (p ∷ ps))) (list_all (λ q. is_item_text q.name) (p ∷ ps)) (lt-ltb 0 (length (p ∷ ps)) some) (and_from (is_item_text p.name) (list_all (λ q. is_item_text q.name) ps) items.3.2 (further_stated levels ps (p ∷ []) items.1 items.4))

-- what a line spells can be stated
spelled_stated : (line : List ℕ) (c : Command) (ls : List Lexeme) (new : At) → SpellsCommand bracket_limit c ls → StandToEnd ls (standing_in 0 line) new → Stated c
spelled_stated line (Bad number place) ls new d e = absurd d
spelled_stated line (Class class) ls new d e =
    (read_classes_are_stated line 0 class (ap only_class (spelled_classes_are_read class ls (standing_in 0 line) e.0 d e.1 e.2))).0
spelled_stated line (Put name v) ls new d e = d.2
spelled_stated line (Batch puts) ls new d e = puts_stated (bracket_limit - 1) puts d.0 d.2
spelled_stated line (Delete name cycle) ls new d e = d.2
spelled_stated line (MakeTree name branches) ls new d e = and_from _ _ d.2 (branches_stated branches d.0 d.3)
spelled_stated line (Fill name row) ls new d e = d.2
spelled_stated line (Save name) ls new d e = d.2
spelled_stated line (Get name cycle version) ls new d e = d.2
spelled_stated line (Scan name class) ls new d e = d.2
spelled_stated line Ls ls new d e = refl

bad_or_stated : (number : ℕ) (line : List ℕ) (r : Read Command) → command_at (standing_in 0 line) ≡ r → Stated (or_bad_line number r)
bad_or_stated number line (Ok x) is = let k = read_commands_are_spelled x.0 (standing_in 0 line) x.1 is in spelled_stated line x.0 k.0 x.1 k.1 k.2
bad_or_stated number line (Err (BadText place)) is = refl
bad_or_stated number line (Err NoMemory) is = refl

line_stated : (number : ℕ) (line : List ℕ) → Stated (line_command number line)
unfolding line_command
line_stated number line = bad_or_stated number line (command_at (standing_in 0 line)) refl

lines_stated : (number : ℕ) (ls : List (List ℕ)) → list_all is_statable (commands_from number ls) ≡ true
unfolding commands_from
lines_stated number [] = refl
lines_stated number (line ∷ rest) = by (is_command_line line) (lines_stated (number + 1) rest)
  where
    by : (b : Bool) → list_all is_statable (commands_from (number + 1) rest) ≡ true
        → list_all is_statable (if b then line_command number line ∷ commands_from (number + 1) rest else commands_from (number + 1) rest) ≡ true
    by true later = and_from _ _ (line_stated number line) later
    by false later = later

pub scripts_are_statable : ScriptsAreStatable
scripts_are_statable bytes = lines_stated 1 (lines bytes)

lines_give : (number : ℕ) (ls : List (List ℕ)) → length (commands_from number ls) ≡ length (filter is_command_line ls)
unfolding commands_from
lines_give number [] = refl
lines_give number (line ∷ rest) = by (is_command_line line) (lines_give (number + 1) rest)
  where
    by : (b : Bool) → length (commands_from (number + 1) rest) ≡ length (filter is_command_line rest)
        → length (if b then line_command number line ∷ commands_from (number + 1) rest else commands_from (number + 1) rest) ≡ length (if b then line ∷ filter is_command_line rest else filter is_command_line rest)
    by true later = ap suc later
    by false later = later

pub lines_give_commands : LinesGiveCommands
lines_give_commands bytes = lines_give 1 (lines bytes)
