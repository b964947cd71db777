-- Scripts as texts are read: a command for each line that counts, a bad line with the place of the first token that can't
-- stand.
use Rattle.std.specs.Prelude.{◌≡◌, ℕ, ◌+◌, ℤ, pos, List, [], ◌∷◌, length, codes, ◌-◌, Option, Some, None, Ok, Err, Bool, false, not, ◌==◌, if◌then◌else◌}
use Rattle.std.specs.{List.{filter}, Option.{option_map_or}, Str.{bytes_eq, Lines.{lines}}}
use Rattle.rio_num.specs.{At.{At}, Reading.{◌>>=◌}}
use Rattle.rio_token.specs.{declared.fault.TextFault.TheVariants.{BadText, NoMemory}, Marks.{closing_brace, number_sign, opening_brace, semicolon}}
use Rattle.rio_token.specs.{Reading.{Read, bad_at, end_at, item_at, mark_at, marked, name_at, next_word, num_at, some_at, version_at}, Tokens.{behind, standing_in}}
use Rattle.rio_format.specs.declared.class.Base.{Base}
use Rattle.rio_model.specs.{ClassGrammar.{class_at}, ValueGrammar.{bracket_limit, enclosed_at, row_at, value_in_text}}
use Rattle.rio_machine.specs.declared.command.Command.{Command, TheVariants.{Bad, Class, Put, Batch, Delete, Tree as MakeTree, Fill, Save, Get, Scan, Ls}}
use Rattle.rio_machine.specs.declared.command.PutItem.{PutItem}
use Rattle.rio_step.specs.TreeGrammar.{branches_at}

-- ---- commands, behind their first word

-- a command that is read up to the end of the line
abbrev pub ended_at : Read Command → Read Command
ended_at read = do
  command ← read
  done ← end_at command.1
  Ok (command.0, done.1)

unfoldable pub put_command_at : At → Read Command
put_command_at s = do
  name ← item_at s
  value ← value_in_text (enclosed_at bracket_limit) name.1
  Ok (Put name.0 value.0, value.1)

-- one put of a batch, whose braces count among the brackets that stand within one another
unfoldable pub batch_put_at : At → Read PutItem
batch_put_at s = do
  name ← item_at s
  value ← value_in_text (enclosed_at (bracket_limit - 1)) name.1
  Ok (record { name = name.0; value = value.0 }, value.1)

-- the puts of a batch in braces, at least one
unfoldable pub batch_command_at : At → Read Command
batch_command_at s = do
  opening ← mark_at opening_brace s
  puts ← some_at closing_brace (λ before. batch_put_at) opening.1
  Ok (Batch puts.0, puts.1)

unfoldable pub delete_command_at : At → Read Command
delete_command_at s = do
  name ← item_at s
  passed ← mark_at semicolon name.1
  cycle ← num_at passed.1
  Ok (Delete name.0 cycle.0, cycle.1)

unfoldable pub tree_command_at : At → Read Command
tree_command_at s = do
  name ← item_at s
  branches ← branches_at name.1
  Ok (MakeTree name.0 branches.0, branches.1)

unfoldable pub fill_command_at : At → Read Command
fill_command_at s = do
  name ← item_at s
  row ← row_at name.1
  Ok (Fill name.0 row.0, row.1)

unfoldable pub save_command_at : At → Read Command
save_command_at s = do
  name ← item_at s
  Ok (Save name.0, name.1)

-- a cycle, if one is named
unfoldable pub cycle_at : At → Read (Option ℕ)
cycle_at s =
    if marked semicolon s then (num_at (behind s) >>= λ cycle. Ok (Some cycle.0, cycle.1))
    else Ok (None, s)

-- whether this word comes next
abbrev pub comes_next : List ℕ → At → Bool
comes_next keyword s = option_map_or (λ word. bytes_eq word keyword) (next_word s) false

-- a version, if one is asked
unfoldable pub asked_version_at : At → Read (Option ℤ)
asked_version_at s =
    if comes_next (codes "as") s then (version_at (behind s) >>= λ version. Ok (Some (pos version.0), version.1))
    else Ok (None, s)

unfoldable pub get_command_at : At → Read Command
get_command_at s = do
  name ← item_at s
  cycle ← cycle_at name.1
  version ← asked_version_at cycle.1
  Ok (Get name.0 cycle.0 version.0, version.1)

abbrev pub in_version : List ℕ → ℕ → Base
in_version name version = record { name = name; version = pos version }

-- a class and its version
abbrev pub class_version_in : At → Read (Option Base)
class_version_in s = do
  name ← name_at s
  passed ← mark_at number_sign name.1
  version ← version_at passed.1
  Ok (Some (in_version name.0 version.0), version.1)

-- a class, if one is asked
unfoldable pub asked_class_at : At → Read (Option Base)
asked_class_at s = if comes_next (codes "as") s then class_version_in (behind s) else Ok (None, s)

unfoldable pub scan_command_at : At → Read Command
scan_command_at s = do
  name ← item_at s
  class ← asked_class_at name.1
  Ok (Scan name.0 class.0, class.1)

-- ---- lines

-- a declaration, with its first word
abbrev pub class_command_at : At → Read Command
class_command_at s = class_at s >>= λ class. Ok (Class class.0, class.1)

-- the command that a line is, by its first word
unfoldable pub command_at : At → Read Command
command_at s =
    if comes_next (codes "class") s then class_command_at s
    else if comes_next (codes "put") s then ended_at (put_command_at (behind s))
    else if comes_next (codes "batch") s then ended_at (batch_command_at (behind s))
    else if comes_next (codes "delete") s then ended_at (delete_command_at (behind s))
    else if comes_next (codes "tree") s then ended_at (tree_command_at (behind s))
    else if comes_next (codes "fill") s then ended_at (fill_command_at (behind s))
    else if comes_next (codes "save") s then ended_at (save_command_at (behind s))
    else if comes_next (codes "get") s then ended_at (get_command_at (behind s))
    else if comes_next (codes "scan") s then ended_at (scan_command_at (behind s))
    else if comes_next (codes "ls") s then ended_at (Ok (Ls, behind s))
    else bad_at s

abbrev pub or_bad_line : ℕ → Read Command → Command
or_bad_line number (Ok x) = x.0
or_bad_line number (Err (BadText place)) = Bad number place
or_bad_line number (Err NoMemory) = Bad number 0

-- the command of the line that has this number
unfoldable pub line_command : ℕ → List ℕ → Command
line_command number line = or_bad_line number (command_at (standing_in 0 line))

-- an empty line and one that begins with # are no commands
abbrev pub is_command_line : List ℕ → Bool
is_command_line [] = false
is_command_line (b ∷ bs) = not (b == number_sign)

-- ---- scripts

-- the commands of lines, which are numbered from this one on
unfoldable pub commands_from : ℕ → List (List ℕ) → List Command
commands_from number [] = []
commands_from number (line ∷ rest) =
    if is_command_line line then line_command number line ∷ commands_from (number + 1) rest else commands_from (number + 1) rest

-- The commands of a script. Its lines end with a line feed, before which one carriage return is dropped; the last one may
-- lack it. They are numbered from 1.
abbrev pub script_of : List ℕ → List Command
script_of bytes = commands_from 1 (lines bytes)

-- each line that counts gives one command
abbrev pub LinesGiveCommands : Type 0
LinesGiveCommands = (bytes : List ℕ) → length (script_of bytes) ≡ length (filter is_command_line (lines bytes))
