-- What commands may cost of a file's room, by the state alone; and whether there is room for all commands of a run.
use Rattle.std.specs.{Prelude.{◌≤◌, ℕ, ◌+◌, ◌*◌, List, [], ◌∷◌, length, ◌==◌, is_some, if◌then◌else◌, None}, FinMap.{get}, List.{sum_by}}
use Rattle.std.specs.Option.{option_map_or}
use Rattle.rio_format.specs.{declared.class.ClassDef.{ClassDef}, declared.value.Value.{Value}, Written.{written_form}, WrittenBytes.{written_list}}
use Rattle.rio_machine.specs.{Rows.{entries_of}, State.{Row, State, Tree}}
use Rattle.rio_tree.specs.HeaderLength.{header_size}
use Rattle.rio_machine.specs.declared.command.Command.{Command, TheVariants.{Bad, Class, Put, Batch, Delete, Tree as MakeTree, Fill, Save, Get, Scan, Ls}}
use Rattle.rio_step.specs.{Refusing.{fill_row, put_value, refusal_of, rows_of_tree, with_class}, Runs.{Marks, first_step, later_marks}}

-- ---- lengths

-- how long a written value and a written class list are
abbrev pub value_size : List ClassDef → Value → ℕ
value_size classes v = length (written_form classes 0 v)

abbrev pub info_size : List ClassDef → ℕ
info_size classes = length (written_list 0 classes)

-- ---- commands

abbrev pub put_cost : State → Value → ℕ
put_cost m v = 500 + value_size m.classes (put_value m v)

-- the entries of a row, twice, and where nothing was pending the basket of each branch
abbrev pub fill_cost : State → Row → Tree → ℕ
fill_cost m row t =
    sum_by (λ entry. 2 * length entry + 5) (entries_of m.classes t.branches (fill_row m row))
    + (if length t.pending == 0 then 330 * length t.branches else 0)

abbrev pub save_cost : List ℕ → Tree → ℕ
save_cost name t = 240 + header_size name t.branches + 20 * length t.branches * length (rows_of_tree t)

-- the cost of a command that nothing but want of room can refuse
abbrev pub accepted_cost : State → Command → ℕ
accepted_cost m (Bad line place) = 0
accepted_cost m (Class class) = 100 + info_size (with_class m.classes class)
accepted_cost m (Put name v) = put_cost m v
accepted_cost m (Batch puts) = sum_by (λ p. put_cost m p.value) puts
accepted_cost m (Delete name cycle) = 0
accepted_cost m (MakeTree name branches) = 600 + info_size m.classes + 2 * header_size name branches
accepted_cost m (Fill name row) = option_map_or (fill_cost m row) (get m.trees name) 0
accepted_cost m (Save name) = option_map_or (save_cost name) (get m.trees name) 0
accepted_cost m (Get name cycle version) = 0
accepted_cost m (Scan name class) = 0
accepted_cost m Ls = 0

-- the cost of a command: one that is refused for another cause than want of room costs nothing
unfoldable pub cost_of : State → Command → ℕ
cost_of m c = if is_some (refusal_of m c None) then 0 else accepted_cost m c

-- ---- runs

-- the costs of all commands of a run together
unfoldable pub costs_of_run : State → List Command → Marks → ℕ
costs_of_run m [] marks = 0
costs_of_run m (c ∷ cs) marks = cost_of m c + costs_of_run (first_step m c marks).state cs (later_marks marks)

-- how far three times the length of the file at its opening and all costs may go
abbrev pub room_limit : ℕ
room_limit = 1900000000

-- there is room for the commands in a file of this length when it was opened, which is 0 where it wasn't made yet
abbrev pub HasFileRoom : ℕ → State → List Command → Marks → Type 0
HasFileRoom opened m cs marks = 3 * opened + costs_of_run m cs marks ≤ room_limit
