-- Which commands find no room.
use Rattle.std.specs.{Prelude.{ℕ, ◌+◌, List, [], ◌∷◌, ◌++◌, codes, length, map, sum, Bool, Option, Some, None, is_some, if◌then◌else◌}, FinMap.{entries}, List.{sum_by}}
use Rattle.rio_key.specs.declared.head.KeyHead.{KeyHead}
use Rattle.rio_format.specs.declared.value.Value.{Value}
use Rattle.rio_chain.specs.{Placing.{file_end}, Record.{new_key}}
use Rattle.rio_machine.specs.{Limits.{head_length}, State.{NameAndCycle, State, Tree as TreeOf}}
use Rattle.rio_machine.specs.declared.command.Command.{Command, TheVariants.{Bad, Class, Put, Batch, Delete, Tree, Fill, Save, Get, Scan, Ls}}
use Rattle.rio_step.specs.{Costs.{info_size, value_size}, Refusing.{FullMark, object_class_name, put_value, refusal_of, with_class}, Step.{state_behind}}
use Rattle.rio_recover.specs.Closable.{list_count}
use Rattle.rio_state.specs.Closing.{KeptRecords, close_need, is_full, padded_length}
use Rattle.rio_effect.specs.ClassRecord.{list_key_size}
use Rattle.rio_session.specs.{Due.{lengths_of, written_count}, Fillings.{filling, making, saving}, Fills.{FilledTree, without_filled}, SessionState.{SessionState}}

-- ---- what a file of a state keeps

-- how many baskets of these trees were written
abbrev pub basket_total : List FilledTree → ℕ
basket_total filled = sum_by (λ t. written_count t.fill.branches) filled

-- a key as long as that of the object
abbrev pub key_of_object : NameAndCycle × Value → KeyHead
key_of_object e = new_key (record { place = 0; directory = 100; datime = 0; cycle = e.0.1; class = object_class_name e.1; name = e.0.0; title = [] }) 0

-- and of a tree
abbrev pub key_of_tree : List ℕ × TreeOf → KeyHead
key_of_tree e = new_key (record { place = 0; directory = 100; datime = 0; cycle = e.1.cycle; class = codes "TTree"; name = e.0; title = [] }) 0

-- What a file of this name, with so many class lists, one at most, and with the baskets of these trees keeps in a state, as far as a close
-- writes of it. A file may have a class list that lists no declared class.
abbrev pub kept_of : List ℕ → ℕ → List FilledTree → State → KeptRecords
kept_of name lists filled m = let objects = entries m.objects in let trees = entries m.trees in record {
  name = name;
  heads = map key_of_object objects ++ map key_of_tree trees;
  count = 1 + lists + length objects + length trees + basket_total filled;
  trees = lengths_of filled;
}

-- how long the records of a close are in this state
unfoldable pub state_need : List ℕ → ℕ → List FilledTree → State → ℕ
state_need name lists filled m = close_need (kept_of name lists filled m)

-- how many class lists are kept after a command that isn't refused
abbrev pub lists_after : SessionState → Command → ℕ
lists_after s (Class class) = 1
lists_after s (Tree name branches) = 1
lists_after s other = list_count s.info

-- which trees are kept then
abbrev pub trees_after : SessionState → State → Command → List FilledTree
trees_after s m (Delete name cycle) = without_filled name s.trees
trees_after s m (Tree name branches) = (making s m name branches).kept.trees
trees_after s m (Fill name row) = (filling s m name row).kept.trees
trees_after s m (Save name) = (saving s name).kept.trees
trees_after s m other = s.trees

-- ---- a command's records

-- how long the record of a put is
abbrev pub length_of_put : State → List ℕ → Value → ℕ
length_of_put m name v = let stored = put_value m v in padded_length (head_length (object_class_name stored) name + value_size m.classes stored)

-- How long the records are that a command puts, with their zero bytes. Those of a batch stand one after the other, as one.
unfoldable pub command_lengths : SessionState → State → Command → List ℕ
command_lengths s m (Put name v) = length_of_put m name v ∷ []
command_lengths s m (Batch puts) = sum_by (λ p. length_of_put m p.name p.value) puts ∷ []
command_lengths s m (Class class) = padded_length (list_key_size + info_size (with_class m.classes class)) ∷ []
command_lengths s m (Delete name cycle) = []
command_lengths s m (Bad line place) = []
command_lengths s m (Get name cycle version) = []
command_lengths s m (Scan name class) = []
command_lengths s m Ls = []
command_lengths s m (Tree name branches) = (making s m name branches).lengths
command_lengths s m (Fill name row) = (filling s m name row).lengths
command_lengths s m (Save name) = (saving s name).lengths

-- A command's mark: there is no room for its records with what a close needs after it.
unfoldable pub mark_of_command : SessionState → State → Command → Option FullMark
mark_of_command s m c =
    let lengths = command_lengths s m c in
    if is_full s.segments lengths (state_need s.name (lists_after s c) (trees_after s m c) (state_behind m c))
    then Some (record { end = file_end s.segments; wanted = sum lengths })
    else None

-- it is refused by the state, or for want of room
abbrev pub is_refused : SessionState → State → Command → Bool
is_refused s m c = is_some (refusal_of m c (mark_of_command s m c))
