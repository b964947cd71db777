-- The record of the class list as a class command writes it.
use Rattle.std.specs.Prelude.{ℕ, ◌+◌, List, codes, length, Option, Some, None}
use Rattle.rio_format.specs.{declared.class.ClassDef.{ClassDef}, WrittenBytes.{written_list}}
use Rattle.rio_key.specs.declared.head.KeyHead.{KeyHead}
use Rattle.rio_machine.specs.State.{State}
use Rattle.rio_chain.specs.{Record.{key_size, new_key, record_bytes}, declared.key_words.KeyWords.{KeyWords}}
use Rattle.rio_state.specs.KeyedRecords.{first_place}
use Rattle.rio_step.specs.Refusing.{with_class}

-- one more than that of the class list that counts, and 1 where there is none
abbrev pub next_list_cycle : Option KeyHead → ℕ
next_list_cycle None = 1
next_list_cycle (Some h) = h.cycle + 1

-- what the key of a class list says
abbrev pub list_words : ℕ → ℕ → ℕ → KeyWords
list_words place datime cycle = record {
  place = place;
  directory = first_place;
  datime = datime;
  cycle = cycle;
  class = codes "TList";
  name = codes "StreamerInfo";
  title = codes "Doubly linked list";
}

-- the data, whose places count from the key's first byte
abbrev pub list_data : KeyWords → List ClassDef → List ℕ
list_data words classes = written_list (key_size words) classes

-- the key, and the whole record
unfoldable pub list_key : ℕ → ℕ → ℕ → List ClassDef → KeyHead
list_key place datime cycle classes = let words = list_words place datime cycle in new_key words (length (list_data words classes))

unfoldable pub list_record : ℕ → ℕ → ℕ → List ClassDef → List ℕ
list_record place datime cycle classes = let words = list_words place datime cycle in record_bytes words (list_data words classes)

-- ---- by a class command, where this is the class list that counts

abbrev pub key_of_class : Option KeyHead → State → ℕ → ℕ → ClassDef → KeyHead
key_of_class info m place datime class = list_key place datime (next_list_cycle info) (with_class m.classes class)

abbrev pub record_of_class : Option KeyHead → State → ℕ → ℕ → ClassDef → List ℕ
record_of_class info m place datime class = list_record place datime (next_list_cycle info) (with_class m.classes class)

-- how long the key is, wherever it stands
abbrev pub list_key_size : ℕ
list_key_size = key_size (list_words 0 0 0)
