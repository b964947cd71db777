-- The record of an object as a put writes it.
use Rattle.std.specs.Prelude.{ℕ, ◌+◌, List, [], ◌∷◌, length, map, sum, unwrap_or}
use Rattle.rio_format.specs.{declared.class.ClassDef.{ClassDef}, declared.value.Value.{Value}, Written.{written_form}}
use Rattle.rio_key.specs.declared.head.KeyHead.{KeyHead}
use Rattle.rio_chain.specs.{Record.{key_size, new_key, record_bytes}, declared.key_words.KeyWords.{KeyWords}}
use Rattle.rio_machine.specs.State.{State, next_cycle}
use Rattle.rio_state.specs.KeyedRecords.{first_place}
use Rattle.rio_machine.specs.declared.command.PutItem.{PutItem}
use Rattle.rio_step.specs.{Refusing.{object_class, put_value}, Step.{with_object}}

-- what the key of an object says: its place, time, name, cycle and class, in the directory of the file, without a title
abbrev pub object_words : ℕ → ℕ → List ℕ → ℕ → List ℕ → KeyWords
object_words place datime name cycle class =
    record { place = place; directory = first_place; datime = datime; cycle = cycle; class = class; name = name; title = [] }

-- the same of a value, which has the class of its object
abbrev pub words_of_value : ℕ → ℕ → List ℕ → ℕ → Value → KeyWords
words_of_value place datime name cycle v = object_words place datime name cycle (unwrap_or (object_class v) [])

-- the data of the record: the places in them count from the key's first byte
abbrev pub object_data : List ClassDef → KeyWords → Value → List ℕ
object_data classes words v = written_form classes (key_size words) v

-- the key, and the whole record
unfoldable pub object_key : List ClassDef → ℕ → ℕ → List ℕ → ℕ → Value → KeyHead
object_key classes place datime name cycle v =
    let words = words_of_value place datime name cycle v in new_key words (length (object_data classes words v))

unfoldable pub object_record : List ClassDef → ℕ → ℕ → List ℕ → ℕ → Value → List ℕ
object_record classes place datime name cycle v =
    let words = words_of_value place datime name cycle v in record_bytes words (object_data classes words v)

-- ---- by a put

-- what the key says of the object that a put adds to a state, the data of the object's record, its key and the record
abbrev pub words_of_put : State → ℕ → ℕ → List ℕ → Value → KeyWords
words_of_put m place datime name v = words_of_value place datime name (next_cycle m name) (put_value m v)

abbrev pub data_of_put : State → ℕ → ℕ → List ℕ → Value → List ℕ
data_of_put m place datime name v = object_data m.classes (words_of_put m place datime name v) (put_value m v)

abbrev pub key_of_put : State → ℕ → ℕ → List ℕ → Value → KeyHead
key_of_put m place datime name v = object_key m.classes place datime name (next_cycle m name) (put_value m v)

abbrev pub record_of_put : State → ℕ → ℕ → List ℕ → Value → List ℕ
record_of_put m place datime name v = object_record m.classes place datime name (next_cycle m name) (put_value m v)

-- ---- by the puts of a batch, one after the other

-- what their keys say, and the data of their records
abbrev pub records_of_puts : ℕ → State → List PutItem → List (KeyWords × List ℕ)
records_of_puts datime m [] = []
records_of_puts datime m (p ∷ ps) =
    (words_of_put m 0 datime p.name p.value, data_of_put m 0 datime p.name p.value) ∷ records_of_puts datime (with_object m p.name p.value) ps

-- how long a record is
abbrev pub size_of_put : State → ℕ → ℕ → PutItem → ℕ
size_of_put m place datime p = length (record_of_put m place datime p.name p.value)

-- their keys, and the records, from a place on
abbrev pub keys_of_batch : State → ℕ → ℕ → List PutItem → List KeyHead
keys_of_batch m place datime [] = []
keys_of_batch m place datime (p ∷ ps) =
    key_of_put m place datime p.name p.value ∷ keys_of_batch (with_object m p.name p.value) (place + size_of_put m place datime p) datime ps

abbrev pub records_of_batch : State → ℕ → ℕ → List PutItem → List (List ℕ)
records_of_batch m place datime [] = []
records_of_batch m place datime (p ∷ ps) =
    record_of_put m place datime p.name p.value ∷ records_of_batch (with_object m p.name p.value) (place + size_of_put m place datime p) datime ps

-- how many bytes they have together
abbrev pub size_of_batch : State → ℕ → ℕ → List PutItem → ℕ
size_of_batch m place datime puts = sum (map length (records_of_batch m place datime puts))
