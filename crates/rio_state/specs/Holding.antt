-- How much a file holds at most.
use Rattle.std.specs.{Prelude.{◌≤◌, ◌+◌, ◌*◌, ℕ, List, length}, List.{All}}
use Rattle.rio_num.specs.At.{AreBytes}
use Rattle.rio_chain.specs.Segments.{IsChain, Link}
use Rattle.rio_machine.specs.State.{State}
use Rattle.rio_state.specs.{Closing.{held_of}, KeyedRecords.{KeyedRecord, keyed_records, record_data, top_keys, tree_records}, Reads.{AreRecordsOf}}

-- The data of the headers of trees are bytes, as they are where the file's are.
abbrev pub AreHeadersBytes : List KeyedRecord → Type 0
AreHeadersBytes records = All (λ r. AreBytes (record_data r)) (tree_records (top_keys records))

-- A file that reads as a state holds at most three times its length, and 10,000.
abbrev pub HeldIsLimited : Type 0
HeldIsLimited = (file : List ℕ) (links : List Link) (m : State) → IsChain links file → AreRecordsOf (keyed_records links) m → AreHeadersBytes (keyed_records links)
    → held_of links ≤ 3 * length file + 10000

-- So it is of the headers of a file of bytes.
abbrev pub HeadersAreBytes : Type 0
HeadersAreBytes = (file : List ℕ) (links : List Link) → IsChain links file → AreBytes file → AreHeadersBytes (keyed_records links)
