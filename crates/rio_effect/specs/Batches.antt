-- What the records of a batch make of what a file reads as, of the keys that are kept beside it, and of what it holds.
use Rattle.std.specs.Prelude.{◌≡◌, ◌≤◌, ◌<◌, ℕ, ◌+◌, ◌^◌, List, [], ◌∷◌, map, true, false, Option, None}
use Rattle.std.specs.List.{list_all}
use Rattle.rio_num.specs.Word.{is_item_text}
use Rattle.rio_key.specs.declared.head.KeyHead.{KeyHead}
use Rattle.rio_dir.specs.Table.{with_heads}
use Rattle.rio_chain.specs.{Batches.{AreRecordsFrom}, Changes.{with_records}, Placing.{HasRoomAt}, Segments.{IsChain, Link, segment_of}}
use Rattle.rio_machine.specs.{State.{State}, declared.command.Command.TheVariants.{Batch}, declared.command.PutItem.{PutItem}}
use Rattle.rio_model.specs.StateClasses.{StateClasses}
use Rattle.rio_state.specs.{Closing.{held_with}, DirectoryKeys.{AreKeysOf}, KeyedRecords.{KeyedRecord, begins_at, keyed_records}, Reads.{AreRecordsOf}, TreeLengths.{PendingRows}}
use Rattle.rio_step.specs.{Costs.{cost_of}, Refusing.{FullMark, refusal_of}, Runs.{saved_of}, Step.{state_behind, with_object}}
use Rattle.rio_effect.specs.{Laws.{IsPutRecord}, ObjectRecord.{keys_of_batch, records_of_batch, size_of_batch, size_of_put}}

-- the names of all puts are such as objects have
abbrev pub AreNamed : List PutItem → Type 0
AreNamed puts = list_all (λ p. is_item_text p.name) puts ≡ true

-- no record begins within so many bytes from a place on
abbrev pub IsFreeFrom : List KeyedRecord → ℕ → ℕ → Type 0
IsFreeFrom records place n = (p : ℕ) → place ≤ p → p < place + n → begins_at records p ≡ false

-- a batch that isn't refused, whose records end below 2^32
pub record IsBatch (m : State) (place datime : ℕ) (puts : List PutItem) (mark : Option FullMark) : Type 0 where
  pub low : place + size_of_batch m place datime puts < 2 ^ 32
  pub soon : datime < 2 ^ 32
  pub named : AreNamed puts
  pub taken : refusal_of m (Batch puts) mark ≡ None

-- each record of a batch is that of its put, in the state that the puts before it leave
abbrev pub ArePutRecords : State → ℕ → ℕ → List PutItem → Type 0
ArePutRecords m place datime [] = Unit {0}
ArePutRecords m place datime (p ∷ ps) =
    IsPutRecord m place datime p.name p.value × ArePutRecords (with_object m p.name p.value) (place + size_of_put m place datime p) datime ps

-- the records of a batch are such, and whole ones for the places from this one on
pub record HasBatchRecords (m : State) (place datime : ℕ) (puts : List PutItem) : Type 0 where
  pub each : ArePutRecords m place datime puts
  pub whole : AreRecordsFrom place (records_of_batch m place datime puts)

abbrev pub BatchesHaveRecords : Type 0
BatchesHaveRecords = (m : State) (place datime : ℕ) (puts : List PutItem) (mark : Option FullMark) → StateClasses m.classes → IsBatch m place datime puts mark
    → HasBatchRecords m place datime puts

-- with the records of a batch, where no record begins, the records stand for the state behind the batch
abbrev pub BatchTakesEffect : Type 0
BatchTakesEffect = (links : List Link) (m : State) (place datime : ℕ) (puts : List PutItem) (mark : Option FullMark) → IsBatch m place datime puts mark
    → IsFreeFrom (keyed_records links) place (size_of_batch m place datime puts) → AreRecordsOf (keyed_records links) m
    → AreRecordsOf (keyed_records (with_records place (records_of_batch m place datime puts) links)) (state_behind m (Batch puts))

-- A batch doesn't look at pending rows: it is refused or not, and adds the same objects by the same records, in the state without them.
pub record IsBatchAlike (m : State) (puts : List PutItem) : Type 0 where
  pub refused : (mark : Option FullMark) → refusal_of (saved_of m) (Batch puts) mark ≡ refusal_of m (Batch puts) mark
  pub behind : state_behind (saved_of m) (Batch puts) ≡ saved_of (state_behind m (Batch puts))
  pub records : (place datime : ℕ) → records_of_batch (saved_of m) place datime puts ≡ records_of_batch m place datime puts
  pub keys : (place datime : ℕ) → keys_of_batch (saved_of m) place datime puts ≡ keys_of_batch m place datime puts

abbrev pub BatchesIgnorePending : Type 0
BatchesIgnorePending = (m : State) (puts : List PutItem) → IsBatchAlike m puts

-- the same of states of which a stop leaves all but the pending rows
abbrev pub SavedBatchTakesEffect : Type 0
SavedBatchTakesEffect = (links : List Link) (m : State) (place datime : ℕ) (puts : List PutItem) (mark : Option FullMark) → IsBatch m place datime puts mark
    → IsFreeFrom (keyed_records links) place (size_of_batch m place datime puts) → AreRecordsOf (keyed_records links) (saved_of m)
    → AreRecordsOf (keyed_records (with_records place (records_of_batch m place datime puts) links)) (saved_of (state_behind m (Batch puts)))

-- the keys of the objects stand in their places among the keys that are kept beside a file
abbrev pub BatchKeysFollow : Type 0
BatchKeysFollow = (links : List Link) (m : State) (heads : List KeyHead) (place datime : ℕ) (puts : List PutItem) (mark : Option FullMark) → IsBatch m place datime puts mark
    → IsFreeFrom (keyed_records links) place (size_of_batch m place datime puts) → AreRecordsOf (keyed_records links) m → AreKeysOf (keyed_records links) heads
    → AreKeysOf (keyed_records (with_records place (records_of_batch m place datime puts) links)) (with_heads (keys_of_batch m place datime puts) heads)

-- the same where the records stand for the state without its pending rows
abbrev pub SavedBatchKeysFollow : Type 0
SavedBatchKeysFollow = (links : List Link) (m : State) (heads : List KeyHead) (place datime : ℕ) (puts : List PutItem) (mark : Option FullMark) → IsBatch m place datime puts mark
    → IsFreeFrom (keyed_records links) place (size_of_batch m place datime puts) → AreRecordsOf (keyed_records links) (saved_of m) → AreKeysOf (keyed_records links) heads
    → AreKeysOf (keyed_records (with_records place (records_of_batch m place datime puts) links)) (with_heads (keys_of_batch m place datime puts) heads)

-- The records of a batch, where there is room for all of them, raise what the file holds by no more than the batch's cost.
abbrev pub BatchHeldGrows : Type 0
BatchHeldGrows = (pending : PendingRows) (file : List ℕ) (links : List Link) (m : State) (place datime : ℕ) (puts : List PutItem) → IsChain links file
    → HasRoomAt (map segment_of links) place (size_of_batch m place datime puts) → StateClasses m.classes → IsBatch m place datime puts None
    → held_with pending (with_records place (records_of_batch m place datime puts) links) ≤ held_with pending links + cost_of m (Batch puts)
