-- What the release of an object's record makes of what a file reads as, of the keys that are kept beside it, and of the cycles
-- of the object's name.
use Rattle.std.specs.Prelude.{◌≡◌, ◌≢◌, ℕ, ◌+◌, List, false, Option, Some, None, option_map}
use Rattle.std.specs.FinMap.{get}
use Rattle.rio_key.specs.declared.head.KeyHead.{KeyHead}
use Rattle.rio_machine.specs.{State.{NameAndCycle, State, names_tree, next_cycle}, declared.command.Command.{Command, TheVariants.{Delete}}}
use Rattle.rio_dir.specs.Table.{greatest_cycle, head_of, without_head}
use Rattle.rio_chain.specs.Segments.{IsChain, Link}
use Rattle.rio_state.specs.{Closing.{KeptRecords, kept_with}, DirectoryKeys.{AreKeysOf}, TreeLengths.{PendingRows}}
use Rattle.rio_state.specs.{KeyedRecords.{KeyedRecord, keyed_records}, OneLess.{HasRecord, NeedsNoMore, links_without}, OneMore.{HasOneMoreIn}, Reads.{AreRecordsOf}}
use Rattle.rio_step.specs.{Costs.{cost_of}, Refusing.{FullMark, refusal_of}, Runs.{saved_of}, Step.{state_behind}}
use Rattle.rio_effect.specs.{FileRuns.{item_record}, Laws.{IsObjectKey}}

-- ---- pending rows

-- The command doesn't look at pending rows: it is refused or not, and does the same, in the state without them.
pub record IgnoresPending (m : State) (c : Command) : Type 0 where
  pub refused : (mark : Option FullMark) → refusal_of (saved_of m) c mark ≡ refusal_of m c mark
  pub behind : state_behind (saved_of m) c ≡ saved_of (state_behind m c)

abbrev pub DeletesIgnorePending : Type 0
DeletesIgnorePending = (m : State) (name : List ℕ) (cycle : ℕ) → IgnoresPending m (Delete name cycle)

-- a delete costs nothing
abbrev pub DeletesCostNothing : Type 0
DeletesCostNothing = (m : State) (name : List ℕ) (cycle : ℕ) → cost_of m (Delete name cycle) ≡ 0

-- ---- the record

-- the file has these links, and among them the record of an object
pub record HasObject (file : List ℕ) (links : List Link) (r : KeyedRecord) : Type 0 where
  pub record_is : HasRecord file links r
  pub key : IsObjectKey r.head

-- the key of a name and cycle is among the keys beside a file, and its record stands in the file
pub record HasObjectOf (file : List ℕ) (links : List Link) (heads : List KeyHead) (name : List ℕ) (cycle : ℕ) : Type 0 where
  pub r : KeyedRecord
  pub object : HasObject file links r
  pub name_is : r.head.name ≡ name
  pub cycle_is : r.head.cycle ≡ cycle
  pub found : head_of name (Some cycle) heads ≡ Some r.head

-- the object of a delete that isn't refused has a key and a record
abbrev pub DeletesHaveRecords : Type 0
DeletesHaveRecords = (file : List ℕ) (links : List Link) (heads : List KeyHead) (m : State) (name : List ℕ) (cycle : ℕ) (mark : Option FullMark) → IsChain links file
    → AreKeysOf (keyed_records links) heads → AreRecordsOf (keyed_records links) m → names_tree m name ≡ false → refusal_of m (Delete name cycle) mark ≡ None
    → HasObjectOf file links heads name cycle

-- the state behind the delete of a record's object
abbrev pub state_without : State → KeyedRecord → State
state_without m r = state_behind m (Delete r.head.name r.head.cycle)

-- ---- what the records stand for

-- With the record of an object released the records stand for the state behind the delete. Of the states this part is what the
-- records stand for: all of them, or all but their pending rows.
abbrev pub DeleteTakesEffect : (State → State) → Type 0
DeleteTakesEffect part = (file : List ℕ) (links : List Link) (m : State) (r : KeyedRecord) → HasObject file links r → AreRecordsOf (keyed_records links) (part m)
    → AreRecordsOf (keyed_records (links_without links r)) (part (state_without m r))

-- ---- the keys beside a file

-- the object's key is taken out
abbrev pub DeleteKeyFollows : Type 0
DeleteKeyFollows = (file : List ℕ) (links : List Link) (m : State) (heads : List KeyHead) (r : KeyedRecord) → HasObject file links r → AreRecordsOf (keyed_records links) m
    → AreKeysOf (keyed_records links) heads → AreKeysOf (keyed_records (links_without links r)) (without_head r.head.name r.head.cycle heads)

-- The object is gone, and all others stay, of its name too. The next cycle of the name follows the greatest that is left.
pub record LeavesOthers (m : State) (heads : List KeyHead) (r : KeyedRecord) : Type 0 where
  pub gone : get (state_without m r).objects (r.head.name, r.head.cycle) ≡ None
  pub others : (item : NameAndCycle) → item ≢ (r.head.name, r.head.cycle) → get (state_without m r).objects item ≡ get m.objects item
  pub next : next_cycle (state_without m r) r.head.name ≡ greatest_cycle r.head.name (without_head r.head.name r.head.cycle heads) + 1

abbrev pub DeleteLeavesOthers : Type 0
DeleteLeavesOthers = (file : List ℕ) (links : List Link) (m : State) (heads : List KeyHead) (r : KeyedRecord) → HasObject file links r → AreRecordsOf (keyed_records links) m
    → AreKeysOf (keyed_records links) heads → LeavesOthers m heads r

-- ---- what a file keeps

-- one key less, and so one record less; the trees stay
pub record KeepsOneLess (old new : KeptRecords) (head : KeyHead) : Type 0 where
  pub name : new.name ≡ old.name
  pub heads : HasOneMoreIn new.heads old.heads head
  pub count : new.count + 1 ≡ old.count
  pub trees : new.trees ≡ old.trees

abbrev pub DeleteKeepsLess : Type 0
DeleteKeepsLess = (pending : PendingRows) (file : List ℕ) (links : List Link) (r : KeyedRecord) → HasObject file links r
    → KeepsOneLess (kept_with pending links) (kept_with pending (links_without links r)) r.head

-- a close needs no more, nor does the file hold more
abbrev pub DeleteNeedsNoMore : Type 0
DeleteNeedsNoMore = (pending : PendingRows) (file : List ℕ) (links : List Link) (r : KeyedRecord) → HasObject file links r
    → NeedsNoMore pending links (links_without links r)

-- ---- by the records of the file

-- the record that a delete releases, as the definition of runs finds it, is that of the key which is kept for the object
abbrev pub DeletesFindRecords : Type 0
DeletesFindRecords = (file : List ℕ) (links : List Link) (heads : List KeyHead) (m : State) (name : List ℕ) (cycle : ℕ) (mark : Option FullMark) → IsChain links file
    → AreKeysOf (keyed_records links) heads → AreRecordsOf (keyed_records links) m → names_tree m name ≡ false → refusal_of m (Delete name cycle) mark ≡ None
    → option_map (λ r. r.head) (item_record links name cycle) ≡ head_of name (Some cycle) heads
