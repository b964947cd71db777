-- What is recovered of a file that reads as a state, and what a recovery answers.
use Rattle.std.specs.Prelude.{◌≡◌, ◌+◌, ◌≤◌, ℕ, List, [], ◌++◌, map, length, Bool, true, false, ◌==◌, ◌&&◌, ◌||◌, not, MatchBool, Option, Some, None, Result, Ok, Err, slice_get}
use Rattle.std.specs.{List.{filter, list_any, Sorted.{IsPermutation}}, Option.{option_map, option_map_or}}
use Rattle.rio_format.specs.declared.class.ClassDef.{ClassDef}
use Rattle.rio_key.specs.declared.head.KeyHead.{KeyHead}
use Rattle.rio_head.specs.{Head.{fault_at, head_at}, declared.fault.FileFault.{FileFault}, declared.head.FileHead.{FileHead}, declared.reason.Reason.{Reason}}
use Rattle.rio_chain.specs.{Chains.{HasChain}, Placing.{file_end}, Segments.{Link}}
use Rattle.rio_dir.specs.Unborn.{header_fault}
use Rattle.rio_machine.specs.{Limits.{item_limit}, State.{State}}
use Rattle.rio_state.specs.{Closing.{KeptRecords, close_need, end_limit, item_heads, name_in}, Contents.{HasStateClasses, file_classes, state_classes}, DirectoryKeys.{AreKeysOf}}
use Rattle.rio_state.specs.{Cleaning.{unreferred}, KeyedRecords.{KeyedRecord, first_place, info_key, is_top_key, keyed_records, top_keys, tree_records}}
use Rattle.rio_state.specs.{Holding.{AreHeadersBytes}, Reads.{ReadsAsState}, Reasons.{IsFirstReason, ReasonAt, reason_at, room_reasons, state_reasons}}
use Rattle.rio_recover.specs.{Checks.{is_item_key}, Trees.{AreTreesOf, places_of, trees_at}, declared.trees.TreeAt.{TreeAt}, declared.fault.RecoverFault.{RecoverFault, TheVariants.{BadFile, ReadOnly, NoMemory, HostFault}}}
use Rattle.rio_recover.specs.{declared.recovery.ReadState.{ReadState}, declared.recovery.Recovered.{Recovered}, declared.walked.Walked.{Walked}}

-- ---- garbage

-- the places of the records that nothing refers to, in order
abbrev pub garbage_of : List KeyedRecord → List ℕ
garbage_of records = map (λ r. r.head.seek) (unreferred records)

-- A key that is neither that of the first record nor of the class list at this place, nor of an item, nor of a basket at one of these
-- places. Which keys are those of items is told by all keys of objects and trees.
abbrev pub is_left_over : List KeyedRecord → ℕ → List ℕ → KeyHead → Bool
is_left_over tops info baskets head =
    not ((head.seek == first_place) || (head.seek == info) || (is_top_key head && is_item_key tops head) || list_any (λ p. p == head.seek) baskets)

abbrev pub places_left : List KeyedRecord → ℕ → List ℕ → List KeyHead → List ℕ
places_left tops info baskets heads = map (λ h. h.seek) (filter (is_left_over tops info baskets) heads)

abbrev pub place_in : Option KeyHead → ℕ
place_in info = option_map_or (λ h. h.seek) info 0

-- ---- the parts of the state

-- a reason that is told first, by whether the classes have a reading
abbrev pub IsTold : (Bool → List ReasonAt) → Option KeyedRecord → ReasonAt → Type 0
IsTold reasons info told = (listed : Bool) × MatchBool listed (HasStateClasses info) (¬ HasStateClasses info) × (slice_get (reasons listed) 0 ≡ Some told)

-- the classes of the state, the keys of its items, and its trees, whose headers are bytes
pub record AreItemsOf (records : List KeyedRecord) (classes : List ClassDef) (heads : List KeyHead) (trees : List TreeAt) : Type 0 where
  pub listed : HasStateClasses (info_key records)
  pub none : state_reasons true records ≡ []
  pub classes_are : classes ≡ state_classes (info_key records)
  pub heads_are : IsPermutation (item_heads (top_keys records)) heads
  pub trees_are : IsPermutation (trees_at (file_classes (info_key records)) (tree_records (top_keys records))) trees
  pub headers : AreHeadersBytes records

-- they are those that these records stand for, with the names and baskets that are known by them, or the first reason is told why they stand
-- for none
abbrev pub JudgesState : Result ReadState RecoverFault → List KeyedRecord → Type 0
JudgesState (Ok s) records = AreItemsOf records s.registry s.check.items.heads s.check.trees
JudgesState (Err (BadFile place kind)) records = ⊥
JudgesState (Err (ReadOnly place reason)) records = IsTold (λ listed. state_reasons listed records) (info_key records) (reason_at place reason)
JudgesState (Err NoMemory) records = Unit {0}
JudgesState (Err HostFault) records = Unit {0}

-- what is recovered of records beside the classes and the keys
pub record IsGathered (records : List KeyedRecord) (r : Recovered) : Type 0 where
  pub info : r.info ≡ option_map (λ k. k.head) (info_key records)
  pub garbage : r.garbage ≡ garbage_of records
  pub name : r.name ≡ name_in records

-- the same for all that is recovered, where the file has these links
abbrev pub JudgesLinks : Result Recovered RecoverFault → List Link → Type 0
JudgesLinks (Ok r) links = AreItemsOf (keyed_records links) r.registry r.table.heads r.trees × (room_reasons links ≡ []) × IsGathered (keyed_records links) r
JudgesLinks (Err (BadFile place kind)) links = ⊥
JudgesLinks (Err (ReadOnly place reason)) links = IsTold (λ listed. state_reasons listed (keyed_records links) ++ room_reasons links) (info_key (keyed_records links)) (reason_at place reason)
JudgesLinks (Err NoMemory) links = Unit {0}
JudgesLinks (Err HostFault) links = Unit {0}

-- it has the segments that were walked, and the header's number
pub record IsKeptOf (walked : Walked) (r : Recovered) : Type 0 where
  pub segments : r.chain.segments ≡ walked.segments
  pub spent : r.chain.spent ≡ false
  pub nbytes_name : r.nbytes_name ≡ walked.nbytes_name

-- it has these parts, and room to release its garbage
pub record AreParts (walked : Walked) (name : List ℕ) (info : Option KeyHead) (state : ReadState) (r : Recovered) : Type 0 where
  pub kept : IsKeptOf walked r
  pub release : length r.garbage ≤ r.chain.spare
  pub registry : r.registry ≡ state.registry
  pub table : r.table ≡ state.check.items
  pub trees : r.trees ≡ state.check.trees
  pub info_is : r.info ≡ info
  pub name_is : r.name ≡ name

-- ---- room

-- how many records are kept beside those of items: the first, the class list, and the baskets of trees
abbrev pub other_count : Option KeyHead → List TreeAt → ℕ
other_count info trees = 1 + option_map_or (λ k. 1) info 0 + length (places_of trees)

-- what a close writes of, behind the file that is recovered: no rows are pending
abbrev pub kept_by : Recovered → KeptRecords
kept_by r = record { name = r.name; heads = r.table.heads; count = other_count r.info r.trees + length r.table.heads; trees = [] }

-- there aren't too many items, and there is room for a close
pub record HasRoomBehind (r : Recovered) : Type 0 where
  pub items : length r.table.heads ≤ item_limit
  pub close : file_end r.chain.segments + close_need (kept_by r) ≤ end_limit
  pub release : length r.garbage ≤ r.chain.spare

-- ---- what is recovered

pub record IsRecovered (file : List ℕ) (r : Recovered) : Type 0 where
  -- the bytes read as a state
  pub m : State
  pub reads : ReadsAsState file m
  -- they have these links, whose segments the chain has
  pub links : List Link
  pub chain : HasChain links r.chain.segments file
  -- classes, keys and trees are those of the state; the data of the trees' headers are bytes
  pub classes : r.registry ≡ m.classes
  pub keys : AreKeysOf (keyed_records links) r.table.heads
  pub trees : AreTreesOf (keyed_records links) r.trees
  pub headers : AreHeadersBytes (keyed_records links)
  pub info : r.info ≡ option_map (λ k. k.head) (info_key (keyed_records links))
  -- nothing refers to the garbage
  pub garbage : r.garbage ≡ garbage_of (keyed_records links)
  -- the file's name, and its header's fNbytesName
  pub name : r.name ≡ name_in (keyed_records links)
  pub head : FileHead
  pub head_is : head_at file ≡ Ok head
  pub nbytes_name : r.nbytes_name ≡ head.nbytes_name

-- The answer is what the file's bytes say: what is recovered of a state, where nothing stands against writing; the rule that
-- the header breaks; or the first reason not to write to a file whose header breaks none.
abbrev pub IsAnswer : Result Recovered RecoverFault → List ℕ → Type 0
IsAnswer (Ok r) file = IsRecovered file r × (header_fault file ≡ None) × IsFirstReason file None
IsAnswer (Err (BadFile place kind)) file = header_fault file ≡ Some (fault_at place kind)
IsAnswer (Err (ReadOnly place reason)) file = (header_fault file ≡ None) × IsFirstReason file (Some (reason_at place reason))
IsAnswer (Err NoMemory) file = Unit {0}
IsAnswer (Err HostFault) file = Unit {0}

-- the fault is told, unless memory ran out or the host failed
abbrev pub TellsFault : Result Recovered RecoverFault → RecoverFault → Type 0
TellsFault (Ok r) fault = ⊥
TellsFault (Err NoMemory) fault = Unit {0}
TellsFault (Err HostFault) fault = Unit {0}
TellsFault (Err (BadFile place kind)) fault = BadFile place kind ≡ fault
TellsFault (Err (ReadOnly place reason)) fault = ReadOnly place reason ≡ fault

-- a file that breaks a rule of the header is told so, and one that has a first reason
pub record TellsAll (result : Result Recovered RecoverFault) (file : List ℕ) : Type 0 where
  pub fault : (place : ℕ) (kind : FileFault) → header_fault file ≡ Some (fault_at place kind) → TellsFault result (BadFile place kind)
  pub reason : (place : ℕ) (reason : Reason) → header_fault file ≡ None → IsFirstReason file (Some (reason_at place reason)) → TellsFault result (ReadOnly place reason)
