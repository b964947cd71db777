-- What the release of a file's garbage makes of it, and what a stop leaves meanwhile.
use Rattle.std.specs.Prelude.{◌≡◌, ◌+◌, ◌<◌, ◌≤◌, ℕ, List, [], ◌∷◌, Some, true, false}
use Rattle.std.specs.List.{fold, list_all, list_any}
use Rattle.rio_key.specs.declared.head.KeyHead.{KeyHead}
use Rattle.rio_host.specs.Host.{View}
use Rattle.rio_chain.specs.{Chains.{HasChain}, Changes.{without_record}, Releasing.{without_segment}, Segments.{IsChain, Link}, Stops.{IsSaidText, KeepsFront}, declared.segment.Segment.{Segment}}
use Rattle.rio_machine.specs.State.{State}
use Rattle.rio_state.specs.{Cleaning.{unreferred}, Closing.{kept_with, name_in}, DirectoryKeys.{AreKeysOf}, KeyedRecords.{info_key, keyed_records, top_keys, tree_records}}
use Rattle.rio_state.specs.{OneLess.{NeedsNoMore}, Reads.{AreRecordsOf}, TreeLengths.{PendingRows}}
use Rattle.rio_recover.specs.{Closable.{IsClosable, begins_at}, Recovered.{garbage_of}, Trees.{places_of}, Whole.{HoldsDirectory}, declared.recovery.Recovered.{Recovered}}

-- the links without the records at these places, one after the other
abbrev pub without_all : List ℕ → List Link → List Link
without_all places links = fold (λ ls place. without_record place ls) links places

-- the segments without those of the records at these places
abbrev pub without_segments : List ℕ → List Segment → List Segment
without_segments places segments = fold (λ ss place. without_segment place ss) segments places

-- places one behind the other, behind the first
abbrev pub AreRising : ℕ → List ℕ → Type 0
AreRising p [] = Unit {0}
AreRising p (q ∷ places) = p < q × AreRising q places

-- at each of these places a record begins, and none is the first
pub record AreReleasable (segments : List Segment) (places : List ℕ) : Type 0 where
  pub there : list_all (λ p. list_any (begins_at p) segments) places ≡ true
  pub rising : AreRising 100 places

-- the records of a file without its garbage
abbrev pub cleaned : List Link → List Link
cleaned links = without_all (garbage_of (keyed_records links)) links

-- An image of a file while its garbage is released: its records stand for the state, its first 100 bytes are those of before, and
-- nothing more is said.
pub record IsCleaning (v : View) (file : List ℕ) (m : State) (image said : List ℕ) : Type 0 where
  pub links : List Link
  pub chain : IsChain links image
  pub records : AreRecordsOf (keyed_records links) m
  pub front : KeepsFront file image
  pub text : IsSaidText v said

-- What the records without garbage have of those of before: they stand for the same state, with the same keys, class list, headers and name, and
-- whatever rows are pending they keep the same and hold no more. Something refers to each of them.
pub record IsCleanOf (before after : List Link) : Type 0 where
  pub records : (m : State) → AreRecordsOf (keyed_records before) m → AreRecordsOf (keyed_records after) m
  pub keys : (heads : List KeyHead) → AreKeysOf (keyed_records before) heads → AreKeysOf (keyed_records after) heads
  pub info : info_key (keyed_records after) ≡ info_key (keyed_records before)
  pub headers : tree_records (top_keys (keyed_records after)) ≡ tree_records (top_keys (keyed_records before))
  pub name : name_in (keyed_records after) ≡ name_in (keyed_records before)
  pub kept : (pending : PendingRows) → kept_with pending after ≡ kept_with pending before
  pub need : (pending : PendingRows) → NeedsNoMore pending before after
  pub none : unreferred (keyed_records after) ≡ []

-- The host holds the file without its garbage, in these segments, and its first 100 bytes are those of before.
pub record HoldsCleanedIn (v : View) (file : List ℕ) (links : List Link) (segments : List Segment) : Type 0 where
  pub now : List ℕ
  pub holds : v.holds ≡ Some now
  pub chain : HasChain (cleaned links) segments now
  pub front : KeepsFront file now
  pub clean : IsCleanOf links (cleaned links)

-- the same, in the segments that are recovered
abbrev pub HoldsCleaned : View → List ℕ → List Link → Recovered → Type 0
HoldsCleaned v file links r = HoldsCleanedIn v file links r.chain.segments

-- What is kept when the garbage is released: all but the chain is as before, and it can be closed, whatever the host tells.
pub record IsCleaned (before after : Recovered) : Type 0 where
  pub closable : IsClosable after.chain.segments after.table.heads after.info (places_of after.trees) after.name
  pub fresh : after.chain.spent ≡ false
  pub registry : after.registry ≡ before.registry
  pub table : after.table ≡ before.table
  pub trees : after.trees ≡ before.trees
  pub info : after.info ≡ before.info
  pub name : after.name ≡ before.name
  pub nbytes_name : after.nbytes_name ≡ before.nbytes_name
  pub directory : HoldsDirectory after.nbytes_name after.chain.segments

-- a file without its garbage is one
abbrev pub GarbageIsCleaned : Type 0
GarbageIsCleaned = (file : List ℕ) (links : List Link) → IsChain links file → IsCleanOf links (cleaned links)
