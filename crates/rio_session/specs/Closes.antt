-- What a close makes of the file of a session.
use Rattle.std.specs.{Prelude.{◌≡◌, true, List, ℕ, Some}, List.{list_all}}
use Rattle.rio_host.specs.Host.{View}
use Rattle.rio_chain.specs.{Chains.{HasChain}, Segments.{Link}, Stops.{KeepsFront}}
use Rattle.rio_state.specs.{Closing.{kept_in}, DirectoryKeys.{AreKeysOf}, KeyedRecords.{info_key, keyed_records}, Left.{HasOpenHead, info_head}}
use Rattle.rio_machine.specs.State.{State}
use Rattle.rio_effect.specs.FileRuns.{saved_records}
use Rattle.rio_close.specs.{Leaving.{HoldsClosedWith, IsClosedWith}, Written.{AreCloseRecords, OpenFile}, declared.parts.CloseRecords.{CloseRecords}}
use Rattle.rio_recover.specs.{Closable.{is_owned}, Trees.{AreTreesOf, places_of}, declared.trees.TreeAt.{TreeAt}}
use Rattle.rio_session.specs.{Fillings.{closing}, Kept.{all_done}, Session.{SessionState, file_records}, SessionState.{headers_of}}

-- what a close writes of
abbrev pub open_file : SessionState → OpenFile
open_file s = record { segments = s.segments; heads = s.heads; info = s.info; name = s.name; nbytes_name = s.nbytes_name; datime = s.datime }

-- A file in which no row is pending: its header, its keys, its trees, its class list and its name are those that the session keeps. Each of its
-- records is the first one, the class list, one that the key list names, or a basket that a header names.
pub record IsSaved (s : SessionState) (links : List Link) (file : List ℕ) : Type 0 where
  pub chain : HasChain links s.segments file
  pub head : HasOpenHead file s.nbytes_name
  pub keys : AreKeysOf (keyed_records links) s.heads
  pub trees : AreTreesOf (keyed_records links) (headers_of s)
  pub info : s.info ≡ info_head (info_key (keyed_records links))
  pub named : (kept_in links).name ≡ s.name
  pub owned : list_all (is_owned s.info s.heads (places_of (headers_of s))) s.segments ≡ true

-- First the trees with pending rows are saved. Then the file is written as the session keeps it behind that, with its name and time: so after
-- the close there is no record but those, the key list and the free record.
pub record ClosesFile (old new : View) (s : SessionState) : Type 0 where
  pub records : CloseRecords
  pub made : AreCloseRecords (open_file (closing s).kept) records
  pub file : List ℕ
  pub holds : old.holds ≡ Some file
  pub links : List Link
  pub chain : HasChain links s.segments file
  pub saved : List ℕ
  pub front : KeepsFront file saved
  pub is_saved : IsSaved (closing s).kept (all_done (closing s).changes links) saved
  pub written : HoldsClosedWith new (open_file (closing s).kept) (all_done (closing s).changes links) records saved

-- The saves of a close leave the records that the definition of runs on files tells.
abbrev pub AreSavesTold : SessionState → State → List Link → Type 0
AreSavesTold s m links = all_done (closing s).changes links ≡ (saved_records s.datime (file_records s links) m).links

-- A file of this name that was closed at this time, without garbage. Before its close it had just these records, each of them the first
-- one, the class list, one that the key list names, or a basket that a header names, and its first 100 bytes were these; what was kept of it was
-- what it was. So name, time, those bytes and the records tell header, directory record, each record and each gap's place. The bytes within
-- gaps and after END are open.
pub record IsWellClosed (name : List ℕ) (datime : ℕ) (header : List ℕ) (links : List Link) (file : List ℕ) : Type 0 where
  pub kept : OpenFile
  pub name_is : kept.name ≡ name
  pub datime_is : kept.datime ≡ datime
  pub records : CloseRecords
  pub made : AreCloseRecords kept records
  pub before : List ℕ
  pub front : KeepsFront header before
  pub chain : HasChain links kept.segments before
  pub head : HasOpenHead before kept.nbytes_name
  pub keys : AreKeysOf (keyed_records links) kept.heads
  pub trees : List TreeAt
  pub trees_are : AreTreesOf (keyed_records links) trees
  pub info : kept.info ≡ info_head (info_key (keyed_records links))
  pub named : (kept_in links).name ≡ kept.name
  pub owned : list_all (is_owned kept.info kept.heads (places_of trees)) kept.segments ≡ true
  pub written : IsClosedWith kept links records before file
