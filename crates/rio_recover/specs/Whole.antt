-- What is recovered as the keys of the records tell it, whatever the host tells of the file.
use Rattle.std.specs.Prelude.{◌≡◌, ◌+◌, ◌≤◌, ℕ, List, [], ◌∷◌, length, map, codes, true, ◌==◌}
use Rattle.std.specs.List.{All, filter, list_all, Sorted.{IsPermutation}}
use Rattle.rio_key.specs.declared.head.KeyHead.{KeyHead}
use Rattle.rio_chain.specs.{Adjoining.{AreSegments}, Keyed.{AreKeyed, IsRecordKey}, declared.segment.Segment.{Segment, TheVariants.{Record, Gap}}}
use Rattle.rio_model.specs.StateClasses.{StateClasses}
use Rattle.rio_state.specs.{Closing.{name_in}, KeyedRecords.{info_key, is_top_key, top_keys}, Left.{info_head}}
use Rattle.rio_recover.specs.{Baskets.{AreOnce, has_baskets}, Checks.{is_header_key, is_item_key}, Trees.{AreWholeBranches, places_of}, Classes.{HasListCycle}, Keys.{keyed_by}, Recovered.{place_in, places_left}, declared.recovery.Recovered.{Recovered}}

-- the first key is that of a first record
abbrev pub BeginsWithFile : List KeyHead → Type 0
BeginsWithFile [] = ⊥
BeginsWithFile (head ∷ heads) = head.class ≡ codes "TFile"

-- the directory record, of 60 bytes, is within the first record; the number is the header's fNbytesName
abbrev pub HoldsDirectory : ℕ → List Segment → Type 0
HoldsDirectory nbytes_name [] = ⊥
HoldsDirectory nbytes_name (Record place n ∷ segments) = nbytes_name + 60 ≤ n
HoldsDirectory nbytes_name (Gap place n ∷ segments) = ⊥

-- Each record of the chain has one of these keys, which tells its place and its length. The items' keys, the class list that counts, the
-- garbage and the file's name are what these keys tell; the items' keys have no titles. Each tree has the name of a tree's key that counts,
-- its branches are whole, and each basket that its header names is the record of one, as long as the header says; none is named twice. The
-- classes are such as commands declare, the class list that counts has a cycle that so many commands give, and the directory record stands
-- where the header says.
pub record IsWhole (r : Recovered) : Type 0 where
  pub heads : List KeyHead
  pub shape : AreSegments r.chain.segments
  pub keyed : AreKeyed IsRecordKey r.chain.segments heads
  pub first : BeginsWithFile heads
  pub items : IsPermutation (filter (is_item_key (top_keys (keyed_by heads))) (filter is_top_key heads)) r.table.heads
  pub untitled : list_all (λ h. length h.title == 0) r.table.heads ≡ true
  pub info : r.info ≡ info_head (info_key (keyed_by heads))
  pub trees : IsPermutation (map (λ h. h.name) (filter (is_header_key (top_keys (keyed_by heads))) (filter is_top_key heads))) (map (λ t. t.name) r.trees)
  pub heads_are : All (λ t. AreWholeBranches t.head) r.trees
  pub baskets : All (λ t. has_baskets heads t.head ≡ true) r.trees
  pub once : AreOnce (places_of r.trees)
  pub garbage : r.garbage ≡ places_left (top_keys (keyed_by heads)) (place_in r.info) (places_of r.trees) heads
  pub name : r.name ≡ name_in (keyed_by heads)
  pub classes : StateClasses r.registry
  pub listed : HasListCycle r.info r.registry
  pub directory : HoldsDirectory r.nbytes_name r.chain.segments
