-- What a session keeps of a file that is just made, and what it stands for.
use Rattle.std.proofs.{Common.{◌≡◌, inl, inr, map, ℕ, zero, suc, ◌+◌, ◌<◌, ◌≤◌, ◌&&◌, not, nat_lt, List, [], ◌∷◌, ◌++◌, length, Option, Some, None, Bool, true, false, if◌then◌else◌, refl, sym, ap, subst, ◌∙◌, arith}, lemmas.Bool.{and_from, and_parts, ltb-true}, lemmas.Option.{same_Some}, lemmas.Simd.{map-map}, lemmas.List.{Elements.{All-nil}, Sorted.{IsPermutation-refl}, Sums.{sum_by-cons}}}
use Rattle.std.specs.{Prelude.{MatchBool, slice_get}, FinMap.{get-empty}, List.{All, list_all, sum_by, Sorted.{IsPermutation}}, Str.{bytes_eq}, Option.{option_map_or}}
use Rattle.rio_host.specs.Host.{Any, Becomes, View}
use Rattle.rio_key.specs.declared.head.KeyHead.{KeyHead}
use Rattle.rio_dir.specs.Unborn.{is_unborn}
use Rattle.rio_num.specs.Word.{name_order}
use Rattle.rio_chain.specs.{Chains.{HasChain, HoldsChain}, Placing.{file_end, record_count}, Segments.{Link}, Stops.{KeepsFront}, declared.segment.Segment.{Segment}}
use Rattle.rio_close.specs.EndWord.{SaysEnd}
use Rattle.rio_machine.specs.State.{State, Tree, empty_state}
use Rattle.rio_state.specs.{Closing.{KeptRecords, close_need, held_with, kept_in, kept_with, name_in}, Contents.{file_classes}, KeyedRecords.{KeyedRecord, info_key, is_outdated, is_tree_key, is_tree_record, keyed_records, object_records, top_keys, tree_records}, Left.{HasOpenHead, info_head, open_end}, DirectoryKeys.{AreKeysOf}}
use Rattle.rio_state.specs.{Reads.{AreRecordsOf}, TreeLengths.{PendingRows, none_pending, pending_in}}
use Rattle.rio_state.proofs.{KeysFollow.{items_in}, Members.{In, in_filter, in_map, in_right, passing}}
use Rattle.rio_effect.specs.AllItems.{AreAllItems}
use Rattle.rio_effect.proofs.AllItems.{items_from}
use Rattle.rio_create.specs.NewFile.{IsNewFile, first_length, first_links, first_segments, nbytes_name_of, new_file}
use Rattle.rio_create.proofs.Lengths.{key_long}
use Rattle.rio_recover.specs.{Closable.{IsClosable, is_owned}, Trees.{AreTreesOf, trees_at}, Whole.{HoldsDirectory}, declared.trees.TreeAt.{TreeAt}}
use Rattle.rio_step.specs.KeptItems.{AreItemsOfState}
use Rattle.rio_step.proofs.FillableLaws.{stays_fillable}
use Rattle.rio_tree_table.specs.declared.table.KeptTree.{KeptTree}
use Rattle.rio_session.specs.{Due.{IsBranchSound, IsClosableWith}, Fills.{FilledTree, filled_tree_of, kept_tree_of, tree_at_of}, Items.{AreTreeKeys, IsOfKeys}, Opening.{BeginsOn, OpensMade}, Session.{HoldsState, SessionState, StandsFor}, SessionState.{kept_trees}}
use Rattle.rio_session.proofs.{FillLists.{opened_tree}, ItemsOpened.{items_of, tree_keys_of}, TreesRead.{records_saved}}

-- ---- keys and trees

-- keys and trees that stand for a file's stand for the state as which it reads
pub stand_for : (s : SessionState) (links : List Link) (m : State) (trees : List TreeAt) → m.classes ≡ s.classes → s.trees ≡ map filled_tree_of trees → AreKeysOf (keyed_records links) s.heads
    → AreTreesOf (keyed_records links) trees → AreRecordsOf (keyed_records links) m → IsOfKeys s m
stand_for s links m trees classes begun keys are is =
    let kept : kept_trees s ≡ map opened_tree trees = ap (map kept_tree_of) begun ∙ map-map kept_tree_of filled_tree_of trees in
    record {
      classes = classes;
      keys = subst (λ (x : List KeptTree). AreItemsOfState s.heads x m) (sym kept) (items_of (keyed_records links) s.heads trees m keys are is);
      trees = subst (λ (x : List KeptTree). AreTreeKeys s.heads x) (sym kept) (tree_keys_of (keyed_records links) s.heads trees m keys are is);
    }

-- without keys there are no trees
no_headers : (records : List KeyedRecord) → AreKeysOf records [] → (headers : List KeyedRecord) → tree_records (top_keys records) ≡ headers → headers ≡ []
no_headers records keys [] same = refl
no_headers records keys (r ∷ rs) same =
    let among : In r (tree_records (top_keys records)) = subst (λ (hs : List KeyedRecord). In r hs) (sym same) (inl refl) in
    absurd (items_in records [] keys r.head (in_map (λ (s : KeyedRecord). s.head) r (object_records (top_keys records) ++ tree_records (top_keys records)) (in_right r (object_records (top_keys records)) (tree_records (top_keys records)) among)))

cycle_within : (r : KeyedRecord) (rs : List KeyedRecord) → In r rs → r.head.cycle ≤ sum_by (λ x. x.head.cycle) rs
cycle_within r [] i = absurd i
cycle_within r (s ∷ rs) (inl same) = omega (arith, ap (λ (x : KeyedRecord). x.head.cycle) same, sum_by-cons (λ (x : KeyedRecord). x.head.cycle) s rs)
cycle_within r (s ∷ rs) (inr i) = omega (arith, cycle_within r rs i, sum_by-cons (λ (x : KeyedRecord). x.head.cycle) s rs)

-- a tree's key that doesn't count has one of a greater cycle beside it
no_tree_key : (tops : List KeyedRecord) → tree_records tops ≡ [] → (k : ℕ) (s : KeyedRecord) → In s tops → is_tree_key s.head ≡ true → sum_by (λ x. x.head.cycle) tops < s.head.cycle + k → ⊥
no_tree_key tops none zero s i tree low = let within = cycle_within s tops i in absurd (omega (arith, within, low))
no_tree_key tops none (suc k) s i tree low = by (is_outdated tops s) refl (λ t j e f. no_tree_key tops none k t j e f)
  where
    by : (b : Bool) → is_outdated tops s ≡ b → ((t : KeyedRecord) → In t tops → is_tree_key t.head ≡ true → sum_by (λ x. x.head.cycle) tops < t.head.cycle + k → ⊥) → ⊥
    by false fresh again = subst (λ (rs : List KeyedRecord). In s rs) none (in_filter (is_tree_record tops) s tops i (and_from _ _ tree (ap not fresh)))
    by true old again =
        let p = passing (λ t. is_tree_key t.head && bytes_eq t.head.name s.head.name && nat_lt s.head.cycle t.head.cycle) tops old in
        let parts = and_parts (is_tree_key p.x.head && bytes_eq p.x.head.name s.head.name) (nat_lt s.head.cycle p.x.head.cycle) p.passes in
        let higher = ltb-true s.head.cycle p.x.head.cycle parts.1 in
        again p.x p.among (and_parts (is_tree_key p.x.head) (bytes_eq p.x.head.name s.head.name) parts.0).0 (omega (arith, low, higher))

-- so no header is outdated
items_new : (links : List Link) → AreKeysOf (keyed_records links) [] → AreAllItems links
items_new links keys =
    let tops = top_keys (keyed_records links) in
    items_from (keyed_records links) (λ s i tree. absurd (no_tree_key tops (no_headers (keyed_records links) keys (tree_records tops) refl) (suc (sum_by (λ x. x.head.cycle) tops)) s i tree (omega arith)))

no_trees : (records : List KeyedRecord) → AreKeysOf records [] → AreTreesOf records []
no_trees records keys = record {
  ordered = tt;
  each = subst (λ (hs : List KeyedRecord). IsPermutation (trees_at (file_classes (info_key records)) hs) []) (sym (no_headers records keys (tree_records (top_keys records)) refl)) (IsPermutation-refl []);
}

-- ---- what is kept

kept_empty : (segments : List Segment) (name : List ℕ) → length name ≤ 200 → file_end segments ≤ 700 → record_count segments ≡ 1 → list_all (is_owned None [] []) segments ≡ true → IsClosable segments [] None [] name
unfolding close_need
kept_empty segments name short low one owned = record {
  sized = refl;
  fit = refl;
  placed = refl;
  listed = tt;
  stored = refl;
  owned = owned;
  short = omega (arith, short);
  count = one;
  room = omega (arith, low, one, short, key_long name short);
}

-- no saves are due
closable_new : (segments : List Segment) (name : List ℕ) → IsClosable segments [] None [] name → IsClosableWith segments [] [] None name
closable_new segments name kept = record {
  closable = kept;
  room = kept.room;
  sound = All-nil (λ (t : FilledTree). All (IsBranchSound t.fill.saved t.fill.pending) t.fill.branches);
  apart = tt;
}

pub kept_new : (segments : List Segment) (heads : List KeyHead) (trees : List FilledTree) (name own : List ℕ) → length name ≤ 200 → segments ≡ first_segments name → file_end segments ≤ 700 → heads ≡ [] → trees ≡ [] → own ≡ name
    → IsClosableWith segments heads trees None own
kept_new segments heads trees name own short segments_are low none no_tree same =
    let one : record_count segments ≡ 1 = ap record_count segments_are in
    let kept = kept_empty segments name short low one (ap (list_all (is_owned None [] [])) segments_are) in
    subst (λ (x : List KeyHead × List FilledTree × List ℕ). IsClosableWith segments x.0 x.1 None x.2) (λ i. (sym none i, sym no_tree i, sym same i)) (closable_new segments name kept)

-- the directory record is within the first record
pub directory_within : (segments : List Segment) (name : List ℕ) (nbytes_name : ℕ) → segments ≡ first_segments name → nbytes_name ≡ nbytes_name_of name → HoldsDirectory nbytes_name segments
directory_within segments name nbytes_name same is =
    subst (HoldsDirectory nbytes_name) (sym same) (let fits : nbytes_name + 60 ≤ first_length name = omega (arith, is) in fits)

-- ---- what it stands for

-- what a session keeps of a new file of this name
pub record KeepsNew (s : SessionState) (name : List ℕ) : Type 0 where
  pub segments : s.segments ≡ first_segments name
  pub classes : s.classes ≡ []
  pub heads : s.heads ≡ []
  pub trees : s.trees ≡ []
  pub info : s.info ≡ None
  pub name_is : s.name ≡ name
  pub nbytes_name : s.nbytes_name ≡ nbytes_name_of name
  pub opened : s.opened ≡ 0
  pub costs : s.costs ≡ 0

none_in_empty : pending_in empty_state ≡ none_pending
none_in_empty = λ i name. option_map_or (λ (t : Tree). t.pending) (get-empty name_order name i) []

nothing_pending : (links : List Link) → kept_with (pending_in empty_state) links ≡ kept_in links
nothing_pending links = ap (λ (p : PendingRows). kept_with p links) none_in_empty

holds_empty : (s : SessionState) (name : List ℕ) (datime : ℕ) (file : List ℕ) → KeepsNew s name → IsNewFile name datime file → HoldsState s empty_state file
holds_empty s name datime file keeps new =
    let links = new.links in
    let keys = subst (λ (heads : List KeyHead). AreKeysOf (keyed_records links) heads) (sym keeps.heads) new.keys in
    let trees = subst (λ (trees : List FilledTree). AreTreesOf (keyed_records links) (map tree_at_of trees)) (sym keeps.trees) (no_trees (keyed_records links) new.keys) in
    record {
      links = links;
      chain = subst (λ (segments : List Segment). HasChain links segments file) (sym keeps.segments) new.chain;
      head = subst (λ (n : ℕ). HasOpenHead file n) (sym keeps.nbytes_name) new.head;
      records = subst (λ (m : State). AreRecordsOf (keyed_records links) m) (sym (records_saved (keyed_records links) empty_state new.records)) new.records;
      stands = stand_for s links empty_state [] (sym keeps.classes) keeps.trees keys (no_trees (keyed_records links) new.keys) new.records;
      keys = keys;
      items = items_new links new.keys;
      trees = trees;
      fillable = stays_fillable.empty;
      rows = λ tree x there. absurd (let never : None ≡ Some x = sym (get-empty name_order tree) ∙ there in cc);
      opens = λ tree t x found there. absurd (let never : None ≡ Some x = sym (get-empty name_order tree) ∙ there in cc);
      info = keeps.info ∙ sym (ap (λ (info : Option KeyedRecord). info_head info) new.info);
      name = new.name_is ∙ sym keeps.name_is;
      count = ap (λ (k : KeptRecords). k.count) (nothing_pending links) ∙ new.count ∙ sym (ap record_count keeps.segments);
      held = λ less. omega (arith, new.held, ap (λ (p : PendingRows). held_with p links) none_in_empty);
    }

pub stands_new : (v : View) (s : SessionState) (name : List ℕ) (datime : ℕ) (m : State) (text : List ℕ) → m ≡ empty_state → KeepsNew s name → v.said ≡ Some text
    → ((new : List ℕ) × (v.holds ≡ Some new) × IsNewFile name datime new) → StandsFor v s m text
stands_new v s name datime m text none keeps said made = record {
  file = made.0;
  holds = made.1;
  said = said;
  state = subst (λ (n : State). HoldsState s n made.0) (sym none) (holds_empty s name datime made.0 keeps made.2);
}

-- the host holds the chain of a file that was made
pub chain_new : (old new : View) (name : List ℕ) (datime : ℕ) (segments : List Segment) → Becomes Any old.holds new.holds
    → ((file : List ℕ) → old.holds ≡ Some file → (now : List ℕ) × (new.holds ≡ Some now) × IsNewFile name datime now) → segments ≡ first_segments name → HoldsChain new segments
chain_new old new name datime segments told made are file holds = by old.holds refl told
  where
    by : (o : Option (List ℕ)) → old.holds ≡ o → Becomes Any o new.holds → (links : List Link) × HasChain links segments file
    by (Some before) is becomes =
        let now = made before is in
        let same : now.0 ≡ file = same_Some now.0 file (sym now.1 ∙ holds) in
        (now.2.links, subst (λ (x : List Segment × List ℕ). HasChain now.2.links x.0 x.1) (λ i. (sym are i, same i)) now.2.chain)
    by None is becomes = absurd (let never : Some file ≡ None = sym holds ∙ becomes in cc)

-- ---- what it begins with

-- the name of its first record is the one that is kept
pub kept_name : (links : List Link) → (kept_in links).name ≡ name_in (keyed_records links)
unfolding kept_with
kept_name links = refl

from_start : (i : ℕ) → 0 + i ≡ i
from_start i = omega arith

pub begins_new : (v : View) (s : SessionState) (name : List ℕ) (datime : ℕ) (file : List ℕ) → is_unborn file ≡ true → KeepsNew s name
    → ((new : List ℕ) × (v.holds ≡ Some new) × IsNewFile name datime new) → BeginsOn name datime file v s
begins_new v s name datime file unborn keeps made =
    let new = made.2 in
    record {
      links = new.links;
      begins = subst (λ (b : Bool). MatchBool b (new.links ≡ first_links name datime) (OpensMade file new.links)) (sym unborn) new.links_are;
      now = made.0;
      holds = made.1;
      chain = subst (λ (segments : List Segment). HasChain new.links segments made.0) (sym keeps.segments) new.chain;
      front = subst (λ (b : Bool). MatchBool b (KeepsFront (new_file name datime) made.0) ((marked : List ℕ) × SaysEnd open_end file marked × KeepsFront marked made.0)) (sym unborn)
          (λ i x low at. subst (λ (n : ℕ). slice_get made.0 n ≡ Some x) (from_start i) (new.bytes i x at));
      name_is = keeps.name_is ∙ sym new.name_is ∙ kept_name new.links;
      opened = keeps.opened ∙ sym (ap (λ (b : Bool). if b then 0 else length file) unborn);
    }
