-- A made file that is opened: marked as open, and without its garbage.
use Rattle.std.proofs.{Common.{◌≡◌, map, ℕ, ◌+◌, ◌<◌, ◌≤◌, ◌^◌, List, [], length, Option, Some, None, Bool, false, if◌then◌else◌, refl, sym, ap, subst, ◌∙◌, arith}, lemmas.{Option.{same_Some}}}
use Rattle.std.specs.{Prelude.{MatchBool}, List.{All}, Option.{option_map_or}}
use Rattle.rio_key.specs.declared.head.KeyHead.{KeyHead}
use Rattle.rio_num.proofs.ReadLaws.{ok_is}
use Rattle.rio_head.specs.{Form.{is_large_head}, declared.fault.HeadFault.{HeadFault}, declared.head.FileHead.{FileHead}}
use Rattle.rio_host.specs.Host.{Any, Becomes, IsWithin, View}
use Rattle.rio_host.proofs.Images.{told_before}
use Rattle.rio_dir.specs.{Table.{heads_size}, Unborn.{is_unborn}}
use Rattle.rio_chain.specs.{Becoming.{FileBecomes}, Chains.{HasChain, HoldsChain}, Adjoining.{AreSegments}, Placing.{file_end, record_count}, Segments.{IsChain, Link}, Stops.{KeepsFront}, Walks.{Told}, declared.segment.Segment.{Segment}}
use Rattle.rio_chain.proofs.{OneChain.{chain_one}, Words.{word_of_bytes, word_one}}
use Rattle.rio_close.specs.EndWord.{SaysEnd}
use Rattle.rio_close.proofs.EndWord.{chain_ignores_end, mark_opens_file, state_ignores_end}
use Rattle.rio_create.specs.NewFile.{first_links, new_file}
use Rattle.rio_effect.proofs.NeedsByKeys.{items_same}
use Rattle.rio_machine.specs.State.{State, empty_state}
use Rattle.rio_recover.specs.{Cleaning.{HoldsCleaned, cleaned}, Closable.{IsClosable, list_count}, Recovered.{IsRecovered}, Trees.{AreTreesOf, trees_at}, declared.recovery.Recovered.{Recovered}}
use Rattle.rio_state.specs.{DirectoryKeys.{AreKeysOf}, Closing.{end_limit, held_with, item_heads, kept_count, kept_in, kept_with, name_in}, Contents.{file_classes}, KeyedRecords.{KeyedRecord, info_key, keyed_records, top_keys, tree_records}}
use Rattle.rio_state.specs.{TreeLengths.{PendingRows, none_pending}, Trees.{all_places_named}}
use Rattle.rio_state.specs.{Left.{HasOpenHead, IsMarkedOpen, ReadsClosedUnlessOpen, info_head, open_end}, Reads.{AreRecordsOf, ReadsAsMade, ReadsAsState}}
use Rattle.rio_state.proofs.{HeldLimits.{held_is_limited}, NonePending.{all_idle}, OneState.{reads_one}}
use Rattle.rio_step.specs.Runs.{saved_of}
use Rattle.rio_state.specs.Sizes.{close_size}
use Rattle.rio_fill.specs.Heads.{CanBeFilled}
use Rattle.rio_recover.specs.{Trees.{places_of}, declared.trees.TreeAt.{TreeAt}}
use Rattle.rio_session.specs.{Due.{IsClosableWith, need_with}, declared.open_tree.Due.{Due}, Fills.{filled_tree_of, places_of_trees, tree_at_of}, Items.{IsOfKeys}, Opening.{BeginsOn, OpensMade}, Session.{HoldsState, SessionState, StandsFor}, SessionState.{baskets_of, headers_of}}
use Rattle.rio_session.proofs.{CleanItems.{items_of_clean}, FillSums.{need_bounds, need_by_due}, HeaderOfFill.{all_fillable, none_due, places_begun, trees_back, trees_sound}, KeepsTrees.{with_saves}, OpenNew.{kept_name, stand_for}, Opened.{IsOpenImage, chain_long, open_image}, TreesBegun.{CanGoOn, idle, opens_begun, rows_begun}, TreesOfFile.{trees_still}, TreesRead.{records_saved}}
use Rattle.rio_recover.proofs.Rooms.{places_count}

-- ---- marks

fits : open_end < 2 ^ 32
fits = omega arith

pub marked_by : (file image : List ℕ) → SaysEnd open_end file image → IsMarkedOpen image
marked_by file image says = word_of_bytes image 12 open_end fits says.written

-- a file that is marked as open needn't read by its key list
pub marked_closed : (image : List ℕ) (m : State) → IsMarkedOpen image → ReadsClosedUnlessOpen image m
marked_closed image m marked word root has other = absurd (other (word_one image 12 word open_end has marked))

-- ---- states

pub made_state : (file : List ℕ) (m : State) → is_unborn file ≡ false → ReadsAsState file m → ReadsAsMade file m
made_state file m made reads = subst (λ (b : Bool). MatchBool b (m ≡ empty_state) (ReadsAsMade file m)) made reads

-- ---- counts

kept_items : (links : List Link) → (kept_in links).count
    ≡ kept_count (info_key (keyed_records links)) (item_heads (top_keys (keyed_records links))) + length (all_places_named (file_classes (info_key (keyed_records links))) (tree_records (top_keys (keyed_records links))))
unfolding kept_with
kept_items links =
    let classes = file_classes (info_key (keyed_records links)) in
    let headers = tree_records (top_keys (keyed_records links)) in
    omega (arith, (all_idle classes headers).put)

count_listed : (info : Option KeyedRecord) → list_count (info_head info) ≡ option_map_or (λ r. 1) info 0
count_listed None = refl
count_listed (Some r) = refl

-- ---- a file that is recovered

module _ (file : List ℕ) (r : Recovered) (made : is_unborn file ≡ false) (rec : IsRecovered file r) where
  abbrev links : List Link
  links = rec.links

  small : is_large_head rec.head.version ≡ false
  small =
      let reads = made_state file rec.m made rec.reads in
      let same : reads.head ≡ rec.head = ok_is {E = HeadFault} reads.head rec.head (sym reads.head_is ∙ rec.head_is) in
      ap (λ (h : FileHead). is_large_head h.version) (sym same) ∙ reads.small

  -- the records stand for the state as which the file reads
  pub records_of : (m : State) → ReadsAsState file m → AreRecordsOf (keyed_records links) m
  records_of m reads =
      let was = made_state file m made reads in
      subst (λ (ls : List Link). AreRecordsOf (keyed_records ls) m) (chain_one file was.links links was.chain rec.chain.chain) was.records

  pub saved_is : (m : State) → ReadsAsState file m → saved_of m ≡ m
  saved_is m reads = records_saved (keyed_records links) m (records_of m reads)

  -- ---- the mark

  module _ (marked : List ℕ) (says : SaysEnd open_end file marked) where
    pub marked_chain : HasChain links r.chain.segments marked
    marked_chain = record { chain = chain_ignores_end file marked links open_end says rec.chain.chain; same = rec.chain.same }

    pub marked_head : HasOpenHead marked r.nbytes_name
    marked_head = subst (HasOpenHead marked) (sym rec.nbytes_name) (mark_opens_file file marked links rec.head says rec.chain.chain rec.head_is small)

    pub marked_reads : (m : State) → ReadsAsState file m → ReadsAsState marked m
    marked_reads m reads = state_ignores_end file marked m open_end fits says made reads

    -- an image that keeps the front of the marked file, and whose records stand for the state
    module _ (m : State) (reads : ReadsAsState file m) (after : List Link) (image : List ℕ) (front : KeepsFront marked image) (chain : IsChain after image)
        (records : AreRecordsOf (keyed_records after) m) where
      saved_records : AreRecordsOf (keyed_records after) (saved_of m)
      saved_records = subst (AreRecordsOf (keyed_records after)) (sym (saved_is m reads)) records

      pub image_open : IsOpenImage r.nbytes_name m image
      image_open = open_image marked image r.nbytes_name links after m marked_head marked_chain.chain front chain saved_records

      pub image_reads : ReadsAsState image m
      image_reads = subst (ReadsAsState image) (saved_is m reads) image_open.reads.left.reads

    -- ---- without its garbage

    module _ (v : View) (after : Recovered) (clean : HoldsCleaned v marked links after) where
      abbrev left : List Link
      left = cleaned links

      -- what a session keeps of it
      pub record KeepsMade (s : SessionState) : Type 0 where
        pub segments : s.segments ≡ after.chain.segments
        pub classes : s.classes ≡ r.registry
        pub heads : s.heads ≡ r.table.heads
        pub trees : s.trees ≡ map filled_tree_of r.trees
        pub info : s.info ≡ r.info
        pub name : s.name ≡ r.name
        pub nbytes_name : s.nbytes_name ≡ r.nbytes_name
        pub opened : s.opened ≡ length file
        pub costs : s.costs ≡ 0
        pub closable : IsClosable s.segments s.heads s.info (baskets_of s) s.name

      module _ (s : SessionState) (keeps : KeepsMade s) where
        its_chain : HasChain left s.segments clean.now
        its_chain = subst (λ (segments : List Segment). HasChain left segments clean.now) (sym keeps.segments) clean.chain

        its_keys : AreKeysOf (keyed_records left) s.heads
        its_keys = subst (AreKeysOf (keyed_records left)) (sym keeps.heads) (clean.clean.keys r.table.heads rec.keys)

        left_trees : AreTreesOf (keyed_records left) r.trees
        left_trees =
            let info = clean.clean.info in
            let headers = clean.clean.headers in
            trees_still (keyed_records links) (keyed_records left) r.trees (λ i. trees_at (file_classes (info i)) (headers i)) rec.trees

        its_info : s.info ≡ info_head (info_key (keyed_records left))
        its_info = keeps.info ∙ rec.info ∙ sym (ap info_head clean.clean.info)

        its_name : s.name ≡ name_in (keyed_records left)
        its_name = keeps.name ∙ rec.name ∙ sym clean.clean.name

        module _ (m : State) (reads : ReadsAsState file m) (can : CanGoOn m r.trees) where
          its_trees : AreTreesOf (keyed_records left) (headers_of s)
          its_trees = subst (AreTreesOf (keyed_records left)) (sym (ap (map tree_at_of) keeps.trees ∙ trees_back r.trees (all_fillable r.trees can.heads))) left_trees

          its_records : AreRecordsOf (keyed_records left) m
          its_records = clean.clean.records m (records_of m reads)

          its_stand : IsOfKeys s m
          its_stand =
              stand_for s left m r.trees (sym (keeps.classes ∙ rec.classes ∙ ap (λ (n : State). n.classes) (reads_one file rec.m m rec.reads reads))) keeps.trees its_keys left_trees its_records

          -- as many records as the key list, the class list and the first record tell
          its_count : (kept_in left).count ≡ record_count s.segments
          its_count =
              let items = items_same (keyed_records left) s.heads m its_keys its_records (λ h. 0) in
              let listed : list_count s.info ≡ list_count (info_head (info_key (keyed_records left))) = ap list_count its_info in
              omega (arith, kept_items left, items.long, listed, count_listed (info_key (keyed_records left)), places_count (file_classes (info_key (keyed_records left))) (tree_records (top_keys (keyed_records left))) r.trees left_trees.each, ap length (ap places_of_trees keeps.trees ∙ places_begun r.trees), keeps.closable.count)

          holds_made : HoldsState s m clean.now
          holds_made = record {
            links = left;
            chain = its_chain;
            head = subst (HasOpenHead clean.now) (sym keeps.nbytes_name) (image_open m reads left clean.now clean.front clean.chain.chain its_records).head;
            records = saved_records m reads left clean.now clean.front clean.chain.chain its_records;
            stands = its_stand;
            keys = its_keys;
            items = items_of_clean clean.now left m clean.chain.chain its_records clean.clean.none;
            trees = its_trees;
            fillable = can.fillable;
            rows = rows_begun left m its_records s.heads r.trees its_keys left_trees can s keeps.trees its_stand;
            opens = opens_begun left m its_records s.heads r.trees its_keys left_trees can s keeps.trees its_stand;
            info = its_info;
            name = kept_name left ∙ sym its_name;
            count = ap (λ (p : PendingRows). (kept_with p left).count) (idle left m its_records) ∙ its_count;
            held = λ less. omega (arith, held_is_limited file links m rec.chain.chain (records_of m reads) rec.headers, (clean.clean.need none_pending).held, ap (λ (p : PendingRows). held_with p left) (idle left m its_records), keeps.opened, keeps.costs);
          }

          pub stands_made : (text : List ℕ) → v.said ≡ Some text → StandsFor v s m text
          stands_made text said = record { file = clean.now; holds = clean.holds; said = said; state = holds_made }

        -- what it begins with
        pub begins_made : (name : List ℕ) (datime : ℕ) → BeginsOn name datime file v s
        begins_made name datime = record {
          links = left;
          begins = subst (λ (b : Bool). MatchBool b (left ≡ first_links name datime) (OpensMade file left)) (sym made) (links, rec.chain.chain, refl);
          now = clean.now;
          holds = clean.holds;
          chain = its_chain;
          front = subst (λ (b : Bool). MatchBool b (KeepsFront (new_file name datime) clean.now) ((m : List ℕ) × SaysEnd open_end file m × KeepsFront m clean.now)) (sym made) (marked, says, clean.front);
          name_is = its_name;
          opened = keeps.opened ∙ sym (ap (λ (b : Bool). if b then 0 else length file) made);
        }

-- ---- what is kept

-- what is written of the keys of a file that can be closed
pub size_low : (segments : List Segment) (heads : List KeyHead) (info : Option KeyHead) (baskets name : List ℕ) → IsClosable segments heads info baskets name → heads_size heads < 2 ^ 64
size_low segments heads info baskets name closable =
    let low = need_bounds name heads (record_count segments) [] end_limit (omega (arith, closable.room)) in
    omega (arith, low.heads)

-- no saves are due
pub with_begun : (segments : List Segment) (heads : List KeyHead) (trees : List TreeAt) (info : Option KeyHead) (name : List ℕ) → AreSegments segments → IsClosable segments heads info (places_of trees) name
    → All (λ t. CanBeFilled t.head) trees → All (λ t. t.head.entries < 2 ^ 63) trees → IsClosableWith segments heads (map filled_tree_of trees) info name
with_begun segments heads trees info name shape kept can few =
    let places = places_begun trees in
    let none = none_due trees in
    let room : file_end segments + need_with name heads (record_count segments) (map filled_tree_of trees) ≤ end_limit =
    omega (
      arith,
      kept.room,
      need_by_due name heads (record_count segments) (map filled_tree_of trees),
      need_by_due name heads (record_count segments) [],
      ap (λ (d : Due). d.bytes) none,
      ap (λ (d : Due). close_size name (heads_size heads) (record_count segments + d.baskets)) none,
    ) in
    with_saves segments heads (map filled_tree_of trees) info name shape (subst (λ (ps : List ℕ). IsClosable segments heads info ps name) (sym places) kept) room (trees_sound trees can few)

-- ---- the host

-- a host holds the segments when the file is marked
pub holds_marked : (a b : View) (r : Recovered) → Told a (λ file. is_unborn file ≡ false) → Told a (λ file. IsRecovered file r) → Becomes Any a.holds b.holds → FileBecomes a b (SaysEnd open_end)
    → HoldsChain b r.chain.segments
holds_marked a b r made rec told marks file holds =
    let was = told_before Any a.holds b.holds file told holds in
    let marked = marks was.0 was.1 in
    let chain = marked_chain was.0 r (made was.0 was.1) (rec was.0 was.1) marked.0 marked.2 in
    ((rec was.0 was.1).links, subst (HasChain (rec was.0 was.1).links r.chain.segments) (same_Some marked.0 file (sym marked.1 ∙ holds)) chain)

-- the header's word of END is within the file
pub within_header : (a : View) (r : Recovered) → Told a (λ file. IsRecovered file r) → IsWithin a 12
within_header a r rec file holds = let is = rec file holds in omega (arith, chain_long is.links file is.chain.chain)
