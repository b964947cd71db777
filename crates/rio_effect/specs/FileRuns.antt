-- What commands do to a file: the records that are there after them, each with its place and bytes.
--
-- A command changes the records of a file in a list of steps, each at the place that the rule gives for the records before it. A put adds
-- the record of its object, a batch those of its objects as one change, a delete releases that of the object, or those of the tree; a class command adds the record of the longer class
-- list and then releases that of the one before. A tree adds its header, with a class list first where the file has none; a fill adds the
-- baskets that don't take its entries; a save adds the open baskets and the next header, and then releases the header before. Commands that
-- only print change nothing. A close saves each tree that has pending rows, in the order of names, before it writes anything else.
use Rattle.std.specs.Prelude.{◌≡◌, ℕ, List, [], ◌∷◌, map, sum, Option, Some, None, is_some, if◌then◌else◌}
use Rattle.std.specs.{FinMap.{get}, List.{find}, Option.{option_map_or}}
use Rattle.rio_dir.specs.Table.{is_at_cycle}
use Rattle.rio_chain.specs.{Placing.{file_end, place_of, with_segment, with_segments}, Releasing.{without_segment}, Segments.{Link, segment_of}}
use Rattle.rio_format.specs.declared.class.ClassDef.{ClassDef}
use Rattle.rio_chain.specs.declared.segment.Segment.{Segment}
use Rattle.rio_machine.specs.State.{State, names_tree}
use Rattle.rio_machine.specs.declared.command.Command.{Command, TheVariants.{Bad, Class, Put, Batch, Delete, Tree, Fill, Save, Get, Scan, Ls}}
use Rattle.rio_step.specs.{Refusing.{FullMark, refusal_of, with_class}, Runs.{Marks, closing_saves}, Step.{state_behind, step}}
use Rattle.rio_state.specs.{Closing.{close_need, is_full, kept_with}, KeyedRecords.{KeyedRecord, info_key, keyed_records, top_keys}, Left.{info_head}, TreeLengths.{PendingRows, pending_in}}
use Rattle.rio_effect.specs.{ClassRecord.{list_data, list_words, next_list_cycle}, ObjectRecord.{data_of_put, records_of_puts, words_of_put}, TreeRecords.{length_of_basket}}
pub use Rattle.rio_effect.specs.Changes.{Change, added, added_length, added_place, all_changed, basket_added, batch_added, batch_bytes, batch_lengths, batch_place, basket_place, bytes_at, changed, lengths_of, released}
pub use Rattle.rio_effect.specs.TreeChanges.{FileRecords, PutBaskets, changes_of_fill, changes_of_save, changes_of_tree, changes_of_tree_delete, none_put, put_by_fill, with_put}

-- ---- commands

-- the release of a record, if there is one
abbrev pub release_of : Option KeyedRecord → List Change
release_of None = []
release_of (Some r) = released r.head.seek ∷ []

-- the record of an object, by its key
abbrev pub item_record : List Link → List ℕ → ℕ → Option KeyedRecord
item_record links name cycle = find (λ r. is_at_cycle name cycle r.head) (top_keys (keyed_records links))

-- the longer class list, and the release of the one before
abbrev pub changes_of_class : ℕ → Option KeyedRecord → List ClassDef → List Change
changes_of_class datime info classes =
    let words = list_words 0 datime (next_list_cycle (info_head info)) in added words (list_data words classes) ∷ release_of info

abbrev pub changes_of_delete : FileRecords → State → List ℕ → ℕ → List Change
changes_of_delete now m name cycle = if names_tree m name then changes_of_tree_delete now name else release_of (item_record now.links name cycle)

-- the changes of a command that isn't refused
abbrev pub changes_of : ℕ → FileRecords → State → Command → List Change
changes_of datime now m (Put name v) = added (words_of_put m 0 datime name v) (data_of_put m 0 datime name v) ∷ []
changes_of datime now m (Batch puts) = batch_added (records_of_puts datime m puts) ∷ []
changes_of datime now m (Delete name cycle) = changes_of_delete now m name cycle
changes_of datime now m (Class class) = changes_of_class datime (info_key (keyed_records now.links)) (with_class m.classes class)
changes_of datime now m (Tree name branches) = changes_of_tree datime now.links m name branches
changes_of datime now m (Fill name row) = option_map_or (changes_of_fill datime m name row) (get m.trees name) []
changes_of datime now m (Save name) = option_map_or (changes_of_save datime now m name) (get m.trees name) []
changes_of datime now m (Bad line place) = []
changes_of datime now m (Get name cycle version) = []
changes_of datime now m (Scan name class) = []
changes_of datime now m Ls = []

-- The baskets that were put since the last saves, after a command that isn't refused: a fill puts full ones; behind a save, and behind a delete
-- of the tree, there are none.
abbrev pub put_after : ℕ → FileRecords → State → Command → PutBaskets
put_after datime now m (Fill name row) = with_put now.put name (option_map_or (put_by_fill datime now m name row) (get m.trees name) [])
put_after datime now m (Save name) = with_put now.put name []
put_after datime now m (Delete name cycle) = if names_tree m name then with_put now.put name [] else now.put
put_after datime now m other = now.put

-- what a command that isn't refused leaves
abbrev pub records_after : ℕ → FileRecords → State → Command → FileRecords
records_after datime now m c = record { links = all_changed now.links (changes_of datime now m c); put = put_after datime now m c }

-- There is no room for the records of some changes, with what a close needs after them, where these rows are pending then: where the file ends
-- before, and how long they are together. What a close needs is told by the records that are there then, so also by a class list that lists no
-- declared class.
unfoldable pub mark_of_changes : PendingRows → List Link → List Change → Option FullMark
mark_of_changes pending links changes =
    let segments = map segment_of links in
    let lengths = lengths_of changes in
    if is_full segments lengths (close_need (kept_with pending (all_changed links changes)))
    then Some (record { end = file_end segments; wanted = sum lengths })
    else None

-- a command's mark, and the records after it
pub record FileStep : Type 0 where
  pub mark : Option FullMark
  pub records : FileRecords

-- a refused command changes no record
abbrev pub step_by_mark : ℕ → FileRecords → State → Command → Option FullMark → FileStep
step_by_mark datime now m c mark = record { mark = mark; records = if is_some (refusal_of m c mark) then now else records_after datime now m c }

-- what a command does at this time to a file with these records that stands for this state
unfoldable pub file_step : ℕ → FileRecords → State → Command → FileStep
file_step datime now m c = step_by_mark datime now m c (mark_of_changes (pending_in (state_behind m c)) now.links (changes_of datime now m c))

-- ---- runs

-- the marks of a run's commands, and the records after them
pub record FileRun : Type 0 where
  pub marks : Marks
  pub records : FileRecords

abbrev pub marked_before : Option FullMark → FileRun → FileRun
marked_before mark r = record r { marks = mark ∷ r.marks }

unfoldable pub file_run : ℕ → FileRecords → State → List Command → FileRun
file_run datime now m [] = record { marks = []; records = now }
file_run datime now m (c ∷ cs) =
    let s = file_step datime now m c in marked_before s.mark (file_run datime s.records (step m c s.mark).state cs)

-- ---- the close

-- what commands leave that nothing refuses, one after the other
abbrev pub records_behind : ℕ → FileRecords → State → List Command → FileRecords
records_behind datime now m [] = now
records_behind datime now m (c ∷ cs) = records_behind datime (records_after datime now m c) (state_behind m c) cs

-- what the closing saves leave
unfoldable pub saved_records : ℕ → FileRecords → State → FileRecords
saved_records datime now m = records_behind datime now m (closing_saves m)

-- ---- laws

-- the first command of a run, and the others
abbrev pub RunsHaveParts : Type 0
RunsHaveParts = (datime : ℕ) (now : FileRecords) (m : State) (c : Command) (commands : List Command)
    → file_run datime now m (c ∷ commands)
    ≡ marked_before (file_step datime now m c).mark (file_run datime (file_step datime now m c).records (step m c (file_step datime now m c).mark).state commands)

-- what a change makes of the segments: an added record what its length does, at the place of the rule, the records of a batch what their
-- lengths do, at the place of the rule for their sum, and a release what its place does
abbrev pub segments_changed : List Segment → Change → List Segment
segments_changed segments (added words contents) =
    let n = added_length words contents in with_segment (place_of segments n) n segments
segments_changed segments (batch_added records) =
    let lengths = batch_lengths records in with_segments (place_of segments (sum lengths)) lengths segments
segments_changed segments (basket_added words) =
    let n = length_of_basket words in with_segment (place_of segments n) n segments
segments_changed segments (released place) = without_segment place segments

abbrev pub SegmentsFollow : Type 0
SegmentsFollow = (links : List Link) (change : Change) → map segment_of (changed links change) ≡ segments_changed (map segment_of links) change
