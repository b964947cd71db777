-- What a command changes: of the records of the file, and of what a session keeps beside it.
use Rattle.std.specs.{Prelude.{ℕ, List, [], ◌∷◌, ◌++◌, ◌==◌, length, map, Option, Some, None, if◌then◌else◌}, List.{filter, find, fold, list_any}, Option.{option_map_or}}
use Rattle.rio_key.specs.declared.head.KeyHead.{KeyHead}
use Rattle.rio_format.specs.{declared.class.ClassDef.{ClassDef}, declared.value.Value.{Value}}
use Rattle.rio_dir.specs.Table.{head_of, with_head, with_heads, without_head}
use Rattle.rio_chain.specs.{Changes.{with_record, with_records, without_record}, Placing.{place_of, with_segment, with_segments}, Releasing.{without_segment}, Segments.{Link}}
use Rattle.rio_chain.specs.declared.segment.Segment.{Segment, TheVariants.{Record, Gap}}
use Rattle.rio_machine.specs.State.{State}
use Rattle.rio_machine.specs.declared.command.Command.{Command, TheVariants.{Bad, Class, Put, Batch, Delete, Tree, Fill, Save, Get, Scan, Ls}}
use Rattle.rio_machine.specs.declared.command.PutItem.{PutItem}
use Rattle.rio_step.specs.Refusing.{with_class}
use Rattle.rio_effect.specs.{ClassRecord.{key_of_class, record_of_class}, ObjectRecord.{key_of_put, keys_of_batch, record_of_put, records_of_batch, size_of_batch}}
use Rattle.rio_recover.specs.Cleaning.{without_segments}
pub use Rattle.rio_session.specs.{Due.{key_place}, Fillings.{LinksChange}}
use Rattle.rio_session.specs.{Fillings.{filling, making, saving}, Fills.{is_tree_of, places_of_fill, without_filled}, Marks.{is_refused}, SessionState.{SessionState}}

-- ---- records

-- the links after all changes, one after the other
abbrev pub all_done : List LinksChange → List Link → List Link
all_done changes links = fold (λ l change. change l) links changes

-- the release of the record of this key, if there is one
abbrev pub released_link : Option KeyHead → List LinksChange
released_link None = []
released_link (Some h) = without_record h.seek ∷ []

abbrev pub released_segment : Option KeyHead → List Segment → List Segment
released_segment None segments = segments
released_segment (Some h) segments = without_segment h.seek segments

-- ---- places

-- where the rule places the record of a put
abbrev pub place_of_put : SessionState → State → List ℕ → Value → ℕ
place_of_put s m name v = place_of s.segments (length (record_of_put m 0 s.datime name v))

-- those of a batch, one after the other
abbrev pub place_of_batch : SessionState → State → List PutItem → ℕ
place_of_batch s m puts = place_of s.segments (size_of_batch m 0 s.datime puts)

-- and that of a class list
abbrev pub place_of_class : SessionState → State → ClassDef → ℕ
place_of_class s m class = place_of s.segments (length (record_of_class s.info m 0 s.datime class))

-- ---- the records of a delete

-- where the records of segments begin
abbrev pub record_places : List Segment → List ℕ
record_places [] = []
record_places (Record p n ∷ segments) = p ∷ record_places segments
record_places (Gap p n ∷ segments) = record_places segments

-- those of these places, in the order of the segments
abbrev pub places_among : List ℕ → List Segment → List ℕ
places_among places segments = filter (λ p. list_any (λ q. q == p) places) (record_places segments)

-- where the baskets of the tree of a name stand that were written, in order
abbrev pub tree_places : SessionState → List ℕ → List ℕ
tree_places s name = option_map_or (λ t. places_among (places_of_fill t.fill) s.segments) (find (is_tree_of name) s.trees) []

-- the records that a delete releases, one after the other: the one of the key, and the baskets of a tree
abbrev pub released_by : SessionState → List ℕ → ℕ → List ℕ
released_by s name cycle = key_place (head_of name (Some cycle) s.heads) ++ tree_places s name

-- ---- by a command that isn't refused

-- the changes of the file's records, one after the other
abbrev pub changes_by : SessionState → State → Command → List LinksChange
changes_by s m (Put name v) = let place = place_of_put s m name v in with_record place (record_of_put m place s.datime name v) ∷ []
changes_by s m (Batch puts) = let place = place_of_batch s m puts in with_records place (records_of_batch m place s.datime puts) ∷ []
changes_by s m (Delete name cycle) = map without_record (released_by s name cycle)
changes_by s m (Class class) = let place = place_of_class s m class in with_record place (record_of_class s.info m place s.datime class) ∷ released_link s.info
changes_by s m (Bad line place) = []
changes_by s m (Get name cycle version) = []
changes_by s m (Scan name class) = []
changes_by s m Ls = []
changes_by s m (Tree name branches) = (making s m name branches).changes
changes_by s m (Fill name row) = (filling s m name row).changes
changes_by s m (Save name) = (saving s name).changes

-- what the session keeps then, but for its costs
abbrev pub kept_by : SessionState → State → Command → SessionState
kept_by s m (Put name v) = let place = place_of_put s m name v in record s {
  segments = with_segment place (length (record_of_put m place s.datime name v)) s.segments;
  heads = with_head (key_of_put m place s.datime name v) s.heads;
}
kept_by s m (Batch puts) = let place = place_of_batch s m puts in record s {
  segments = with_segments place (map length (records_of_batch m place s.datime puts)) s.segments;
  heads = with_heads (keys_of_batch m place s.datime puts) s.heads;
}
kept_by s m (Delete name cycle) = record s {
  segments = without_segments (released_by s name cycle) s.segments;
  heads = without_head name cycle s.heads;
  trees = without_filled name s.trees;
}
kept_by s m (Class class) = let place = place_of_class s m class in record s {
  segments = released_segment s.info (with_segment place (length (record_of_class s.info m place s.datime class)) s.segments);
  classes = with_class m.classes class;
  info = Some (key_of_class s.info m place s.datime class);
}
kept_by s m (Bad line place) = s
kept_by s m (Get name cycle version) = s
kept_by s m (Scan name class) = s
kept_by s m Ls = s
kept_by s m (Tree name branches) = (making s m name branches).kept
kept_by s m (Fill name row) = (filling s m name row).kept
kept_by s m (Save name) = (saving s name).kept

-- ---- by any command: a refused one changes nothing

abbrev pub changes_after : SessionState → State → Command → List LinksChange
changes_after s m c = if is_refused s m c then [] else changes_by s m c

unfoldable pub kept_after : SessionState → State → Command → SessionState
kept_after s m c = if is_refused s m c then s else kept_by s m c
