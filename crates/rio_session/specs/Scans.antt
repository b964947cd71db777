-- The rows of a tree in a session, saved and pending, and what is printed of them.
use Rattle.std.specs.Prelude.{◌≡◌, ◌≤◌, ◌<◌, ℕ, ◌+◌, ◌-◌, ◌^◌, List, [], ◌∷◌, ◌++◌, length, map, slice_get, take, nat_lt, Some, None, Option, Ok, Err, Result, IfOk, option_and_then, if◌then◌else◌}
use Rattle.std.specs.Result.{result_map_both}
use Rattle.rio_num.specs.{Answers.{GivesUnless}, Reading.{◌>>=◌, some_if}}
use Rattle.rio_host.specs.Host.{View}
use Rattle.rio_key.specs.Cut.{all_entries, firsts_from}
use Rattle.rio_chain.specs.{Chains.{HasChain, HasRecordSegment}, Segments.{Link}, Walks.{Told}, declared.segment.Segment.{Segment}}
use Rattle.rio_entry.specs.{RowFaults.{fault_held, fault_of_entry, no_entry_fault}, StoredEntries.{StoredEntries, entries_or_none}}
use Rattle.rio_entry.specs.{declared.lane.Lane.{Lane}, declared.lane.RowFault.{RowFault}}
use Rattle.rio_fill.specs.Fill.{BranchFill, TreeFill, count_before, defs_of, entry_count}
use Rattle.rio_leaf.specs.declared.branch.BranchDef.{BranchDef}
use Rattle.rio_machine.specs.{RowEntries.{row_in}, State.{Row}}
use Rattle.rio_model.specs.{Mapping.{Mapped}, declared.map_fault.MapFault.{MapFault, TheVariants.{NoMemory}}}
use Rattle.rio_reply.specs.Scanned.{row_line}
use Rattle.rio_reply.specs.Scanned.{row_fault_line}
use Rattle.rio_state.specs.KeyedRecords.{keyed_records, record_at}
use Rattle.rio_step.specs.{Refusing.{row_seen_in, rows_seen_in}, ReplyText.{text_of}, Step.{rows_told}}
use Rattle.rio_tree.specs.{Header.{has_offsets}, SavedEntries.{entries_at}, declared.basket_at.BasketAt.{BasketAt}}
use Rattle.rio_format.specs.{declared.class.Base.{Base}, declared.class.ClassDef.{ClassDef}}
use Rattle.rio_effect.specs.SavedRows.{HoldAllEntries}

-- ---- the rows

-- of each branch and its entries
abbrev pub AllPairs : {A B : Type 0} → (A → B → Type 0) → List A → List B → Type 0
AllPairs P [] [] = Unit {0}
AllPairs P [] (y ∷ ys) = ⊥
AllPairs P (x ∷ xs) [] = ⊥
AllPairs P (x ∷ xs) (y ∷ ys) = P x y × AllPairs P xs ys

-- These are the entries of a branch in a tree of so many: the baskets that were written hold the first ones, and the others stand in the
-- open one.
pub record AreEntriesOf (links : List Link) (count : ℕ) (b : BranchFill) (entries : List (List ℕ)) : Type 0 where
  pub baskets : List (List (List ℕ))
  pub hold : HoldAllEntries (record_at (keyed_records links)) (has_offsets b.def.shape) b.baskets baskets
  pub firsts : map (λ at. at.first) b.baskets ≡ firsts_from 0 baskets
  pub all : entries ≡ all_entries baskets ++ b.entries
  pub many : length entries ≡ count
  pub short : (k : ℕ) (entry : List ℕ) → slice_get b.entries k ≡ Some entry → length entry < 2 ^ 32

-- These are the rows of a tree, saved and pending, in a file of these links: each is read of its entries, one of each branch.
pub record AreRowsOf (classes : List ClassDef) (links : List Link) (t : TreeFill) (rows : List Row) : Type 0 where
  pub entries : List (List (List ℕ))
  pub each : AllPairs (AreEntriesOf links (entry_count t)) t.branches entries
  pub count : length rows ≡ entry_count t
  pub read : (e : ℕ) (row : Row) → slice_get rows e ≡ Some row → row_in classes (defs_of t.branches) (entries_at entries e) ≡ Ok row

-- ---- one row, of what is held

-- a row that is read, or why it isn't
abbrev pub FoundRow : Type 0
FoundRow = Result Row RowFault

abbrev pub entry_or : RowFault → Option (List ℕ) → Result (List ℕ) RowFault
entry_or fault None = Err fault
entry_or fault (Some entry) = Ok entry

abbrev pub stored_entry : Option BasketAt → Option StoredEntries → ℕ → Option (List ℕ)
stored_entry None found e = None
stored_entry (Some at) None e = None
stored_entry (Some at) (Some found) e = slice_get (entries_or_none found) (e - at.first)

-- the entry of a branch in the basket that is held of it, or why it isn't there
abbrev pub entry_held : List BasketAt → Lane → ℕ → Result (List ℕ) RowFault
entry_held baskets lane e = entry_or (fault_held lane.basket) (stored_entry (slice_get baskets lane.number) lane.basket e)

abbrev pub if_short : List ℕ → Option (List ℕ)
if_short entry = some_if (nat_lt (length entry) (2 ^ 32)) entry

-- The entry in the open basket, of which this is the first. One that is too long for a reader isn't read.
abbrev pub open_entry : List (List ℕ) → ℕ → ℕ → Result (List ℕ) RowFault
open_entry entries first e = entry_or no_entry_fault (option_and_then if_short (slice_get entries (e - first)))

-- An entry of a branch, with baskets that were written, and an open one with these entries from this one on.
abbrev pub entry_within : List BasketAt → List (List ℕ) → ℕ → Lane → ℕ → Result (List ℕ) RowFault
entry_within baskets entries first lane e = if nat_lt e first then entry_held baskets lane e else open_entry entries first e

-- an entry of a branch in a tree of so many
abbrev pub entry_of_branch : ℕ → BranchFill → Lane → ℕ → Result (List ℕ) RowFault
entry_of_branch count b lane e = entry_within b.baskets b.entries (count_before count b) lane e

-- that of each branch, or the first fault
abbrev pub entries_of_row : ℕ → List BranchFill → List Lane → ℕ → Result (List (List ℕ)) RowFault
entries_of_row count [] lanes e = Ok []
entries_of_row count (b ∷ bs) [] e = Ok []
entries_of_row count (b ∷ bs) (lane ∷ lanes) e = do
  entry ← entry_of_branch count b lane e
  more ← entries_of_row count bs lanes e
  Ok (entry ∷ more)

abbrev pub row_of_entries : List ClassDef → List BranchDef → Result (List (List ℕ)) RowFault → FoundRow
row_of_entries classes defs (Ok entries) = result_map_both (λ row. row) fault_of_entry (row_in classes defs entries)
row_of_entries classes defs (Err fault) = Err fault

-- the row that is read of what is held
abbrev pub row_held : List ClassDef → TreeFill → List Lane → ℕ → FoundRow
row_held classes t lanes e = row_of_entries classes (defs_of t.branches) (entries_of_row (entry_count t) t.branches lanes e)

-- ---- lines

-- A text, and behind it the line of a row, with the objects of the class as they are in the version, if one is asked; or why the row can't be
-- had so. A row that isn't read has a line of its own.
abbrev pub line_behind : List ClassDef → Option Base → ℕ → List ℕ → FoundRow → Mapped (List ℕ)
line_behind classes class n before (Ok row) = row_seen_in classes class row >>= λ seen. Ok (before ++ row_line n seen)
line_behind classes class n before (Err fault) = Ok (before ++ row_fault_line n fault)

-- the lines of rows, numbered from this one on
abbrev pub lines_behind : List ClassDef → Option Base → ℕ → List ℕ → List FoundRow → Mapped (List ℕ)
lines_behind classes class n before [] = Ok before
lines_behind classes class n before (found ∷ more) = line_behind classes class n before found >>= λ text. lines_behind classes class (n + 1) text more

-- What is printed of rows of a tree, and why the first that can't be had is refused. There is a line of each row, whatever the host tells;
-- and where it tells the tree's rows, they are these.
pub record Scans {X : Type 0} (v : View) (segments : List Segment) (classes : List ClassDef) (class : Option Base) (t : TreeFill) (before : List ℕ) (text_of : X → List ℕ) (answer : Result X MapFault) : Type 0 where
  pub rows : List FoundRow
  pub count : IfOk answer (λ x. length rows ≡ entry_count t)
  pub told : Told v (λ file. (links : List Link) (all : List Row) → HasChain links segments file → AreRowsOf classes links t all → rows ≡ map (λ row. Ok row) (take (length rows) all))
  pub lines : GivesUnless NoMemory text_of answer (lines_behind classes class 0 before rows)

-- ---- where the rows are told

-- the reply that prints these rows, with the objects of the class as they are in the version; or why they can't be had so
abbrev pub rows_printed : List ClassDef → Option Base → List ℕ → List Row → Mapped (List ℕ)
rows_printed classes class name rows = rows_seen_in classes class rows >>= λ seen. Ok (text_of (rows_told name seen))
