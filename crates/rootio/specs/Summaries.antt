-- What a tree of a file sums up to, by the file's records.
use Rattle.std.specs.{Prelude.{◌≡◌, ℕ, List, [], Option, Ok, Some, option_and_then, unwrap_or}, FinMap.{get}, Int.{int_wrap, w128}, List.{find}, Option.{option_map_or}, Str.{bytes_eq}}
use Rattle.rio_chain.specs.Segments.{Link}
use Rattle.rio_gen.specs.{Summary.{sum_of_rows}, declared.summary.Summary.{Summary}}
use Rattle.rio_machine.specs.State.{Row, State, Tree}
use Rattle.rio_report.specs.{Summary.{basket_count, summarized_file}, declared.summary.TreeSummary.{TreeSummary}}
use Rattle.rio_session.specs.Closes.{IsWellClosed}
use Rattle.rio_state.specs.{Contents.{file_classes}, KeyedRecords.{KeyedRecord, info_key, keyed_records, record_at, top_keys, tree_records}, Reads.{ReadsAsState, ReadsClosed}, Trees.{header_in, saved_rows}}
use Rattle.rio_tree.specs.declared.head.TreeHead.{TreeHead}

-- the header of the tree of a name: the one that counts
abbrev pub header_among : List KeyedRecord → List ℕ → Option TreeHead
header_among records name =
    option_and_then (header_in (file_classes (info_key records))) (find (λ r. bytes_eq r.head.name name) (tree_records (top_keys records)))

-- the baskets that it names
abbrev pub baskets_among : List KeyedRecord → List ℕ → ℕ
baskets_among records name = option_map_or (λ head. basket_count head.branches) (header_among records name) 0

-- the rows that it names, as a state has them
abbrev pub rows_among : List KeyedRecord → List ℕ → List Row
rows_among records name =
    unwrap_or (option_and_then (saved_rows (file_classes (info_key records)).declared (record_at records)) (header_among records name)) []

-- So many entries were asked for; the sum is one modulo 2^128.
abbrev pub summary_among : ℕ → List KeyedRecord → List ℕ → Summary
summary_among entries records name =
    record { entries = entries; baskets = baskets_among records name; sum = int_wrap w128 (sum_of_rows (rows_among records name)) }

-- A file sums up to what the records before its close have of the tree.
pub record SumsUp (links : List Link) (tree image : List ℕ) : Type 0 where
  pub s : TreeSummary
  pub is : summarized_file tree image ≡ Ok s
  pub baskets : s.baskets ≡ baskets_among (keyed_records links) tree
  pub sum : s.sum ≡ int_wrap w128 (sum_of_rows (rows_among (keyed_records links) tree))

-- So does each file that was closed with these records and reads as a state: it breaks no rule. The rows that are summed up are those of the
-- state's tree, if it has one of the name.
pub record SumsUpState (links : List Link) (tree image : List ℕ) (m : State) : Type 0 where
  pub sums : SumsUp links tree image
  pub rows : (t : Tree) → get m.trees tree ≡ Some t → rows_among (keyed_records links) tree ≡ t.saved

abbrev pub ClosedFilesSumUp : Type 0
ClosedFilesSumUp =
    (name : List ℕ) (datime : ℕ) (header : List ℕ) (links : List Link) (image tree : List ℕ) (m : State)
    → IsWellClosed name datime header links image → ReadsAsState image m → ReadsClosed image m → SumsUpState links tree image m
