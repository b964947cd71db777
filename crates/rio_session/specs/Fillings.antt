-- What tree, fill and save make of the records of a file, and of what is kept beside it.
use Rattle.std.specs.{Prelude.{ℕ, ◌+◌, List, [], ◌∷◌, ◌++◌, length, map, Bool, true, false, not, ◌==◌, Option, Some, None}, List.{filter, find}, Option.{option_and_then, option_map, option_map_or}}
use Rattle.rio_leaf.specs.declared.branch.BranchDef.{BranchDef}
use Rattle.rio_key.specs.declared.head.KeyHead.{KeyHead}
use Rattle.rio_dir.specs.Table.{head_of, with_head, without_head}
use Rattle.rio_chain.specs.{Changes.{with_record, without_record}, Placing.{place_of, with_segment}, Releasing.{without_segment}, Segments.{Link}, declared.segment.Segment.{Segment}}
use Rattle.rio_machine.specs.{Rows.{entries_of}, State.{Row, State}}
use Rattle.rio_step.specs.Refusing.{fill_row}
use Rattle.rio_tree.specs.{declared.basket_at.BasketAt.{BasketAt}, declared.head.TreeHead.{TreeHead}}
use Rattle.rio_fill.specs.Fill.{BranchFill, TreeFill, all_saved, branch_put, count_before, defs_of, entry_count, fill_of, has_no_entries, row_added, takes}
use Rattle.rio_effect.specs.ClassRecord.{list_key, list_record}
use Rattle.rio_effect.specs.TreeRecords.{BasketWords, basket_at, header_key, header_record, length_of_basket, new_head, record_of_basket, words_of_basket}
use Rattle.rio_session.specs.{Fills.{FilledTree, header_of, is_tree_of, with_change, with_filled}, SessionState.{SessionState}}

-- what one change, the put or the release of a record, makes of the links of a file
abbrev pub LinksChange : Type 0
LinksChange = List Link → List Link

-- ---- baskets

-- Baskets that are put, one after the other: how long they are, the changes, the segments then, and the branches with them.
pub record BasketsPut : Type 0 where
  pub lengths : List ℕ
  pub changes : List LinksChange
  pub segments : List Segment
  pub branches : List BranchFill

abbrev pub words_of_open : List ℕ → ℕ → BranchFill → BasketWords
words_of_open tree datime b = words_of_basket tree b.def datime b.entries

-- a basket in front of those that are put after it, where it stands at the place
abbrev pub put_before : ℕ → BasketWords → BranchFill → BasketsPut → BasketsPut
put_before place words b rest = record {
  lengths = length_of_basket words ∷ rest.lengths;
  changes = with_record place (record_of_basket place words) ∷ rest.changes;
  segments = rest.segments;
  branches = b ∷ rest.branches;
}

-- The open baskets of the flagged branches are put, in order of branches, in a tree of so many entries.
abbrev pub put_open : ℕ → List ℕ → ℕ → List Segment → List BranchFill → List Bool → BasketsPut
put_open datime tree count segments [] flags = record { lengths = []; changes = []; segments = segments; branches = [] }
put_open datime tree count segments (b ∷ bs) [] = record { lengths = []; changes = []; segments = segments; branches = b ∷ bs }
put_open datime tree count segments (b ∷ bs) (true ∷ flags) =
    let words = words_of_open tree datime b in
    let n = length_of_basket words in
    let place = place_of segments n in
    put_before place words (branch_put (basket_at place (count_before count b) words) b) (put_open datime tree count (with_segment place n segments) bs flags)
put_open datime tree count segments (b ∷ bs) (false ∷ flags) =
    let rest = put_open datime tree count segments bs flags in record rest { branches = b ∷ rest.branches }

-- the branches whose open basket doesn't take its entry of a row, and those whose open basket has entries
abbrev pub full_list : List BranchFill → List (List ℕ) → List Bool
full_list [] row = []
full_list (b ∷ bs) [] = false ∷ full_list bs []
full_list (b ∷ bs) (entry ∷ row) = not (takes b entry) ∷ full_list bs row

abbrev pub open_list : List BranchFill → List Bool
open_list branches = map (λ b. not (has_no_entries b)) branches

-- ---- commands

-- How long the records are that a command puts, its changes, and what is kept then but for the cost.
pub record Done : Type 0 where
  pub lengths : List ℕ
  pub changes : List LinksChange
  pub kept : SessionState

abbrev pub nothing_done : SessionState → Done
nothing_done s = record { lengths = []; changes = []; kept = s }

-- one thing, and then another one that hangs on what is kept behind the first
abbrev pub both_done : Done → Done → Done
both_done first second = record { lengths = first.lengths ++ second.lengths; changes = first.changes ++ second.changes; kept = second.kept }

-- ---- a tree

-- the class list, where the file has none: without it the header couldn't be read
abbrev pub listing_if_none : SessionState → State → Option KeyHead → Done
listing_if_none s m (Some h) = nothing_done s
listing_if_none s m None =
    let n = length (list_record 0 s.datime 1 m.classes) in
    let place = place_of s.segments n in
    record {
      lengths = n ∷ [];
      changes = with_record place (list_record place s.datime 1 m.classes) ∷ [];
      kept = record s { segments = with_segment place n s.segments; info = Some (list_key place s.datime 1 m.classes) };
    }

-- the header of a tree without rows
abbrev pub heading : SessionState → List ℕ → TreeHead → Done
heading s name head =
    let n = length (header_record 0 s.datime name 1 head) in
    let place = place_of s.segments n in
    record {
      lengths = n ∷ [];
      changes = with_record place (header_record place s.datime name 1 head) ∷ [];
      kept = record s {
        segments = with_segment place n s.segments;
        heads = with_head (header_key place s.datime name 1 head) s.heads;
        trees = with_filled (record { name = name; fill = fill_of head }) s.trees;
      };
    }

abbrev pub making : SessionState → State → List ℕ → List BranchDef → Done
making s m name branches =
    let listed = listing_if_none s m s.info in both_done listed (heading listed.kept name (new_head m.classes branches))

-- ---- a fill

abbrev pub branches_become : List BranchFill → TreeFill → TreeFill
branches_become branches t = record t { branches = branches }

-- the baskets that don't take these entries are put, and then the row is pending
abbrev pub filling_with : SessionState → List ℕ → List (List ℕ) → TreeFill → Done
filling_with s name entries t =
    let put = put_open s.datime name (entry_count t) s.segments t.branches (full_list t.branches entries) in
    record {
      lengths = put.lengths;
      changes = put.changes;
      kept = record s { segments = put.segments; trees = with_change name (λ f. row_added (branches_become put.branches f) entries) s.trees };
    }

abbrev pub filling : SessionState → State → List ℕ → Row → Done
filling s m name row =
    option_map_or (λ t. filling_with s name (entries_of m.classes (defs_of t.fill.branches) (fill_row m row)) t.fill) (find (is_tree_of name) s.trees) (nothing_done s)

-- ---- a save

-- The open baskets are put, then the header of the next cycle, and then the header before is released.
abbrev pub saving_with : SessionState → List ℕ → TreeFill → KeyHead → Done
saving_with s name t h =
    let put = put_open s.datime name (entry_count t) s.segments t.branches (open_list t.branches) in
    let head = header_of (all_saved (branches_become put.branches t)) in
    let n = length (header_record 0 s.datime name (h.cycle + 1) head) in
    let place = place_of put.segments n in
    record {
      lengths = put.lengths ++ n ∷ [];
      changes = put.changes ++ with_record place (header_record place s.datime name (h.cycle + 1) head) ∷ without_record h.seek ∷ [];
      kept = record s {
        segments = without_segment h.seek (with_segment place n put.segments);
        heads = with_head (header_key place s.datime name (h.cycle + 1) head) (without_head name h.cycle s.heads);
        trees = with_change name (λ f. all_saved (branches_become put.branches f)) s.trees;
      };
    }

abbrev pub saving_tree : SessionState → List ℕ → FilledTree → Done
saving_tree s name t = option_map_or (saving_with s name t.fill) (head_of name None s.heads) (nothing_done s)

abbrev pub saving : SessionState → List ℕ → Done
saving s name = option_map_or (saving_tree s name) (find (is_tree_of name) s.trees) (nothing_done s)

-- ---- a close

abbrev pub has_pending_rows : FilledTree → Bool
has_pending_rows t = not (t.fill.pending == 0)

-- the names of the trees that a close saves, in order
abbrev pub pending_names : SessionState → List (List ℕ)
pending_names s = map (λ t. t.name) (filter has_pending_rows s.trees)

-- the saves of these trees, one after the other
abbrev pub saving_all : SessionState → List (List ℕ) → Done
saving_all s [] = nothing_done s
saving_all s (name ∷ names) = let first = saving s name in both_done first (saving_all first.kept names)

abbrev pub closing : SessionState → Done
closing s = saving_all s (pending_names s)
