-- What is kept can be closed with a row more, once the open baskets are put that it finds full.
use Rattle.std.proofs.Common.{◌≡◌, ◌∙◌, ℕ, ◌+◌, ◌<◌, ◌≤◌, ◌^◌, Bool, true, false, List, [], ◌∷◌, ◌++◌, length, map, Some, refl, sym, ap, arith}
use Rattle.std.proofs.lemmas.List.{append-nil, Elements.{All-weaker}}
use Rattle.std.specs.List.{All, find}
use Rattle.rio_dir.specs.Table.{heads_size}
use Rattle.rio_chain.specs.{Adjoining.{AreSegments}, Placing.{end_after, file_end, place_of, record_count, space_of, with_segment}, declared.segment.Segment.{Segment}}
use Rattle.rio_state.specs.{Closing.{end_limit, is_full}, Sizes.{close_size}}
use Rattle.rio_tree.specs.declared.basket_at.BasketAt.{BasketAt}
use Rattle.rio_fill.specs.Fill.{BranchFill, TreeFill, branches_added, entry_count, row_added}
use Rattle.rio_effect.specs.TreeRecords.{length_of_basket}
use Rattle.rio_recover.specs.{Closable.{IsClosable}, Whole.{HoldsDirectory}}
use Rattle.rio_session.specs.{Due.{IsBranchSound, IsClosableWith, need_with}, Fillings.{BasketsPut, branches_become, filling_with, full_list, put_open, words_of_open}, Fills.{AreNamesOrdered, FilledTree, is_tree_of, places_of_trees, with_change}}
use Rattle.rio_session.specs.{RowPlans.{need_of_row}, SessionState.{SessionState}}
use Rattle.rio_session.proofs.{Apart.{is_among}, BasketsPlaced.{puts_are}, CloseRoom.{directory_stays}, CutFills.{full_have}, FillAgrees.{flags_long}, FilledChanges.{changed_all}, FilledFiles.{all_in}, FilledTrees.{found_among}}
use Rattle.rio_session.proofs.{FillRoom.{changed_due}, FillSound.{IsRowSound, rows_sound}, FillSums.{need_by_due}, KeepsTrees.{with_saves}, Needs.{need_least}, PlanRoom.{plan_room_is}}
use Rattle.rio_session.proofs.PutsClosable.{StandRight, branch_places, new_places, put_among, put_long, puts_right, rebased, stacked, stacked_among, stacked_long, trees_among, trees_long}
use Rattle.rio_session.proofs.PutsKept.{ArePutsKept, puts_kept}

-- a row adds no places
places_added : (bs : List BranchFill) (row : List (List ℕ)) → branch_places (branches_added bs row) ≡ branch_places bs
places_added [] row = refl
places_added (b ∷ bs) [] = refl
places_added (b ∷ bs) (e ∷ row) = ap (λ (l : List ℕ). map (λ (at : BasketAt). at.seek) b.baskets ++ l) (places_added bs row)

-- as long as rows can be counted
grown_sound : (saved pending : ℕ) → saved + pending + 1 < 2 ^ 63 → (b : BranchFill) → IsRowSound saved pending b → IsBranchSound saved (pending + 1) b
grown_sound saved pending low b is = record { few = is.few; begins = is.begins; order = is.order; small = omega (arith, low) }

-- the directory record stays within the first record
pub directory_puts : (nbytes_name datime : ℕ) (tree : List ℕ) (count : ℕ) (segments : List Segment) (bs : List BranchFill) (flags : List Bool) → HoldsDirectory nbytes_name segments
    → HoldsDirectory nbytes_name (put_open datime tree count segments bs flags).segments
directory_puts nbytes_name datime tree count segments [] flags holds = holds
directory_puts nbytes_name datime tree count segments (b ∷ bs) [] holds = holds
directory_puts nbytes_name datime tree count segments (b ∷ bs) (true ∷ flags) holds =
    let n = length_of_basket (words_of_open tree datime b) in
    let place = place_of segments n in
    directory_puts nbytes_name datime tree count (with_segment place n segments) bs flags (directory_stays nbytes_name place n segments (with_segment place n segments) refl holds)
directory_puts nbytes_name datime tree count segments (b ∷ bs) (false ∷ flags) holds = directory_puts nbytes_name datime tree count segments bs flags holds

module _ (s : SessionState) (t : FilledTree) (entries : List (List ℕ)) (long : length entries ≡ length t.fill.branches) (found : find (is_tree_of t.name) s.trees ≡ Some t)
    (closable : IsClosableWith s.segments s.heads s.trees s.info s.name) (ordered : AreNamesOrdered s.trees) (form : AreSegments s.segments) where
  abbrev flags : List Bool
  flags = full_list t.fill.branches entries

  abbrev put : BasketsPut
  put = put_open s.datime t.name (entry_count t.fill) s.segments t.fill.branches (full_list t.fill.branches entries)

  abbrev change : TreeFill → TreeFill
  change f = row_added (branches_become put.branches f) entries

  abbrev trees_then : List FilledTree
  trees_then = with_change t.name change s.trees

  -- ---- the records

  abbrev new : List ℕ
  new = new_places s.datime t.name s.segments t.fill.branches (full_list t.fill.branches entries)

  abbrev base : List ℕ
  base = places_of_trees s.trees

  begun : StandRight s.segments s.heads s.info base
  begun = record { placed = closable.closable.placed; listed = closable.closable.listed; stored = closable.closable.stored; owned = closable.closable.owned; count = closable.closable.count }

  put_right : StandRight put.segments s.heads s.info (stacked new base)
  put_right = puts_right s.datime t.name (entry_count t.fill) s.segments t.fill.branches flags s.heads s.info base begun

  tree_right : StandRight put.segments s.heads s.info (places_of_trees trees_then)
  tree_right =
      let same = places_added put.branches entries in
      let among = λ (p : ℕ).
      trees_among t.name change new t p (ap (λ (l : List ℕ). is_among l p) same ∙ put_among s.datime t.name (entry_count t.fill) s.segments t.fill.branches flags p) s.trees ordered found ∙ sym (stacked_among new base p) in
      let many = trees_long t.name change new t (ap length same ∙ put_long s.datime t.name (entry_count t.fill) s.segments t.fill.branches flags) s.trees ordered found ∙ sym (stacked_long new base) in
      rebased put.segments s.heads s.info (stacked new base) (places_of_trees trees_then) among many put_right

  pub put_kept : ArePutsKept s.segments put
  put_kept = puts_kept s.datime t.name (entry_count t.fill) s.segments t.fill.branches flags form

  -- ---- what a close needs

  pub need_is : need_with s.name s.heads (record_count put.segments) trees_then ≡ need_of_row s t entries
  need_is =
      let count = put_kept.count in
      let due = changed_due s t entries long ordered found in
      need_by_due s.name s.heads (record_count put.segments) trees_then ∙ (λ i. (due i).bytes + close_size s.name (heads_size s.heads) (count i + (due i).baskets))

  -- ---- the branches

  abbrev is_all_sound : FilledTree → Type 0
  is_all_sound u = All (IsBranchSound u.fill.saved u.fill.pending) u.fill.branches

  tree_sound : All (IsBranchSound t.fill.saved t.fill.pending) t.fill.branches
  tree_sound = all_in is_all_sound t s.trees closable.sound (found_among t.name t s.trees found)

  rows : All (IsRowSound t.fill.saved t.fill.pending) (branches_added put.branches entries)
  rows =
      rows_sound t.fill.saved t.fill.pending t.fill.branches flags put.branches entries long (flags_long t.fill.branches entries) tree_sound (full_have t.fill.branches entries)
      (puts_are s.datime t.name (entry_count t.fill) s.segments t.fill.branches flags)

  module _ (low : t.fill.saved + t.fill.pending + 1 < 2 ^ 63) (room : is_full s.segments (filling_with s t.name entries t.fill).lengths (need_of_row s t entries) ≡ false) where
    sound_then : All (λ (u : FilledTree). All (IsBranchSound u.fill.saved u.fill.pending) u.fill.branches) trees_then
    sound_then =
        let own = All-weaker (IsRowSound t.fill.saved t.fill.pending) (IsBranchSound t.fill.saved (t.fill.pending + 1)) (grown_sound t.fill.saved t.fill.pending low) (branches_added put.branches entries) rows in
        changed_all t.name change is_all_sound t s.trees ordered found own closable.sound

    room_then : file_end put.segments + need_with s.name s.heads (record_count put.segments) trees_then ≤ end_limit
    room_then =
        let end : file_end put.segments ≡ end_after put.lengths (space_of s.segments) = put_kept.end [] ∙ ap (λ (l : List ℕ). end_after l (space_of s.segments)) (append-nil put.lengths) in
        omega (arith, end, need_is, plan_room_is s.segments put.lengths (need_of_row s t entries) room)

    closable_then : IsClosable put.segments s.heads s.info (places_of_trees trees_then) s.name
    closable_then = record {
      sized = closable.closable.sized;
      fit = closable.closable.fit;
      placed = tree_right.placed;
      listed = tree_right.listed;
      stored = tree_right.stored;
      owned = tree_right.owned;
      short = closable.closable.short;
      count = tree_right.count;
      room = omega (arith, need_least s.name s.heads (record_count put.segments) trees_then, room_then);
    }

    pub row_kept : IsClosableWith (filling_with s t.name entries t.fill).kept.segments s.heads (filling_with s t.name entries t.fill).kept.trees s.info s.name
    row_kept = with_saves put.segments s.heads trees_then s.info s.name put_kept.shape closable_then room_then sound_then
