-- What is kept can be closed with a new tree, once its records are put.
use Rattle.std.proofs.Common.{◌≡◌, ◌∙◌, ℕ, ◌+◌, ◌<◌, ◌≤◌, ◌^◌, List, codes, length, true, Option, Some, None, refl, sym, ap, subst, arith}
use Rattle.std.specs.List.{list_any}
use Rattle.rio_leaf.specs.declared.branch.BranchDef.{BranchDef}
use Rattle.rio_key.specs.{declared.head.KeyHead.{KeyHead}}
use Rattle.rio_dir.specs.Table.{heads_size, with_head}
use Rattle.rio_chain.specs.{Adjoining.{AreSegments}, Placing.{file_end, place_of, record_count, with_segment}, declared.segment.Segment.{Segment}}
use Rattle.rio_close.proofs.Fitting.{count_with}
use Rattle.rio_machine.specs.{Limits.{head_length}, State.{State, empty_state}}
use Rattle.rio_tree.specs.declared.head.TreeHead.{TreeHead}
use Rattle.rio_state.specs.{Closing.{end_limit}, Sizes.{close_size}}
use Rattle.rio_effect.specs.{ClassRecord.{list_key, list_record}, TreeRecords.{header_key, header_record}}
use Rattle.rio_recover.specs.{Classes.{HasListCycle}, Closable.{IsClosable, begins_at, is_fit_key, is_owned, is_sized}, Whole.{HoldsDirectory}}
use Rattle.rio_session.specs.{Due.{IsClosableWith, due_of, need_with}, Fillings.{both_done, heading, listing_if_none}, Fills.{places_of_trees, with_filled}, SessionState.{SessionState}, TreePlans.{head_now, header_place, listing_now, making_now, need_of_tree}}
use Rattle.rio_session.proofs.{CloseRoom.{begins_low, directory_stays}, KeptRoom.{header_fit}, FillSums.{need_by_due}, Keeps.{all_placed, all_with, new_begins, size_with, stored_still}, KeepsList.{all_with_new, first_owns, own_list}, KeepsNew.{closable_with_new, need_same}}
use Rattle.rio_session.proofs.{KeepsTrees.{with_saves}, Needs.{need_least}, NewFills.{new_filled}, PutsClosable.{StandRight, one_header}, SaveAgrees.{header_sized}, TreeRoom.{key_long}}

-- ---- keys

header_seek : (place datime : ℕ) (name : List ℕ) (head : TreeHead) → (header_key place datime name 1 head).seek ≡ place
unfolding header_key
header_seek place datime name head = refl

list_seek : (s : SessionState) (place : ℕ) → (list_key place s.datime 1 s.classes).seek ≡ place
unfolding list_key
list_seek s place = refl

list_cycle : (s : SessionState) (place : ℕ) → (list_key place s.datime 1 s.classes).cycle ≡ 1
unfolding list_key
list_cycle s place = refl

-- ---- a first class list

pub one_list : (h : KeyHead) (n : ℕ) (segments : List Segment) (heads : List KeyHead) (baskets : List ℕ) → StandRight segments heads None baskets → StandRight (with_segment h.seek n segments) heads (Some h) baskets
one_list h n segments heads baskets k = record {
  placed = all_placed h.seek n segments heads k.placed;
  listed = new_begins h.seek n segments;
  stored = stored_still h.seek n segments baskets k.stored;
  owned = all_with_new (is_owned None heads baskets) (is_owned (Some h) heads baskets) (first_owns heads baskets h) (λ p m. refl) h.seek n (own_list heads baskets h n) segments k.owned;
  count = omega (arith, count_with h.seek n segments, k.count);
}

module _ (s : SessionState) where
  abbrev m : State
  m = record empty_state { classes = s.classes }

  abbrev base : List ℕ
  base = places_of_trees s.trees

  listed_right : (o : Option KeyHead) → s.info ≡ o → StandRight s.segments s.heads s.info (places_of_trees s.trees)
      → StandRight (listing_if_none s (record empty_state { classes = s.classes }) o).kept.segments s.heads (listing_if_none s (record empty_state { classes = s.classes }) o).kept.info (places_of_trees s.trees)
  listed_right None none right =
      let k = length (list_record 0 s.datime 1 s.classes) in
      let place = place_of s.segments k in
      let h = list_key place s.datime 1 s.classes in
      subst (λ (p : ℕ). StandRight (with_segment p k s.segments) s.heads (Some h) base) (list_seek s place) (one_list h k s.segments s.heads base (subst (λ (i : Option KeyHead). StandRight s.segments s.heads i base) none right))
  listed_right (Some h) some right = right

  listed_cycle : (o : Option KeyHead) → s.info ≡ o → HasListCycle s.info s.classes → HasListCycle (listing_if_none s (record empty_state { classes = s.classes }) o).kept.info s.classes
  listed_cycle None none has = omega (arith, list_cycle s (place_of s.segments (length (list_record 0 s.datime 1 s.classes))))
  listed_cycle (Some h) some has = has

  listed_directory : (o : Option KeyHead) → (nbytes_name : ℕ) → HoldsDirectory nbytes_name s.segments → HoldsDirectory nbytes_name (listing_if_none s (record empty_state { classes = s.classes }) o).kept.segments
  listed_directory None nbytes_name holds =
      let k = length (list_record 0 s.datime 1 s.classes) in
      directory_stays nbytes_name (place_of s.segments k) k s.segments (with_segment (place_of s.segments k) k s.segments) refl holds
  listed_directory (Some h) nbytes_name holds = holds

  listed_count : (o : Option KeyHead) → record_count (listing_if_none s (record empty_state { classes = s.classes }) o).kept.segments
      ≡ record_count s.segments + length (listing_if_none s (record empty_state { classes = s.classes }) o).lengths
  listed_count None = let k = length (list_record 0 s.datime 1 s.classes) in count_with (place_of s.segments k) k s.segments
  listed_count (Some h) = omega arith

  -- the class list that is kept then is as the cycles say
  pub tree_listed : HasListCycle s.info s.classes → HasListCycle (listing_now s).kept.info s.classes
  tree_listed has = listed_cycle s.info refl has

  -- ---- the header

  module _ (name : List ℕ) (branches : List BranchDef) where
    abbrev head : TreeHead
    head = head_now s branches

    abbrev n : ℕ
    n = length (header_record 0 s.datime name 1 (head_now s branches))

    abbrev place : ℕ
    place = header_place s name branches

    abbrev key : KeyHead
    key = header_key (header_place s name branches) s.datime name 1 (head_now s branches)

    making_segments : (o : Option KeyHead) → (both_done (listing_if_none s m o) (heading (listing_if_none s m o).kept name head)).kept.segments
        ≡ with_segment (place_of (listing_if_none s m o).kept.segments n) n (listing_if_none s m o).kept.segments
    making_segments None = refl
    making_segments (Some h) = refl

    making_many : (o : Option KeyHead) → length (both_done (listing_if_none s m o) (heading (listing_if_none s m o).kept name head)).lengths ≡ length (listing_if_none s m o).lengths + 1
    making_many None = refl
    making_many (Some h) = refl

    pub segments_are : (making_now s name branches).kept.segments ≡ with_segment (header_place s name branches) n (listing_now s).kept.segments
    segments_are = making_segments s.info

    view_by : (o : Option KeyHead) → s.info ≡ o
        → record s {
          segments = (both_done (listing_if_none s m o) (heading (listing_if_none s m o).kept name head)).kept.segments;
          heads = with_head (header_key (place_of (listing_if_none s m o).kept.segments n) s.datime name 1 head) s.heads;
          trees = with_filled (new_filled name s.classes branches) s.trees;
          info = (listing_if_none s m o).kept.info;
        } ≡ (both_done (listing_if_none s m o) (heading (listing_if_none s m o).kept name head)).kept
    view_by None is = refl
    view_by (Some h) is = refl

    -- what is kept then
    pub tree_view : record s { segments = (making_now s name branches).kept.segments; heads = with_head key s.heads; trees = with_filled (new_filled name s.classes branches) s.trees; info = (listing_now s).kept.info } ≡ (making_now s name branches).kept
    tree_view = view_by s.info refl

    pub directory_then : (nbytes_name : ℕ) → HoldsDirectory nbytes_name s.segments → HoldsDirectory nbytes_name (making_now s name branches).kept.segments
    directory_then nbytes_name holds = directory_stays nbytes_name place n (listing_now s).kept.segments (making_now s name branches).kept.segments segments_are (listed_directory s.info nbytes_name holds)

    module _ (closable : IsClosableWith s.segments s.heads s.trees s.info s.name) where
      begun : StandRight s.segments s.heads s.info base
      begun = record { placed = closable.closable.placed; listed = closable.closable.listed; stored = closable.closable.stored; owned = closable.closable.owned; count = closable.closable.count }

      right : StandRight (making_now s name branches).kept.segments (with_head key s.heads) (listing_now s).kept.info base
      right =
          let amid = listed_right s.info refl begun in
          let last = one_header key n (listing_now s).kept.segments s.heads (listing_now s).kept.info base amid in
          let at : with_segment key.seek n (listing_now s).kept.segments ≡ (making_now s name branches).kept.segments =
          ap (λ (p : ℕ). with_segment p n (listing_now s).kept.segments) (header_seek place s.datime name head) ∙ sym segments_are in
          subst (λ (x : List Segment). StandRight x (with_head key s.heads) (listing_now s).kept.info base) at last

      -- what a close needs
      need_then : need_with s.name (with_head key s.heads) (record_count (making_now s name branches).kept.segments) s.trees ≡ need_of_tree s name (length (making_now s name branches).lengths)
      need_then =
          let size : heads_size (with_head key s.heads) ≡ heads_size s.heads + head_length (codes "TTree") name = omega (arith, size_with key s.heads, key_long place s.datime name head) in
          let count : record_count (making_now s name branches).kept.segments ≡ record_count s.segments + length (making_now s name branches).lengths =
          omega (arith, ap record_count segments_are, count_with place n (listing_now s).kept.segments, listed_count s.info, making_many s.info) in
          need_by_due s.name (with_head key s.heads) (record_count (making_now s name branches).kept.segments) s.trees
          ∙ (λ i. (due_of s.trees).bytes + close_size s.name (size i) (count i + (due_of s.trees).baskets))

      -- of what is kept then
      pub tree_need_then : need_with (making_now s name branches).kept.name (making_now s name branches).kept.heads (record_count (making_now s name branches).kept.segments) (making_now s name branches).kept.trees
          ≡ need_of_tree s name (length (making_now s name branches).lengths)
      tree_need_then =
          (λ i. let k = sym tree_view i in need_with k.name k.heads (record_count k.segments) k.trees)
          ∙ need_same name s.classes branches s.name (with_head key s.heads) (record_count (making_now s name branches).kept.segments) s.trees
          ∙ need_then

      module _ (short : length name ≤ 100) (shape : AreSegments (making_now s name branches).kept.segments)
          (fits : file_end (making_now s name branches).kept.segments + need_of_tree s name (length (making_now s name branches).lengths) ≤ end_limit) where
        place_short : header_place s name branches < 2 ^ 32
        place_short =
            let there = new_begins place n (listing_now s).kept.segments in
            let low = begins_low 100 place (making_now s name branches).kept.segments shape.adjacent (subst (λ (x : List Segment). list_any (begins_at place) x ≡ true) (sym segments_are) there) in
            omega (arith, low, fits)

        room : file_end (making_now s name branches).kept.segments + need_with s.name (with_head key s.heads) (record_count (making_now s name branches).kept.segments) s.trees ≤ end_limit
        room = omega (arith, need_then, fits)

        closable_then : IsClosable (making_now s name branches).kept.segments (with_head key s.heads) (listing_now s).kept.info base s.name
        closable_then = record {
          sized = all_with is_sized key s.heads (header_sized place s.datime name 1 head) closable.closable.sized;
          fit = all_with is_fit_key key s.heads (header_fit place s.datime name 1 head place_short short) closable.closable.fit;
          placed = right.placed;
          listed = right.listed;
          stored = right.stored;
          owned = right.owned;
          short = closable.closable.short;
          count = right.count;
          room = omega (arith, need_least s.name (with_head key s.heads) (record_count (making_now s name branches).kept.segments) s.trees, room);
        }

        pub tree_kept : IsClosableWith (making_now s name branches).kept.segments (with_head key s.heads) (with_filled (new_filled name s.classes branches) s.trees) (listing_now s).kept.info s.name
        tree_kept =
            closable_with_new name s.classes branches (making_now s name branches).kept.segments (with_head key s.heads) s.trees (listing_now s).kept.info s.name
            (with_saves (making_now s name branches).kept.segments (with_head key s.heads) s.trees (listing_now s).kept.info s.name shape closable_then room closable.sound)
