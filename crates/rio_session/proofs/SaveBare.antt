-- The save of a tree hangs on no room that was made for it.
use Rattle.std.proofs.Common.{◌≡◌, ◌∙◌, ◌==◌, ◌&&◌, ℕ, ◌+◌, List, [], ◌∷◌, ◌++◌, ◌≤◌, length, map, Bool, true, false, not, refl, sym, ap, subst}
use Rattle.std.proofs.lemmas.List.{length-map, Elements.{All-from_recursion, recursion_from_All}}
use Rattle.std.specs.List.{All, AllByRecursion}
use Rattle.rio_key.specs.declared.head.KeyHead.{KeyHead}
use Rattle.rio_chain.specs.{Changes.{with_record, without_record}, Placing.{end_after, place_of, places_of, space_of, with_segment}, Releasing.{without_segment}, declared.segment.Segment.{Segment}}
use Rattle.rio_tree.specs.declared.{basket_at.BasketAt.{BasketAt}, head.TreeHead.{TreeHead}}
use Rattle.rio_fill.specs.{Fill.{BranchFill, all_saved, count_before, entry_count, has_no_entries}, Room.{without_room}}
use Rattle.rio_effect.specs.TreeRecords.{header_key, header_record}
use Rattle.rio_session.specs.{Due.{IsBranchSound}, Fillings.{BasketsPut, LinksChange, branches_become, open_list, put_open}, Fills.{FilledTree, bare, bare_tree, header_of}, Measures.{flags_for, flags_in}}
use Rattle.rio_session.specs.{Noted.{are_firsts, branches_put, flagged}, SavePlans.{CanPlanSave, IsSaveMade, head_now, next_key, put_now, saving_now}, SessionState.{SessionState}}
use Rattle.rio_session.specs.declared.save.SaveMade.{SaveMade}
use Rattle.rio_session.proofs.{Bare.{header_bare}, RoomMade.{bare_put, put_bare}}

-- ---- branches

pub open_bare : (bs : List BranchFill) → open_list (map without_room bs) ≡ open_list bs
open_bare [] = refl
open_bare (b ∷ bs) = ap (λ (l : List Bool). not (has_no_entries b) ∷ l) (open_bare bs)

pub flags_bare : (bs : List BranchFill) (flags : ℕ) → flags_for (map without_room bs) flags ≡ flags_for bs flags
flags_bare bs flags = ap (λ (n : ℕ). flags_in n flags) (length-map bs without_room)

pub flagged_bare : (bs : List BranchFill) (fs : List Bool) → flagged (map without_room bs) fs ≡ map without_room (flagged bs fs)
flagged_bare [] fs = refl
flagged_bare (b ∷ bs) [] = refl
flagged_bare (b ∷ bs) (true ∷ fs) = ap (λ (l : List BranchFill). without_room b ∷ l) (flagged_bare bs fs)
flagged_bare (b ∷ bs) (false ∷ fs) = flagged_bare bs fs

pub firsts_bare : (count : ℕ) (ats : List BasketAt) (bs : List BranchFill) → are_firsts count ats (map without_room bs) ≡ are_firsts count ats bs
firsts_bare count ats [] = refl
firsts_bare count [] (b ∷ bs) = refl
firsts_bare count (at ∷ ats) (b ∷ bs) = ap (λ (c : Bool). (at.first == count_before count b) && c) (firsts_bare count ats bs)

full_each : (saved pending : ℕ) (bs : List BranchFill) → AllByRecursion (IsBranchSound saved pending) (map without_room bs) → AllByRecursion (IsBranchSound saved pending) bs
full_each saved pending [] all = tt
full_each saved pending (b ∷ bs) all = (record { few = all.0.few; begins = all.0.begins; order = all.0.order; small = all.0.small }, full_each saved pending bs all.1)

pub sound_full : (saved pending : ℕ) (bs : List BranchFill) → All (IsBranchSound saved pending) (map without_room bs) → All (IsBranchSound saved pending) bs
sound_full saved pending bs all = All-from_recursion (IsBranchSound saved pending) bs (full_each saved pending bs (recursion_from_All (IsBranchSound saved pending) (map without_room bs) all))

-- ---- what is done

module _ (s : SessionState) (t : FilledTree) where
  abbrev put_bared : BasketsPut
  put_bared = record (put_now s t) { branches = map without_room (put_now s t).branches }

  pub put_same : put_now s (bare_tree t) ≡ record (put_now s t) { branches = map without_room (put_now s t).branches }
  put_same =
      ap (put_open s.datime t.name (entry_count t.fill) s.segments (map without_room t.fill.branches)) (open_bare t.fill.branches)
      ∙ put_bare s.datime t.name (entry_count t.fill) s.segments t.fill.branches (open_list t.fill.branches)

  pub head_same : head_now s (bare_tree t) ≡ head_now s t
  head_same =
      ap (λ (p : BasketsPut). header_of (all_saved (branches_become p.branches (bare t.fill)))) put_same
      ∙ header_bare (all_saved (branches_become (put_now s t).branches t.fill))

  module _ (h : KeyHead) where
    abbrev long_of : TreeHead → ℕ
    long_of head = length (header_record 0 s.datime t.name (h.cycle + 1) head)

    abbrev place_by : BasketsPut → TreeHead → ℕ
    place_by p head = place_of p.segments (long_of head)

    abbrev lengths_by : BasketsPut → TreeHead → List ℕ
    lengths_by p head = p.lengths ++ long_of head ∷ []

    abbrev changes_by : BasketsPut → TreeHead → List LinksChange
    changes_by p head = p.changes ++ with_record (place_by p head) (header_record (place_by p head) s.datime t.name (h.cycle + 1) head) ∷ without_record h.seek ∷ []

    abbrev segments_by : BasketsPut → TreeHead → List Segment
    segments_by p head = without_segment h.seek (with_segment (place_by p head) (long_of head) p.segments)

    abbrev key_by : BasketsPut → TreeHead → KeyHead
    key_by p head = header_key (place_by p head) s.datime t.name (h.cycle + 1) head

    pub lengths_same : (saving_now s (bare_tree t) h).lengths ≡ (saving_now s t h).lengths
    lengths_same = let put = put_same in let head = head_same in λ i. lengths_by (put i) (head i)

    changes_same : (saving_now s (bare_tree t) h).changes ≡ (saving_now s t h).changes
    changes_same = let put = put_same in let head = head_same in λ i. changes_by (put i) (head i)

    segments_same : (saving_now s (bare_tree t) h).kept.segments ≡ (saving_now s t h).kept.segments
    segments_same = let put = put_same in let head = head_same in λ i. segments_by (put i) (head i)

    pub key_same : next_key s (bare_tree t) h ≡ next_key s t h
    key_same = let put = put_same in let head = head_same in λ i. key_by (put i) (head i)

    -- what can be planned for a tree can be planned for it with its rooms
    pub can_full : (places : List ℕ) → CanPlanSave s (bare_tree t) h places → CanPlanSave s t h places
    can_full places can = record {
      form = can.form;
      sound = sound_full t.fill.saved t.fill.pending t.fill.branches can.sound;
      places_are = can.places_are ∙ ap (λ (l : List ℕ). places_of l (space_of s.segments)) lengths_same;
      low = subst (λ (l : List ℕ). end_after l (space_of s.segments) ≤ 1999999996) lengths_same can.low;
      there = can.there;
      later = can.later;
      next = can.next;
    }

    -- and what is made for that one is made for the tree
    pub bare_made : (made : SaveMade) → IsSaveMade s t h made → IsSaveMade s (bare_tree t) h made
    bare_made made is =
        let bs = t.fill.branches in
        let fs = open_list bs in
        record {
          flags = flags_bare bs made.flags ∙ is.flags ∙ sym (open_bare bs);
          steps_are = record { run = is.steps_are.run; changes = is.steps_are.changes ∙ sym changes_same; segments_are = is.steps_are.segments_are ∙ sym segments_same };
          branches = ap (λ (l : List Bool). branches_put made.ats l (map without_room bs)) (open_bare bs)
              ∙ sym (bare_put made.ats fs bs) ∙ ap (map without_room) is.branches ∙ ap (λ (p : BasketsPut). p.branches) (sym put_same);
          firsts = ap (λ (l : List Bool). are_firsts (entry_count t.fill) made.ats (flagged (map without_room bs) l)) (open_bare bs)
              ∙ ap (are_firsts (entry_count t.fill) made.ats) (flagged_bare bs fs) ∙ firsts_bare (entry_count t.fill) made.ats (flagged bs fs) ∙ is.firsts;
          head_is = is.head_is ∙ sym key_same;
        }
