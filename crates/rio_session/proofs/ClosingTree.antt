-- The save of one tree, planned for a close by what is kept alone: it can be made, and what is kept behind it can be closed.
use Rattle.std.proofs.Common.{◌≡◌, ◌∙◌, ◌==◌, ℕ, ◌+◌, ◌%◌, ◌<◌, ◌≤◌, ◌^◌, codes, true, false, List, [], ◌∷◌, ◌++◌, length, map, nat_lt, Some, None, refl, sym, ap, subst, arith}
use Rattle.std.proofs.lemmas.{Bool.{and_parts, ltb-true}, Slice.Eq.{bytes_eq-Decides}}
use Rattle.std.specs.List.{All, find, list_any}
use Rattle.rio_key.specs.declared.head.KeyHead.{KeyHead}
use Rattle.rio_dir.specs.Table.{AreOrdered, head_of, is_at_cycle, with_head, without_head}
use Rattle.rio_chain.specs.{Adjoining.{AreSegments}, Placing.{end_after, place_of, space_of}, declared.segment.Segment.{Segment}}
use Rattle.rio_chain.proofs.Laying.{end_grows}
use Rattle.rio_close.proofs.Fitting.{place_low}
use Rattle.rio_machine.specs.Limits.{cycle_limit}
use Rattle.rio_state.specs.{Closing.{padded_length}, KeyedRecords.{is_tree_key}}
use Rattle.rio_recover.specs.Closable.{begins_at}
use Rattle.rio_tree.specs.declared.head.TreeHead.{TreeHead}
use Rattle.rio_fill.specs.{Fill.{all_saved, entry_count}, Room.{without_room}}
use Rattle.rio_judge.proofs.KeysOfState.{first_is_found, found_key, none_above_first}
use Rattle.rio_effect.specs.TreeRecords.{header_key, header_record}
use Rattle.rio_session.specs.{ClosingPlans.{ArePlacesOf, CanPlanTree, IsKeyBefore, IsPlannedBehind}, Due.{IsBranchSound, IsClosableWith, lengths_of_fill}, Fillings.{branches_become, open_list, put_open, saving_with}}
use Rattle.rio_session.specs.{Fills.{AreNamesOrdered, FilledTree, bare_tree, header_of, is_tree_of, places_of_trees}, SavePlans.{CanPlanSave, IsSaveMade, next_key, saving_now}, SessionState.{SessionState}}
use Rattle.rio_session.specs.{Steps.{CanRun, all_stepped}, declared.save.SaveMade.{SaveMade}, declared.steps.Step.{Step}}
use Rattle.rio_session.proofs.{FilledFiles.{all_in}, FilledTrees.{found_among}, KeepsGone.{key_begins, key_later}, KeptRoom.{closable_by_kept, key_names}, OtherSteps.{begins_record}}
use Rattle.rio_session.proofs.{PutsKept.{puts_kept}, SaveBare.{bare_made, lengths_same, sound_full}, SaveLengths.{next_aligned, next_long, next_some}, SaveStands.{none_without}}

-- ---- the key of the next header

key_cycle : (place datime : ℕ) (name : List ℕ) (cycle : ℕ) (head : TreeHead) → (header_key place datime name cycle head).cycle ≡ cycle
unfolding header_key
key_cycle place datime name cycle head = refl

next_named : (s : SessionState) (t : FilledTree) (k : KeyHead) → (next_key s t k).name ≡ t.name
next_named s t k = key_names _ s.datime t.name (k.cycle + 1) _

next_cycle : (s : SessionState) (t : FilledTree) (k : KeyHead) → (next_key s t k).cycle ≡ k.cycle + 1
next_cycle s t k = key_cycle _ s.datime t.name (k.cycle + 1) _

-- its name and cycle are new
pub next_is_new : (s : SessionState) (t : FilledTree) (k head : KeyHead) (heads : List KeyHead) → AreOrdered heads → head_of t.name None heads ≡ Some k → head ≡ next_key s t k
    → find (is_at_cycle head.name head.cycle) (without_head t.name k.cycle heads) ≡ None
next_is_new s t k head heads ordered first is =
    let named : head.name ≡ t.name = ap (λ (h : KeyHead). h.name) is ∙ next_named s t k in
    let cycle : head.cycle ≡ k.cycle + 1 = ap (λ (h : KeyHead). h.cycle) is ∙ next_cycle s t k in
    let above : head_of t.name (Some (k.cycle + 1)) heads ≡ None = none_above_first heads t.name k (k.cycle + 1) ordered first (omega arith) in
    let none = none_without (is_at_cycle t.name (k.cycle + 1)) (is_at_cycle t.name k.cycle) heads above in
    ap (λ (x : List ℕ × ℕ). find (is_at_cycle x.0 x.1) (without_head t.name k.cycle heads)) (λ i. (named i, cycle i)) ∙ none

-- ---- a tree by the name of its key

module _ (s : SessionState) (k : KeyHead) (t : FilledTree) (named : k.name ≡ t.name) (found_tree : find (is_tree_of t.name) s.trees ≡ Some t) (first : head_of t.name None s.heads ≡ Some k)
    (closable : IsClosableWith s.segments s.heads s.trees s.info s.name) (form : AreSegments s.segments) where
  -- how long its next header is
  abbrev long_as : List ℕ → ℕ
  long_as name =
      length (header_record 0 s.datime name (k.cycle + 1) (header_of (all_saved (branches_become (put_open s.datime name (entry_count t.fill) s.segments t.fill.branches (open_list t.fill.branches)).branches t.fill))))

  abbrev segments_as : List ℕ → List Segment
  segments_as name = (put_open s.datime name (entry_count t.fill) s.segments t.fill.branches (open_list t.fill.branches)).segments

  abbrev own_found : find (is_tree_of k.name) s.trees ≡ Some t
  own_found = subst (λ (n : List ℕ). find (is_tree_of n) s.trees ≡ Some t) (sym named) found_tree

  abbrev own_first : head_of k.name None s.heads ≡ Some k
  own_first = subst (λ (n : List ℕ). head_of n None s.heads ≡ Some k) (sym named) first

  pub sound : All (IsBranchSound t.fill.saved t.fill.pending) t.fill.branches
  sound = all_in (λ (u : FilledTree). All (IsBranchSound u.fill.saved u.fill.pending) u.fill.branches) t s.trees closable.sound (found_among t.name t s.trees found_tree)

  pub begins : list_any (begins_at k.seek) s.segments ≡ true
  begins = key_begins s.segments s.heads s.info (places_of_trees s.trees) s.name k form closable.closable (first_is_found k.name s.heads k own_first)

  pub later : 100 < k.seek
  later = key_later s.segments s.heads s.info (places_of_trees s.trees) s.name k form closable.closable (first_is_found k.name s.heads k own_first)

  -- behind the save there is room for a close again
  pub closable_then : AreNamesOrdered s.trees → end_after (saving_now s t k).lengths (space_of s.segments) ≤ 1999999996 → length t.name ≤ 100 → k.class ≡ codes "TTree" → (t.fill.pending == 0) ≡ false
      → let kept = (saving_now s t k).kept in IsClosableWith kept.segments kept.heads kept.trees s.info s.name
  closable_then ordered fits short kind due =
      let n = long_as t.name in
      let put = puts_kept s.datime t.name (entry_count t.fill) s.segments t.fill.branches (open_list t.fill.branches) form in
      let at = place_low (segments_as t.name) (place_of (segments_as t.name) n) n put.shape refl in
      let grows = end_grows (n ∷ []) (space_of (segments_as t.name)) in
      let low : place_of (segments_as t.name) n < 2 ^ 32 = omega (arith, at, grows, put.end (n ∷ []), fits) in
      subst (λ (name : List ℕ). let kept = (saving_with s name t.fill k).kept in IsClosableWith kept.segments kept.heads kept.trees s.info s.name) named
      (closable_by_kept s k t own_found own_first closable ordered form
      (subst (λ (name : List ℕ). 4 ≤ long_as name) (sym named) (next_some s t sound k))
      (subst (λ (name : List ℕ). long_as name % 4 ≡ 0) (sym named) (next_aligned s t sound k))
      (subst (λ (name : List ℕ). long_as name ≡ padded_length (lengths_of_fill name t.fill).header) (sym named) (next_long s t sound k))
      (subst (λ (name : List ℕ). place_of (segments_as name) (long_as name) < 2 ^ 32) (sym named) low)
      (subst (λ (name : List ℕ). length name ≤ 100) (sym named) short) kind due)

-- ---- the save of a tree

module _ (s : SessionState) (segments : List Segment) (heads : List KeyHead) (t : FilledTree) (datime : ℕ) (can : CanPlanTree s segments heads t datime) (form : AreSegments segments) (k : KeyHead) (key : IsKeyBefore heads t.name k)
    (places : List ℕ) (are : ArePlacesOf segments t places) where
  shape : AreSegments s.segments
  shape = subst AreSegments (sym can.segments_are) form

  first_here : head_of t.name None s.heads ≡ Some k
  first_here = ap (head_of t.name None) can.heads_are ∙ key.first

  named_here : k.name ≡ t.name
  named_here = (found_key t.name k.cycle heads k (first_is_found t.name heads k key.first)).0

  next_parts : (k.class ≡ codes "TTree") × (k.cycle < cycle_limit)
  next_parts =
      let parts = and_parts (is_tree_key k) (nat_lt k.cycle cycle_limit) key.next in
      ((bytes_eq-Decides k.class (codes "TTree")).0 parts.0, ltb-true k.cycle cycle_limit parts.1)

  bare_is_sound : All (IsBranchSound t.fill.saved t.fill.pending) (map without_room t.fill.branches)
  bare_is_sound = sound s k (bare_tree t) named_here can.there first_here can.closable shape

  is_sound : All (IsBranchSound t.fill.saved t.fill.pending) t.fill.branches
  is_sound = sound_full t.fill.saved t.fill.pending t.fill.branches bare_is_sound

  -- it can be planned
  pub can_save : CanPlanSave s t k places
  can_save =
      let at = are s k can.segments_are is_sound in
      record {
        form = shape;
        sound = is_sound;
        places_are = at.0;
        low = at.1;
        there = begins_record k.seek s.segments (begins s k (bare_tree t) named_here can.there first_here can.closable shape);
        later = later s k (bare_tree t) named_here can.there first_here can.closable shape;
        next = let low = next_parts.1 in omega (arith, low);
      }

  module _ (made : SaveMade) (is : IsSaveMade s t k made) where
    bare_is : IsSaveMade s (bare_tree t) k made
    bare_is = bare_made s t k made is

    -- its steps can be done
    pub can_run : CanRun made.steps.items segments
    can_run = subst (CanRun made.steps.items) can.segments_are is.steps_are.run

    -- and then it is planned
    pub is_planned : length t.name ≤ 100 → (before : List Step) (segments_then : List Segment) (heads_then : List KeyHead) (steps_then : List Step) → segments_then ≡ all_stepped made.steps.items segments
        → heads_then ≡ with_head made.head (without_head t.name k.cycle heads) → steps_then ≡ before ++ made.steps.items → IsPlannedBehind s t before segments_then heads_then steps_then
    is_planned short before segments_then heads_then steps_then stepped put steps_are =
        let bare_fits : end_after (saving_now s (bare_tree t) k).lengths (space_of s.segments) ≤ 1999999996 =
        subst (λ (ls : List ℕ). end_after ls (space_of s.segments) ≤ 1999999996) (sym (lengths_same s t k)) can_save.low in
        let kept_heads : with_head made.head (without_head t.name k.cycle heads) ≡ (saving_now s (bare_tree t) k).kept.heads =
        (λ i. with_head (bare_is.head_is i) (without_head t.name k.cycle (sym can.heads_are i))) in (
          made.steps.items,
          steps_are,
          record {
            key = k;
            first = first_here;
            steps_are = bare_is.steps_are;
            segments_are = stepped ∙ ap (all_stepped made.steps.items) (sym can.segments_are) ∙ bare_is.steps_are.segments_are;
            heads_are = put ∙ kept_heads;
            closable = closable_then s k (bare_tree t) named_here can.there first_here can.closable shape can.ordered bare_fits short next_parts.0 can.due;
          },
        )
