-- A delete by the records of a file agrees with that by what is kept beside it.
use Rattle.std.proofs.Common.{◌≡◌, ◌∙◌, ⊎_elim, ℕ, ◌+◌, suc, ◌≤◌, List, [], ◌∷◌, length, map, sum, Option, Some, None, Bool, true, false, refl, sym, ap, subst, arith}
use Rattle.std.proofs.lemmas.Slice.Eq.{bytes_eq-Decides}
use Rattle.std.specs.{Prelude.{if◌then◌else◌}, List.{Contains, find}, Option.{option_map_or}, Str.{bytes_eq}}
use Rattle.rio_dir.specs.Table.{head_of}
use Rattle.rio_chain.specs.{Changes.{without_record}, Placing.{file_end}, Segments.{Link, segment_of}, declared.segment.Segment.{Segment}}
use Rattle.rio_chain.proofs.FewerRecords.{keeps_segments}
use Rattle.rio_machine.specs.{State.{NameAndCycle, State, names_tree}, declared.command.Command.TheVariants.{Delete}}
use Rattle.rio_state.specs.{Closing.{close_need, end_limit, kept_with}, KeyedRecords.{KeyedRecord}, OneLess.{links_without}, TreeLengths.{PendingRows, pending_in}, Trees.{basket_places}}
use Rattle.rio_state.proofs.Members.{In, contains_in, in_contained, in_either, in_left, in_right}
use Rattle.rio_step.specs.{Refusing.{FullMark, refusal_of}, Runs.{saved_of}, Step.{state_behind}}
use Rattle.rio_effect.specs.FileRuns.{Change, PutBaskets, all_changed, changes_of_delete, item_record, lengths_of, mark_of_changes, put_after, release_of, with_put}
use Rattle.rio_effect.specs.{BasketRuns.{places_put}, Deletes.{state_without}, Garbage.{releases}, TreeChanges.{changes_of_tree_delete, places_of_baskets}}
use Rattle.rio_effect.specs.Garbage as garbage
use Rattle.rio_effect.proofs.{DeleteRecords.{object_found}, ReleaseOrder.{tree_delete_changes}}
use Rattle.rio_recover.specs.{Cleaning.{without_segments}, Closable.{IsClosable}}
use Rattle.rio_session.specs.{Fills.{FilledTree, is_tree_of, places_of_fill, put_in, put_of, without_filled}, Kept.{all_done, changes_by, kept_by, released_by, tree_places}, Marks.{mark_of_command}, Releases.{AreReleasable}}
use Rattle.rio_session.specs.{Session.{HoldsState, file_records}, SessionState.{SessionState, baskets_of}, Sound.{IsSoundState}}
use Rattle.rio_session.proofs.{Agreeing.{AgreesWithFile}, DeleteEffects.{IsFirstGone, all_is, either_place, header_of_delete, its, its_begins, its_named, its_put, no_tree, no_tree_of, object_gone, object_of_delete, own_key, places_moved_to, same_all, shape, tree_gone, tree_rises}}
use Rattle.rio_session.proofs.{DeleteRows.{find_gone, find_other, turned}, DeleteSteps.{delete_unmarked, no_lengths}, FileNeeds.{mark_by, mark_by_file}, FillLists.{ordered_of}, FilledFiles.{filled_now, need_in_file}, ReleasedFiles.{all_passed}}
use Rattle.rio_session.proofs.TreePlaces.{all_releasable, no_places, none_removed, released_are}

-- ---- releases

none_long : (places : List ℕ) → lengths_of (releases places) ≡ []
none_long [] = refl
none_long (p ∷ places) = none_long places

segments_left : (places : List ℕ) (links : List Link) → map segment_of (all_changed links (releases places)) ≡ without_segments places (map segment_of links)
segments_left [] links = refl
segments_left (p ∷ places) links = segments_left places (without_record p links) ∙ ap (without_segments places) (keeps_segments links p)

module _ (s : SessionState) (m : State) (file : List ℕ) (h : HoldsState s m file) (sound : IsSoundState s) (fresh : s.failed ≡ false) where
  abbrev closable : IsClosable s.segments s.heads s.info (baskets_of s) s.name
  closable = (sound.kept fresh).closable

  abbrev saved : State
  saved = saved_of m

  -- ---- the records

  -- the changes of the delete by the records, which release first the one of the key
  record IsTold (name : List ℕ) (cycle : ℕ) : Type 0 where
    r : KeyedRecord
    first : IsFirstGone s m file h sound fresh r
    name_is : r.head.name ≡ name
    cycle_is : r.head.cycle ≡ cycle
    found : head_of name (Some cycle) s.heads ≡ Some r.head
    told : changes_of_delete (file_records s h.links) m name cycle ≡ releases (r.head.seek ∷ tree_places s r.head.name)

  object_told : (name : List ℕ) (cycle : ℕ) → refusal_of m (Delete name cycle) None ≡ None → names_tree m name ≡ false → IsTold name cycle
  object_told name cycle free none =
      let x = object_of_delete s m file h sound fresh name cycle free none in
      let own : find (is_tree_of x.r.head.name) s.trees ≡ None = ap (λ (n : List ℕ). find (is_tree_of n) s.trees) x.name_is ∙ no_tree s m file h sound fresh name none in
      let key = own_key s m file h sound fresh name cycle x.r x.name_is x.cycle_is x.found in
      let item_is : ◌≡◌ {A = NameAndCycle} (x.r.head.name, x.r.head.cycle) (name, cycle) = λ i. (x.name_is i, x.cycle_is i) in
      let record_is : item_record h.links name cycle ≡ Some x.r = ap (λ (k : NameAndCycle). item_record h.links k.0 k.1) (sym item_is) ∙ object_found file h.links saved x.r x.object h.records in
      record {
        r = x.r;
        first = object_gone s m file h sound fresh x.r x.object key (ap (names_tree m) x.name_is ∙ none) own;
        name_is = x.name_is;
        cycle_is = x.cycle_is;
        found = x.found;
        told =
            ap (λ (b : Bool). if b then changes_of_tree_delete (file_records s h.links) name else release_of (item_record h.links name cycle)) none
            ∙ ap release_of record_is
            ∙ ap (λ (ps : List ℕ). releases (x.r.head.seek ∷ ps)) (sym (no_places s (shape s m file h sound fresh) closable x.r.head.name own));
      }

  tree_told : (name : List ℕ) (cycle : ℕ) → refusal_of m (Delete name cycle) None ≡ None → names_tree m name ≡ true → IsTold name cycle
  tree_told name cycle free some =
      let x = header_of_delete s m file h sound fresh name cycle free some in
      let own = own_key s m file h sound fresh name cycle x.r x.name_is x.cycle_is x.found in
      let places = tree_places s x.r.head.name in
      let now = file_records s h.links in
      let t = its s m file h sound fresh x.r x.head x.has own in
      let moved = places_moved_to s m file h sound fresh x.r x.head x.has own in
      let put = put_in s.trees name in
      let all : (p : ℕ) → In p (places_of_fill t.fill) → In p (places_of_baskets now name x.head) = λ p i.
      ⊎_elim (λ j. in_left p (basket_places x.head) (places_put put) j) (λ j. in_right p (basket_places x.head) (places_put put) (subst (λ (n : List ℕ). In p (places_put (put_in s.trees n))) x.name_is j))
      (either_place s m file h sound fresh x.r x.head x.has own p i) in
      let into : (p : ℕ) → Contains places p → Contains (places_of_baskets now name x.head) p = λ p there. contains_in p (places_of_baskets now name x.head) (all p (in_contained p (places_of_fill t.fill) (moved.1 p there))) in
      let back : (p : ℕ) → Contains (places_of_baskets now name x.head) p → Contains places p = λ p there.
      moved.0 p (contains_in p (places_of_fill t.fill)
      (⊎_elim (λ j. its_named s m file h sound fresh x.r x.head x.has own p j) (λ j. its_put s m file h sound fresh x.r x.head x.has own p (subst (λ (n : List ℕ). In p (places_put (put_in s.trees n))) (sym x.name_is) j))
      (in_either p (basket_places x.head) (places_put put) (in_contained p (places_of_baskets now name x.head) there)))) in
      record {
        r = x.r;
        first = tree_gone s m file h sound fresh x.r x.head x.has own;
        name_is = x.name_is;
        cycle_is = x.cycle_is;
        found = x.found;
        told =
            ap (λ (b : Bool). if b then changes_of_tree_delete now name else release_of (item_record h.links name cycle)) some
            ∙ tree_delete_changes file now s.heads name cycle places x (tree_rises s m file h sound fresh x.r x.head x.has own)
            (λ p. (into p, back p))
            (λ p there. its_begins s m file h sound fresh x.r x.head x.has own p (in_contained p (places_of_fill t.fill) (moved.1 p there)));
      }

  told_by : (name : List ℕ) (cycle : ℕ) → refusal_of m (Delete name cycle) None ≡ None → IsTold name cycle
  told_by name cycle free = by (names_tree m name) refl
    where
      by : (b : Bool) → names_tree m name ≡ b → IsTold name cycle
      by false none = object_told name cycle free none
      by true some = tree_told name cycle free some

  -- ---- where the state doesn't refuse it

  module _ (name : List ℕ) (cycle : ℕ) (free : refusal_of m (Delete name cycle) None ≡ None) where
    x : IsTold name cycle
    x = told_by name cycle free

    own : head_of x.r.head.name (Some x.r.head.cycle) s.heads ≡ Some x.r.head
    own = own_key s m file h sound fresh name cycle x.r x.name_is x.cycle_is x.found

    abbrev all : List ℕ
    all = x.r.head.seek ∷ tree_places s x.r.head.name

    own_released : released_by s x.r.head.name x.r.head.cycle ≡ x.r.head.seek ∷ tree_places s x.r.head.name
    own_released = released_are s (shape s m file h sound fresh) closable x.r.head own

    released_is : released_by s name cycle ≡ x.r.head.seek ∷ tree_places s x.r.head.name
    released_is = (λ i. released_by s (sym x.name_is i) (sym x.cycle_is i)) ∙ own_released

    delete_done : all_changed h.links (changes_of_delete (file_records s h.links) m name cycle) ≡ all_done (changes_by s m (Delete name cycle)) h.links
    delete_done =
        ap (all_changed h.links) x.told ∙ sym (all_is all h.links) ∙ ap (λ (ps : List ℕ). all_done (map without_record ps) h.links) (sym released_is)

    delete_segments : map segment_of (all_changed h.links (changes_of_delete (file_records s h.links) m name cycle)) ≡ (kept_by s m (Delete name cycle)).segments
    delete_segments =
        ap (λ (cs : List Change). map segment_of (all_changed h.links cs)) x.told
        ∙ segments_left all h.links
        ∙ (λ i. without_segments (sym released_is i) (sym h.chain.same i))

    releasable : AreReleasable (map segment_of h.links) (x.r.head.seek ∷ tree_places s x.r.head.name)
    releasable =
        subst (λ (y : List Segment × List ℕ). AreReleasable y.0 y.1) (λ i. (h.chain.same i, own_released i)) (all_releasable s (shape s m file h sound fresh) closable x.r.head own)

    low : file_end (map segment_of h.links) ≤ end_limit
    low = omega (arith, ap file_end h.chain.same, (sound.kept fresh).room)

    -- a file is left by each release
    passed : garbage.ArePassed (links_without h.links x.r) (releases (tree_places s x.r.head.name)) (length (tree_places s x.r.head.name))
    passed j below = all_passed all file h.links h.chain.chain releasable low (suc j) (omega (arith, below))

    -- a close needs no more than before
    fits : file_end (map segment_of h.links) + close_need (kept_with (pending_in (state_behind m (Delete name cycle))) (all_changed h.links (releases (x.r.head.seek ∷ tree_places s x.r.head.name)))) ≤ end_limit
    fits =
        let pending = pending_in (state_without m x.r) in
        let same : pending_in (state_behind m (Delete name cycle)) ≡ pending = λ i. pending_in (state_behind m (Delete (sym x.name_is i) (sym x.cycle_is i))) in
        let less = (same_all s m file h sound fresh x.r x.first own passed).need pending in
        let forgets = ap close_need x.first.forgets in
        let now = need_in_file s m h.links (filled_now s m file h (sound.kept fresh)) in
        let as_then = ap (λ (p : PendingRows). close_need (kept_with p (all_changed h.links (releases all)))) same in
        omega (arith, as_then, less.need, forgets, x.first.need.need, now, ap file_end h.chain.same, (sound.kept fresh).room)

    file_unmarked : mark_of_changes (pending_in (state_behind m (Delete name cycle))) h.links (releases (x.r.head.seek ∷ tree_places s x.r.head.name)) ≡ None
    file_unmarked =
        let segments = map segment_of h.links in
        let pending = pending_in (state_behind m (Delete name cycle)) in
        let need = close_need (kept_with pending (all_changed h.links (releases all))) in
        mark_by_file pending h.links (releases all)
        ∙ ap (λ (lengths : List ℕ). mark_by segments lengths need) (none_long all)
        ∙ ap (λ (b : Bool). let o : Option FullMark = if b then Some (record { end = file_end segments; wanted = sum [] }) else None in o) (no_lengths segments need fits)

    kept_unmarked : mark_of_command s m (Delete name cycle) ≡ None
    kept_unmarked = (λ i. mark_of_command s m (Delete (sym x.name_is i) (sym x.cycle_is i))) ∙ delete_unmarked s m h.stands (sound.kept fresh) x.r.head own

    delete_mark : mark_of_changes (pending_in (state_behind m (Delete name cycle))) h.links (changes_of_delete (file_records s h.links) m name cycle) ≡ mark_of_command s m (Delete name cycle)
    delete_mark = ap (mark_of_changes (pending_in (state_behind m (Delete name cycle))) h.links) x.told ∙ file_unmarked ∙ sym kept_unmarked

-- the baskets that were put are forgotten with their tree
pub puts_left : (s : SessionState) (m : State) (file : List ℕ) (h : HoldsState s m file) (name : List ℕ) (cycle : ℕ) (other : List ℕ) → put_after s.datime (file_records s h.links) m (Delete name cycle) other ≡ put_in (without_filled name s.trees) other
puts_left s m file h name cycle other = by (names_tree m name) refl
  where
    gone : (b : Bool) → bytes_eq other name ≡ b → (let put : PutBaskets = with_put (put_in s.trees) name [] in put other) ≡ put_in (without_filled name s.trees) other
    gone true is =
        ap (λ (b : Bool). if b then [] else put_in s.trees other) is
        ∙ sym (ap (λ (n : List ℕ). put_in (without_filled name s.trees) n) ((bytes_eq-Decides other name).0 is) ∙ ap (λ (o : Option FilledTree). option_map_or (λ (u : FilledTree). put_of u.fill) o []) (find_gone name s.trees (ordered_of s.trees h.trees.ordered)))
    gone false is =
        ap (λ (b : Bool). if b then [] else put_in s.trees other) is
        ∙ sym (ap (λ (o : Option FilledTree). option_map_or (λ (u : FilledTree). put_of u.fill) o []) (find_other name other s.trees (turned other name is)))

    by : (b : Bool) → names_tree m name ≡ b → (let put : PutBaskets = if b then with_put (put_in s.trees) name [] else put_in s.trees in put other) ≡ put_in (without_filled name s.trees) other
    by true is = gone (bytes_eq other name) refl
    by false is = ap (λ (ts : List FilledTree). put_in ts other) (sym (none_removed name s.trees (tree_none name is)))
      where
        tree_none : (n : List ℕ) → names_tree m n ≡ false → find (is_tree_of n) s.trees ≡ None
        tree_none n none = no_tree_of s m h.stands n none

pub delete_agrees : (s : SessionState) (m : State) (file : List ℕ) (h : HoldsState s m file) → IsSoundState s → s.failed ≡ false → (name : List ℕ) (cycle : ℕ) → AgreesWithFile s m (Delete name cycle) h.links
delete_agrees s m file h sound fresh name cycle = record {
  changes = changes_of_delete (file_records s h.links) m name cycle;
  changes_are = refl;
  done = delete_done s m file h sound fresh name cycle;
  segments = delete_segments s m file h sound fresh name cycle;
  puts = λ free other. puts_left s m file h name cycle other;
  mark = delete_mark s m file h sound fresh name cycle;
}
