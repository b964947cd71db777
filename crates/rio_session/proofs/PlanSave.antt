-- What is planned for the save of a tree, which is kept with rooms: it is a plan of the tree as it is seen without them.
use Rattle.std.proofs.Common.{◌≡◌, ◌∙◌, ℕ, ◌+◌, ◌-◌, ◌<◌, ◌≤◌, codes, Bool, true, false, List, [], ◌∷◌, length, map, Some, None, sym, ap, subst, arith}
use Rattle.std.proofs.lemmas.{Bool.{eqb-true}, List.{length-append}}
use Rattle.std.specs.{List.{All, find}, Option.{option_map}, Prelude.{sum}}
use Rattle.rio_key.specs.{Written.{written_key}, declared.head.KeyHead.{KeyHead}}
use Rattle.rio_dir.specs.Table.{head_of, heads_size, with_head, without_head}
use Rattle.rio_chain.specs.{Adjoining.{AreSegments}, Placing.{end_after, place_of, places_of, record_count, space_of}, Plans.{IsFull}, declared.fault.PlanFault.{PlanFault, TheVariants.{Full, NoMemory}}}
use Rattle.rio_machine.specs.Limits.{cycle_limit, head_length}
use Rattle.rio_judge.proofs.KeysOfState.{first_is_found}
use Rattle.rio_recover.proofs.Released.{record_segment}
use Rattle.rio_state.specs.{Closing.{end_limit, is_full}, Sizes.{close_size}}
use Rattle.rio_effect.specs.TreeRecords.{header_record}
use Rattle.rio_session.specs.{Due.{IsBranchSound, IsClosableWith, due_of, due_of_fill}, Fills.{FilledTree, bare_tree, is_tree_of, places_of_trees}, RowPlans.{due_changed}}
use Rattle.rio_session.specs.SavePlans.{CanPlanSave, IsSaveMade, IsSavePlan, LacksSaveRoom, due_of_save, head_now, need_of_save, next_key, put_now, saving_now}
use Rattle.rio_session.specs.{SessionState.{SessionState}, declared.open_tree.Due.{Due}, declared.save.{SaveMade.{SaveMade}, SavePlan.{SavePlan}}}
use Rattle.rio_session.proofs.{Bare.{bare_found, due_bare}, FilledFiles.{all_in}, FilledTrees.{found_among, found_name}, Keeps.{size_with}, KeepsGone.{bytes_less, key_begins, key_later}, PlanRoom.{plan_has_room, plan_lacks_room}}
use Rattle.rio_session.proofs.{RowPlanned.{seen}, SaveAgrees.{header_sized}, SaveBare.{bare_made, lengths_same, sound_full}, SaveLacks.{class_named}}

module _ (s : SessionState) (trees : List FilledTree) (same : s.trees ≡ map bare_tree trees) (k : KeyHead) (u : FilledTree) (here : find (is_tree_of k.name) trees ≡ Some u) (first : head_of k.name None s.heads ≡ Some k)
    (closable : IsClosableWith s.segments s.heads s.trees s.info s.name) (form : AreSegments s.segments) where
  abbrev v : FilledTree
  v = bare_tree u

  own_name : u.name ≡ k.name
  own_name = found_name k.name u trees here

  found_bare : find (is_tree_of k.name) s.trees ≡ Some (bare_tree u)
  found_bare = ap (find (is_tree_of k.name)) same ∙ bare_found k.name trees ∙ ap (option_map bare_tree) here

  pub sound_rooms : All (IsBranchSound u.fill.saved u.fill.pending) u.fill.branches
  sound_rooms =
      sound_full u.fill.saved u.fill.pending u.fill.branches
      (all_in (λ (w : FilledTree). All (IsBranchSound w.fill.saved w.fill.pending) w.fill.branches) v s.trees closable.sound (found_among k.name v s.trees found_bare))

  -- how many bytes are written of the keys then
  heads_then : heads_size (with_head (next_key s (bare_tree u) k) (without_head k.name k.cycle s.heads)) ≡ heads_size s.heads - length (written_key k) + head_length (codes "TTree") k.name
  heads_then =
      let key = next_key s v k in
      let place = place_of (put_now s v).segments (length (header_record 0 s.datime u.name (k.cycle + 1) (head_now s v))) in
      let sized = eqb-true (length (written_key key)) (head_length key.class key.name) (header_sized place s.datime u.name (k.cycle + 1) (head_now s v)) in
      let class = class_named place s.datime u.name (k.cycle + 1) (head_now s v) in
      let named = ap (head_length (codes "TTree")) own_name in
      omega (arith, size_with key (without_head k.name k.cycle s.heads), bytes_less s.heads k (first_is_found k.name s.heads k first), sized, class, named)

  module _ (lengths : List ℕ) (lengths_are : lengths ≡ (saving_now s u k).lengths) (due : Due) (due_is : due ≡ due_changed (due_of s.trees) (due_of_fill u.name u.fill) (record { bytes = 0; baskets = 0 })) (need : ℕ)
      (need_is : need ≡ due.bytes + close_size s.name (heads_size s.heads - length (written_key k) + head_length (codes "TTree") k.name) (record_count s.segments + (length lengths - 1) + due.baskets)) where
    lengths_seen : lengths ≡ (saving_now s (bare_tree u) k).lengths
    lengths_seen = lengths_are ∙ sym (lengths_same s u k)

    more_seen : length lengths - 1 ≡ length (put_now s (bare_tree u)).lengths
    more_seen =
        let n = length (header_record 0 s.datime u.name (k.cycle + 1) (head_now s v)) in
        omega (arith, ap length lengths_seen, length-append (put_now s v).lengths (n ∷ []))

    due_seen : due ≡ due_of_save s (bare_tree u)
    due_seen = due_is ∙ ap (λ (d : Due). due_changed (due_of s.trees) d (record { bytes = 0; baskets = 0 })) (sym (due_bare u.name u.fill))

    need_seen : need ≡ need_of_save s (bare_tree u) k
    need_seen =
        let d = due_seen in
        let heads = heads_then in
        let more = more_seen in
        need_is ∙ (λ i. (d i).bytes + close_size s.name (sym heads i) (record_count s.segments + more i + (d i).baskets))

    full_seen : (b : Bool) → is_full s.segments lengths need ≡ b → is_full s.segments (saving_now s (bare_tree u) k).lengths (need_of_save s (bare_tree u) k) ≡ b
    full_seen b is = let all = lengths_seen in let whole = need_seen in subst (λ (x : List ℕ × ℕ). is_full s.segments x.0 x.1 ≡ b) (λ i. (all i, whole i)) is

    module _ (limit : ℕ) (limit_is : limit ≡ end_limit - need) where
      pub save_can_be_planned : (places : List ℕ) → places ≡ places_of lengths (space_of s.segments) → end_after lengths (space_of s.segments) ≤ limit → k.cycle < cycle_limit → CanPlanSave s u k places
      save_can_be_planned places are end low = record {
        form = form;
        sound = sound_rooms;
        places_are = are ∙ ap (λ (l : List ℕ). places_of l (space_of s.segments)) lengths_are;
        low = omega (arith, ap (λ (l : List ℕ). end_after l (space_of s.segments)) lengths_are, end, limit_is);
        there = record_segment k.seek s.segments (key_begins s.segments s.heads s.info (places_of_trees s.trees) s.name k form closable.closable (first_is_found k.name s.heads k first));
        later = key_later s.segments s.heads s.info (places_of_trees s.trees) s.name k form closable.closable (first_is_found k.name s.heads k first);
        next = omega (arith, low);
      }

      pub save_is_planned : length u.name ≤ 100 → end_after lengths (space_of s.segments) ≤ limit → (made : SaveMade) → IsSaveMade s u k made → (t : FilledTree) → find (is_tree_of k.name) s.trees ≡ Some t
          → IsSavePlan s t k (record { made = made; due = due })
      save_is_planned short end made is t found =
          subst (λ (w : FilledTree). IsSavePlan s w k (record { made = made; due = due })) (seen s trees same k.name u here t found) (record {
            named = subst (λ (n : List ℕ). length n ≤ 100) own_name short;
            made = bare_made s u k made is;
            due = due_seen;
            room = full_seen false (plan_has_room s.segments lengths need limit limit_is end);
          })

      pub save_lacks_room : (fault : PlanFault) → IsFull s.segments lengths limit fault → (t : FilledTree) → find (is_tree_of k.name) s.trees ≡ Some t → LacksSaveRoom s t k fault
      save_lacks_room NoMemory full t found = tt
      save_lacks_room (Full end wanted) full t found =
          subst (λ (w : FilledTree). LacksSaveRoom s w k (Full end wanted)) (seen s trees same k.name u here t found)
          (full_seen true (plan_lacks_room s.segments lengths need limit limit_is full.0), full.1, full.2 ∙ ap sum lengths_seen)
