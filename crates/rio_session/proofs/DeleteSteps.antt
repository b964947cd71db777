-- A delete, of an object or of a tree, is the step of its command.
use Rattle.std.proofs.Common.{◌≡◌, ◌∙◌, ℕ, ◌+◌, ◌≤◌, List, [], length, map, sum, Option, Some, None, Bool, false, refl, sym, ap, arith}
use Rattle.std.proofs.lemmas.Bool.{le-ltb}
use Rattle.std.specs.Prelude.{if◌then◌else◌}
use Rattle.rio_key.specs.declared.head.KeyHead.{KeyHead}
use Rattle.rio_dir.specs.Table.{head_of, is_at_cycle, without_head}
use Rattle.rio_chain.specs.{Placing.{file_end, record_count}, declared.segment.Segment.{Segment}}
use Rattle.rio_machine.specs.{State.{State}, declared.command.Command.TheVariants.{Delete}}
use Rattle.rio_state.specs.Closing.{end_limit, is_full, lay_all}
use Rattle.rio_step.specs.{Refusing.{FullMark, refusal_of}, ReplyText.{text_of}, Step.{item_deleted, state_behind}}
use Rattle.rio_effect.proofs.DeleteNeeds.{deletes_cost_nothing}
use Rattle.rio_recover.specs.Closable.{is_sized, list_count}
use Rattle.rio_session.specs.{Due.{IsClosableWith, due_of_fill}, Effects.{IsChangeOf}, Fills.{FilledTree, kept_tree_of, without_filled}, Items.{IsOfKeys}, Kept.{kept_by}, Marks.{basket_total, command_lengths, mark_of_command, state_need}, Releases.{deleting}}
use Rattle.rio_session.specs.SessionState.{SessionState}
use Rattle.rio_session.proofs.{KeepsGone.{need_with_less}, KeepsLess.{IsTakenOut, taken_out}, KeysWithout.{delete_stands}, Needs.{baskets_counted, need_by_keys}, TreePlaces.{places_less, sum_less}}

-- ---- room

-- where nothing is put, there is room if there is for a close
pub no_lengths : (segments : List Segment) (need : ℕ) → file_end segments + need ≤ end_limit → is_full segments [] need ≡ false
unfolding is_full lay_all
no_lengths segments need fits = le-ltb end_limit (file_end segments + need) fits

-- ---- by what is kept

module _ (s : SessionState) (m : State) (keys : IsOfKeys s m) (kept : IsClosableWith s.segments s.heads s.trees s.info s.name) (h : KeyHead) (is : head_of h.name (Some h.cycle) s.heads ≡ Some h) where
  abbrev left : List KeyHead
  left = without_head h.name h.cycle s.heads

  abbrev filled_left : List FilledTree
  filled_left = without_filled h.name s.trees

  abbrev after : State
  after = state_behind m (Delete h.name h.cycle)

  out : IsTakenOut h s.heads (without_head h.name h.cycle s.heads)
  out = taken_out (is_at_cycle h.name h.cycle) h s.heads is

  stand_after : IsOfKeys (kept_by s m (Delete h.name h.cycle)) (state_behind m (Delete h.name h.cycle))
  stand_after = delete_stands s m h keys is

  -- a close needs no more than before
  fits : file_end s.segments + state_need s.name (list_count s.info) (without_filled h.name s.trees) (state_behind m (Delete h.name h.cycle)) ≤ end_limit
  fits =
      let count = 1 + list_count s.info + length left + basket_total filled_left in
      let one = need_by_keys left (map kept_tree_of filled_left) after stand_after.keys stand_after.trees (out.all is_sized kept.closable.sized) s.name (list_count s.info) filled_left in
      let few : count ≤ record_count s.segments = omega (arith, out.one, kept.closable.count, places_less h.name s.trees, baskets_counted filled_left) in
      let less = need_with_less s.name s.heads left (record_count s.segments) count s.trees filled_left (omega (arith, out.bytes)) few
      (sum_less (λ (t : FilledTree). (due_of_fill t.name t.fill).bytes) h.name s.trees) (sum_less (λ (t : FilledTree). (due_of_fill t.name t.fill).baskets) h.name s.trees) in
      omega (arith, one, less, kept.room)

  abbrev mark_by : Bool → Option FullMark
  mark_by b = if b then Some (record { end = file_end s.segments; wanted = sum [] }) else None

  -- so it is never wanting in room
  pub delete_unmarked : mark_of_command s m (Delete h.name h.cycle) ≡ None
  unfolding mark_of_command command_lengths
  delete_unmarked = ap mark_by (no_lengths s.segments (state_need s.name (list_count s.info) filled_left after) fits)

  pub delete_is_change : (text : List ℕ) → refusal_of m (Delete h.name h.cycle) None ≡ None → text ≡ text_of (item_deleted h.name h.cycle) → IsChangeOf (deleting s h text) s m (Delete h.name h.cycle)
  delete_is_change text free text_is = record {
    free = ap (refusal_of m (Delete h.name h.cycle)) delete_unmarked ∙ free;
    changes = refl;
    kept = refl;
    text = text_is;
    cost = sym (deletes_cost_nothing m h.name h.cycle);
    stands = stand_after;
  }
