-- A command that the state doesn't refuse is refused where there is no room for it, and then nothing changes.
use Rattle.std.proofs.Common.{◌≡◌, ◌∙◌, ℕ, List, sum, Bool, true, false, Option, Some, None, refl, sym, ap}
use Rattle.std.specs.Prelude.{if◌then◌else◌}
use Rattle.rio_chain.specs.Placing.{file_end}
use Rattle.rio_machine.specs.{State.{State}, declared.command.Command.{Command}, declared.command.Outcome.TheVariants.{Refused}, declared.refusal.Refusal.TheVariants.{Full}}
use Rattle.rio_state.specs.Closing.{is_full}
use Rattle.rio_step.specs.{Costs.{cost_of}, Refusing.{FullMark, refusal_of}, ReplyText.{text_of}, Step.{Stepped, outcome_of, refused}}
use Rattle.rio_session.specs.{Marks.{command_lengths, lists_after, mark_of_command, state_need, trees_after}, Session.{next_of}, SessionState.{SessionState}}
use Rattle.rio_step.specs.Step.{state_behind}
use Rattle.rio_session.proofs.{Refused.{changes_refused, kept_refused, refused_full, step_refused}, OnlyReplies.{IsStill}}

module _ (s : SessionState) (m : State) (c : Command) (lengths : List ℕ) (need : ℕ) (lengths_are : command_lengths s m c ≡ lengths) (need_is : state_need s.name (lists_after s c) (trees_after s m c) (state_behind m c) ≡ need) where
  abbrev told_by : Bool → Option FullMark
  told_by b = if b then Some (record { end = file_end s.segments; wanted = sum lengths }) else None

  mark_is : mark_of_command s m c ≡ told_by (is_full s.segments lengths need)
  unfolding mark_of_command
  mark_is = λ i. if is_full s.segments (lengths_are i) (need_is i) then Some (record { end = file_end s.segments; wanted = sum (lengths_are i) }) else None

  pub mark_none : is_full s.segments lengths need ≡ false → mark_of_command s m c ≡ None
  mark_none e = mark_is ∙ ap told_by e

  module _ (free : refusal_of m c None ≡ None) where
    pub free_still : is_full s.segments lengths need ≡ false → refusal_of m c (mark_of_command s m c) ≡ None
    free_still e = ap (refusal_of m c) (mark_none e) ∙ free

    module _ (full : is_full s.segments lengths need ≡ true) where
      refused_is : refusal_of m c (mark_of_command s m c) ≡ Some (Full (file_end s.segments) (sum lengths))
      refused_is = ap (refusal_of m c) (mark_is ∙ ap told_by full) ∙ refused_full m c (record { end = file_end s.segments; wanted = sum lengths }) free

      full_next : next_of s m c ≡ record { state = m; reply = refused (Full (file_end s.segments) (sum lengths)) }
      full_next = step_refused m c (mark_of_command s m c) (Full (file_end s.segments) (sum lengths)) refused_is

      pub full_still : (cost : ℕ) → cost ≡ cost_of m c → IsStill s m c cost
      full_still cost costs = record {
        stays = ap (λ (t : Stepped). t.state) full_next;
        kept = kept_refused s m c (Full (file_end s.segments) (sum lengths)) refused_is;
        changes = changes_refused s m c (Full (file_end s.segments) (sum lengths)) refused_is;
        cost_is = costs;
      }

      pub full_told : text_of (refused (Full (file_end s.segments) (sum lengths))) ≡ text_of (next_of s m c).reply
      full_told = ap (λ (t : Stepped). text_of t.reply) (sym full_next)

      pub full_outcome : outcome_of (next_of s m c).reply ≡ Refused (Full (file_end s.segments) (sum lengths))
      full_outcome = ap (λ (t : Stepped). outcome_of t.reply) full_next
