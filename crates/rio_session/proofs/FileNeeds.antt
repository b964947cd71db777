-- Marks by the records of a file, and by what is kept beside it; what a close needs after a command.
use Rattle.std.proofs.Common.{◌≡◌, ℕ, ◌+◌, List, length, map, sum, true, Option, Some, None, refl, sym, ap, ◌∙◌}
use Rattle.std.specs.{Prelude.{if◌then◌else◌}, List.{list_all}}
use Rattle.rio_chain.specs.{Placing.{file_end, record_count}, Segments.{Link, segment_of}, declared.segment.Segment.{Segment}}
use Rattle.rio_machine.specs.{State.{State}, declared.command.Command.{Command}}
use Rattle.rio_state.specs.{Closing.{close_need, is_full, kept_with}, TreeLengths.{PendingRows, pending_in}}
use Rattle.rio_step.specs.{Refusing.{FullMark}, Step.{state_behind}}
use Rattle.rio_effect.specs.FileRuns.{Change, all_changed, lengths_of, mark_of_changes}
use Rattle.rio_recover.specs.Closable.{is_sized}
use Rattle.rio_session.specs.{Due.{need_with}, Items.{IsOfKeys}, Kept.{kept_by}, Marks.{basket_total, command_lengths, lists_after, mark_of_command, state_need, trees_after}}
use Rattle.rio_session.specs.SessionState.{SessionState, kept_trees}
use Rattle.rio_session.proofs.{FilledFiles.{AreFilled, need_in_file}, Needs.{need_by_keys}}

-- ---- marks

abbrev pub mark_by : List Segment → List ℕ → ℕ → Option FullMark
mark_by segments lengths need = if is_full segments lengths need then Some (record { end = file_end segments; wanted = sum lengths }) else None

pub mark_by_file : (pending : PendingRows) (links : List Link) (changes : List Change)
    → mark_of_changes pending links changes ≡ mark_by (map segment_of links) (lengths_of changes) (close_need (kept_with pending (all_changed links changes)))
unfolding mark_of_changes
mark_by_file pending links changes = refl

pub mark_by_kept : (s : SessionState) (m : State) (c : Command)
    → mark_of_command s m c ≡ mark_by s.segments (command_lengths s m c) (state_need s.name (lists_after s c) (trees_after s m c) (state_behind m c))
unfolding mark_of_command
mark_by_kept s m c = refl

-- ---- what a close needs

-- by the records that a state stands on, and by its keys and trees
pub need_of_state : (s : SessionState) (m : State) (links : List Link) → AreFilled s m links → IsOfKeys s m → list_all is_sized s.heads ≡ true → (lists : ℕ)
    → record_count s.segments ≡ 1 + lists + length s.heads + basket_total s.trees → close_need (kept_with (pending_in m) links) ≡ state_need s.name lists s.trees m
need_of_state s m links filled stands sized lists count =
    need_in_file s m links filled
    ∙ ap (λ (n : ℕ). need_with s.name s.heads n s.trees) count
    ∙ sym (need_by_keys s.heads (kept_trees s) m stands.keys stands.trees sized s.name lists s.trees)

-- after a command that isn't refused
pub need_behind : (s : SessionState) (m : State) (c : Command) (after : List Link) → AreFilled (kept_by s m c) (state_behind m c) after → IsOfKeys (kept_by s m c) (state_behind m c)
    → list_all is_sized (kept_by s m c).heads ≡ true → (kept_by s m c).name ≡ s.name → (kept_by s m c).trees ≡ trees_after s m c
    → record_count (kept_by s m c).segments ≡ 1 + lists_after s c + length (kept_by s m c).heads + basket_total (kept_by s m c).trees
    → close_need (kept_with (pending_in (state_behind m c)) after) ≡ state_need s.name (lists_after s c) (trees_after s m c) (state_behind m c)
need_behind s m c after filled stands sized name trees count =
    need_of_state (kept_by s m c) (state_behind m c) after filled stands sized (lists_after s c) count
    ∙ (λ i. state_need (name i) (lists_after s c) (trees i) (state_behind m c))
