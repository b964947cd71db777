-- A command's changes by the records of a file agree with those by what is kept beside it.
use Rattle.std.proofs.Common.{◌≡◌, ℕ, List, map, None}
use Rattle.rio_chain.specs.Segments.{Link, segment_of}
use Rattle.rio_machine.specs.{State.{State}, declared.command.Command.{Command}}
use Rattle.rio_state.specs.TreeLengths.{pending_in}
use Rattle.rio_step.specs.{Refusing.{refusal_of}, Step.{state_behind}}
use Rattle.rio_effect.specs.FileRuns.{Change, all_changed, changes_of, mark_of_changes, put_after}
use Rattle.rio_session.specs.{Fills.{put_in}, Kept.{all_done, changes_by, kept_by}, Marks.{mark_of_command}, Session.{file_records}, SessionState.{SessionState}}

-- Where the state doesn't refuse the command, they make the same records, in the segments that are kept, with the same baskets of pending
-- rows among them, and find the same room.
pub record AgreesWithFile (s : SessionState) (m : State) (c : Command) (links : List Link) : Type 0 where
  pub changes : List Change
  pub changes_are : changes_of s.datime (file_records s links) m c ≡ changes
  pub done : refusal_of m c None ≡ None → all_changed links changes ≡ all_done (changes_by s m c) links
  pub segments : refusal_of m c None ≡ None → map segment_of (all_changed links changes) ≡ (kept_by s m c).segments
  pub puts : refusal_of m c None ≡ None → (name : List ℕ) → put_after s.datime (file_records s links) m c name ≡ put_in (kept_by s m c).trees name
  pub mark : refusal_of m c None ≡ None → mark_of_changes (pending_in (state_behind m c)) links changes ≡ mark_of_command s m c
