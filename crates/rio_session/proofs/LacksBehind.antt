-- Where what a file would hold behind a command passes the limit, the costs up to that command pass what there is room for.
use Rattle.std.proofs.Common.{◌≡◌, ℕ, ◌+◌, ◌-◌, ◌*◌, ◌<◌, ◌≤◌, ◌^◌, min, List, map, arith}
use Rattle.rio_chain.specs.{Placing.{file_end, record_count}, Segments.{Link, segment_of}}
use Rattle.rio_machine.specs.{State.{State}, declared.command.Command.{Command}}
use Rattle.rio_state.specs.{Closing.{KeptRecords, end_limit, free_length, held_with, list_length}, Sizes.{close_size}, TreeLengths.{pending_in}}
use Rattle.rio_step.specs.{Costs.{cost_of, room_limit}, Step.{state_behind}}
use Rattle.rio_session.specs.{Due.{due_of, kept_records, need_with}, Kept.{kept_by}, Session.{HoldsState}, SessionState.{SessionState}}
use Rattle.rio_session.proofs.{FilledFiles.{AreFilled, held_most}, FillSums.{due_baskets, need_by_due}, Lacking.{lacking}}

module _ (s : SessionState) (m : State) (links : List Link) (filled : AreFilled s m links) (same : map segment_of links ≡ s.segments) where
  abbrev mine : KeptRecords
  mine = kept_records s.name s.heads (record_count s.segments) s.trees

  need_most : need_with s.name s.heads (record_count s.segments) s.trees ≤ (due_of s.trees).bytes + (list_length mine + 3 + (free_length mine + 3))
  unfolding close_size
  need_most = omega (arith, need_by_due s.name s.heads (record_count s.segments) s.trees, due_baskets s.trees)

  -- a file holds END and what a close needs
  pub end_held : file_end s.segments + need_with s.name s.heads (record_count s.segments) s.trees ≤ held_with (pending_in m) links
  end_held = omega (arith, held_most s m links filled same, need_most)

pub lacks_behind : (s : SessionState) (m : State) (c : Command) (file : List ℕ) (h : HoldsState s m file) (after : List Link) → AreFilled (kept_by s m c) (state_behind m c) after → map segment_of after ≡ (kept_by s m c).segments
    → held_with (pending_in (state_behind m c)) after ≤ held_with (pending_in m) h.links + cost_of m c
    → end_limit < file_end (kept_by s m c).segments + need_with (kept_by s m c).name (kept_by s m c).heads (record_count (kept_by s m c).segments) (kept_by s m c).trees
    → (cost : ℕ) → cost ≡ cost_of m c → room_limit < 3 * s.opened + min (s.costs + cost) (2 ^ 64 - 1)
lacks_behind s m c file h after filled same grows much cost cost_is =
    lacking (3 * s.opened) s.costs cost (held_with (pending_in m) h.links) h.held (omega (arith, end_held (kept_by s m c) (state_behind m c) after filled same, grows, much, cost_is))
