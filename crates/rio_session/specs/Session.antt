-- A session: what it keeps beside a file, what of a state it stands for, and what a stop leaves while a command is done.
use Rattle.std.specs.Prelude.{◌≡◌, ◌⊎◌, ◌<◌, ◌≤◌, ℕ, ◌+◌, ◌-◌, ◌*◌, ◌^◌, List, [], ◌++◌, take, map, slice_get, Some}
use Rattle.std.specs.{FinMap.{get}, List.{find}}
use Rattle.rio_host.specs.Host.{Elapses, IsQuiet, Leaves, View}
use Rattle.rio_chain.specs.{Chains.{HasChain, HoldsChain}, Placing.{record_count}, Segments.{Link}}
use Rattle.rio_machine.specs.{State.{State, Tree}, declared.command.Command.{Command}, declared.command.Outcome.{Outcome, TheVariants.{Refused}}}
use Rattle.rio_machine.specs.declared.refusal.Refusal.TheVariants.{Full}
use Rattle.rio_step.specs.{Costs.{cost_of, room_limit}, Runs.{saved_of, states_of_run}, Step.{Stepped, outcome_of, step}, Storable.{IsFillable}}
use Rattle.rio_state.specs.{Closing.{held_with, kept_in, kept_with}, TreeLengths.{pending_in}, DirectoryKeys.{AreKeysOf}, KeyedRecords.{info_key, keyed_records}}
use Rattle.rio_state.specs.{Left.{HasOpenHead, IsLeftAs, IsMarkedOpen, info_head}, Reads.{AreRecordsOf}}
use Rattle.rio_effect.specs.{AllItems.{AreAllItems}, TreeChanges.{FileRecords, cuts_of_tree}, TreeCommands.{KeepsTree}}
use Rattle.rio_recover.specs.Trees.{AreTreesOf}
use Rattle.rio_session.specs.{Fills.{FilledTree, is_tree_of, put_in}, Items.{IsOfKeys}, Kept.{kept_after}, Marks.{mark_of_command}, Replying.{Replies, reply_text}}
pub use Rattle.rio_session.specs.SessionState.{SessionState, headers_of, with_cost}

-- ---- what it stands for

-- the records of a file, and the baskets of pending rows among them
abbrev pub file_records : SessionState → List Link → FileRecords
file_records s links = record { links = links; put = put_in s.trees }

-- of each tree the open baskets hold the entries of its pending rows that are left when full baskets are cut off
abbrev pub OpensRows : SessionState → State → Type 0
OpensRows s m = (name : List ℕ) (t : FilledTree) (x : Tree) → find (is_tree_of name) s.trees ≡ Some t → get m.trees name ≡ Some x
    → map (λ b. b.entries) t.fill.branches ≡ map (λ cut. cut.rest) (cuts_of_tree m x)

-- and the baskets that were put since its last save hold those that were cut off
abbrev pub HoldsPutRows : SessionState → State → List Link → Type 0
HoldsPutRows s m links = (name : List ℕ) (x : Tree) → get m.trees name ≡ Some x → KeepsTree (file_records s links) m name x

-- The file reads as the state without its pending rows, and what the session keeps are its segments, classes, keys, trees and name. All of
-- its records count, or are baskets of pending rows; no tree has an outdated header beside the one that counts.
pub record HoldsState (s : SessionState) (m : State) (file : List ℕ) : Type 0 where
  pub links : List Link
  pub chain : HasChain links s.segments file
  pub head : HasOpenHead file s.nbytes_name
  pub records : AreRecordsOf (keyed_records links) (saved_of m)
  pub stands : IsOfKeys s m
  pub keys : AreKeysOf (keyed_records links) s.heads
  pub trees : AreTreesOf (keyed_records links) (headers_of s)
  pub items : AreAllItems links
  pub fillable : IsFillable m
  pub rows : HoldsPutRows s m links
  pub opens : OpensRows s m
  pub info : s.info ≡ info_head (info_key (keyed_records links))
  pub name : (kept_in links).name ≡ s.name
  pub count : (kept_with (pending_in m) links).count ≡ record_count s.segments
  -- what the file holds is bounded by its length when it was opened and the costs of the commands since
  pub held : s.costs < 2 ^ 64 - 1 → held_with (pending_in m) links ≤ 3 * s.opened + s.costs + 10000

-- Session and host stand for the state, with this text said.
pub record StandsFor (v : View) (s : SessionState) (m : State) (text : List ℕ) : Type 0 where
  pub file : List ℕ
  pub holds : v.holds ≡ Some file
  pub said : v.said ≡ Some text
  pub state : HoldsState s m file

-- a host as a session leaves it, also where it tells nothing
pub record IsReady (v : View) (s : SessionState) : Type 0 where
  pub quiet : IsQuiet v
  pub chain : HoldsChain v s.segments

-- ---- what a stop leaves

-- a file that is marked as open and reads as the state without its pending rows
pub record IsOpenAs (m : State) (image : List ℕ) : Type 0 where
  pub left : IsLeftAs (saved_of m) image
  pub marked : IsMarkedOpen image

-- each file that a stop leaves now is marked as open and reads as the state
abbrev pub LeavesOpenAs : View → State → Type 0
LeavesOpenAs v m = (image said : List ℕ) → Leaves v image said → IsOpenAs m image

-- While a command is done: the state of before with the text of before, or the state of after with a prefix of what is printed of the reply.
abbrev pub Steps : Replies → State → Stepped → List ℕ → List ℕ → List ℕ → Type 0
Steps replies m next text image said =
    (IsOpenAs m image × (said ≡ text)) ⊎ (IsOpenAs next.state image × ((k : ℕ) × (said ≡ text ++ take k (reply_text replies next.reply))))

-- the command's step, with its mark
abbrev pub next_of : SessionState → State → Command → Stepped
next_of s m c = step m c (mark_of_command s m c)

-- What a session keeps follows a command: what the command changes is changed, unless it is refused, and its cost is counted.
abbrev pub FollowsCommand : SessionState → SessionState → State → Command → Type 0
FollowsCommand old new m c = new ≡ with_cost (cost_of m c) (kept_after old m c)

-- Want of room is told only where three times the file's length at its opening, with the costs of all commands up to this one,
-- pass what there is room for.
abbrev pub LacksRoomIfFull : SessionState → Outcome → Type 0
LacksRoomIfFull s (Refused (Full end wanted)) = room_limit < 3 * s.opened + s.costs
LacksRoomIfFull s other = Unit {0}

-- a command is done, and its reply printed or omitted
pub record Went (replies : Replies) (old new : View) (before s : SessionState) (m : State) (c : Command) (text : List ℕ) (outcome : Outcome) : Type 0 where
  pub time : Elapses old new (Steps replies m (next_of before m c) text)
  pub stands : StandsFor new s (next_of before m c).state (text ++ reply_text replies (next_of before m c).reply)
  pub follows : FollowsCommand before s m c
  pub outcome_is : outcome ≡ outcome_of (next_of before m c).reply
  pub full : LacksRoomIfFull s outcome

-- while a session is closed: a state of the closing saves, with nothing said
pub record ClosesAs (m : State) (text image said : List ℕ) : Type 0 where
  pub k : ℕ
  pub state : State
  pub state_is : slice_get (states_of_run m [] []) k ≡ Some state
  pub left : IsLeftAs (saved_of state) image
  pub text_is : said ≡ text
