-- What the changes of a command make of the state that a session stands for.
use Rattle.std.specs.Prelude.{◌≡◌, ◌<◌, ◌≤◌, ℕ, ◌+◌, List, length, take, None}
use Rattle.rio_chain.specs.{Placing.{record_count}, Segments.{IsChain, Link}}
use Rattle.rio_machine.specs.{State.{State}, declared.command.Command.{Command}}
use Rattle.rio_state.specs.{Closing.{held_with, kept_in, kept_with}, TreeLengths.{pending_in}, DirectoryKeys.{AreKeysOf}, KeyedRecords.{info_key, keyed_records}, Left.{info_head}, Reads.{AreRecordsOf}}
use Rattle.rio_step.specs.{Costs.{cost_of}, Refusing.{refusal_of}, ReplyText.{text_of}, Runs.{saved_of}, Step.{reply_to, state_behind}, Storable.{IsFillable}}
use Rattle.rio_effect.specs.AllItems.{AreAllItems}
use Rattle.rio_recover.specs.Trees.{AreTreesOf}
use Rattle.rio_session.specs.{Items.{IsOfKeys}, Changing.{Changing}, Kept.{all_done, changes_by, kept_by}, Marks.{mark_of_command}, Session.{HoldsPutRows, OpensRows}, SessionState.{SessionState, headers_of}}

-- the links after the first k changes of a command that isn't refused
abbrev pub links_by : SessionState → State → Command → ℕ → List Link → List Link
links_by s m c k links = all_done (take k (changes_by s m c)) links

-- before each of the first k changes some file had the links that there were then
abbrev pub ArePassed : SessionState → State → Command → ℕ → List Link → Type 0
ArePassed s m c k links = (j : ℕ) → j < k → (image : List ℕ) × IsChain (links_by s m c j links) image

-- what is kept beside a file after a command's changes is that of the links
pub record IsKeptAfter (s : SessionState) (m : State) (c : Command) (links after : List Link) : Type 0 where
  pub keys : AreKeysOf (keyed_records after) (kept_by s m c).heads
  pub records : AreRecordsOf (keyed_records after) (saved_of (state_behind m c))
  pub trees : AreTreesOf (keyed_records after) (headers_of (kept_by s m c))
  pub items : AreAllItems after
  pub fillable : IsFillable (state_behind m c)
  pub rows : HoldsPutRows (kept_by s m c) (state_behind m c) after
  pub opens : OpensRows (kept_by s m c) (state_behind m c)
  pub info : (kept_by s m c).info ≡ info_head (info_key (keyed_records after))
  pub name : (kept_in after).name ≡ (kept_in links).name
  pub count : (kept_with (pending_in (state_behind m c)) after).count ≡ record_count (kept_by s m c).segments
  pub held : held_with (pending_in (state_behind m c)) after ≤ held_with (pending_in m) links + cost_of m c

-- After the changes of a command, on a file of these links. One of the changes, the one of this number counted from 0, takes effect: up
-- to it the records stand for the state from before, and after it for that of after. A fill changes nothing that is saved: none of its
-- changes takes effect, and its number is how many there are. At the end what is kept is that of the file.
pub record TakesEffect (s : SessionState) (m : State) (c : Command) (links : List Link) : Type 0 where
  pub turn : ℕ
  pub within : turn ≤ length (changes_by s m c)
  pub early : (k : ℕ) → k ≤ turn → ArePassed s m c k links → AreRecordsOf (keyed_records (links_by s m c k links)) (saved_of m)
  pub late : (k : ℕ) → turn < k → k ≤ length (changes_by s m c) → ArePassed s m c k links → AreRecordsOf (keyed_records (links_by s m c k links)) (saved_of (state_behind m c))
  pub ends : ArePassed s m c (length (changes_by s m c)) links → IsKeptAfter s m c links (all_done (changes_by s m c) links)

-- the command's changes, with what is kept, the reply and the cost, for a state of the kept keys that doesn't refuse it
pub record IsChangeOf (p : Changing) (s : SessionState) (m : State) (c : Command) : Type 0 where
  pub free : refusal_of m c (mark_of_command s m c) ≡ None
  pub changes : p.changes ≡ changes_by s m c
  pub kept : p.kept ≡ kept_by s m c
  pub text : p.text ≡ text_of (reply_to m c)
  pub cost : p.cost ≡ cost_of m c
  pub stands : IsOfKeys (kept_by s m c) (state_behind m c)
