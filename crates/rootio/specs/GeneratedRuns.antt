-- Only want of room refuses a command of a generated file, and there is room for all of them: none is refused.
use Rattle.std.specs.{Prelude.{◌≡◌, ◌≤◌, ℕ, [], take, slice_get, Option, Some, None}, FinMap.{get}}
use Rattle.rio_gen.specs.Generated.{gen_script, generated_branches, generated_rows, tree_name}
use Rattle.rio_machine.specs.{State.{State, Tree, empty_state}, declared.command.Command.{Command}, declared.command.Outcome.TheVariants.{Accepted}}
use Rattle.rio_session.specs.declared.replies.Replies.TheVariants.{Omitted}
use Rattle.rio_step.specs.{Costs.{HasFileRoom}, Refusing.{FullMark, marked_full, refusal_of}, Runs.{Marks, closed_of, first_mark, state_after}, Step.{outcome_of}}
use Rattle.rootio.specs.Headline.{AllFindRoom, ScriptRun, reply_at}

-- Where there is room for the tree, a command is refused for want of room or not at all.
abbrev pub IsTaken : ℕ → Type 0
IsTaken entries =
    (k : ℕ) (c : Command) (marks : Marks) (mark : Option FullMark) → first_mark marks ≡ None → slice_get (gen_script entries) k ≡ Some c
    → refusal_of (state_after empty_state (take k (gen_script entries)) marks) c mark ≡ marked_full mark

-- behind all commands, none of which lacks room
abbrev pub generated_state : ℕ → State
generated_state entries = state_after empty_state (gen_script entries) []

-- the tree, once its file is closed
abbrev pub generated_tree : ℕ → Tree
generated_tree entries = record { cycle = 2; branches = generated_branches; saved = generated_rows entries; pending = [] }

-- the run on a file that isn't made yet, with these marks
abbrev pub marked_run : ℕ → Marks → ScriptRun
marked_run entries marks = record { start = empty_state; commands = gen_script entries; marks = marks; replies = Omitted; listing = [] }

-- Each command is done, as if no mark were there.
pub record IsDone (entries : ℕ) (marks : Marks) : Type 0 where
  pub accepted : (k : ℕ) (c : Command) → slice_get (gen_script entries) k ≡ Some c → outcome_of (reply_at (marked_run entries marks) k c) ≡ Accepted
  pub state : state_after empty_state (gen_script entries) marks ≡ generated_state entries

-- What 1 to 1,000,000 entries come to: a file that isn't made yet has room for all commands; so each is done where no command is refused for
-- want of room that is there. The close saves all rows.
pub record IsGenerated (entries : ℕ) : Type 0 where
  pub taken : IsTaken entries
  pub room : HasFileRoom 0 empty_state (gen_script entries) []
  pub done : (marks : Marks) → AllFindRoom 0 (marked_run entries marks) → IsDone entries marks
  pub saved : get (closed_of (generated_state entries)).trees tree_name ≡ Some (generated_tree entries)

abbrev pub GeneratedFilesAreWhole : Type 0
GeneratedFilesAreWhole = (entries : ℕ) → 1 ≤ entries → entries ≤ 1000000 → IsGenerated entries
