-- The headline: wherever a run of a script is stopped, between or within writes, the file that is left reads, by the walk over
-- its keys, as the classes, objects and saved entries after a prefix of the script's commands and closing saves, one that holds
-- every declaration, put, batch, tree, delete and save whose reply had been said; a run that ends well says exactly the model's replies
-- and leaves the whole script's state. A batch is one command: its objects are all in the file that is left, or none is. The
-- commands may also be those of an import. A generated file is made by such a run too, whose replies aren't said.
use Rattle.std.specs.Prelude.{◌≡◌, ◌<◌, ◌≤◌, ℕ, ◌+◌, List, ◌++◌, length, take, drop, slice_get, Some}
use Rattle.rio_host.specs.Host.{IsQuiet, Leaves, View}
use Rattle.rio_machine.specs.{State.{State}, declared.command.Command.{Command}, declared.refusal.Refusal.TheVariants.{Full}}
use Rattle.rio_step.specs.{Costs.{HasFileRoom}, Runs.{Marks, closed_of, first_step, said_of, saved_of, state_after, states_of_run}, Step.{Reply, refused}}
use Rattle.rio_state.specs.{Left.{ReadsClosedUnlessOpen}, Reads.{ReadsAsState, ReadsClosed}}
use Rattle.rio_session.specs.{Opening.{opening_length}, Replying.{printed_of}, declared.replies.Replies.{Replies, TheVariants.{Printed}}}

-- ---- a run

-- A run of a script: the state that the file reads as at the start, the commands, the marks of those that find no room, whether their
-- replies are said, and what is said after the close, behind all replies.
pub record ScriptRun : Type 0 where
  pub start : State
  pub commands : List Command
  pub marks : Marks
  pub replies : Replies
  pub listing : List ℕ

-- each reply is said
abbrev pub IsPrinted : ScriptRun → Type 0
IsPrinted r = r.replies ≡ Printed

-- the state at the start, behind each command, and behind each closing save
abbrev pub states : ScriptRun → List State
states r = states_of_run r.start r.commands r.marks

-- the last of them
abbrev pub end_state : ScriptRun → State
end_state r = closed_of (state_after r.start r.commands r.marks)

-- the replies of the first j commands, and those of all; nothing where they aren't said
abbrev pub replies : ScriptRun → ℕ → List ℕ
replies r j = printed_of r.replies (said_of r.start (take j r.commands) r.marks)

abbrev pub all_replies : ScriptRun → List ℕ
all_replies r = printed_of r.replies (said_of r.start r.commands r.marks)

-- all that it says
abbrev pub all_texts : ScriptRun → List ℕ
all_texts r = all_replies r ++ r.listing

-- the reply of a command, the k-th
abbrev pub reply_at : ScriptRun → ℕ → Command → Reply
reply_at r k c = (first_step (state_after r.start (take k r.commands) r.marks) c (drop k r.marks)).reply

-- ---- at a stop

-- What was said behind the text of before is a front of all that the run says: the first j replies are whole, and of the next one there
-- is a part at most.
pub record HasSaid (r : ScriptRun) (before said : List ℕ) (j : ℕ) : Type 0 where
  pub bytes : ℕ
  pub text : said ≡ before ++ take bytes (all_texts r)
  pub commands : j ≤ length r.commands
  pub whole : length (replies r j) ≤ bytes
  pub part : IsPrinted r → j < length r.commands → bytes < length (replies r (j + 1))

-- The image reads as the k-th state without its pending rows, by the walk. By the key list an image that isn't marked as open reads
-- as that state too, if the file at the start either was marked as open or read as its state by the key list.
pub record HoldsPrefix (r : ScriptRun) (file image : List ℕ) (k : ℕ) : Type 0 where
  pub state : State
  pub state_is : slice_get (states r) k ≡ Some state
  pub reads : ReadsAsState image (saved_of state)
  pub closed : ReadsClosedUnlessOpen file r.start → ReadsClosedUnlessOpen image (saved_of state)

-- the image reads as the last state, by the walk and by the key list
abbrev pub ReadsAsEnd : ScriptRun → List ℕ → Type 0
ReadsAsEnd r image = ReadsAsState image (end_state r) × ReadsClosed image (end_state r)

-- Of the listing something was said only once the file was closed.
abbrev pub IsClosedWhereListed : ScriptRun → List ℕ → List ℕ → List ℕ → Type 0
IsClosedWhereListed r before image said = length before + length (all_replies r) < length said → ReadsAsEnd r image

-- An image and the text of its moment: each command whose reply was said whole is held, and of the others at most the next one. Where
-- something of the listing was said, all is held, and the file is closed.
pub record IsStopOf (r : ScriptRun) (file before image said : List ℕ) : Type 0 where
  pub j : ℕ
  pub k : ℕ
  pub replies : HasSaid r before said j
  pub prefix : HoldsPrefix r file image k
  pub holds : j ≤ k
  pub next : IsPrinted r → j < length r.commands → k ≤ j + 1
  pub listed : IsClosedWhereListed r before image said

-- ---- at the end

-- the one reply that is no function of the state: want of room
abbrev pub IsWantOfRoom : Reply → Type 0
IsWantOfRoom (refused (Full end wanted)) = Unit {0}
IsWantOfRoom other = ⊥

-- no command is refused for it where the costs of the commands up to this one leave room beside a file of this length
abbrev pub AllFindRoom : ℕ → ScriptRun → Type 0
AllFindRoom opened r = (k : ℕ) (c : Command) → slice_get r.commands k ≡ Some c
    → HasFileRoom opened r.start (take (k + 1) r.commands) r.marks → ¬ IsWantOfRoom (reply_at r k c)

-- nor is one of whose reply something was said
abbrev pub SaidFindRoom : ℕ → ScriptRun → List ℕ → View → Type 0
SaidFindRoom opened r before new = (said : List ℕ) → new.said ≡ Some said → (k : ℕ) (c : Command) → slice_get r.commands k ≡ Some c
    → length before + length (replies r k) < length said
    → HasFileRoom opened r.start (take (k + 1) r.commands) r.marks → ¬ IsWantOfRoom (reply_at r k c)

-- The host is quiet, all was said, and a stop leaves what reads as the last state, by the walk and by the key list. Where the file's length
-- and the costs of the commands so far leave room for a command, its reply wasn't want of room.
pub record IsRunDone (r : ScriptRun) (file before : List ℕ) (new : View) : Type 0 where
  pub quiet : IsQuiet new
  pub said : new.said ≡ Some (before ++ all_texts r)
  pub left : (image said : List ℕ) → Leaves new image said → ReadsAsEnd r image
  pub room : AllFindRoom (opening_length file) r
