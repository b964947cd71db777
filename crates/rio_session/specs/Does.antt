-- What a command does: to the file, to the text, and to what the session keeps. Its reply is printed or omitted.
use Rattle.std.specs.Prelude.{◌≡◌, ℕ, List, IfOk, OnOk, OnErr, IsErrOf, Result}
use Rattle.rio_host.specs.{Host.{Any, Becomes, Elapses, View}, OnlyReads.{Grown, OnlyReads}}
use Rattle.rio_machine.specs.{State.{State}, declared.command.Command.{Command}, declared.command.Outcome.{Outcome, TheVariants.{Accepted}}}
use Rattle.rio_step.specs.{Costs.{cost_of}, Step.{outcome_of}}
use Rattle.rio_session.specs.Behind.{FollowsStep, HasChanged, IsOfKeys, SaysPart, Stays, WritesNothing}
use Rattle.rio_session.specs.Causes.{IsSaid, IsSessionCause, SaysNothing, StaysIfRefused, fails_by}
use Rattle.rio_session.specs.Replying.{Replies, reply_text}
use Rattle.rio_session.specs.Session.{IsReady, LacksRoomIfFull, LeavesOpenAs, SessionState, StandsFor, Steps, Went, next_of, with_cost}
use Rattle.rio_session.specs.declared.fault.SessionFault.{SessionFault, TheVariants.{SayFault, NoMemory}}
use Rattle.rio_session.specs.declared.replies.Replies.TheVariants.{Printed, Omitted}

-- What becomes of the file. While a command fails, each crash image reads as the state from before or after it; a refused one, and one
-- that only prints, writes nothing; after an accepted one the file has the records that it makes; and what was done stands where its
-- reply can't be said.
pub record FileAfter (replies : Replies) (old new : View) (before after : SessionState) (c : Command) (answer : Result Outcome SessionFault) : Type 0 where
  pub any_moment : OnErr answer ((m : State) (text : List ℕ) → StandsFor old before m text → Elapses old new (Steps replies m (next_of before m c) text))
  pub told : Becomes Any old.holds new.holds
  pub refused : IfOk answer (StaysIfRefused old new)
  pub unwritten : (m : State) → IsOfKeys before m → WritesNothing before m c → Stays old new
  pub changed : IfOk answer (λ outcome. (m : State) → IsOfKeys before m → outcome ≡ Accepted → HasChanged old new before after m c)
  pub unsaid : IsErrOf answer SayFault → (m : State) (text : List ℕ) → StandsFor old before m text → LeavesOpenAs new (next_of before m c).state

-- What becomes of the text: it grows by what is printed of the reply, by a prefix of that, or not at all. Want of room is told only where room is wanting.
pub record TextAfter (replies : Replies) (old new : View) (before after : SessionState) (c : Command) (answer : Result Outcome SessionFault) : Type 0 where
  pub said : Becomes Grown old.said new.said
  pub silent : SaysNothing answer → new.said ≡ old.said
  pub part : (m : State) (text : List ℕ) → StandsFor old before m text → SaysPart new text (reply_text replies (next_of before m c).reply)
  pub lacks : IsSaid answer → (m : State) (text : List ℕ) → StandsFor old before m text → LacksRoomIfFull (with_cost (cost_of m c) before) (outcome_of (next_of before m c).reply)

-- What becomes of what is kept, and what is returned: the state's step is done, or why not. By the classes and keys alone, whatever the host
-- holds, what is kept follows the step, and so does the outcome but of a get in a version of the object's class.
pub record KeptAfter (replies : Replies) (old new : View) (before after : SessionState) (c : Command) (answer : Result Outcome SessionFault) : Type 0 where
  pub done : IfOk answer (λ outcome. (m : State) (text : List ℕ) → StandsFor old before m text → Went replies old new before after m c text outcome)
  pub goes : IfOk answer (λ outcome. (m : State) → IsOfKeys before m → FollowsStep before after m c outcome)
  pub ready : OnOk answer (IsReady new after)
  pub failed : after.failed ≡ fails_by answer
  pub no_memory : IsErrOf answer NoMemory → (after ≡ before) × OnlyReads old new
  pub cause : IsSessionCause old new answer

-- Nothing is printed, so printing can't fail.
pub record IsUnprinted {X : Type 0} (old new : View) (answer : Result X SessionFault) : Type 0 where
  pub said : new.said ≡ old.said
  pub no_fault : IsErrOf answer SayFault → ⊥

-- where replies are omitted
abbrev pub OmitsReply : {X : Type 0} → Replies → View → View → Result X SessionFault → Type 0
OmitsReply Printed old new answer = Unit {0}
OmitsReply Omitted old new answer = IsUnprinted old new answer

pub record Does (replies : Replies) (old new : View) (before after : SessionState) (c : Command) (answer : Result Outcome SessionFault) : Type 0 where
  pub file : FileAfter replies old new before after c answer
  pub text : TextAfter replies old new before after c answer
  pub kept : KeptAfter replies old new before after c answer
  pub omits : OmitsReply replies old new answer
