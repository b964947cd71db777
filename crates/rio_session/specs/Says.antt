-- What it is to say a reply, and what a command that does no more answers.
use Rattle.std.specs.Prelude.{◌≡◌, ℕ, ◌+◌, ◌-◌, ◌^◌, min, true, List, [], Result, Ok, Err}
use Rattle.rio_host.specs.{Host.{Becomes, Elapses, Longer, LongerByPart, Speaking, View}, OnlyReads.{OnlyReads}}
use Rattle.rio_session.specs.{Causes.{DiskRose, NoCountRose, SayRose}, Session.{SessionState}}
use Rattle.rio_session.specs.declared.fault.SessionFault.{SessionFault, TheVariants.{HostFault, SayFault, NoMemory}}

-- the text is said and the cost counted, as far as 64 bits hold the costs
pub record Said (text : List ℕ) (cost : ℕ) (old new : View) (before after : SessionState) : Type 0 where
  pub time : Elapses old new (Speaking text old)
  pub holds : new.holds ≡ old.holds
  pub says : Becomes (Longer text) old.said new.said
  pub faults : NoCountRose old new
  pub kept : after ≡ record before { costs = min (before.costs + cost) (2 ^ 64 - 1) }

-- The text could not be said, but for a front of it. An empty text isn't said, so that can't fail.
pub record NotSaid (text : List ℕ) (old new : View) (after : SessionState) : Type 0 where
  pub time : Elapses old new (Speaking text old)
  pub holds : new.holds ≡ old.holds
  pub says : Becomes (LongerByPart text) old.said new.said
  pub some : text ≡ [] → ⊥
  pub faults : SayRose old new
  pub failed : after.failed ≡ true

-- the file could not be read
pub record NotRead (old new : View) (after : SessionState) : Type 0 where
  pub calls : OnlyReads old new
  pub faults : DiskRose old new
  pub failed : after.failed ≡ true

-- memory ran out
pub record NotDone (old new : View) (before after : SessionState) : Type 0 where
  pub calls : OnlyReads old new
  pub faults : NoCountRose old new
  pub kept : after ≡ before

-- The file stays, and the text is said, at this cost; or why not.
abbrev pub SaysReply : {X : Type 0} → List ℕ → ℕ → View → View → SessionState → SessionState → Result X SessionFault → Type 0
SaysReply text cost old new before after (Ok x) = Said text cost old new before after
SaysReply text cost old new before after (Err HostFault) = NotRead old new after
SaysReply text cost old new before after (Err SayFault) = NotSaid text old new after
SaysReply text cost old new before after (Err NoMemory) = NotDone old new before after
