-- What a command does to the file and to what a session keeps, whatever its host tells.
use Rattle.std.specs.Prelude.{◌≡◌, ℕ, List, ◌++◌, take, Some}
use Rattle.rio_host.specs.Host.{Unwritten, View}
use Rattle.rio_chain.specs.Becoming.{ChainBecomes}
use Rattle.rio_machine.specs.{State.{State}, declared.command.Command.{Command, TheVariants.{Bad, Get, Scan, Ls}}, declared.command.Outcome.{Outcome, TheVariants.{Refused}}}
use Rattle.rio_machine.specs.declared.refusal.Refusal.{Refusal}
use Rattle.rio_step.specs.{Costs.{cost_of}, Step.{outcome_of}}
use Rattle.rio_session.specs.{Kept.{all_done, changes_by, kept_by}, Session.{FollowsCommand, SessionState, next_of, with_cost}}
pub use Rattle.rio_session.specs.Items.{IsOfKeys}

-- ---- states

-- Classes and keys tell what becomes of the command. They don't tell whether an object, or the rows of a tree, can be had in the
-- version that is asked for: they stand in the file.
abbrev pub IsToldByKeys : Command → Type 0
IsToldByKeys (Get name cycle (Some version)) = ⊥
IsToldByKeys (Scan name (Some class)) = ⊥
IsToldByKeys other = Unit {0}

-- What becomes of the command is what the state's step says, as far as classes and keys tell, and what the session keeps follows it.
pub record FollowsStep (before after : SessionState) (m : State) (c : Command) (outcome : Outcome) : Type 0 where
  pub outcome_is : IsToldByKeys c → outcome ≡ outcome_of (next_of before m c).reply
  pub follows : FollowsCommand before after m c
  pub behind : IsOfKeys after (next_of before m c).state

-- ---- the file

-- After a command that isn't refused the file has the records that its changes make, each at its place, and the session keeps what they
-- make of that.
pub record HasChanged (old new : View) (before after : SessionState) (m : State) (c : Command) : Type 0 where
  pub kept : after ≡ with_cost (cost_of m c) (kept_by before m c)
  pub file : ChainBecomes old new before.segments after.segments (all_done (changes_by before m c))

-- the command only prints, or is refused
abbrev pub WritesNothing : SessionState → State → Command → Type 0
WritesNothing s m (Bad line place) = Unit {0}
WritesNothing s m (Get name cycle version) = Unit {0}
WritesNothing s m (Scan name class) = Unit {0}
WritesNothing s m Ls = Unit {0}
WritesNothing s m other = (refusal : Refusal) × (outcome_of (next_of s m other).reply ≡ Refused refusal)

-- nothing was written
abbrev pub Stays : View → View → Type 0
Stays old new = (new.holds ≡ old.holds) × Unwritten old new

-- ---- the text

-- after a text a prefix of the reply was said
abbrev pub SaysPart : View → List ℕ → List ℕ → Type 0
SaysPart v text reply = (k : ℕ) × (v.said ≡ Some (text ++ take k reply))
