use Rattle.std.proofs.Common.{ℕ, List, Option, Some, ◌/◌, length, take, inl, refl, ap, rules}
use Rattle.rio_host.specs.{Host.{Speaking}, MemHost.{view_of}}
use Rattle.rio_host.proofs.{Moments.{elapses_as}, Calls.{say_still, say_holds, say_text, say_time, says_in_parts, speaking_front}}
use Rattle.rio_host.proofs.memory.MemHostHost.say.Goals as goal

abbrev some : List ℕ → Option (List ℕ)
some l = Some l

pub invariant_of-self : goal.invariant_of-self
invariant_of-self c = record { still = say_still c.args.self.now.recording c.say.new.self _ c.in-Ok.ensures.ok }

pub returns-in-Ok-clause-failed : goal.returns-in-Ok-clause-failed
returns-in-Ok-clause-failed c = (_, refl, (length c.args.bytes.now / 2, say_text c.args.self.now.recording c.say.new.self _ c.in-Ok.ensures.ok))

pub returns-in-Ok-clause-time : goal.returns-in-Ok-clause-time
returns-in-Ok-clause-time c =
    elapses_as (Speaking c.args.bytes.now (view_of c.args.self.now)) (Speaking (take (length c.args.bytes.now / 2) c.args.bytes.now) (view_of c.args.self.now)) (say_time c.args.self.now.recording c.say.new.self _ c.in-Ok.ensures.ok c.args.self.now.disk_faults c.args.self.now.say_faults c.args.self.now.reads _ _ _)
    (λ image said speaks. speaking_front (length c.args.bytes.now / 2) c.args.bytes.now (view_of c.args.self.now) image said speaks)

pub returns-in-Ok-clause-holds : goal.returns-in-Ok-clause-holds
returns-in-Ok-clause-holds c = ap (λ (l : List ℕ). some l) (say_holds c.args.self.now.recording c.say.new.self _ c.in-Ok.ensures.ok)

pub returns-in-Ok-clause-fails : goal.returns-in-Ok-clause-fails
returns-in-Ok-clause-fails c = inl (search rules, search rules, says_in_parts c.args.self.now.recording c.say.new.self _ c.in-Ok.ensures.ok c.args.self.now.still c.args.self.now.disk_faults c.args.self.now.say_faults c.args.self.now.reads 0 0 0)

pub invariant_of-self-in-Ok-say : goal.invariant_of-self-in-Ok-say
invariant_of-self-in-Ok-say c = record { still = say_still c.args.self.now.recording c.say-2.new.self c.args.bytes.now c.in-Ok-say.ensures.ok }

pub returns-in-Ok-say-clause-said : goal.returns-in-Ok-say-clause-said
returns-in-Ok-say-clause-said c = (_, refl, say_text c.args.self.now.recording c.say-2.new.self c.args.bytes.now c.in-Ok-say.ensures.ok)

pub returns-in-Ok-say-clause-time : goal.returns-in-Ok-say-clause-time
returns-in-Ok-say-clause-time c = say_time c.args.self.now.recording c.say-2.new.self c.args.bytes.now c.in-Ok-say.ensures.ok c.args.self.now.disk_faults c.args.self.now.say_faults c.args.self.now.reads _ _ _

pub returns-in-Ok-say-clause-holds : goal.returns-in-Ok-say-clause-holds
returns-in-Ok-say-clause-holds c = ap (λ (l : List ℕ). some l) (say_holds c.args.self.now.recording c.say-2.new.self c.args.bytes.now c.in-Ok-say.ensures.ok)

pub returns-in-Ok-say-clause-fails : goal.returns-in-Ok-say-clause-fails
returns-in-Ok-say-clause-fails c = (search rules, search rules, says_in_parts c.args.self.now.recording c.say-2.new.self c.args.bytes.now c.in-Ok-say.ensures.ok c.args.self.now.still c.args.self.now.disk_faults c.args.self.now.say_faults c.args.self.now.reads 0 0 0)
