use Rattle.std.proofs.Common.{◌≡◌, ◌∙◌, ◌++◌, ◌∷◌, [], List, Option, Ok, Err, length, refl, sym, ap, subst, arith, rules}
use Rattle.std.proofs.lemmas.List.{length-append}
use Rattle.rio_host.proofs.ReadsLaws.{reads_none}
use Rattle.rio_format.specs.declared.class.ClassDef.{ClassDef}
use Rattle.rio_key.specs.declared.head.KeyHead.{KeyHead}
use Rattle.rio_chain.specs.Chains.{HoldsChain}
use Rattle.rio_model.specs.{Declaring.{declared}, StateClasses.{StateClasses}}
use Rattle.rio_machine.specs.declared.command.Outcome.{Outcome}
use Rattle.rio_recover.specs.Classes.{HasListCycle}
use Rattle.rio_session.specs.{Lists.{CanBeListedAt}, Session.{SessionState}}
use Rattle.rio_session.specs.declared.fault.SessionFault.{TheVariants.{HostFault, SayFault}}
use Rattle.rio_session.proofs.ListCalls.{changes_before, last_forgotten, not_begun, not_done, still_listed, with_declared}
use Rattle.rio_session.proofs.session.Session.declare_at.Goals as goal

pub invariant_of-self : goal.invariant_of-self
invariant_of-self g c =
    let same : c.declare.new.self ≡ c.self.inside.registry = search rules in
    record {
      classes = subst StateClasses (sym same) c.self.invariant.classes;
      listed = subst (HasListCycle c.self.inside.info) (sym same) c.self.invariant.listed;
      kept = c.self.invariant.kept;
      fresh = c.self.invariant.fresh;
      trees = c.self.invariant.trees;
      due = c.self.invariant.due;
      bytes = c.self.invariant.bytes;
      directory = c.self.invariant.directory;
    }

pub returns-then-is_err-clause-changes : goal.returns-then-is_err-clause-changes
returns-then-is_err-clause-changes g c =
    let same : c.declare.new.self ≡ c.self.inside.registry = search rules in
    let all = same ∙ ap (λ (s : SessionState). s.classes) c.self.view_is in
    record { calls = reads_none (g.H.Host.view c.args.host.now); faults = (refl, refl); kept = λ i. record (c.self.view_is i) { classes = all i } }

pub invariant_of-self-2 : goal.invariant_of-self-2
invariant_of-self-2 g c =
    let d = c.args.new in
    let s = c.args.self.now in
    let grown : c.declare.new.self ≡ c.self.inside.registry ++ declared c.self.inside.registry d.class ∷ [] = search rules in
    let all = ap (λ (x : SessionState). x.classes) (with_declared _ s d c.declare.new.self c.self.view_is c.requires.can grown) in
    record {
      classes = subst StateClasses (sym all) c.requires.can.after;
      listed = still_listed c.self.inside.info s.classes c.declare.new.self d.class all (subst (HasListCycle c.self.inside.info) (ap (λ (x : SessionState). x.classes) c.self.view_is) c.self.invariant.listed);
      kept = c.self.invariant.kept;
      fresh = c.self.invariant.fresh;
      trees = c.self.invariant.trees;
      due = c.self.invariant.due;
      bytes = c.self.invariant.bytes;
      directory = c.self.invariant.directory;
    }

pub write_list-requires-clause-ready : goal.write_list-requires-clause-ready
write_list-requires-clause-ready g c = record {
  quiet = c.requires.ready.quiet;
  chain = subst (λ (x : SessionState). HoldsChain (g.H.Host.view c.args.host.now) x.segments) (sym c.self.view_is) c.requires.ready.chain;
}

pub write_list-requires-clause-at : goal.write_list-requires-clause-at
write_list-requires-clause-at g c =
    let d = c.args.new in
    let s = c.args.self.now in
    let grown : c.declare.new.self ≡ c.self.inside.registry ++ declared c.self.inside.registry d.class ∷ [] = search rules in
    let between = with_declared _ s d c.declare.new.self c.self.view_is c.requires.can grown in
    subst (λ (x : SessionState). CanBeListedAt x c.args.place) (sym between) c.requires.at

pub forget_last-requires : goal.forget_last-requires
forget_last-requires g c =
    let d = c.args.new in
    let s = c.args.self.now in
    let grown : c.declare.new.self ≡ c.self.inside.registry ++ declared c.self.inside.registry d.class ∷ [] = search rules in
    let between = with_declared _ s d c.declare.new.self c.self.view_is c.requires.can grown in
    let h = not_done Outcome _ _ _ _ _ c.in-Err-NoMemory.field-0 c.in-Err-NoMemory.field-0-is c.in-Err-NoMemory.ensures.changes in
    omega (arith, ap (λ (x : SessionState). length x.classes) (c.self-2.view_is ∙ h.kept ∙ between), length-append s.classes (d.class ∷ []))

pub invariant_of-self-in-Err-NoMemory : goal.invariant_of-self-in-Err-NoMemory
invariant_of-self-in-Err-NoMemory g c =
    let d = c.args.new in
    let s = c.args.self.now in
    let grown : c.declare.new.self ≡ c.self.inside.registry ++ declared c.self.inside.registry d.class ∷ [] = search rules in
    let between = with_declared _ s d c.declare.new.self c.self.view_is c.requires.can grown in
    let h = not_done Outcome _ _ _ _ _ c.in-Err-NoMemory.field-0 c.in-Err-NoMemory.field-0-is c.in-Err-NoMemory.ensures.changes in
    let is = c.self-2.view_is ∙ h.kept ∙ between in
    let old : c.self.inside.registry ≡ s.classes = ap (λ (x : SessionState). x.classes) c.self.view_is in
    let info : c.self.inside.info ≡ c.self-2.inside.info = ap (λ (x : SessionState). x.info) (sym (c.self-2.view_is ∙ h.kept)) in
    let back = last_forgotten s d c.self-2.inside.registry c.forget_last.new.self (ap (λ (x : SessionState). x.classes) is) c.forget_last.ensures in
    let same : c.self.inside.registry ≡ c.forget_last.new.self = old ∙ sym back in
    record {
      classes = subst StateClasses same c.self.invariant.classes;
      listed = subst (λ (x : Option KeyHead × List ClassDef). HasListCycle x.0 x.1) (λ i. (info i, same i)) c.self.invariant.listed;
      kept = c.self-2.invariant.kept;
      fresh = c.self-2.invariant.fresh;
      trees = c.self-2.invariant.trees;
      due = c.self-2.invariant.due;
      bytes = c.self-2.invariant.bytes;
      directory = c.self-2.invariant.directory;
    }

pub returns-in-Err-NoMemory-clause-changes : goal.returns-in-Err-NoMemory-clause-changes
returns-in-Err-NoMemory-clause-changes g c =
    let d = c.args.new in
    let s = c.args.self.now in
    let grown : c.declare.new.self ≡ c.self.inside.registry ++ declared c.self.inside.registry d.class ∷ [] = search rules in
    let between = with_declared _ s d c.declare.new.self c.self.view_is c.requires.can grown in
    let h = not_done Outcome _ _ _ _ _ c.in-Err-NoMemory.field-0 c.in-Err-NoMemory.field-0-is c.in-Err-NoMemory.ensures.changes in
    not_begun s d _ between (g.H.Host.view c.args.host.now) (g.H.Host.view c.write_list.new.host) c.write_list.new.self _ c.self-2.view_is c.forget_last.new.self h c.forget_last.ensures

pub returns-in-Ok-clause-changes : goal.returns-in-Ok-clause-changes
returns-in-Ok-clause-changes g c =
    let d = c.args.new in
    let s = c.args.self.now in
    let grown : c.declare.new.self ≡ c.self.inside.registry ++ declared c.self.inside.registry d.class ∷ [] = search rules in
    let between = with_declared _ s d c.declare.new.self c.self.view_is c.requires.can grown in
    changes_before s d _ between (g.H.Host.view c.args.host.now) (g.H.Host.view c.write_list.new.host) c.args.place c.args.text.now c.args.cost c.write_list.new.self
    (Ok c.in-Ok.outcome) (λ e. absurd cc) c.in-Ok.ensures.changes

pub returns-in-Err-HostFault-clause-changes : goal.returns-in-Err-HostFault-clause-changes
returns-in-Err-HostFault-clause-changes g c =
    let d = c.args.new in
    let s = c.args.self.now in
    let grown : c.declare.new.self ≡ c.self.inside.registry ++ declared c.self.inside.registry d.class ∷ [] = search rules in
    let between = with_declared _ s d c.declare.new.self c.self.view_is c.requires.can grown in
    changes_before s d _ between (g.H.Host.view c.args.host.now) (g.H.Host.view c.write_list.new.host) {X = Outcome} c.args.place c.args.text.now c.args.cost c.write_list.new.self
    (Err HostFault) (λ e. absurd cc) (rw c.in-Err-HostFault.field-0-is at c.in-Err-HostFault.ensures.changes)

pub returns-in-Err-SayFault-clause-changes : goal.returns-in-Err-SayFault-clause-changes
returns-in-Err-SayFault-clause-changes g c =
    let d = c.args.new in
    let s = c.args.self.now in
    let grown : c.declare.new.self ≡ c.self.inside.registry ++ declared c.self.inside.registry d.class ∷ [] = search rules in
    let between = with_declared _ s d c.declare.new.self c.self.view_is c.requires.can grown in
    changes_before s d _ between (g.H.Host.view c.args.host.now) (g.H.Host.view c.write_list.new.host) {X = Outcome} c.args.place c.args.text.now c.args.cost c.write_list.new.self
    (Err SayFault) (λ e. absurd cc) (rw c.in-Err-SayFault.field-0-is at c.in-Err-SayFault.ensures.changes)
