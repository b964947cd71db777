use Rattle.std.proofs.Common.{◌≡◌, ◌∷◌, ◌++◌, [], sym, subst}
use Rattle.std.specs.Prelude.{MatchBool}
use Rattle.rio_model.specs.StateClasses.{IsDeclared}
use Rattle.rio_recover.proofs.Declared.{DeclaringSoFar, all_declared, none_declared, none_yet, one_declared}
use Rattle.rio_recover.proofs.classes.declare_all.Goals as goal

pub loop-class-init : goal.loop-class-init
loop-class-init c = subst (DeclaringSoFar c.args.classes.now 0) (sym c.new-registry.ensures) (none_yet c.args.classes.now)

pub returns-then-not-branch : goal.returns-then-not-branch
returns-then-not-branch c =
    let class = c.class-item.result in
    let old = c.loop-class.registry in
    let no = subst (λ b. MatchBool b (IsDeclared old class × (c.declare_next.new.registry ≡ old ++ class ∷ [])) (¬ IsDeclared old class)) c.if-not-branch.true c.in_ok-declare_next.ensures in
    none_declared c.args.classes.now c.loop-class.class-index class c.loop-class-test.true c.class-item.is old c.loop-class.invariant no

pub loop-class-preserved : goal.loop-class-preserved
loop-class-preserved c =
    let class = c.class-item.result in
    let old = c.loop-class.registry in
    let yes = subst (λ b. MatchBool b (IsDeclared old class × (c.declare_next.new.registry ≡ old ++ class ∷ [])) (¬ IsDeclared old class)) c.if-not-branch.false c.in_ok-declare_next.ensures in
    one_declared c.args.classes.now c.loop-class.class-index class c.loop-class-test.true c.class-item.is old c.declare_next.new.registry c.loop-class.invariant yes.0 yes.1

pub returns : goal.returns
returns c = all_declared c.args.classes.now c.loop-class.class-index c.loop-class.registry c.loop-class-test.false c.loop-class.invariant
