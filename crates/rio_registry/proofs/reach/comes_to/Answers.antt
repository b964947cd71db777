use Rattle.std.proofs.{Common.{arith, sym, refl}, lemmas.Option.{slice_get_within}}
use Rattle.rio_registry.proofs.Ways.{followed_all, followed_falls, followed_met, followed_more}
use Rattle.rio_registry.proofs.reach.comes_to.Goals as goal

pub returns-then-eq : goal.returns-then-eq
returns-then-eq c =
    (λ t. followed_met c.args.classes.now c.args.names c.loop-name.names c.args.last.now c.loop-name.index c.in-Some.name.now c.loop-name.invariant c.in-Some.ensures.name (sym c.if-eq.ensures), λ h. refl)

pub overflow_add-index : goal.overflow_add-index
overflow_add-index c =
    let lt = slice_get_within c.loop-name.names c.loop-name.index c.in-Some.name.now (sym c.in-Some.ensures.name) in
    omega (arith, lt, c.get.ensures.small)

pub loop-name-smaller : goal.loop-name-smaller
loop-name-smaller c =
    let falls = followed_falls c.args.classes.now c.args.names c.loop-name.names c.args.last.now c.loop-name.index c.in-Some.name.now c.loop-name.invariant c.in-Some.ensures.name in
    omega arith

pub loop-name-preserved : goal.loop-name-preserved
loop-name-preserved c =
    followed_more c.args.classes.now c.args.names c.loop-name.names c.add_held.new.names c.args.last.now c.loop-name.index c.in-Some.name.now c.loop-name.invariant c.in-Some.ensures.name (sym c.if-eq.ensures) c.in_ok-add_held.ensures

pub returns : goal.returns
returns c =
    (λ t. absurd cc, λ h. absurd (followed_all c.args.classes.now c.args.names c.loop-name.names c.args.last.now c.loop-name.index c.loop-name.invariant c.in_default.ensures.name h))
