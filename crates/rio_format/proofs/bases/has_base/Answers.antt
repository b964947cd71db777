use Rattle.std.proofs.{Common.{◌∙◌, ◌≡◌, ◌-◌, ℕ, suc, length, subst, sym, arith, ap, length-append}, lemmas.Int.{to_z-of_z}}
use Rattle.rio_format.specs.{Bases.{Expanded, HaveVisitedBases, any_below}, Lists.{listed}}
use Rattle.rio_format.proofs.BaseLaws.{direct_below, none_below, nothing_below, whole_round}
use Rattle.rio_format.proofs.bases.has_base.Goals as goal

pub loop-left-preserved : goal.loop-left-preserved
loop-left-preserved c =
    let classes = listed c.args.classes.now in
    let target = c.args.target.now in
    let old = c.loop-left.visits in
    let new = c.expand_round.new.visits in
    let left : suc (c.loop-left.left - 1) ≡ c.loop-left.left = omega arith in
    let x : Expanded classes target old new (length old) = c.in_ok-expand_round.ensures.expanded c.if-branch.false in
    record {
      begin = omega (arith, c.len-end.ensures, ap length x.is, length-append old x.more);
      closed = subst (HaveVisitedBases classes target new) (sym c.len-end.ensures) x.closed;
      same = whole_round classes target (c.loop-left.left - 1) old new x ∙ ap (λ (k : ℕ). any_below classes target k old) left ∙ c.loop-left.invariant.same;
    }

pub returns-then-begin-end : goal.returns-then-begin-end
returns-then-begin-end c =
    let classes = listed c.args.classes.now in
    let target = c.args.target.now in
    let visits = c.loop-left.visits in
    let all : c.loop-left.begin ≡ length visits = omega (arith, c.len-end.ensures) in
    simp (to_z-of_z, c.ranges.version) at (sym (none_below classes target visits (subst (HaveVisitedBases classes target visits) all c.loop-left.invariant.closed) c.loop-left.left) ∙ c.loop-left.invariant.same)

pub returns-then-branch : goal.returns-then-branch
returns-then-branch c =
    let classes = listed c.args.classes.now in
    let target = c.args.target.now in
    let visits = c.loop-left.visits in
    let left : suc (c.loop-left.left - 1) ≡ c.loop-left.left = omega arith in
    let found = direct_below classes target (c.loop-left.left - 1) visits (c.in_ok-expand_round.ensures.found c.if-branch.true) in
    simp (to_z-of_z, c.ranges.version) at (sym found ∙ ap (λ (k : ℕ). any_below classes target k visits) left ∙ c.loop-left.invariant.same)

pub returns : goal.returns
returns c =
    let classes = listed c.args.classes.now in
    let target = c.args.target.now in
    let visits = c.loop-left.visits in
    let end : 0 ≡ c.loop-left.left = omega arith in
    simp (to_z-of_z, c.ranges.version) at (sym (nothing_below classes target visits) ∙ ap (λ (k : ℕ). any_below classes target k visits) end ∙ c.loop-left.invariant.same)
