use Rattle.std.proofs.Common.{◌≡◌, ◌+◌, ℕ, List, length, min, take, drop, false, true, sym, ap, subst, ◌∙◌, arith}
use Rattle.rio_format.specs.{Counts.{SaysAsFirst}, declared.value.Value.{Value}}
use Rattle.rio_machine.specs.Rows.{columns_fit, columns_of, leaf_numbers_after, shape_columns}
use Rattle.rio_tree.specs.WrittenLaws.{stated_defs}
use Rattle.rio_entry.proofs.FitsBehind.{branch_fails, branch_fits, drop_min, take_min}
use Rattle.rio_entry.proofs.fitting.row_fits.Goals as goal

pub returns-then-not-branch : goal.returns-then-not-branch
returns-then-not-branch c =
    let classes = c.args.classes.now in
    let b = c.branch-item.result in
    let cs = shape_columns b.def.shape in
    let rest = c.loop-branch.rest.now in
    let i = c.loop-branch.invariant in
    let n : c.min.result ≡ min (length cs) (length rest) = omega (arith, c.min.ensures, c.value_count.ensures) in
    let values : c.split_at.result.0.now ≡ take (length cs) rest = c.split_at.ensures.front ∙ ap (λ (m : ℕ). take m rest) n ∙ take_min (length cs) rest in
    let told = c.in_ok-values_stand.ensures i.0 i.1 in
    let none : columns_fit classes cs (take (length cs) rest) i.0 ≡ false = ap (λ (vs : List Value). columns_fit classes cs vs i.0) (sym values) ∙ sym told.fits ∙ c.if-not-branch.true in
    sym (branch_fails classes c.args.branches.now c.loop-branch.branch-index b (omega arith) c.branch-item.is rest i.0 _ none i.2)

pub loop-branch-preserved : goal.loop-branch-preserved
loop-branch-preserved c =
    let classes = c.args.classes.now in
    let b = c.branch-item.result in
    let cs = shape_columns b.def.shape in
    let rest = c.loop-branch.rest.now in
    let i = c.loop-branch.invariant in
    let n : c.min.result ≡ min (length cs) (length rest) = omega (arith, c.min.ensures, c.value_count.ensures) in
    let values : c.split_at.result.0.now ≡ take (length cs) rest = c.split_at.ensures.front ∙ ap (λ (m : ℕ). take m rest) n ∙ take_min (length cs) rest in
    let others : c.split_at.result.1.now ≡ drop (length cs) rest = c.split_at.ensures.back ∙ ap (λ (m : ℕ). drop m rest) n ∙ drop_min (length cs) rest in
    let told = c.in_ok-values_stand.ensures i.0 i.1 in
    let fit : columns_fit classes cs (take (length cs) rest) i.0 ≡ true = ap (λ (vs : List Value). columns_fit classes cs vs i.0) (sym values) ∙ sym told.fits ∙ c.if-not-branch.false in
    let now = leaf_numbers_after cs (take (length cs) rest) i.0 in
    let says = subst (λ (vs : List Value). SaysAsFirst c.values_stand.new.numbers (leaf_numbers_after cs vs i.0)) values (told.says c.if-not-branch.false) in
    let on = branch_fits classes c.args.branches.now c.loop-branch.branch-index b (omega arith) c.branch-item.is rest i.0 _ fit i.2 in
    (now, says, ap (λ (vs : List Value). columns_fit classes (columns_of (stated_defs (drop (c.loop-branch.branch-index + 1) c.args.branches.now))) vs now) others ∙ on)
