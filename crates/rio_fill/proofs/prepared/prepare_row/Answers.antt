use Rattle.std.proofs.Common.{◌≡◌, ◌+◌, ◌<◌, ◌≤◌, ℕ, List, ◌∷◌, length, min, take, drop, Err, true, false, sym, ap, subst, ◌∙◌, arith}
use Rattle.std.proofs.lemmas.{List.{drop_all}, Result.{err_from_is_err_and}}
use Rattle.rio_leaf.specs.{Stated.{all_leaves}, declared.branch.BranchDef.{BranchDef}, declared.leaf.Leaf.{Leaf}}
use Rattle.rio_format.specs.{Bodies.{Counters}, Counts.{SaysAsFirst}, declared.value.Value.{Value}}
use Rattle.rio_machine.specs.Rows.{columns_bytes, columns_fit, leaf_numbers_after, shape_columns}
use Rattle.rio_entry.specs.Leaves.{numbers_after}
use Rattle.rio_entry.proofs.{Counting.{left_begins}, FitsBehind.{drop_min, take_min}}
use Rattle.rio_fill.specs.{Fill.{BranchFill, defs_of}, Parts.{with_part}}
use Rattle.rio_fill.proofs.Walked.{Walked, gives_itself, shape_numbers, shape_stated, walk_breaks, walk_ends, walk_on}
use Rattle.rio_fill.proofs.prepared.prepare_row.Goals as goal

pub returns-in_err-put_part : goal.returns-in_err-put_part
returns-in_err-put_part c =
    let classes = c.args.classes.now in
    let bs = c.args.branches.now in
    let k = c.loop-branch.branch-index in
    let rest = c.loop-branch.rest.now in
    let i = c.loop-branch.invariant in
    let before = i.0 in
    let d = c.def-def.result.now in
    let left = defs_of (drop (k + 1) bs) in
    let cs = shape_columns d.shape in
    let lt : k < length bs = omega (arith, c.loop-branch-test.true) in
    let begins : defs_of (drop k bs) ≡ d ∷ left = ap defs_of (left_begins bs k c.branch-item.result lt c.branch-item.is) ∙ ap (λ (x : BranchDef). x ∷ left) (sym c.def-def.ensures) in
    let w = subst (λ (l : List BranchDef). Walked classes (defs_of bs) c.args.row.now l rest c.loop-branch.parts before) begins i.2 in
    let n : c.min.result ≡ min (length cs) (length rest) = omega (arith, c.min.ensures, c.value_count.ensures) in
    let values : c.split_at.result.0.now ≡ take (length cs) rest = c.split_at.ensures.front ∙ ap (λ (m : ℕ). take m rest) n ∙ take_min (length cs) rest in
    let p = err_from_is_err_and c.from_residual.result c.from_residual.ensures.1 in
    rw (p.1, p.2) (λ lacks.
    let given = c.in_err-put_part.ensures (all_leaves w.done) before i.1 w.numbers (shape_stated classes (defs_of bs) c.args.row.now d left rest c.loop-branch.parts before w) lacks in
    let fit : columns_fit classes cs (take (length cs) rest) before ≡ false = ap (λ (vs : List Value). columns_fit classes cs vs before) (sym values) ∙ given.0 in
    walk_breaks classes (defs_of bs) c.args.row.now d left rest c.loop-branch.parts before w fit ∙ ap Err (sym given.1))

pub loop-branch-preserved : goal.loop-branch-preserved
loop-branch-preserved c =
    let classes = c.args.classes.now in
    let bs = c.args.branches.now in
    let row = c.args.row.now in
    let k = c.loop-branch.branch-index in
    let rest = c.loop-branch.rest.now in
    let parts = c.loop-branch.parts in
    let i = c.loop-branch.invariant in
    let before = i.0 in
    let d = c.def-def.result.now in
    let left = defs_of (drop (k + 1) bs) in
    let cs = shape_columns d.shape in
    let lt : k < length bs = omega (arith, c.loop-branch-test.true) in
    let begins : defs_of (drop k bs) ≡ d ∷ left = ap defs_of (left_begins bs k c.branch-item.result lt c.branch-item.is) ∙ ap (λ (x : BranchDef). x ∷ left) (sym c.def-def.ensures) in
    let w = subst (λ (l : List BranchDef). Walked classes (defs_of bs) row l rest parts before) begins i.2 in
    let n : c.min.result ≡ min (length cs) (length rest) = omega (arith, c.min.ensures, c.value_count.ensures) in
    let values : c.split_at.result.0.now ≡ take (length cs) rest = c.split_at.ensures.front ∙ ap (λ (m : ℕ). take m rest) n ∙ take_min (length cs) rest in
    let others : c.split_at.result.1.now ≡ drop (length cs) rest = c.split_at.ensures.back ∙ ap (λ (m : ℕ). drop m rest) n ∙ drop_min (length cs) rest in
    let given = c.in_ok-put_part.ensures (all_leaves w.done) before i.1 w.numbers (shape_stated classes (defs_of bs) row d left rest parts before w) in
    let fit : columns_fit classes cs (take (length cs) rest) before ≡ true = ap (λ (vs : List Value). columns_fit classes cs vs before) (sym values) ∙ given.0 in
    let made = given.1 ∙ ap (λ (vs : List Value). with_part parts (columns_bytes classes cs vs before)) values in
    let after = leaf_numbers_after cs (take (length cs) rest) before in
    let numbers =
    ap (λ (ls : List Leaf). numbers_after ls c.split_at.result.0.now before) c.leaves_of.ensures
    ∙ shape_numbers d.shape c.split_at.result.0.now before
    ∙ ap (λ (vs : List Value). leaf_numbers_after cs vs before) values in
    let says = subst (λ (now : Counters). SaysAsFirst c.note_leaves.new.numbers now) numbers (c.in_ok-note_leaves.ensures before i.1) in
    let on = walk_on classes (defs_of bs) row d left rest parts before w c.put_part.new.parts fit made in
    (after, says, subst (λ (vs : List Value). Walked classes (defs_of bs) row left vs c.put_part.new.parts after) (sym others) on)

pub returns : goal.returns
returns c =
    let classes = c.args.classes.now in
    let bs = c.args.branches.now in
    let row = c.args.row.now in
    let k = c.loop-branch.branch-index in
    let rest = c.loop-branch.rest.now in
    let parts = c.loop-branch.parts in
    let i = c.loop-branch.invariant in
    let le : length bs ≤ k = omega (arith, c.loop-branch-test.false) in
    let w = subst (λ (l : List BranchFill). Walked classes (defs_of bs) row (defs_of l) rest parts i.0) (drop_all k bs le) i.2 in
    gives_itself c.whole_row.result _ (c.whole_row.ensures ∙ walk_ends classes (defs_of bs) row rest parts i.0 w)
