use Rattle.std.proofs.Common.{ℕ, List, ◌+◌, drop, sym, ap, ◌∙◌, arith}
use Rattle.std.specs.List.{flat_map}
use Rattle.rio_tree.specs.declared.head.Branch.{Branch}
use Rattle.rio_entry.specs.{Checked.{with_numbers}, declared.checked.Made.{Made}}
use Rattle.rio_entry.proofs.{Left.{left}, CheckedRows.{numbers_behind_numbers}}
use Rattle.rio_entry.proofs.checked.counters_alone.Goals as goal

pub loop-branch-preserved : goal.loop-branch-preserved
loop-branch-preserved c =
    let bs = c.args.branches.now in
    let i = c.loop-branch.branch-index in
    let b = c.branch-item.result in
    let made = c.loop-branch.made.items in
    let counters : List Branch → List ℕ = λ l. flat_map (λ (x : Branch). x.counted_by) l in
    ap (λ (ms : List Made). with_numbers ms (counters (drop (i + 1) bs))) (c.set_numbers.ensures ∙ ap (with_numbers made) c.as_slice.ensures)
    ∙ sym (numbers_behind_numbers b.counted_by (counters (drop (i + 1) bs)) made)
    ∙ sym (ap (λ (l : List Branch). with_numbers made (counters l)) (left bs i b (omega arith) c.branch-item.is))
    ∙ c.loop-branch.invariant
