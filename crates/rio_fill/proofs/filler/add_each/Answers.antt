use Rattle.std.proofs.Common.{◌≡◌, ◌+◌, ◌<◌, ℕ, List, ◌∷◌, length, drop, sym, ap, ◌∙◌, arith}
use Rattle.std.specs.Prelude.{is_some}
use Rattle.rio_fill.specs.{Fill.{BranchFill, branch_added, branches_added}, Room.{may_be_added}}
use Rattle.rio_fill.proofs.Lists.{add_goes_on, added_first, may_go_on, some_same}
use Rattle.rio_fill.proofs.filler.add_each.Goals as goal

pub entry_at-requires : goal.entry_at-requires
entry_at-requires c =
    let bs = c.loop-k.branches in
    let b = c.index-branches-k.result in
    let lt : c.loop-k.k < length bs = omega (arith, c.loop-k-test.true, c.loop-k.auto.branches) in
    let first = added_first bs c.loop-k.k b b lt c.index-branches-k.is c.args.row.now c.loop-k.invariant.1 in
    ap is_some first.1

pub add-requires : goal.add-requires
add-requires c =
    let bs = c.loop-k.branches in
    let b = c.index-branches-k.result in
    let lt : c.loop-k.k < length bs = omega (arith, c.loop-k-test.true, c.loop-k.auto.branches) in
    let first = added_first bs c.loop-k.k b b lt c.index-branches-k.is c.args.row.now c.loop-k.invariant.1 in
    let same = some_same _ _ (sym c.entry_at.ensures ∙ first.1) in
    ap (λ (x : BranchFill). may_be_added x c.entry_at.result.now) (sym c.index-branches-k.is) ∙ ap (may_be_added b) same ∙ first.3

pub loop-k-preserved : goal.loop-k-preserved
loop-k-preserved c =
    let bs = c.loop-k.branches in
    let k = c.loop-k.k in
    let b = c.index-branches-k.result in
    let row = c.args.row.now in
    let entry = c.entry_at.result.now in
    let lt : k < length bs = omega (arith, c.loop-k-test.true, c.loop-k.auto.branches) in
    let first = added_first bs k b b lt c.index-branches-k.is row c.loop-k.invariant.1 in
    let same : first.0 ≡ entry = some_same _ _ (sym first.1 ∙ c.entry_at.ensures) in
    let there : drop k row ≡ entry ∷ drop (k + 1) row = first.2 ∙ ap (λ (x : List ℕ). x ∷ drop (k + 1) row) same in
    let new = c.add.ensures ∙ ap (λ (x : BranchFill). branch_added x entry) (sym c.index-branches-k.is) in (
      add_goes_on bs k b c.add.new.self lt c.index-branches-k.is row (branches_added c.args.branches.now row) entry new there c.loop-k.invariant.0,
      may_go_on bs k b c.add.new.self lt c.index-branches-k.is row first.4,
    )
