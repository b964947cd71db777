use Rattle.rio_recover.proofs.PlacesNoted.{branch_ends, branch_next, branch_places, noted_branches}
use Rattle.std.proofs.Common.{List, false, subst}
use Rattle.rio_tree.specs.declared.head.Branch.{Branch}
use Rattle.rio_recover.specs.Baskets.{NotesPlaces}
use Rattle.rio_recover.proofs.named.NamedPlaces.note_head.Goals as goal

pub returns-then-not-branch : goal.returns-then-not-branch
returns-then-not-branch c =
    subst (λ (bs : List Branch). NotesPlaces (branch_places bs) c.args.self.now c.note_baskets.new.self false) c.as_slice-branch-items.ensures
    (branch_ends c.as_slice-branch-items.result.now c.loop-branch.branch-index c.branch-item.result c.args.self.now c.loop-branch.self c.note_baskets.new.self c.in_ok-note_baskets.field-0 c.loop-branch-test.true c.branch-item.is
    c.as_slice.result.now c.as_slice.ensures c.loop-branch.invariant c.in_ok-note_baskets.ensures c.if-not-branch.true)

pub loop-branch-preserved : goal.loop-branch-preserved
loop-branch-preserved c =
    branch_next c.as_slice-branch-items.result.now c.loop-branch.branch-index c.branch-item.result c.args.self.now c.loop-branch.self c.note_baskets.new.self c.in_ok-note_baskets.field-0 c.loop-branch-test.true c.branch-item.is
    c.as_slice.result.now c.as_slice.ensures c.loop-branch.invariant c.in_ok-note_baskets.ensures c.if-not-branch.false

pub returns : goal.returns
returns c =
    noted_branches c.args.head.now.branches c.as_slice-branch-items.result.now c.loop-branch.branch-index c.args.self.now c.loop-branch.self c.as_slice-branch-items.ensures c.loop-branch-test.false c.loop-branch.invariant
