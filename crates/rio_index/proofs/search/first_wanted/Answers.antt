use Rattle.std.proofs.Common.{◌≡◌, ◌∙◌, length, List, slice_index_or, ap, arith}
use Rattle.rio_tree.specs.declared.head.Branch.{Branch}
use Rattle.rio_index.proofs.ScanLaws.{index_at, same_length, wanted_behind, wanted_here}
use Rattle.rio_index.proofs.search.first_wanted.Goals as goal

pub bounds-lanes-k : goal.bounds-lanes-k
bounds-lanes-k c =
    let same = same_length c.args.head.now.entries c.args.head.now.branches c.args.lanes.now c.requires in
    let whole = ap (λ (bs : List Branch). length bs) c.as_slice-branch-items.ensures in
    omega (arith, same, whole)

pub wanted_by-requires : goal.wanted_by-requires
wanted_by-requires c = λ read.
    let bs = c.args.head.now.branches in
    let b = c.branch-item.result in
    let whole = ap (λ (bs : List Branch). length bs) c.as_slice-branch-items.ensures in
    let is : b ≡ slice_index_or bs c.loop-k.k b = c.branch-item.is ∙ ap (λ (bs : List Branch). slice_index_or bs c.loop-k.k b) c.as_slice-branch-items.ensures in
    index_at c.args.head.now.entries bs c.args.lanes.now c.requires c.loop-k.k b c.index-lanes-k.result (omega (arith, whole)) is c.index-lanes-k.is read

pub returns-in-Some : goal.returns-in-Some
returns-in-Some c =
    let bs = c.args.head.now.branches in
    let b = c.branch-item.result in
    let same = same_length c.args.head.now.entries bs c.args.lanes.now c.requires in
    let whole = ap (λ (bs : List Branch). length bs) c.as_slice-branch-items.ensures in
    let is : b ≡ slice_index_or bs c.loop-k.k b = c.branch-item.is ∙ ap (λ (bs : List Branch). slice_index_or bs c.loop-k.k b) c.as_slice-branch-items.ensures in
    wanted_here c.args.entry bs c.args.lanes.now c.loop-k.k _ c.loop-k.invariant b c.index-lanes-k.result c.in-Some.basket (omega (arith, whole)) (omega (arith, same, whole)) is c.index-lanes-k.is (cc)

pub loop-k-preserved : goal.loop-k-preserved
loop-k-preserved c =
    let bs = c.args.head.now.branches in
    let b = c.branch-item.result in
    let same = same_length c.args.head.now.entries bs c.args.lanes.now c.requires in
    let whole = ap (λ (bs : List Branch). length bs) c.as_slice-branch-items.ensures in
    let is : b ≡ slice_index_or bs c.loop-k.k b = c.branch-item.is ∙ ap (λ (bs : List Branch). slice_index_or bs c.loop-k.k b) c.as_slice-branch-items.ensures in
    wanted_behind c.args.entry bs c.args.lanes.now c.loop-k.k _ c.loop-k.invariant b c.index-lanes-k.result (omega (arith, whole)) (omega (arith, same, whole)) is c.index-lanes-k.is (cc)
