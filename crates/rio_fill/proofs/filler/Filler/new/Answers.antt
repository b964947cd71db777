use Rattle.std.proofs.Common.{List, map, subst, sym, ap, ◌∙◌, arith}
use Rattle.rio_leaf.specs.declared.branch.BranchDef.{BranchDef}
use Rattle.rio_tree.specs.declared.head.Branch.{Branch}
use Rattle.rio_fill.specs.{Fill.{branch_fill_of, defs_of}, Heads.{AreFillable}}
use Rattle.rio_fill.proofs.Kept.{defs_begun}
use Rattle.rio_fill.proofs.filler.Filler.new.Goals as goal

pub invariant_of-result : goal.invariant_of-result
invariant_of-result c =
    let items = c.in_ok-branches.ensures ∙ ap (λ (bs : List Branch). map branch_fill_of bs) c.as_slice.ensures in
    record {
      defs = subst (λ (ds : List BranchDef). AreFillable ds) (sym (ap defs_of items ∙ defs_begun c.args.head.now.branches)) c.requires.defs;
      small = omega (arith, c.rows_saved.ensures);
    }
