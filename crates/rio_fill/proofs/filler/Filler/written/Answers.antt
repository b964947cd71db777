use Rattle.std.proofs.Common.{◌≡◌, List, subst, sym, ap, ◌∙◌}
use Rattle.rio_fill.specs.{Fill.{BranchFill, branch_put, changed_at, defs_of}, Heads.{AreFillable}}
use Rattle.rio_fill.proofs.Kept.{all_written, defs_put, fillable}
use Rattle.rio_fill.proofs.filler.Filler.written.Goals as goal

pub invariant_of-self : goal.invariant_of-self
invariant_of-self c =
    let inside = c.self.inside in
    let all = all_written inside.branches.len c.as_mut_slice.result.now c.put_at.new.branches inside.branches.items c.as_mut_slice.ensures.value inside.branches.ok.0 c.put_at.auto.branches in
    let same : c.put_at.new.branches ≡ changed_at (branch_put c.args.at) inside.branches.items c.args.branch = c.put_at.ensures ∙ ap (λ (bs : List BranchFill). changed_at (branch_put c.args.at) bs c.args.branch) c.as_mut_slice.ensures.value in
    record {
      defs = subst (λ (bs : List BranchFill). AreFillable (defs_of bs)) (sym (all ∙ same)) (fillable _ _ (defs_put c.args.at inside.branches.items c.args.branch) c.self.invariant.defs);
      small = c.self.invariant.small;
    }
