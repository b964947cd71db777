use Rattle.std.proofs.Common.{◌≡◌, ◌-◌, ◌<◌, ◌^◌, List, subst, sym, ap, ◌∙◌, arith}
use Rattle.rio_fill.specs.{Fill.{BranchFill, TreeFill, branches_added, defs_of, entry_count}, Heads.{AreFillable}}
use Rattle.rio_fill.proofs.Kept.{all_written, defs_added, fillable}
use Rattle.rio_fill.proofs.filler.Filler.add.Goals as goal

pub invariant_of-self : goal.invariant_of-self
invariant_of-self c =
    let inside = c.self.inside in
    let all = all_written inside.branches.len c.as_mut_slice.result.now c.add_each.new.branches inside.branches.items c.as_mut_slice.ensures.value inside.branches.ok.0 c.add_each.auto.branches in
    let same : c.add_each.new.branches ≡ branches_added inside.branches.items c.args.prepared = c.add_each.ensures ∙ ap (λ (bs : List BranchFill). branches_added bs c.args.prepared) c.as_mut_slice.ensures.value in
    let few = subst (λ (t : TreeFill). entry_count t < 2 ^ 63 - 1) (sym c.self.view_is) c.requires.few in
    record {
      defs = subst (λ (bs : List BranchFill). AreFillable (defs_of bs)) (sym (all ∙ same)) (fillable _ _ (defs_added inside.branches.items c.args.prepared) c.self.invariant.defs);
      small = omega (arith, few);
    }
