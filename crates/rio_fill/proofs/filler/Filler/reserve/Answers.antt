use Rattle.std.proofs.Common.{◌≡◌, List, map, subst, sym, ap, ◌∙◌}
use Rattle.rio_fill.specs.{Fill.{BranchFill, defs_of}, Heads.{AreFillable}, Room.{without_room}}
use Rattle.rio_fill.proofs.Kept.{all_written, defs_same, fillable}
use Rattle.rio_fill.proofs.filler.Filler.reserve.Goals as goal

pub invariant_of-self : goal.invariant_of-self
invariant_of-self c =
    let inside = c.self.inside in
    let new = c.reserve_each.new.branches in
    let all = all_written inside.branches.len c.as_mut_slice.result.now new inside.branches.items c.as_mut_slice.ensures.value inside.branches.ok.0 c.reserve_each.auto.branches in
    let same : map without_room new ≡ map without_room inside.branches.items = c.reserve_each.ensures.err ∙ ap (λ (bs : List BranchFill). map without_room bs) c.as_mut_slice.ensures.value in
    record {
      defs = subst (λ (bs : List BranchFill). AreFillable (defs_of bs)) (sym all) (fillable new inside.branches.items (defs_same new inside.branches.items same) c.self.invariant.defs);
      small = c.self.invariant.small;
    }
