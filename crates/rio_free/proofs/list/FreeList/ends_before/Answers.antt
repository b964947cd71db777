use Rattle.std.proofs.Common.{◌-◌, ◌<◌, length, ap, arith}
use Rattle.rio_free.specs.Gaps.{FreeGaps}
use Rattle.rio_free.proofs.{Order.{ends_fit}, Given.{ends_at}}
use Rattle.rio_free.proofs.list.FreeList.ends_before.Goals as goal

pub end-requires : goal.end-requires
end-requires c =
    let same = ap (λ (l : FreeGaps). l.gaps) c.self.view_is in
    let inside : c.args.at - 1 < length c.self.inside.gaps.items = omega (arith, c.requires, ap length same, c.if-at-gt0.true) in
    let e = ends_fit 0 c.self.inside.gaps.items c.self.invariant.sorted (c.args.at - 1) c.index.result.now inside in
    rw c.index.ensures e

pub returns-then-at-gt0 : goal.returns-then-at-gt0
returns-then-at-gt0 c =
    let same = ap (λ (l : FreeGaps). l.gaps) c.self.view_is in
    let inside : c.args.at - 1 < length c.self.inside.gaps.items = omega (arith, c.requires, ap length same, c.if-at-gt0.true) in
    ends_at c.args.self.now.gaps c.self.inside.gaps.items c.args.at c.args.place c.end.result c.index.result.now same c.if-at-gt0.true inside c.index.ensures c.end.ensures
