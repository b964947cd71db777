use Rattle.std.proofs.Common.{◌≡◌, length, Some, None, ap, arith}
use Rattle.rio_index.specs.{Scan.{RowScan}, declared.lane.Lane.{Lane}}
use Rattle.rio_index.proofs.ScanLaws.{goes_on, same_length}
use Rattle.rio_index.proofs.scanner.Scanner.refuse.Goals as goal

pub index_mut-requires : goal.index_mut-requires
index_mut-requires c =
    let inside = c.self.inside in
    let same = same_length inside.head.entries inside.head.branches inside.lanes.items c.self.invariant.going in
    let seen : length inside.head.branches ≡ length c.args.self.now.head.branches = ap (λ (s : RowScan). length s.head.branches) c.self.view_is in
    omega (arith, same, seen, c.requires)

pub invariant_of-self : goal.invariant_of-self
invariant_of-self c =
    let inside = c.self.inside in
    let new : Lane = record { refused = Some c.args.why; held = None } in
    record {
      going = goes_on inside.head.entries inside.head.branches inside.lanes.items c.args.branch new c.self.invariant.going (λ b lane e can. tt);
      counted = c.self.invariant.counted;
    }
