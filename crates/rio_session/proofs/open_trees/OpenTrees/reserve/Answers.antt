use Rattle.std.proofs.Common.{◌≡◌, ◌≤◌, length, map, subst, sym, ap, ◌∙◌, arith}
use Rattle.std.specs.Option.{option_copied}
use Rattle.rio_fill.specs.Room.{reserved}
use Rattle.rio_fill.proofs.Kept.{all_written}
use Rattle.rio_session.specs.Fills.{AreNamesOrdered, FilledRoom, bare_tree}
use Rattle.rio_session.proofs.TreesChanged.{none_past, ordered_alike}
use Rattle.rio_session.proofs.open_trees.OpenTrees.reserve.Goals as goal

pub invariant_of-self : goal.invariant_of-self
invariant_of-self c =
    let inside = c.self.inside in
    let new = c.reserve_at.new.trees in
    let all = all_written inside.trees.len c.as_mut_slice.result.now new inside.trees.items c.as_mut_slice.ensures.value inside.trees.ok.0 c.reserve_at.auto.trees in
    let same : map bare_tree new ≡ map bare_tree inside.trees.items = c.reserve_at.ensures.same ∙ ap (map bare_tree) c.as_mut_slice.ensures.value in
    record {
      ordered = subst AreNamesOrdered (sym all) (ordered_alike new inside.trees.items same c.self.invariant.ordered);
      room = c.self.invariant.room;
    }

pub returns-then-at-len-clause-ok : goal.returns-then-at-len-clause-ok
returns-then-at-len-clause-ok c =
    let trees = c.args.self.now.trees in
    let same = ap (λ (t : FilledRoom). t.trees) c.self.view_is in
    let past : length trees ≤ c.args.at = omega (arith, c.if-at-len.true, c.len.ensures, c.self.inside.trees.ok.0, ap length same) in
    let none = sym (none_past (λ t. reserved t (option_copied c.args.row)) trees c.args.at past) in
    λ i. record { trees = none i; spare = c.args.self.now.spare }
