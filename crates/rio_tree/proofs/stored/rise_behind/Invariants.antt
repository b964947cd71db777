use Rattle.std.proofs.Common.{◌≡◌, drop}
use Rattle.rio_tree.specs.Refusals.{rise_behind}
use Rattle.rio_tree.proofs.stored.rise_behind.Given as goal

abbrev pub invariant-loop-basket : goal.invariant-loop-basket
invariant-loop-basket l = rise_behind l.last (drop l.basket-index l.baskets) ≡ rise_behind l.first l.baskets
