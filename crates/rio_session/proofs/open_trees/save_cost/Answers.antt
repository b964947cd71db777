use Rattle.std.proofs.Common.{length, ap, ◌∙◌, arith}
use Rattle.rio_tree.specs.HeaderLength.{header_size}
use Rattle.rio_fill.specs.Fill.{defs_of}
use Rattle.rio_session.specs.Fills.{FilledTree}
use Rattle.rio_session.proofs.SaveCosts.{held_cost}
use Rattle.rio_session.proofs.open_trees.save_cost.Goals as goal

pub overflow_mul-width : goal.overflow_mul-width
overflow_mul-width c = omega (arith, c.width.ensures, c.stays_bounded.ensures.few)

pub returns : goal.returns
returns c =
    let t = c.args.tree.now in
    let header = c.tree.invariant.header ∙ ap (λ (x : FilledTree). header_size x.name (defs_of x.fill.branches)) c.tree.view_is in
    held_cost (length t.fill.branches) (header_size t.name (defs_of t.fill.branches)) c.args.rows c.width.result c.tree.inside.header_bytes c.saturating_mul-baskets.result c.saturating_add.result c.width.ensures header c.saturating_mul-baskets.ensures c.saturating_add.ensures
