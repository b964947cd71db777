use Rattle.std.proofs.Common.{subst, sym, ap, ◌∙◌}
use Rattle.rio_tree.specs.HeaderLength.{header_size}
use Rattle.rio_fill.specs.Fill.{TreeFill, defs_of, row_added}
use Rattle.rio_session.specs.{Fills.{FilledTree}, Measures.{IsBoundedTree}, Noted.{CanBeFilledThen}}
use Rattle.rio_session.proofs.BoundsKept.{bounded_filled, filled_header}
use Rattle.rio_session.proofs.open_trees.fill_tree.Goals as goal

pub invariant_of-tree : goal.invariant_of-tree
invariant_of-tree c =
    let t = c.tree.inside in
    let ats = c.args.ats.now in
    let can = subst (λ (x : FilledTree). CanBeFilledThen ats c.args.flags c.args.row x.fill) (sym c.tree.view_is) c.requires in
    let new = sym (c.add.ensures ∙ ap (λ (x : TreeFill). row_added x c.args.row) c.note_written.ensures) in
    record {
      header = c.tree.invariant.header ∙ filled_header t.name ats c.args.flags c.args.row t.filler ∙ ap (λ (x : TreeFill). header_size t.name (defs_of x.branches)) new;
      bounded = subst (λ (x : TreeFill). IsBoundedTree t.name x) new (bounded_filled t.name ats c.args.flags c.args.row t.filler c.tree.invariant.bounded can);
    }
