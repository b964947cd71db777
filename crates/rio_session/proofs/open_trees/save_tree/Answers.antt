use Rattle.std.proofs.Common.{subst, sym, ap, ◌∙◌}
use Rattle.rio_tree.specs.HeaderLength.{header_size}
use Rattle.rio_fill.specs.Fill.{TreeFill, all_saved, defs_of}
use Rattle.rio_session.specs.{Fills.{FilledTree}, Measures.{IsBoundedTree}, Noted.{CanBeSavedThen}}
use Rattle.rio_session.proofs.BoundsKept.{bounded_saved, noted_header}
use Rattle.rio_session.proofs.open_trees.save_tree.Goals as goal

pub invariant_of-tree : goal.invariant_of-tree
invariant_of-tree c =
    let t = c.tree.inside in
    let ats = c.args.ats.now in
    let can = subst (λ (x : FilledTree). CanBeSavedThen ats c.args.flags x.fill) (sym c.tree.view_is) c.requires in
    let new = sym (c.saved.ensures ∙ ap all_saved c.note_written.ensures) in
    record {
      header = c.tree.invariant.header ∙ noted_header t.name ats c.args.flags t.filler ∙ ap (λ (x : TreeFill). header_size t.name (defs_of x.branches)) new;
      bounded = subst (λ (x : TreeFill). IsBoundedTree t.name x) new (bounded_saved t.name ats c.args.flags t.filler c.tree.invariant.bounded can);
    }
