use Rattle.std.proofs.Common.{refl, subst}
use Rattle.std.proofs.lemmas.Option.{slice_get_read}
use Rattle.rio_session.specs.{Fills.{FilledTree}, Noted.{CanBeFilledThen, filled_then}}
use Rattle.rio_session.proofs.TreesChanged.{changed_there}
use Rattle.rio_session.proofs.open_trees.fill_at.Goals as goal

pub fill_tree-requires : goal.fill_tree-requires
fill_tree-requires c =
    subst (λ (t : FilledTree). CanBeFilledThen c.args.ats.now c.args.flags c.args.row t.fill) c.index-trees-at.is
    (c.requires.can c.index-trees-at.result (slice_get_read c.args.trees.now _ c.args.at c.index-trees-at.result refl c.requires.there c.index-trees-at.is))

pub returns : goal.returns
returns c = changed_there (filled_then c.args.ats.now c.args.flags c.args.row) c.args.trees.now c.args.at c.index-trees-at.result c.fill_tree.new.tree c.requires.there c.index-trees-at.is c.fill_tree.ensures
