use Rattle.std.proofs.Common.{refl, subst}
use Rattle.std.proofs.lemmas.Option.{slice_get_read}
use Rattle.rio_session.specs.{Fills.{FilledTree}, Noted.{CanBeSavedThen, saved_then}}
use Rattle.rio_session.proofs.TreesChanged.{changed_there}
use Rattle.rio_session.proofs.open_trees.save_at.Goals as goal

pub save_tree-requires : goal.save_tree-requires
save_tree-requires c =
    subst (λ (t : FilledTree). CanBeSavedThen c.args.ats.now c.args.flags t.fill) c.index-trees-at.is
    (c.requires.can c.index-trees-at.result (slice_get_read c.args.trees.now _ c.args.at c.index-trees-at.result refl c.requires.there c.index-trees-at.is))

pub returns : goal.returns
returns c = changed_there (saved_then c.args.ats.now c.args.flags) c.args.trees.now c.args.at c.index-trees-at.result c.save_tree.new.tree c.requires.there c.index-trees-at.is c.save_tree.ensures
