use Rattle.std.proofs.Common.{ap, sym, ◌∙◌}
use Rattle.std.proofs.lemmas.Result.{on_ok_weaker}
use Rattle.std.specs.Option.{option_copied}
use Rattle.rio_fill.specs.Room.{reserved}
use Rattle.rio_session.specs.Fills.{bare_tree}
use Rattle.rio_session.proofs.TreesChanged.{bare_set, changed_there}
use Rattle.rio_session.proofs.open_trees.reserve_at.Goals as goal

pub returns-clause-ok : goal.returns-clause-ok
returns-clause-ok c =
    on_ok_weaker c.reserve_in.result (λ d. changed_there (λ t. reserved t (option_copied c.args.row)) c.args.trees.now c.args.at c.index-trees-at.result c.reserve_in.new.tree c.requires c.index-trees-at.is d) c.reserve_in.ensures.ok

pub returns-clause-same : goal.returns-clause-same
returns-clause-same c = bare_set c.args.trees.now c.args.at c.index-trees-at.result c.reserve_in.new.tree c.requires c.index-trees-at.is (c.reserve_in.ensures.same ∙ ap bare_tree (sym c.index-trees-at.is))
