use Rattle.std.proofs.Common.{ℕ, List, ap, ◌∙◌}
use Rattle.std.specs.List.{prefix_len}
use Rattle.rio_session.specs.{Fills.{FilledTree}, Noted.{is_before_name}}
use Rattle.rio_session.proofs.open_trees.OpenTrees.count_before_tree.Goals as goal

pub returns : goal.returns
returns c =
    c.count_before.ensures ∙ ap (λ (n : List ℕ). prefix_len (is_before_name n) c.args.self.now.trees) (c.as_slice.ensures ∙ ap (λ (t : FilledTree). t.name) c.tree.view_is)
