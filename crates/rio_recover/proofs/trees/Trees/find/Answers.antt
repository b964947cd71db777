use Rattle.std.proofs.Common.{◌≡◌, ◌∙◌, ap, subst, slice_get}
use Rattle.std.specs.{Prelude.{option_and_then}, List.{find, prefix_len}}
use Rattle.rio_recover.specs.TreeTable.{AreInOrder, has_name, if_of_name, is_tree_before}
use Rattle.rio_recover.proofs.TreeOrder.{searched}
use Rattle.rio_recover.proofs.trees.Trees.find.Goals as goal

pub returns : goal.returns
returns c =
    let name = c.args.name.now in
    c.at_name.ensures
    ∙ (λ i. option_and_then (if_of_name name) (slice_get (c.deref.ensures.value i) (c.count_before.ensures i)))
    ∙ (λ i. option_and_then (if_of_name name) (slice_get (c.self.view_is i) (prefix_len (is_tree_before name) c.args.self.now)))
    ∙ searched name c.args.self.now (subst AreInOrder c.self.view_is c.self.invariant)
