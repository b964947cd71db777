use Rattle.std.proofs.Common.{◌≡◌, ◌∙◌, ◌≤◌, List, ℕ, length, Bool, true, false, not, ap, subst, sym, arith}
use Rattle.std.proofs.lemmas.List.Sums.{prefix_len-le-length}
use Rattle.std.specs.{List.{find, insert, prefix_len}, Option.{is_none, is_some}}
use Rattle.rio_registry.proofs.KnownLaws.{is_some-option_copied}
use Rattle.rio_recover.specs.TreeTable.{AreInOrder, has_name, is_tree_before, with_tree}
use Rattle.rio_recover.proofs.TreeOrder.{found_name, inserted_is, none_as, none_is, ordered_with}
use Rattle.rio_recover.proofs.trees.Trees.put.Goals as goal

pub returns-then-is_some-clause-new : goal.returns-then-is_some-clause-new
returns-then-is_some-clause-new c =
    let name = c.args.tree.name in
    let is = found_name name c.as_slice.result.now c.as_slice-2.result.now c.self.inside.trees.items c.args.self.now c.deref.result.now c.count_before-at.result _ c.self.invariant c.self.view_is c.deref.ensures.value
    c.as_slice.ensures c.as_slice-2.ensures c.count_before-at.ensures c.at_name.ensures in
    sym (none_as (find (has_name name) c.args.self.now) c.is_some.result (is_some c.at_name.result) (ap is_some (sym is) ∙ is_some-option_copied c.at_name.result) c.is_some.ensures ∙ ap not c.if-is_some.true)

pub insert-requires : goal.insert-requires
insert-requires c =
    omega (arith, c.count_before-at.ensures, prefix_len-le-length (is_tree_before c.as_slice.result.now) c.args.self.now, ap length c.self.view_is)

pub invariant_of-self-2 : goal.invariant_of-self-2
invariant_of-self-2 c =
    let t = c.args.tree in
    let name = c.args.tree.name in
    let trees = c.args.self.now in
    let found = found_name name c.as_slice.result.now c.as_slice-2.result.now c.self.inside.trees.items trees c.deref.result.now c.count_before-at.result _ c.self.invariant c.self.view_is c.deref.ensures.value
    c.as_slice.ensures c.as_slice-2.ensures c.count_before-at.ensures c.at_name.ensures in
    let none = none_as (find (has_name name) trees) c.is_some.result (is_some c.at_name.result) (ap is_some (sym found) ∙ is_some-option_copied c.at_name.result) c.is_some.ensures ∙ ap not c.if-is_some.false in
    let at : c.count_before-at.result ≡ prefix_len (is_tree_before name) trees = c.count_before-at.ensures ∙ ap (λ (n : List ℕ). prefix_len (is_tree_before n) trees) c.as_slice.ensures in
    let is : c.insert.new.self.items ≡ with_tree t trees = c.in_ok-insert.ensures.items ∙ (λ i. insert (c.self.view_is i) (at i) t) ∙ inserted_is t trees in
    subst AreInOrder (sym is) (ordered_with t trees (subst AreInOrder c.self.view_is c.self.invariant) (none_is (find (has_name name) trees) none))

pub returns-clause-new : goal.returns-clause-new
returns-clause-new c =
    let name = c.args.tree.name in
    let is = found_name name c.as_slice.result.now c.as_slice-2.result.now c.self.inside.trees.items c.args.self.now c.deref.result.now c.count_before-at.result _ c.self.invariant c.self.view_is c.deref.ensures.value
    c.as_slice.ensures c.as_slice-2.ensures c.count_before-at.ensures c.at_name.ensures in
    sym (none_as (find (has_name name) c.args.self.now) c.is_some.result (is_some c.at_name.result) (ap is_some (sym is) ∙ is_some-option_copied c.at_name.result) c.is_some.ensures ∙ ap not c.if-is_some.false)

pub returns-clause-trees : goal.returns-clause-trees
returns-clause-trees c =
    let t = c.args.tree in
    let trees = c.args.self.now in
    let at : c.count_before-at.result ≡ prefix_len (is_tree_before t.name) trees = c.count_before-at.ensures ∙ ap (λ (n : List ℕ). prefix_len (is_tree_before n) trees) c.as_slice.ensures in
    c.in_ok-insert.ensures.items ∙ (λ i. insert (c.self.view_is i) (at i) t) ∙ inserted_is t trees
