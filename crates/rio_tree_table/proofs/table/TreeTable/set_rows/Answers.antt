use Rattle.std.proofs.Common.{◌≡◌, ◌∙◌, List, ap, length, subst, sym}
use Rattle.std.proofs.lemmas.List.{with_items_is}
use Rattle.std.specs.Vec.{with_items}
use Rattle.rio_tree_table.specs.Table.{AreOrdered, TableRoom, with_rows}
use Rattle.rio_tree_table.specs.declared.table.KeptTree.{KeptTree}
use Rattle.rio_tree_table.proofs.TableLaws.{none_there, nothing_renumbered, ordered_renumbered, rows_are_set}
use Rattle.rio_tree_table.proofs.table.TreeTable.set_rows.Goals as goal

pub invariant_of-self : goal.invariant_of-self
invariant_of-self c =
    let a = c.args in
    let trees = c.self.inside.trees in
    let same = ap (λ (t : TableRoom). t.trees) c.self.view_is in
    let set = rows_are_set a.name.now trees.items a.self.now.trees c.deref.result.now c.count_before-at.result same c.deref.ensures.value c.self.invariant.ordered c.count_before-at.ensures c.is_named_at.result c.is_named_at.ensures c.if-is_named_at.true a.saved a.pending c.deref_mut.result.now c.deref_mut.ensures.value c.set_rows_at.new.trees c.set_rows_at.ensures in
    let all = with_items_is trees c.set_rows_at.new.trees (c.set_rows_at.auto.trees ∙ ap (λ (ts : List KeptTree). length ts) c.deref_mut.ensures.value ∙ sym trees.ok.0) in
    record {
      ordered = subst AreOrdered (sym (all ∙ set)) (ordered_renumbered a.name.now a.saved a.pending a.self.now.trees (subst AreOrdered same c.self.invariant.ordered));
      room = c.self.invariant.room;
    }

pub returns-then-is_named_at : goal.returns-then-is_named_at
returns-then-is_named_at c =
    let a = c.args in
    let trees = c.self.inside.trees in
    let same = ap (λ (t : TableRoom). t.trees) c.self.view_is in
    let set = rows_are_set a.name.now trees.items a.self.now.trees c.deref.result.now c.count_before-at.result same c.deref.ensures.value c.self.invariant.ordered c.count_before-at.ensures c.is_named_at.result c.is_named_at.ensures c.if-is_named_at.true a.saved a.pending c.deref_mut.result.now c.deref_mut.ensures.value c.set_rows_at.new.trees c.set_rows_at.ensures in
    let all = with_items_is trees c.set_rows_at.new.trees (c.set_rows_at.auto.trees ∙ ap (λ (ts : List KeptTree). length ts) c.deref_mut.ensures.value ∙ sym trees.ok.0) in
    let spare = ap (λ (t : TableRoom). t.spare) c.self.view_is in
    λ i. record { trees = (all ∙ set) i; spare = spare i }

pub returns-else-is_named_at : goal.returns-else-is_named_at
returns-else-is_named_at c =
    let a = c.args in
    let same = ap (λ (t : TableRoom). t.trees) c.self.view_is in
    let none = none_there a.name.now c.self.inside.trees.items a.self.now.trees _ c.count_before-at.result same c.deref.ensures.value c.self.invariant.ordered c.count_before-at.ensures c.is_named_at.result c.is_named_at.ensures c.if-is_named_at.false in
    let still = sym (nothing_renumbered a.name.now a.saved a.pending a.self.now.trees none) in
    λ i. record { trees = still i; spare = a.self.now.spare }
