use Rattle.std.proofs.Common.{◌≡◌, ◌∙◌, Option, Some, ap, subst, sym, arith}
use Rattle.std.specs.Set.{remove_key}
use Rattle.rio_key.specs.declared.head.KeyHead.{KeyHead}
use Rattle.rio_dir.specs.Table.{AreOrdered, TableRoom, is_at_cycle, is_before}
use Rattle.rio_dir.proofs.TableLists.{by_cycle, none_there, nothing_removed, ordered_without, removed_there, taken_there}
use Rattle.rio_dir.proofs.table.KeyTable.remove.Goals as goal

pub invariant_of-self : goal.invariant_of-self
invariant_of-self c =
    let same = ap (λ (t : TableRoom). t.heads) c.self.view_is in
    let t = is_at_cycle c.args.name.now c.args.cycle in
    let gone : c.remove.new.self.items ≡ remove_key t c.args.self.now.heads = c.remove.ensures.items ∙ removed_there (is_before c.args.name.now c.args.cycle) (is_at_cycle c.args.name.now c.args.cycle) (by_cycle c.args.name.now c.args.cycle) c.self.inside.heads.items c.args.self.now.heads _ c.count_before-at.result same c.deref.ensures.value c.self.invariant.ordered c.count_before-at.ensures c.is_cycle_at.result c.is_cycle_at.ensures c.if-is_cycle_at.true in
    record { ordered = subst AreOrdered (sym gone) (ordered_without t c.args.self.now.heads (subst AreOrdered same c.self.invariant.ordered)); room = omega (arith, c.remove.ensures.len, c.remove.ensures.capacity, c.self.invariant.room) }

pub returns-then-is_cycle_at-clause-head : goal.returns-then-is_cycle_at-clause-head
returns-then-is_cycle_at-clause-head c =
    let same = ap (λ (t : TableRoom). t.heads) c.self.view_is in
    ap (λ (h : KeyHead). let o : Option KeyHead = Some h in o) c.into_inner.ensures
    ∙ sym (taken_there (is_before c.args.name.now c.args.cycle) (is_at_cycle c.args.name.now c.args.cycle) (by_cycle c.args.name.now c.args.cycle) c.self.inside.heads.items c.args.self.now.heads _ c.count_before-at.result same c.deref.ensures.value c.self.invariant.ordered c.count_before-at.ensures c.is_cycle_at.result c.is_cycle_at.ensures c.if-is_cycle_at.true c.remove.result c.remove.ensures.value)

pub returns-then-is_cycle_at-clause-rest : goal.returns-then-is_cycle_at-clause-rest
returns-then-is_cycle_at-clause-rest c =
    let same = ap (λ (t : TableRoom). t.heads) c.self.view_is in
    let whole = c.remove.ensures.items ∙ removed_there (is_before c.args.name.now c.args.cycle) (is_at_cycle c.args.name.now c.args.cycle) (by_cycle c.args.name.now c.args.cycle) c.self.inside.heads.items c.args.self.now.heads _ c.count_before-at.result same c.deref.ensures.value c.self.invariant.ordered c.count_before-at.ensures c.is_cycle_at.result c.is_cycle_at.ensures c.if-is_cycle_at.true in
    let spare = ap (λ (t : TableRoom). t.spare) c.self.view_is in
    λ i. record { heads = whole i; spare = spare i }

pub returns-else-is_cycle_at-clause-head : goal.returns-else-is_cycle_at-clause-head
returns-else-is_cycle_at-clause-head c =
    let same = ap (λ (t : TableRoom). t.heads) c.self.view_is in
    sym (none_there (is_before c.args.name.now c.args.cycle) (is_at_cycle c.args.name.now c.args.cycle) (by_cycle c.args.name.now c.args.cycle) c.self.inside.heads.items c.args.self.now.heads _ c.count_before-at.result same c.deref.ensures.value c.self.invariant.ordered c.count_before-at.ensures c.is_cycle_at.result c.is_cycle_at.ensures c.if-is_cycle_at.false)

pub returns-else-is_cycle_at-clause-rest : goal.returns-else-is_cycle_at-clause-rest
returns-else-is_cycle_at-clause-rest c =
    let same = ap (λ (t : TableRoom). t.heads) c.self.view_is in
    let none = none_there (is_before c.args.name.now c.args.cycle) (is_at_cycle c.args.name.now c.args.cycle) (by_cycle c.args.name.now c.args.cycle) c.self.inside.heads.items c.args.self.now.heads _ c.count_before-at.result same c.deref.ensures.value c.self.invariant.ordered c.count_before-at.ensures c.is_cycle_at.result c.is_cycle_at.ensures c.if-is_cycle_at.false in
    let whole = sym (nothing_removed (is_at_cycle c.args.name.now c.args.cycle) c.args.self.now.heads none) in
    λ i. record { heads = whole i; spare = c.args.self.now.spare }
