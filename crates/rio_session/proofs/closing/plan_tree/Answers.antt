use Rattle.std.proofs.Common.{◌∙◌, ℕ, List, ap, subst, arith}
use Rattle.std.specs.List.{find}
use Rattle.rio_key.specs.declared.head.KeyHead.{KeyHead}
use Rattle.rio_dir.specs.Table.{AreOrdered, TableRoom, is_at_cycle, with_head, without_head}
use Rattle.rio_session.specs.{ClosingPlans.{IsKeyBefore}, Fills.{FilledTree}}
use Rattle.rio_session.proofs.ClosingTree.{can_run, can_save, is_planned, next_is_new}
use Rattle.rio_session.proofs.closing.plan_tree.Goals as goal

pub make_save-requires : goal.make_save-requires
make_save-requires c =
    let w = c.requires.can in
    let old = c.args.table.now.heads in
    let heads = ap (λ (r : TableRoom). r.heads) c.in_ok-reserve_one.ensures.ok in
    let name = c.as_slice-name.ensures ∙ ap (λ (t : FilledTree). t.name) c.tree.view_is in
    let k = c.in_ok-before.before.now in
    let key : IsKeyBefore c.args.table.now.heads c.args.tree.now.name k =
    subst (λ (x : List KeyHead × List ℕ). IsKeyBefore x.0 x.1 k) (λ i. (heads i, name i)) c.in_ok-before.ensures.key in
    (w.0, w.1.datime_is, can_save w.0 c.args.planned.now.chain.segments old c.args.tree.now c.args.datime w.1 c.plan_places.ensures.form k key c.in_ok-places.places c.in_ok-places.ensures.places)

pub insert-requires-clause-unique : goal.insert-requires-clause-unique
insert-requires-clause-unique c =
    let w = c.requires.can in
    let old = c.args.table.now.heads in
    let heads = ap (λ (r : TableRoom). r.heads) c.in_ok-reserve_one.ensures.ok in
    let name = c.as_slice-name.ensures ∙ ap (λ (t : FilledTree). t.name) c.tree.view_is in
    let k = c.in_ok-before.before.now in
    let key : IsKeyBefore c.args.table.now.heads c.args.tree.now.name k =
    subst (λ (x : List KeyHead × List ℕ). IsKeyBefore x.0 x.1 k) (λ i. (heads i, name i)) c.in_ok-before.ensures.key in
    let made = c.in_ok-made.made in
    let is = c.in_ok-made.ensures w.0 w.1.datime_is (can_save w.0 c.args.planned.now.chain.segments old c.args.tree.now c.args.datime w.1 c.plan_places.ensures.form k key c.in_ok-places.places c.in_ok-places.ensures.places) in
    let left = ap (λ (r : TableRoom). r.heads) c.remove.ensures.rest in
    (λ i. find (is_at_cycle made.head.name made.head.cycle) (left i))
    ∙ (λ i. find (is_at_cycle made.head.name made.head.cycle) (without_head (name i) k.cycle (heads i)))
    ∙ next_is_new w.0 c.args.tree.now k made.head old (subst AreOrdered heads c.key_before.ensures.ordered) key.first is.head_is

pub insert-requires-clause-room : goal.insert-requires-clause-room
insert-requires-clause-room c =
    let left = ap (λ (r : TableRoom). r.spare) c.remove.ensures.rest in
    let room = ap (λ (r : TableRoom). r.spare) c.in_ok-reserve_one.ensures.ok in
    omega (arith, left, room)

pub note_steps-requires-clause-run : goal.note_steps-requires-clause-run
note_steps-requires-clause-run c =
    let w = c.requires.can in
    let old = c.args.table.now.heads in
    let heads = ap (λ (r : TableRoom). r.heads) c.in_ok-reserve_one.ensures.ok in
    let name = c.as_slice-name.ensures ∙ ap (λ (t : FilledTree). t.name) c.tree.view_is in
    let k = c.in_ok-before.before.now in
    let key : IsKeyBefore c.args.table.now.heads c.args.tree.now.name k =
    subst (λ (x : List KeyHead × List ℕ). IsKeyBefore x.0 x.1 k) (λ i. (heads i, name i)) c.in_ok-before.ensures.key in
    let is = c.in_ok-made.ensures w.0 w.1.datime_is (can_save w.0 c.args.planned.now.chain.segments old c.args.tree.now c.args.datime w.1 c.plan_places.ensures.form k key c.in_ok-places.places c.in_ok-places.ensures.places) in
    can_run w.0 c.args.planned.now.chain.segments old c.args.tree.now c.args.datime w.1 c.plan_places.ensures.form k key c.in_ok-places.places c.in_ok-places.ensures.places c.in_ok-made.made is

pub returns-clause-planned : goal.returns-clause-planned
returns-clause-planned c s can =
    let old = c.args.table.now.heads in
    let heads = ap (λ (r : TableRoom). r.heads) c.in_ok-reserve_one.ensures.ok in
    let name = c.as_slice-name.ensures ∙ ap (λ (t : FilledTree). t.name) c.tree.view_is in
    let k = c.in_ok-before.before.now in
    let key : IsKeyBefore c.args.table.now.heads c.args.tree.now.name k =
    subst (λ (x : List KeyHead × List ℕ). IsKeyBefore x.0 x.1 k) (λ i. (heads i, name i)) c.in_ok-before.ensures.key in
    let made = c.in_ok-made.made in
    let is = c.in_ok-made.ensures s can.datime_is (can_save s c.args.planned.now.chain.segments old c.args.tree.now c.args.datime can c.plan_places.ensures.form k key c.in_ok-places.places c.in_ok-places.ensures.places) in
    let left = ap (λ (r : TableRoom). r.heads) c.remove.ensures.rest ∙ (λ i. without_head (name i) k.cycle (heads i)) in
    let put = ap (λ (r : TableRoom). r.heads) c.insert.ensures ∙ ap (with_head made.head) left in
    is_planned s c.args.planned.now.chain.segments old c.args.tree.now c.args.datime can c.plan_places.ensures.form k key c.in_ok-places.places c.in_ok-places.ensures.places made is c.stays_bounded.ensures.named c.args.planned.now.steps.items c.note_steps.new.planned.chain.segments c.insert.new.self.heads c.note_steps.new.planned.steps.items
    c.in_ok-note_steps.ensures.segments put c.in_ok-note_steps.ensures.steps
