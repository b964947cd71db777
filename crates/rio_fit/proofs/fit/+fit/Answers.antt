use Rattle.std.proofs.Common.{◌≡◌, rules, length, refl, sym, ap, ◌∙◌, arith}
use Rattle.std.specs.Prelude.{is_none, slice_get}
use Rattle.rio_format.specs.{declared.kind.Kind.TheVariants.{Counter}, Slots.{Field, kinded}, SlotKinds.{slot_of_kind}, Fits.{part_fitting}}
use Rattle.rio_fit.proofs.FitLaws.{part_counts, part_goes_on, part_stops, part_too_many, parts_done, same_names}
use Rattle.rio_fit.proofs.fit.+fit.Goals as goal

pub part_fits-returns-in-Counter : goal.part_fits-returns-in-Counter
part_fits-returns-in-Counter t c =
    let name : c.field.inside.name.now ≡ c.args.field.now.name = ap (λ (f : Field). f.name) c.field.view_is in
    let slot : c.field.inside.slot ≡ c.args.field.now.slot = ap (λ (f : Field). f.slot) c.field.view_is in
    let named = rw (c.as_slice.ensures, name) at (same_names _ c.if-ne.ensures) in
    let counts : c.args.field.now.slot ≡ kinded Counter = sym slot ∙ sym c.slot.view_is ∙ ap slot_of_kind c.in-Counter.is in
    rw (part_counts c.args.field.now (part_fitting c.args.classes.now c.args.part.now) c.args.counters.now c.args.owners.now counts named, ← name) (c.counter_fits.ensures c.args.classes.now c.args.owners.now)

pub parts_fit-returns-in_default : goal.parts_fit-returns-in_default
parts_fit-returns-in_default t c =
    part_too_many (part_fitting c.args.classes.now) c.args.fields.now c.args.parts.now c.loop-k.k c.loop-k.counters c.loop-k.owners _ (sym c.get.ensures ∙ c.in_default.is) c.loop-k-test.true c.loop-k.invariant

pub parts_fit-loop-k-preserved : goal.parts_fit-loop-k-preserved
parts_fit-loop-k-preserved t c =
    let fit = rw c.if-not-branch.false at c.in_ok-part_fits.ensures in
    part_goes_on (part_fitting c.args.classes.now) c.args.fields.now c.args.parts.now c.loop-k.k c.loop-k.counters c.loop-k.owners _ c.in-Some.field c.index-parts-k.result (sym c.get.ensures ∙ c.in-Some.is) c.loop-k-test.true c.index-parts-k.is c.part_fits.new.owners c.part_fits.new.counters fit c.loop-k.invariant

pub parts_fit-returns-then-not-branch : goal.parts_fit-returns-then-not-branch
parts_fit-returns-then-not-branch t c =
    let fit = rw c.if-not-branch.true at c.in_ok-part_fits.ensures in
    part_stops (part_fitting c.args.classes.now) c.args.fields.now c.args.parts.now c.loop-k.k c.loop-k.counters c.loop-k.owners _ c.in-Some.field c.index-parts-k.result (sym c.get.ensures ∙ c.in-Some.is) c.loop-k-test.true c.index-parts-k.is fit c.loop-k.invariant

pub parts_fit-returns : goal.parts_fit-returns
parts_fit-returns t c =
    let last : c.loop-k.k ≡ length c.args.parts.now = omega (arith, c.loop-k-test.false, c.loop-k.auto.k-end) in
    let none : c.is_none.result ≡ is_none c.get-2.result = search rules in
    let done : c.is_none.result ≡ is_none (slice_get c.args.fields.now c.loop-k.k) = rw last (none ∙ ap is_none c.get-2.ensures) in
    parts_done (part_fitting c.args.classes.now) c.args.fields.now c.args.parts.now c.loop-k.k c.loop-k.counters c.loop-k.owners _ c.is_none.result c.loop-k-test.false done c.loop-k.invariant

pub pointed_fits-returns-in-Some : goal.pointed_fits-returns-in-Some
pointed_fits-returns-in-Some t c = rw (← (sym c.in-Some.is ∙ c.owner_of.ensures c.args.classes.now)) c.labelled_fits.ensures

pub pointed_fits-returns-in-None : goal.pointed_fits-returns-in-None
pointed_fits-returns-in-None t c = rw (← (sym c.in-None.is ∙ c.owner_of.ensures c.args.classes.now)) refl
