use Rattle.std.proofs.{Common.{◌≡◌, ◌<◌, ◌+◌, ℕ, List, [], ◌∷◌, ◌++◌, drop, Some, None, rules, SFits, w32, sym, ap, subst, ◌∙◌, arith}, lemmas.Int.{to_z-of_z}}
use Rattle.std.specs.Option.{option_map}
use Rattle.rio_format.specs.{declared.value.Part.{Part}, Bodies.{part}, Slots.{Field, Slot}}
use Rattle.rio_model.specs.Mapping.{parts_zero, slot_zero, zero_version, zero_within}
use Rattle.rio_map.proofs.LevelLaws.{more_levels, no_levels, not_known}
use Rattle.rio_map.proofs.StepLaws.{zero_goes_on, zero_lacks, zeros_end}
use Rattle.rio_map.proofs.zero.+zero.Goals as goal

pub parts_zero-returns-in_default : goal.parts_zero-returns-in_default
parts_zero-returns-in_default t c =
    sym (zeros_end (zero_within c.args.levels c.args.classes.now) c.args.fields.now c.loop-k.k c.loop-k.parts _ (sym c.get.ensures ∙ c.in_default.is) c.loop-k.invariant)

pub parts_zero-returns-in_default-2 : goal.parts_zero-returns-in_default-2
parts_zero-returns-in_default-2 t c =
    let slot : c.field.inside.slot ≡ c.in-Some.field.slot = ap (λ (f : Field). f.slot) c.field.view_is in
    let none : slot_zero (zero_within c.args.levels c.args.classes.now) c.in-Some.field.slot ≡ None =
    ap (λ (s : Slot). slot_zero (zero_within c.args.levels c.args.classes.now) s) (sym slot) ∙ sym c.in_ok-value.ensures ∙ c.in_default-2.is in
    sym (zero_lacks (zero_within c.args.levels c.args.classes.now) c.args.fields.now c.loop-k.k c.loop-k.parts _ c.in-Some.field (sym c.get.ensures ∙ c.in-Some.is) none c.loop-k.invariant)

pub parts_zero-loop-k-preserved : goal.parts_zero-loop-k-preserved
parts_zero-loop-k-preserved t c =
    let slot : c.field.inside.slot ≡ c.in-Some.field.slot = ap (λ (f : Field). f.slot) c.field.view_is in
    let name : c.field.inside.name.now ≡ c.in-Some.field.name = ap (λ (f : Field). f.name) c.field.view_is in
    let had : slot_zero (zero_within c.args.levels c.args.classes.now) c.in-Some.field.slot ≡ Some c.in-Some-2.value =
    ap (λ (s : Slot). slot_zero (zero_within c.args.levels c.args.classes.now) s) (sym slot) ∙ sym c.in_ok-value.ensures ∙ c.in-Some-2.is in
    let pushed : c.push.new.self ≡ c.loop-k.parts ++ part c.in-Some.field.name c.in-Some-2.value ∷ [] =
    c.in_ok-push.ensures.ok ∙ ap (λ (p : Part). c.loop-k.parts ++ p ∷ []) (c.in_ok-part_with.ensures ∙ ap (λ (n : List ℕ). part n c.in-Some-2.value) name) in
    subst (λ (ps : List Part). option_map (λ qs. ps ++ qs) (parts_zero (zero_within c.args.levels c.args.classes.now) (drop (c.loop-k.k + 1) c.args.fields.now)) ≡ parts_zero (zero_within c.args.levels c.args.classes.now) c.args.fields.now) (sym pushed)
    (zero_goes_on (zero_within c.args.levels c.args.classes.now) c.args.fields.now c.loop-k.k c.loop-k.parts _ c.in-Some.field c.in-Some-2.value (sym c.get.ensures ∙ c.in-Some.is) had c.loop-k.invariant)

pub zero_within-returns-then-levels-eq0 : goal.zero_within-returns-then-levels-eq0
zero_within-returns-then-levels-eq0 t c =
    let none : c.args.levels ≡ 0 = omega (arith, c.if-levels-eq0.true) in
    sym (no_levels c.args.classes.now c.args.class.now c.args.levels none)

pub zero_within-returns-in-Some : goal.zero_within-returns-in-Some
zero_within-returns-in-Some t c =
    let fits : SFits w32 c.in-Some.version = search rules in
    let some : 0 < c.args.levels = omega (arith, c.if-levels-eq0.false) in
    let known : zero_version c.args.classes.now c.args.class.now ≡ Some c.in-Some.version = sym c.zero_version.ensures ∙ c.in-Some.is in
    rw (more_levels c.args.classes.now c.args.class.now c.args.levels c.in-Some.version some known) (simp to_z-of_z at c.object_zero.ensures)

pub zero_within-returns-in-None : goal.zero_within-returns-in-None
zero_within-returns-in-None t c =
    let none : zero_version c.args.classes.now c.args.class.now ≡ None = sym c.zero_version.ensures ∙ c.in-None.is in
    sym (not_known c.args.classes.now c.args.class.now c.args.levels none)
