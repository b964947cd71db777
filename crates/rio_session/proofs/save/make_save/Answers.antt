use Rattle.std.proofs.Common.{◌≡◌, ◌∙◌, ℕ, ◌+◌, ◌-◌, ◌<◌, ◌≤◌, ◌^◌, List, [], ◌∷◌, ◌++◌, length, refl, sym, ap, subst, arith}
use Rattle.rio_tree.specs.declared.head.TreeHead.{TreeHead}
use Rattle.rio_fill.specs.{Fill.{entry_count}, Heads.{are_places, saved_head}}
use Rattle.rio_effect.specs.TreeRecords.{header_key, header_record}
use Rattle.rio_session.specs.{Fills.{FilledTree}, Measures.{flags_for}, SavePlans.{head_now}, declared.steps.Step.{Step, TheVariants.{Put, Release}}}
use Rattle.rio_session.proofs.{SaveLengths.{value_low}, SavePlanned.{are_fit, last_place, place, place_is_low, places_enough, places_low, planned_now, said_is, save_made}}
use Rattle.rio_session.proofs.save.make_save.Goals as goal

pub plan_baskets-requires-clause-low : goal.plan_baskets-requires-clause-low
plan_baskets-requires-clause-low c = places_low c.requires.0 c.args.tree.now c.args.before.now c.args.places.now c.requires.2

pub plan_baskets-requires-clause-enough : goal.plan_baskets-requires-clause-enough
plan_baskets-requires-clause-enough c =
    places_enough c.requires.0 c.args.tree.now c.args.before.now c.args.places.now c.requires.2 (flags_for c.args.tree.now.fill.branches c.open_flags-flags.result) c.open_flags-flags.ensures

pub save_head-requires : goal.save_head-requires
save_head-requires c =
    let s = c.requires.0 in
    let t = c.args.tree.now in
    let k = c.args.before.now in
    let p = c.in_ok-planned.planned in
    let planned = planned_now s t k c.args.places.now c.requires.2 c.args.datime c.requires.1 c.open_flags-flags.result c.open_flags-flags.ensures p.steps.items p.ats c.in_ok-planned.ensures in
    ap (λ (u : FilledTree). are_places (entry_count u.fill) u.fill.branches p.ats) c.tree.view_is ∙ are_fit s t k c.args.places.now c.requires.2 p.steps.items p.ats planned

pub header_record-requires-clause-place : goal.header_record-requires-clause-place
header_record-requires-clause-place c =
    let s = c.requires.0 in
    let t = c.args.tree.now in
    let k = c.args.before.now in
    let p = c.in_ok-planned.planned in
    let planned = planned_now s t k c.args.places.now c.requires.2 c.args.datime c.requires.1 c.open_flags-flags.result c.open_flags-flags.ensures p.steps.items p.ats c.in_ok-planned.ensures in
    let at = c.place_at-place.ensures (place s t k c.args.places.now c.requires.2) (last_place s t k c.args.places.now c.requires.2 c.len.result (c.len.ensures ∙ planned.long)) in
    omega (arith, at, place_is_low s t k c.args.places.now c.requires.2)

pub header_record-requires-clause-name : goal.header_record-requires-clause-name
header_record-requires-clause-name c = omega (arith, ap length c.as_slice-name.ensures, ap (λ (t : FilledTree). length t.name) c.tree.view_is, c.stays_bounded.ensures.named)

pub header_record-requires-clause-short : goal.header_record-requires-clause-short
header_record-requires-clause-short c =
    let s = c.requires.0 in
    let t = c.args.tree.now in
    let k = c.args.before.now in
    let p = c.in_ok-planned.planned in
    let planned = planned_now s t k c.args.places.now c.requires.2 c.args.datime c.requires.1 c.open_flags-flags.result c.open_flags-flags.ensures p.steps.items p.ats c.in_ok-planned.ensures in
    let said : c.in_ok-said.said ≡ head_now s t = c.in_ok-said.ensures ∙ ap (λ (u : FilledTree). saved_head u.fill p.ats) c.tree.view_is ∙ said_is s t k c.args.places.now c.requires.2 p.steps.items p.ats planned in
    let named = c.as_slice-name.ensures ∙ ap (λ (u : FilledTree). u.name) c.tree.view_is in
    value_low s t c.requires.2.sound c.as_slice-name.result.now c.in_ok-said.said c.next_header_length.result named said c.next_header_length.ensures.exact (omega (arith, c.if-next_header_length-ge-HEADER_LIMIT.false))

pub returns : goal.returns
returns c s time can =
    let t = c.args.tree.now in
    let k = c.args.before.now in
    let p = c.in_ok-planned.planned in
    let planned = planned_now s t k c.args.places.now can c.args.datime time c.open_flags-flags.result c.open_flags-flags.ensures p.steps.items p.ats c.in_ok-planned.ensures in
    let at = c.place_at-place.ensures (place s t k c.args.places.now can) (last_place s t k c.args.places.now can c.len.result (c.len.ensures ∙ planned.long)) in
    let said : c.in_ok-said.said ≡ head_now s t = c.in_ok-said.ensures ∙ ap (λ (u : FilledTree). saved_head u.fill p.ats) c.tree.view_is ∙ said_is s t k c.args.places.now can p.steps.items p.ats planned in
    let named = c.as_slice-name.ensures ∙ ap (λ (u : FilledTree). u.name) c.tree.view_is in
    let r = c.in_ok-record.record in
    let bytes = c.in_ok-record.ensures.bytes ∙ ap (λ (n : List ℕ). header_record c.place_at-place.result c.args.datime n (k.cycle + 1) c.in_ok-said.said) named in
    let key = c.in_ok-record.ensures.head ∙ ap (λ (n : List ℕ). header_key c.place_at-place.result c.args.datime n (k.cycle + 1) c.in_ok-said.said) named in
    let two = c.in_ok-push-2.ensures.items ∙ ap (λ (l : List Step). l ++ Release k.seek ∷ []) c.in_ok-push.ensures.items in
    save_made s t k c.args.places.now can p.steps.items p.ats planned c.place_at-place.result c.args.datime c.in_ok-said.said at time said r.bytes bytes c.in_ok-record.ensures.spare c.in_ok-record.ensures.whole _ c.open_flags-flags.ensures refl key two
