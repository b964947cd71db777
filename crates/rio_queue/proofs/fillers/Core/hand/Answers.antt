use Rattle.std.proofs.Common.{◌≡◌, ◌∙◌, ◌≤◌, ◌<◌, List, [], ◌∷◌, ◌++◌, ap, arith, length, refl, sym}
use Rattle.std.proofs.lemmas.List.{with_items_is}
use Rattle.std.proofs.lemmas.Option.{slice_get_past, slice_get_read}
use Rattle.std.specs.List.{slice_get}
use Rattle.rio_queue.specs.Steps.{CoreState, unit_after_hand}
use Rattle.rio_queue.specs.declared.fillers.OpenUnit.{OpenUnit}
use Rattle.rio_queue.specs.declared.steps.Step.{TheVariants.{Hand}}
use Rattle.rio_queue.specs.declared.steps.Unit.{Unit as RowUnit}
use Rattle.rio_queue.proofs.StepLaws.{empty_hands, few_handed, full_hands, handed, nobody_hands, refuses, set_there, unit_there}
use Rattle.rio_queue.proofs.fillers.Core.hand.Goals as goal

pub returns-in-None-clause-exact : goal.returns-in-None-clause-exact
returns-in-None-clause-exact c =
    let core = c.args.self.now in
    let now = c.deref.result.now in
    let same = c.deref.ensures.value ∙ ap (λ (s : CoreState). s.fillers) c.self.view_is in
    let none = ap (λ (l : List OpenUnit). slice_get l c.args.filler) (sym same) ∙ slice_get_past now c.args.filler c.in-None.ensures.lookup.3 in
    refuses core (Hand c.args.filler) 22 _ (nobody_hands core c.args.filler none) c.refused.ensures

pub returns-then-len-self-clause-exact : goal.returns-then-len-self-clause-exact
returns-then-len-self-clause-exact c =
    let core = c.args.self.now in
    let now = c.deref.result.now in
    let view = c.self.view_is in
    let same = c.deref.ensures.value ∙ ap (λ (s : CoreState). s.fillers) view in
    let o = c.in-Some.open.now in
    let there = ap (λ (l : List OpenUnit). slice_get l c.args.filler) (sym same) ∙ slice_get_read now (length now) c.args.filler o refl c.in-Some.ensures.lookup.3.0 c.in-Some.ensures.lookup.1 in
    let full : core.cap ≤ length core.queue = omega (arith, c.len.ensures, c.if-len-self.true, ap (λ (s : CoreState). s.cap) view, ap (λ (s : CoreState). length s.queue) view) in
    refuses core (Hand c.args.filler) 23 _ (full_hands core c.args.filler o there full) c.refused-then-len-self.ensures

pub returns-then-rows-eq0-clause-exact : goal.returns-then-rows-eq0-clause-exact
returns-then-rows-eq0-clause-exact c =
    let core = c.args.self.now in
    let now = c.deref.result.now in
    let view = c.self.view_is in
    let same = c.deref.ensures.value ∙ ap (λ (s : CoreState). s.fillers) view in
    let o = c.in-Some.open.now in
    let there = ap (λ (l : List OpenUnit). slice_get l c.args.filler) (sym same) ∙ slice_get_read now (length now) c.args.filler o refl c.in-Some.ensures.lookup.3.0 c.in-Some.ensures.lookup.1 in
    let room : length core.queue < core.cap = omega (arith, c.len.ensures, c.if-len-self.false, ap (λ (s : CoreState). s.cap) view, ap (λ (s : CoreState). length s.queue) view) in
    let none : length o.rows ≡ 0 = omega (arith, c.len-rows.ensures, c.if-rows-eq0.true) in
    refuses core (Hand c.args.filler) 25 _ (empty_hands core c.args.filler o there room none) c.refused-then-rows-eq0.ensures

pub close_unit-unit-requires-clause-few : goal.close_unit-unit-requires-clause-few
close_unit-unit-requires-clause-few c = λ d.
    let core = c.args.self.now in
    let now = c.deref.result.now in
    let view = c.self.view_is in
    let same = c.deref.ensures.value ∙ ap (λ (s : CoreState). s.fillers) view in
    let o = c.in-Some.open.now in
    let there = ap (λ (l : List OpenUnit). slice_get l c.args.filler) (sym same) ∙ slice_get_read now (length now) c.args.filler o refl c.in-Some.ensures.lookup.3.0 c.in-Some.ensures.lookup.1 in
    few_handed core c.args.filler o there c.requires c.deref_mut.result.now (c.deref_mut.ensures.value ∙ ap (λ (s : CoreState). s.fillers) view) d

pub returns-clause-exact : goal.returns-clause-exact
returns-clause-exact c =
    let core = c.args.self.now in
    let now = c.deref.result.now in
    let view = c.self.view_is in
    let same = c.deref.ensures.value ∙ ap (λ (s : CoreState). s.fillers) view in
    let o = c.in-Some.open.now in
    let there = ap (λ (l : List OpenUnit). slice_get l c.args.filler) (sym same) ∙ slice_get_read now (length now) c.args.filler o refl c.in-Some.ensures.lookup.3.0 c.in-Some.ensures.lookup.1 in
    let room : length core.queue < core.cap = omega (arith, c.len.ensures, c.if-len-self.false, ap (λ (s : CoreState). s.cap) view, ap (λ (s : CoreState). length s.queue) view) in
    let some : 0 < length o.rows = omega (arith, c.len-rows.ensures, c.if-rows-eq0.false) in
    let units = c.self.inside.fillers in
    let new = c.close_unit-unit.new.fillers in
    let all = with_items_is units new (c.close_unit-unit.auto.fillers ∙ ap (λ (us : List OpenUnit). length us) c.deref_mut.ensures.value ∙ sym units.ok.0) in
    let held = c.deref_mut.ensures.value ∙ ap (λ (s : CoreState). s.fillers) view in
    let set = set_there core.fillers c.args.filler o there unit_after_hand c.deref_mut.result.now new held c.close_unit-unit.ensures.rest in
    let unit = c.close_unit-unit.ensures.unit o ∙ unit_there core.fillers c.args.filler o there c.deref_mut.result.now held in
    let queue = c.push_back_reserved.ensures.items ∙ ap (λ (q : List RowUnit). q ++ c.close_unit-unit.result ∷ []) (c.in_ok-reserve.ensures.items ∙ ap (λ (s : CoreState). s.queue) view) in
    handed core c.args.filler o there room some c.close_unit-unit.result unit _ (ap (λ (s : CoreState). s.cap) view) queue (all ∙ set)
