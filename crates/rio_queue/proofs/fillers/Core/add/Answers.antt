use Rattle.std.proofs.Common.{◌∙◌, ◌≤◌, ◌<◌, List, ap, arith, length, refl, sym}
use Rattle.std.proofs.lemmas.List.{with_items_is}
use Rattle.std.proofs.lemmas.Option.{slice_get_past, slice_get_read}
use Rattle.std.specs.List.{slice_get}
use Rattle.rio_queue.specs.Steps.{CoreState, unit_limit, with_row}
use Rattle.rio_queue.specs.declared.fillers.OpenUnit.{OpenUnit}
use Rattle.rio_queue.specs.declared.steps.Step.{TheVariants.{Add}}
use Rattle.rio_queue.proofs.StepLaws.{added, full_adds, nobody_adds, refuses, set_there}
use Rattle.rio_queue.proofs.fillers.Core.add.Goals as goal

pub returns-in-None-clause-exact : goal.returns-in-None-clause-exact
returns-in-None-clause-exact c =
    let core = c.args.self.now in
    let now = c.deref.result.now in
    let same = c.deref.ensures.value ∙ ap (λ (s : CoreState). s.fillers) c.self.view_is in
    let none = ap (λ (l : List OpenUnit). slice_get l c.args.filler) (sym same) ∙ slice_get_past now c.args.filler c.in-None.ensures.lookup.3 in
    refuses core (Add c.args.filler c.args.row) 22 _ (nobody_adds core c.args.filler c.args.row none) c.refused.ensures

pub returns-then-rows-ge-UNIT_LIMIT-clause-exact : goal.returns-then-rows-ge-UNIT_LIMIT-clause-exact
returns-then-rows-ge-UNIT_LIMIT-clause-exact c =
    let core = c.args.self.now in
    let now = c.deref.result.now in
    let same = c.deref.ensures.value ∙ ap (λ (s : CoreState). s.fillers) c.self.view_is in
    let o = c.in-Some.open.now in
    let there = ap (λ (l : List OpenUnit). slice_get l c.args.filler) (sym same) ∙ slice_get_read now (length now) c.args.filler o refl c.in-Some.ensures.lookup.3.0 c.in-Some.ensures.lookup.1 in
    let full : unit_limit ≤ length o.rows = omega (arith, c.len-rows.ensures, c.if-rows-ge-UNIT_LIMIT.true) in
    refuses core (Add c.args.filler c.args.row) 26 _ (full_adds core c.args.filler o there c.args.row full) c.refused-then-rows-ge-UNIT_LIMIT.ensures

pub returns-clause-exact : goal.returns-clause-exact
returns-clause-exact c =
    let core = c.args.self.now in
    let now = c.deref.result.now in
    let view = c.self.view_is in
    let same = c.deref.ensures.value ∙ ap (λ (s : CoreState). s.fillers) view in
    let o = c.in-Some.open.now in
    let there = ap (λ (l : List OpenUnit). slice_get l c.args.filler) (sym same) ∙ slice_get_read now (length now) c.args.filler o refl c.in-Some.ensures.lookup.3.0 c.in-Some.ensures.lookup.1 in
    let room : length o.rows < unit_limit = omega (arith, c.len-rows.ensures, c.if-rows-ge-UNIT_LIMIT.false) in
    let units = c.self.inside.fillers in
    let new = c.push_row.new.fillers in
    let all = with_items_is units new (c.push_row.auto.fillers ∙ ap (λ (us : List OpenUnit). length us) c.deref_mut.ensures.value ∙ sym units.ok.0) in
    let held = c.deref_mut.ensures.value ∙ ap (λ (s : CoreState). s.fillers) view in
    let set = set_there core.fillers c.args.filler o there (with_row c.args.row) c.deref_mut.result.now new held c.in_ok-push_row.ensures.ok in
    added core c.args.filler o there c.args.row room c.len-rows.result c.len-rows.ensures _ (ap (λ (s : CoreState). s.cap) view) (ap (λ (s : CoreState). s.queue) view) (all ∙ set)
