use Rattle.std.proofs.Common.{◌≡◌, ◌+◌, ◌-◌, ◌<◌, ◌^◌, List, None, length, sym, subst, ◌∙◌, ap}
use Rattle.std.specs.List.{All}
use Rattle.rio_free.specs.{declared.entry.FreeEntry.{FreeEntry}, EntryList.{AreEntriesAbove, inner_entries}}
use Rattle.rio_free.proofs.EntryGaps.{above_front, inner_fit}
use Rattle.rio_free.proofs.read.read_free.Goals as goal

pub gaps_of-requires-clause-rise : goal.gaps_of-requires-clause-rise
gaps_of-requires-clause-rise c =
    let es = c.in_ok-entries.entries in
    let same : c.inner_entries.result.now ≡ inner_entries es = c.inner_entries.ensures ∙ ap inner_entries c.as_slice.ensures in
    subst (AreEntriesAbove None) (sym same) (above_front None es (length es - 1) c.in_ok-entries.ensures.rise)

pub gaps_of-requires-clause-fit : goal.gaps_of-requires-clause-fit
gaps_of-requires-clause-fit c =
    let es = c.in_ok-entries.entries in
    let same : c.inner_entries.result.now ≡ inner_entries es = c.inner_entries.ensures ∙ ap inner_entries c.as_slice.ensures in
    subst (λ (l : List FreeEntry). All (λ e. e.last + 1 < 2 ^ 64) l) (sym same) (inner_fit None es c.in_ok-entries.ensures.rise)
