use Rattle.std.proofs.Common.{pos, sym, ap, ◌∙◌}
use Rattle.std.specs.{List.{slice_get}, Option.{option_and_then}}
use Rattle.rio_format.specs.Index.{has_number, number_place, sum_of}
use Rattle.rio_format.proofs.{LeadLaws.{no_name_no_number, number_is_found, find_sum_same}, PlaceLaws.{place-find}}
use Rattle.rio_format.proofs.index.Index.find_sum.Goals as goal

pub returns-in_err-first : goal.returns-in_err-first
returns-in_err-first c =
    let cs = c.args.classes.now in
    ap (option_and_then (slice_get cs)) (c.from_residual.ensures ∙ sym (no_name_no_number sum_of c.args.classes.now c.args.name.now (pos c.args.sum) (sym c.first.ensures ∙ c.in_err-first.was)))
    ∙ place-find (has_number sum_of c.args.name.now (pos c.args.sum)) cs
    ∙ find_sum_same cs c.args.name.now c.args.sum

pub returns : goal.returns
returns c =
    let first = c.in_ok-first.first in
    ap (option_and_then (slice_get c.args.classes.now)) (c.sum_at.ensures
    ∙ number_is_found sum_of c.args.classes.now (number_place c.args.self.now.sums) c.args.name.now (pos c.args.sum) first c.requires.sums_lead (sym c.first.ensures ∙ c.in_ok-first.was))
    ∙ place-find (has_number sum_of c.args.name.now (pos c.args.sum)) c.args.classes.now
    ∙ find_sum_same c.args.classes.now c.args.name.now c.args.sum
