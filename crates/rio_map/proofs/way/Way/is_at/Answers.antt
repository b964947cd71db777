use Rattle.std.proofs.Common.{◌∙◌, ℕ, List, Option, Some, sym, ap}
use Rattle.std.proofs.lemmas.Slice.Eq.{bytes_eq-Decides}
use Rattle.rio_map.proofs.way.Way.is_at.Goals as goal

abbrev some_name : List ℕ → Option (List ℕ)
some_name name = Some name

pub returns-in-Some : goal.returns-in-Some
returns-in-Some c =
    λ e. sym c.in-Some.ensures ∙ ap some_name (sym c.as_slice.ensures ∙ (bytes_eq-Decides c.as_slice.result.now c.args.class.now).0 (sym c.eq.ensures ∙ e))
