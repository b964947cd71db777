use Rattle.std.proofs.Common.{List, Option, is_some, sym, ap, ◌∙◌}
use Rattle.std.specs.List.{list_all}
use Rattle.rio_machine.specs.State.{Row}
use Rattle.rio_entry.specs.SavedRows.{has_baskets}
use Rattle.rio_entry.proofs.{KeyedLaws.{keyed_rows, no_keyed_rows}, Left.{if_ok_more}}
use Rattle.rio_entry.proofs.saved.are_rows_saved.Goals as goal

pub returns-then-not-have_baskets-clause-saved : goal.returns-then-not-have_baskets-clause-saved
returns-then-not-have_baskets-clause-saved g c = λ by_place order file told.
    no_keyed_rows c.args.keys.now file c.args.classes.now c.args.head.now (ap (list_all (has_baskets c.args.keys.now)) (sym c.as_slice.ensures) ∙ sym (c.have_baskets.ensures by_place) ∙ c.if-not-have_baskets.true)

pub returns-clause-saved : goal.returns-clause-saved
returns-clause-saved g c =
    if_ok_more c.are_file_rows.result c.are_file_rows.ensures.saved (λ saved is by_place order file told.
    is order file told
    ∙ ap (λ (o : Option (List Row)). is_some o) (keyed_rows c.args.keys.now file c.args.classes.now c.args.head.now (ap (list_all (has_baskets c.args.keys.now)) (sym c.as_slice.ensures) ∙ sym (c.have_baskets.ensures by_place) ∙ c.if-not-have_baskets.false)))
