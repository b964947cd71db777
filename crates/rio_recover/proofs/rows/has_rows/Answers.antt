use Rattle.std.proofs.Common.{◌∙◌, ap}
use Rattle.std.specs.Prelude.{is_some}
use Rattle.rio_entry.proofs.HeadOrder.{head_in_order}
use Rattle.rio_recover.proofs.{PlacesSought.{by_place}, RowsSought.{rows_keyed}}
use Rattle.rio_recover.proofs.rows.has_rows.Goals as goal

pub returns-clause-rows : goal.returns-clause-rows
returns-clause-rows g c file at_place v told keyed reads =
    let heads = c.args.heads.now in
    let head = c.args.head.now in
    c.in_ok-are_rows_saved.ensures.saved (by_place 0 heads c.requires) (head_in_order v head reads) file (c.length.ensures.holds ∙ told)
    ∙ ap is_some (rows_keyed c.args.classes.now file heads at_place head keyed)
