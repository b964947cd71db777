use Rattle.std.proofs.{Common.{rules, w32, SFits}, lemmas.Int.{to_z-of_z}}
use Rattle.rio_valtext.proofs.ResolveLaws.{resolving-Object}
use Rattle.rio_valtext.proofs.resolving.+resolve.Goals as goal

pub resolve_value-returns-in-Object : goal.resolve_value-returns-in-Object
resolve_value-returns-in-Object t c =
    let fits : SFits w32 c.in-Object.version = search rules in
    rw (c.in-Object.is, resolving-Object) (simp (to_z-of_z, c.as_slice-in-Object.ensures, c.as_slice-in-Object-2.ensures) at c.resolve_object.ensures)
