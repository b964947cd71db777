use Rattle.std.proofs.{Common.{arith}, lemmas.Result.{err_from_is_err_and}}
use Rattle.rio_entry.proofs.Totals.{list_fails, list_is_read}
use Rattle.rio_entry.proofs.read_leaves.read_list.Goals as goal

pub returns-in_err-values-clause-exact : goal.returns-in_err-values-clause-exact
returns-in_err-values-clause-exact c = λ count e.
    let p = err_from_is_err_and c.from_residual.result c.from_residual.ensures.1 in
    rw (p.1, p.2) (λ ne. list_fails c.args.of count c.args.n c.min.result c.args.reader.now e (omega arith) (omega (arith, c.left.ensures.fits)) c.in_err-values.field-0.0 (c.in_err-values.ensures.exact ne))

pub returns-clause-exact : goal.returns-clause-exact
returns-clause-exact c = λ count e.
    list_is_read c.args.of count c.args.n c.min.result c.args.reader.now e (omega arith) (omega (arith, c.left.ensures.fits)) c.in_ok-values.values c.read_times.new.reader c.in_ok-values.ensures.exact
