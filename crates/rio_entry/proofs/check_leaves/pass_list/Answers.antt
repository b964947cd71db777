use Rattle.std.proofs.{Common.{arith}, lemmas.Result.{err_from_is_err_and}}
use Rattle.rio_entry.proofs.LeafPasses.{list_breaks, list_is_passed}
use Rattle.rio_entry.proofs.check_leaves.pass_list.Goals as goal

pub returns-in_err-pass_numbers-clause-exact : goal.returns-in_err-pass_numbers-clause-exact
returns-in_err-pass_numbers-clause-exact c = λ count e.
    let p = err_from_is_err_and c.from_residual.result c.from_residual.ensures.1 in
    rw (p.1, p.2) (λ ne. list_breaks c.args.of count c.args.n c.min.result c.args.reader.now e (omega arith) (omega (arith, c.left.ensures.fits)) c.in_err-pass_numbers.field-0.0 (c.in_err-pass_numbers.ensures.exact ne))

pub returns-clause-exact : goal.returns-clause-exact
returns-clause-exact c = λ count e.
    list_is_passed c.args.of count c.args.n c.min.result c.args.reader.now e (omega arith) (omega (arith, c.left.ensures.fits)) c.pass_numbers.new.reader c.in_ok-pass_numbers.ensures.exact
