use Rattle.std.proofs.{Common.{◌*◌, ◌≤◌, arith}, Math.Nat.{div-mul-le_self, le-div_iff_mul-le}}
use Rattle.rio_num.specs.{Layout.{any}, Meanings.{read}}
use Rattle.rio_format.specs.declared.fault.ObjFault.TheVariants.{Short}
use Rattle.rio_read.proofs.Passing.{enough, never_cut, taken, too_few}
use Rattle.rio_read.proofs.pass.numbers.pass_numbers.Goals as goal

pub overflow_mul-n : goal.overflow_mul-n
overflow_mul-n c =
    let fits : c.args.n * c.width_of-width.result ≤ c.left.result = (le-div_iff_mul-le c.width_of-width.ensures.some).0 c.if-n-whole.true in
    omega (arith, fits)

pub returns-then-n-whole-clause-exact : goal.returns-then-n-whole-clause-exact
returns-then-n-whole-clause-exact c =
    rw (enough c.args.of c.args.n c.width_of-width.result c.left.result c.args.reader.now c.width_of-width.ensures.value c.left.ensures.value c.width_of-width.ensures.some c.if-n-whole.true) (taken c.skip.result (read (any Short (c.args.n * c.width_of-width.result)) c.args.reader.now) c.args.reader.now c.skip.new.self c.skip.ensures.exact)

pub overflow_mul-whole : goal.overflow_mul-whole
overflow_mul-whole c = omega (arith, div-mul-le_self c.left.result c.width_of-width.result)

pub returns-in_err-skip-clause-exact : goal.returns-in_err-skip-clause-exact
returns-in_err-skip-clause-exact c =
    absurd (never_cut c.width_of-width.result c.left.result c.args.reader.now _ c.left.ensures.value c.in_err-skip.ensures.exact.0)

pub returns-clause-exact : goal.returns-clause-exact
returns-clause-exact c =
    rw (too_few c.args.of c.args.n c.width_of-width.result c.left.result c.args.reader.now c.skip-2.new.self c.width_of-width.ensures.value c.left.ensures.value c.width_of-width.ensures.some c.if-n-whole.false c.in_ok-skip.ensures.exact) (taken c.skip-3.result (read (any Short c.width_of-width.result) c.skip-2.new.self) c.skip-2.new.self c.skip-3.new.self c.skip-3.ensures.exact)
