use Rattle.std.proofs.Common.{◌≡◌, ◌∙◌, ◌+◌, ◌≤◌, length, length-drop, drop, arith}
use Rattle.rio_host.proofs.RangeLaws.{has_range, take_within}
use Rattle.rio_close.proofs.record.read_up_to.Goals as goal

pub returns-clause-bytes : goal.returns-clause-bytes
returns-clause-bytes g c file told =
    let all : c.args.file_length ≡ length file = c.requires file told in
    let within : c.args.place + c.min-n.result ≤ length file = omega (arith, all, c.if-n-eq0.false) in
    has_range file c.args.place c.min-n.result c.in_ok-bytes_at.field-0.items c.in_ok-bytes_at.ensures.count within (c.in_ok-bytes_at.ensures.bytes file told)
    ∙ take_within c.min-n.result c.args.n (drop c.args.place file) (omega (arith, all, length-drop c.args.place file))
