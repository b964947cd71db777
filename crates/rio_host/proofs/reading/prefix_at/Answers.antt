use Rattle.std.proofs.{Common.{◌≡◌, ◌∙◌, ◌+◌, ◌≤◌, length, length-drop, length-take, drop, arith}, lemmas.List.{take_at}}
use Rattle.rio_host.proofs.RangeLaws.{has_range, take_within}
use Rattle.rio_host.proofs.reading.prefix_at.Goals as goal

pub returns-then-file_length-place-clause-bytes : goal.returns-then-file_length-place-clause-bytes
returns-then-file_length-place-clause-bytes g c file told =
    let all : c.args.file_length ≡ length file = c.requires file told in
    take_within 0 (length c.args.into.now) (drop c.args.place file) (omega (arith, all, c.if-file_length-place.true, length-drop c.args.place file))

pub returns-clause-bytes : goal.returns-clause-bytes
returns-clause-bytes g c file told =
    let all : c.args.file_length ≡ length file = c.requires file told in
    let long : length c.read.new.into ≡ c.min-n.result = omega (arith, c.read.auto.into, length-take c.min-n.result c.args.into.now) in
    let within : c.args.place + c.min-n.result ≤ length file = omega (arith, all, c.if-file_length-place.false) in
    take_at c.read.new.into _ c.min-n.result long
    ∙ has_range file c.args.place c.min-n.result c.read.new.into long within (c.in_ok-read.ensures.bytes file told)
    ∙ take_within c.min-n.result (length c.args.into.now) (drop c.args.place file) (omega (arith, all, length-drop c.args.place file))
