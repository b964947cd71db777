use Rattle.std.proofs.Common.{◌^◌, ◌<◌, ◌∙◌, arith}
use Rattle.rio_create.proofs.Gates.{made_is, made_time}
use Rattle.rio_create.proofs.making.create.Goals as goal

pub returns-in_err-put_file-clause-any_moment : goal.returns-in_err-put_file-clause-any_moment
returns-in_err-put_file-clause-any_moment g c file holds =
    let low : c.args.datime < 2 ^ 32 = omega arith in
    made_time c.args.name.now c.args.datime c.requires.short low c.as_slice.result.now (c.as_slice.ensures ∙ c.in_ok-bytes.ensures.bytes) (g.H.Host.view c.args.host.now) (g.H.Host.view c.put_file.new.host)
    (c.put_file.ensures.any_moment file holds (c.requires.unborn file holds))

pub returns-clause-any_moment : goal.returns-clause-any_moment
returns-clause-any_moment g c file holds =
    let low : c.args.datime < 2 ^ 32 = omega arith in
    made_time c.args.name.now c.args.datime c.requires.short low c.as_slice.result.now (c.as_slice.ensures ∙ c.in_ok-bytes.ensures.bytes) (g.H.Host.view c.args.host.now) (g.H.Host.view c.put_file.new.host)
    (c.put_file.ensures.any_moment file holds (c.requires.unborn file holds))

pub returns-clause-made : goal.returns-clause-made
returns-clause-made g c file holds =
    let low : c.args.datime < 2 ^ 32 = omega arith in
    made_is c.args.name.now c.args.datime c.requires.short low c.as_slice.result.now (c.as_slice.ensures ∙ c.in_ok-bytes.ensures.bytes) (g.H.Host.view c.put_file.new.host) (c.in_ok-put_file.ensures.made file holds)
