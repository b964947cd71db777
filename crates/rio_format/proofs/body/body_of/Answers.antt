use Rattle.rio_format.proofs.body.body_of.Goals as goal

pub returns-in-Some : goal.returns-in-Some
returns-in-Some c = rw c.in-Some.is (c.summed_body.ensures c.args.header.now.version)
