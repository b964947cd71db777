use Rattle.rootio.proofs.SummarySaid.{makes_line}
use Rattle.rootio.proofs.generate.summary_line.Goals as goal

pub returns-in-Ok-line_of-clause-line : goal.returns-in-Ok-line_of-clause-line
returns-in-Ok-line_of-clause-line g c = λ file told.
    makes_line c.args.entries file c.in-Ok-line_of.line.bytes c.in-Ok.tree (c.in-Ok.ensures.exact file told) c.in-Ok-line_of.ensures
