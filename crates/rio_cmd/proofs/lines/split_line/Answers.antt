use Rattle.std.proofs.Common.{◌+◌, sym, ◌∙◌}
use Rattle.rio_cmd.proofs.LineLaws.{first_line, only_line, rest_whole}
use Rattle.rio_cmd.proofs.lines.split_line.Goals as goal

pub returns-in-Some-clause-lines : goal.returns-in-Some-clause-lines
returns-in-Some-clause-lines c =
    rw (c.without_carriage_return.ensures.text, rest_whole (c.in-Some.end + 1) c.args.bytes.now)
    (first_line c.args.bytes.now c.in-Some.end (sym c.line_feed_in.ensures.place ∙ c.in-Some.is))

pub returns-in-None-clause-lines : goal.returns-in-None-clause-lines
returns-in-None-clause-lines c = only_line c.args.bytes.now (sym c.line_feed_in.ensures.place ∙ c.in-None.is) (sym c.is_empty.ensures ∙ c.if-is_empty.false)
