use Rattle.std.proofs.Common.{ap, ◌∙◌}
use Rattle.rio_format.specs.{Index.{passing}, Places.{is_named}}
use Rattle.rio_format.proofs.index.first_at.Goals as goal

pub returns : goal.returns
returns c =
    c.first_passing.ensures ∙ ap (passing (is_named c.args.name.now) c.args.classes.now) (c.copied.ensures ∙ c.get.ensures.value)
