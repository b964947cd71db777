use Rattle.std.proofs.Common.{ap, sym, ◌∙◌}
use Rattle.std.specs.Prelude.{is_some}
use Rattle.rio_registry.proofs.KnownLaws.{is_some-newest_in, is_some-option_copied}
use Rattle.rio_recover.proofs.header.is_declared.Goals as goal

pub returns : goal.returns
returns c =
    c.is_some.ensures ∙ sym (is_some-option_copied c.newest.result) ∙ ap is_some c.newest.ensures ∙ is_some-newest_in c.args.classes.now c.args.name.now
