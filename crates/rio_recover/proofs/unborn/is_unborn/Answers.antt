use Rattle.std.proofs.Common.{◌∙◌, ap, arith}
use Rattle.rio_dir.specs.Unborn.{is_unborn}
use Rattle.rio_dir.proofs.UnbornPrefix.{unborn_prefix}
use Rattle.rio_recover.proofs.unborn.is_unborn.Goals as goal

pub returns-clause-exact : goal.returns-clause-exact
returns-clause-exact g c file told =
    c.begins_unborn.ensures ∙ ap is_unborn (c.in_ok-n.ensures.bytes file (c.length.ensures.holds ∙ told)) ∙ unborn_prefix 4 file (omega arith)
