use Rattle.std.proofs.Common.{◌∙◌}
use Rattle.rio_format.proofs.LeadLaws.{name_is_found}
use Rattle.rio_format.proofs.index.Index.first.Goals as goal

pub returns : goal.returns
returns c = c.first_at.ensures ∙ name_is_found _ _ _ c.requires.names_lead
