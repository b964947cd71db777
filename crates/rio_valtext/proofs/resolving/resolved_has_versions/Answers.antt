use Rattle.rio_valtext.proofs.VersionLaws.{resolved_has_versions_so}
use Rattle.rio_valtext.proofs.resolving.resolved_has_versions.Goals as goal

pub returns : goal.returns
returns c = resolved_has_versions_so
