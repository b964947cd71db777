use Rattle.rio_valtext.proofs.ResolveLaws.{resolved_stays_so}
use Rattle.rio_valtext.proofs.resolving.resolved_stays.Goals as goal

pub returns : goal.returns
returns c = resolved_stays_so
