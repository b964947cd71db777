use Rattle.rio_reply.proofs.Scans as laws
use Rattle.rio_reply.proofs.laws.scans_are_lines.Goals as goal

pub returns : goal.returns
returns c = laws.scans_are_lines
