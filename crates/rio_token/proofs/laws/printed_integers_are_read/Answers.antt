use Rattle.rio_token.proofs.DecimalLaws.{integers_are_read, nums_are_read}
use Rattle.rio_token.proofs.laws.printed_integers_are_read.Goals as goal

pub returns-clause-integers : goal.returns-clause-integers
returns-clause-integers c = integers_are_read

pub returns-clause-nums : goal.returns-clause-nums
returns-clause-nums c = nums_are_read
