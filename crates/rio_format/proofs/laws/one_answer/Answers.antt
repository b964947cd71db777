use Rattle.rio_format.proofs.ObjectLaws.{broken_is_not_spelled, broken_once, spelled_or_broken}
use Rattle.rio_format.proofs.laws.one_answer.Goals as goal

pub returns-clause-some : goal.returns-clause-some
returns-clause-some c = spelled_or_broken

pub returns-clause-apart : goal.returns-clause-apart
returns-clause-apart c = broken_is_not_spelled

pub returns-clause-one : goal.returns-clause-one
returns-clause-one c = broken_once
