use Rattle.rio_model.proofs.ListNumbers.{described_have_numbers, written_have_numbers}
use Rattle.rio_model.proofs.list_laws.described_have_numbers.Goals as goal

pub returns-clause-declared : goal.returns-clause-declared
returns-clause-declared c = described_have_numbers

pub returns-clause-written : goal.returns-clause-written
returns-clause-written c = written_have_numbers
