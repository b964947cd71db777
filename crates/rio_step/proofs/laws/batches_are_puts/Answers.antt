use Rattle.rio_step.proofs.{BatchLaws.{cycles_count_up}, BatchTaken.{batches_take_all}}
use Rattle.rio_step.proofs.laws.batches_are_puts.Goals as goal

pub returns-clause-cycles : goal.returns-clause-cycles
returns-clause-cycles c = cycles_count_up

pub returns-clause-all : goal.returns-clause-all
returns-clause-all c = batches_take_all
