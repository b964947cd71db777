use Rattle.rio_effect.proofs.PutBaskets.{baskets_have_records, pending_rows_are_read, put_basket_is_read}
use Rattle.rio_effect.proofs.laws.baskets_are_read.Goals as goal

pub returns-clause-records : goal.returns-clause-records
returns-clause-records c = baskets_have_records

pub returns-clause-entries : goal.returns-clause-entries
returns-clause-entries c = put_basket_is_read

pub returns-clause-rows : goal.returns-clause-rows
returns-clause-rows c = pending_rows_are_read
