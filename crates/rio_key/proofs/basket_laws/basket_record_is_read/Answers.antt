use Rattle.rio_key.proofs.WrittenBaskets.{are_basket_records}
use Rattle.rio_key.proofs.basket_laws.basket_record_is_read.Goals as goal

pub returns : goal.returns
returns c = are_basket_records
