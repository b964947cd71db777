use Rattle.rio_dir.proofs.MapLaws.{greatest_found, put_in_found, taken_out_gone}
use Rattle.rio_dir.proofs.laws.key_table_is_a_map.Goals as goal

pub returns-clause-put : goal.returns-clause-put
returns-clause-put c = put_in_found

pub returns-clause-taken : goal.returns-clause-taken
returns-clause-taken c = taken_out_gone

pub returns-clause-greatest : goal.returns-clause-greatest
returns-clause-greatest c = greatest_found
