use Rattle.rio_fill.proofs.FlagLaws.{flags_named, open_named}
use Rattle.rio_fill.proofs.laws.flags_name_baskets.Goals as goal

pub returns-clause-of_row : goal.returns-clause-of_row
returns-clause-of_row c = flags_named

pub returns-clause-of_save : goal.returns-clause-of_save
returns-clause-of_save c = open_named
