use Rattle.rio_effect.proofs.{HeaderStands.{header_takes_effect}, OutdatedHeaders.{outdated_header_goes}, SavedRows.{saved_rows_are_read}}
use Rattle.rio_effect.proofs.laws.header_takes_effect.Goals as goal

pub returns-clause-effect : goal.returns-clause-effect
returns-clause-effect c = header_takes_effect

pub returns-clause-rows : goal.returns-clause-rows
returns-clause-rows c = saved_rows_are_read

pub returns-clause-outdated : goal.returns-clause-outdated
returns-clause-outdated c = outdated_header_goes
