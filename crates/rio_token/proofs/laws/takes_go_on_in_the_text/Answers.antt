use Rattle.rio_token.proofs.{FurtherLaws.{further_goes_on, further_is_in_text, takes_end_further}, PassLaws.{passed_takes_some}}
use Rattle.rio_token.proofs.laws.takes_go_on_in_the_text.Goals as goal

pub returns-clause-takes : goal.returns-clause-takes
returns-clause-takes c = takes_end_further

pub returns-clause-text : goal.returns-clause-text
returns-clause-text c = further_is_in_text

pub returns-clause-goes : goal.returns-clause-goes
returns-clause-goes c = further_goes_on

pub returns-clause-some : goal.returns-clause-some
returns-clause-some c = passed_takes_some
