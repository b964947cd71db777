use Rattle.rio_effect.proofs.BasketRuns.{basket_is_put, baskets_are_put, baskets_keep_all}
use Rattle.rio_effect.proofs.laws.baskets_are_put.Goals as goal

pub returns-clause-one : goal.returns-clause-one
returns-clause-one c = basket_is_put

pub returns-clause-keep : goal.returns-clause-keep
returns-clause-keep c = baskets_keep_all

pub returns-clause-all : goal.returns-clause-all
returns-clause-all c = baskets_are_put
