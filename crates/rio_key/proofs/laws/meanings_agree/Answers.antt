use Rattle.rio_num.proofs.Agree.{agrees}
use Rattle.rio_key.specs.{BasketFront.{basket_front}, BasketHead.{basket_head_layout}, Key.{key_layout}, KeyList.{key_list_layout}}
use Rattle.rio_key.proofs.laws.meanings_agree.Goals as goal

pub returns-clause-key : goal.returns-clause-key
returns-clause-key c = agrees key_layout

pub returns-clause-list : goal.returns-clause-list
returns-clause-list c = agrees key_list_layout

pub returns-clause-head : goal.returns-clause-head
returns-clause-head c = agrees basket_head_layout

pub returns-clause-front : goal.returns-clause-front
returns-clause-front c = agrees basket_front
