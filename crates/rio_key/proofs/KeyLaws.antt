-- One key, and one list of key heads, is spelled at the beginning of some bytes.
use Rattle.rio_num.specs.Plain.{IsOne}
use Rattle.rio_num.proofs.Plain.{one_spelled}
use Rattle.rio_key.specs.{Key.{SpellsKey, key_layout}, KeyList.{SpellsKeyList, key_list_layout}}

pub one_key_lem : IsOne SpellsKey
unfolding SpellsKey
one_key_lem = one_spelled key_layout

pub one_key_list_lem : IsOne SpellsKeyList
unfolding SpellsKeyList
one_key_list_lem = one_spelled key_list_layout
