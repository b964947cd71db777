-- A head of a list is a key, whose faults are told with the head's place.
use Rattle.std.proofs.Common.{◌≡◌, Some}
use Rattle.rio_num.specs.{At.{At}, Meanings.{read}, Plain.{plain}}
use Rattle.rio_num.proofs.Retold.{retold_same, with_fault}
use Rattle.rio_key.specs.{Key.{key_layout}, KeyList.{listed_fault, listed_key}}

pub told_in_list : (s : At) → read listed_key (plain s) ≡ with_fault (listed_fault (Some s.place)) (read key_layout (plain s))
unfolding listed_key
told_in_list s = retold_same (listed_fault (Some s.place)) key_layout (plain s)
