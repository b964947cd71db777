-- Without the header of a tree its key is taken out of the keys that are kept beside a file.
use Rattle.rio_state.specs.{KeyedRecords.{keyed_records}, OneLess.{links_without}}
use Rattle.rio_state.proofs.LessRecords.{record_less}
use Rattle.rio_effect.specs.TreeDeletes.{TreeDeleteKeyFollows}
use Rattle.rio_effect.proofs.{DeleteKeys.{keys_less}, HeaderLess.{heads_less, none_left}}

pub tree_delete_key_follows : TreeDeleteKeyFollows
tree_delete_key_follows file links m heads r head has is are =
    let old = keyed_records links in
    let new = keyed_records (links_without links r) in
    let less = record_less file links r has.record_is in
    keys_less old new r.head (heads_less old new r less has.items has.tree) (none_left old new r less has.items has.tree is.stand.distinct) heads are
