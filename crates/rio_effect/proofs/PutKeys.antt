-- The key of the object that a put adds stands in its place among the keys.
use Rattle.std.proofs.Common.{◌∙◌}
use Rattle.rio_chain.specs.Changes.{with_record}
use Rattle.rio_state.specs.KeyedRecords.{keyed_records}
use Rattle.rio_effect.specs.{Laws.{PutKeyFollows, SavedPutKeyFollows}, ObjectRecord.{object_key, record_of_put}}
use Rattle.rio_state.proofs.KeysFollow.{keys_follow}
use Rattle.rio_effect.proofs.{NextCycles.{is_next_cycle}, PutEffect.{classes_of_records, put_key, put_more}, PutObject.{accepted, put_record}}
use Rattle.rio_effect.proofs.SavedPuts.{puts_ignore_pending}
use Rattle.rio_step.specs.Runs.{saved_of}

pub put_key_follows : PutKeyFollows
unfolding object_key
put_key_follows links m heads place datime name v mark low soon is named e are =
    let ok = accepted m name v mark e in
    let r = put_record m place datime name v ok (classes_of_records (keyed_records links) m is) named low soon in
    let key = put_key links m place datime name v low soon is named ok in
    let next = is_next_cycle (keyed_records links) heads m name are is ok.no_tree in
    keys_follow (keyed_records links) (keyed_records (with_record place (record_of_put m place datime name v) links)) r heads (put_more links m place datime name v low soon is named ok) key.top key.object next.new are

pub saved_put_key_follows : SavedPutKeyFollows
unfolding saved_of
saved_put_key_follows links m heads place datime name v mark low soon is named e are =
    put_key_follows links (saved_of m) heads place datime name v mark low soon is named ((puts_ignore_pending m name v).refused mark ∙ e) are
