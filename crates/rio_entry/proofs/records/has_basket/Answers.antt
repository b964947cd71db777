use Rattle.std.proofs.{Common.{ltb, ◌∙◌, rules}, lemmas.List.Sorted.{IsPartitionPoint-from_clause, IsPartitionedBy-ltb}}
use Rattle.rio_key.specs.declared.head.KeyHead.{KeyHead}
use Rattle.rio_entry.proofs.KeySearch.{key_found}
use Rattle.rio_entry.proofs.records.has_basket.Goals as goal

pub returns : goal.returns
returns c = λ by_place.
    let keys = c.args.keys.now in
    let at = c.args.at.now in
    let point = IsPartitionPoint-from_clause (λ (key : KeyHead). ltb key.seek at.seek) keys c.partition_point.result c.partition_point.ensures.partitioned (IsPartitionedBy-ltb (λ (key : KeyHead). key.seek) keys at.seek by_place) (λ a r f k. search rules) in
    c.is_key_at.ensures ∙ key_found at keys c.partition_point.result by_place c.partition_point.ensures.bound point.0 point.1
