use Rattle.std.proofs.{Common.{rules}, lemmas.List.Sorted.{IsPartitionPoint-from_clause}}
use Rattle.rio_recover.specs.Baskets.{is_before_place}
use Rattle.rio_recover.proofs.PlacesSought.{partitioned, point_is}
use Rattle.rio_recover.proofs.baskets.count_before.Goals as goal

pub returns : goal.returns
returns c =
    let heads = c.args.heads.now in
    let test = is_before_place c.args.place in
    let point = IsPartitionPoint-from_clause test heads c.partition_point.result c.partition_point.ensures.partitioned (partitioned c.args.place 0 heads c.requires) (λ a r f' k. search rules) in
    point_is test heads c.partition_point.result c.partition_point.ensures.bound point
