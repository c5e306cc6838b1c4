use Rattle.std.proofs.Common.{rules}
use Rattle.std.proofs.Math.Dec.{ltb}
use Rattle.std.proofs.lemmas.List.Sorted.{IsPartitionPoint-from_clause, IsPartitionedBy-ltb}
use Rattle.oat_shape.proofs.Searches.{point_is_count, rises_far}
use Rattle.oat_shape.proofs.places.number_below.Goals as goal

pub returns : goal.returns
returns c =
    let parted = IsPartitionedBy-ltb (λ y. y) c.args.places.now c.args.place (rises_far c.args.places.now c.requires) in
    point_is_count c.args.places.now c.args.place c.partition_point.result c.partition_point.ensures.bound
    (IsPartitionPoint-from_clause (λ y. ltb y c.args.place) _ _ c.partition_point.ensures.partitioned parted (λ a r f' q. search rules))
