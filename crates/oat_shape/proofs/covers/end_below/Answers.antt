use Rattle.std.proofs.Common.{arith, rules}
use Rattle.std.proofs.Math.Dec.{ltb}
use Rattle.std.proofs.lemmas.List.Sorted.{IsPartitionPoint-from_clause, IsPartitionedBy-ltb}
use Rattle.oat_image.specs.{address_of}
use Rattle.oat_shape.proofs.LastGroups.{rows_rise, ends_none, ends_some}
use Rattle.oat_shape.proofs.covers.end_below.Goals as goal

pub returns-then-next-eq0 : goal.returns-then-next-eq0
returns-then-next-eq0 c =
    let parted = IsPartitionedBy-ltb address_of c.args.rows.now c.args.place (rows_rise c.args.rows.now c.requires.apart c.requires.within) in
    ends_none c.args.rows.now c.args.place c.partition_point-next.result
    (IsPartitionPoint-from_clause (λ r. ltb (address_of r) c.args.place) _ _ c.partition_point-next.ensures.partitioned parted (λ a r f' q. search rules))
    (omega arith)

pub returns : goal.returns
returns c =
    let parted = IsPartitionedBy-ltb address_of c.args.rows.now c.args.place (rows_rise c.args.rows.now c.requires.apart c.requires.within) in
    ends_some c.args.rows.now c.args.place c.partition_point-next.result c.after.result c.requires.apart c.requires.within
    c.partition_point-next.ensures.bound (omega arith)
    (IsPartitionPoint-from_clause (λ r. ltb (address_of r) c.args.place) _ _ c.partition_point-next.ensures.partitioned parted (λ a r f' q. search rules))
    c.after.ensures
