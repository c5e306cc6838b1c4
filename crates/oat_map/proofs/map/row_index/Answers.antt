use Rattle.std.proofs.Common.{of_calls, rules}
use Rattle.std.specs.Prelude.{nat_lt}
use Rattle.std.proofs.lemmas.List.Sorted.{IsPartitionPoint-from_clause}
use Rattle.oat_map.specs.Rows.{address_of}
use Rattle.oat_map.proofs.RowLemmas.{rows_parted, found_at_point, none_at_point}
use Rattle.oat_map.proofs.map.row_index.Goals as goal

pub returns-then-index-rows : goal.returns-then-index-rows
returns-then-index-rows c =
    let point = IsPartitionPoint-from_clause (λ row. nat_lt (address_of row) c.args.t) c.args.rows.now c.partition_point-index.result
    c.partition_point-index.ensures.partitioned (rows_parted c.args.rows.now c.args.t c.requires) (λ a r q k. search (rules, of_calls)) in
    found_at_point c.args.rows.now c.args.t c.partition_point-index.result c.partition_point-index.ensures.bound point c.if-index-rows.true

pub returns-else-index-rows : goal.returns-else-index-rows
returns-else-index-rows c =
    let point = IsPartitionPoint-from_clause (λ row. nat_lt (address_of row) c.args.t) c.args.rows.now c.partition_point-index.result
    c.partition_point-index.ensures.partitioned (rows_parted c.args.rows.now c.args.t c.requires) (λ a r q k. search (rules, of_calls)) in
    none_at_point c.args.rows.now c.args.t c.partition_point-index.result c.partition_point-index.ensures.bound point c.if-index-rows.false
