use Rattle.std.proofs.Common.{◌≡◌, ◌+◌, ◌-◌, ◌<◌, ◌≤◌, ℕ, false, true, List, length, Some, refl, sym, subst, ◌∙◌, of_calls, rules, arith}
use Rattle.std.specs.{Prelude.nat_lt, Prelude.slice_get, List.Sorted.IsPartitionPoint}
use Rattle.std.proofs.lemmas.{Bool.ltb-true, List.Sorted.IsPartitionPoint-from_clause, Option.slice_get_read}
use Rattle.oat_map.proofs.RowLemmas.{rows_parted}
use Rattle.oat_attest.specs.{Row, IsOrdered, address_of}
use Rattle.oat_watch.proofs.Overs.{over-none, over-other, over-some}
use Rattle.oat_watch.proofs.rows.row_over.Goals as goal

pub returns-in_err-checked_sub : goal.returns-in_err-checked_sub
returns-in_err-checked_sub c =
    let image = c.args.image.now in
    let p = c.args.address in
    let behind = c.partition_point-behind.result in
    let rows : c.as_slice-rows.result.now ≡ image.map.rows = c.as_slice-rows.ensures in
    let ordered = subst IsOrdered (sym rows) c.requires.ordered in
    let here = IsPartitionPoint-from_clause (λ row. nat_lt (address_of row) (p + 1)) c.as_slice-rows.result.now behind
    c.partition_point-behind.ensures.partitioned (rows_parted c.as_slice-rows.result.now (p + 1) ordered) (λ a r q k. search (rules, of_calls)) in
    let point = subst (λ (rs : List Row). IsPartitionPoint (λ row. nat_lt (address_of row) (p + 1) ≡ true) (λ row. nat_lt (address_of row) (p + 1) ≡ false) rs behind) rows here in
    let bound : behind ≤ length image.map.rows = subst (λ (rs : List Row). behind ≤ length rs) rows c.partition_point-behind.ensures.bound in
    let none = c.in_err-checked_sub.ensures in
    c.from_residual.ensures ∙ sym (over-none image c.requires p behind bound point (omega (arith, none)))

pub returns-then-is_over : goal.returns-then-is_over
returns-then-is_over c =
    let image = c.args.image.now in
    let p = c.args.address in
    let behind = c.partition_point-behind.result in
    let rows : c.as_slice-rows.result.now ≡ image.map.rows = c.as_slice-rows.ensures in
    let ordered = subst IsOrdered (sym rows) c.requires.ordered in
    let here = IsPartitionPoint-from_clause (λ row. nat_lt (address_of row) (p + 1)) c.as_slice-rows.result.now behind
    c.partition_point-behind.ensures.partitioned (rows_parted c.as_slice-rows.result.now (p + 1) ordered) (λ a r q k. search (rules, of_calls)) in
    let point = subst (λ (rs : List Row). IsPartitionPoint (λ row. nat_lt (address_of row) (p + 1) ≡ true) (λ row. nat_lt (address_of row) (p + 1) ≡ false) rs behind) rows here in
    let bound : behind ≤ length image.map.rows = subst (λ (rs : List Row). behind ≤ length rs) rows c.partition_point-behind.ensures.bound in
    let row = c.in_ok-row.field-0.now in
    let k = c.in_ok-checked_sub.field-0 in
    let sub = c.in_ok-checked_sub.ensures in
    let look = c.in_ok-row.ensures.lookup in
    let within : k < length c.as_slice-rows.result.now = ltb-true k (length c.as_slice-rows.result.now) (sym look.0) in
    let there : slice_get c.as_slice-rows.result.now k ≡ Some row = slice_get_read c.as_slice-rows.result.now (length c.as_slice-rows.result.now) k row refl within look.1 in
    let place : k ≡ behind - 1 = omega (arith, sub) in
    let at : slice_get image.map.rows (behind - 1) ≡ Some row = subst (λ (i : ℕ). slice_get image.map.rows i ≡ Some row) place (subst (λ (rs : List Row). slice_get rs k ≡ Some row) rows there) in
    sym (over-some image c.requires p behind bound point row at (sym c.if-is_over.ensures))

pub returns-else-is_over : goal.returns-else-is_over
returns-else-is_over c =
    let image = c.args.image.now in
    let p = c.args.address in
    let behind = c.partition_point-behind.result in
    let rows : c.as_slice-rows.result.now ≡ image.map.rows = c.as_slice-rows.ensures in
    let ordered = subst IsOrdered (sym rows) c.requires.ordered in
    let here = IsPartitionPoint-from_clause (λ row. nat_lt (address_of row) (p + 1)) c.as_slice-rows.result.now behind
    c.partition_point-behind.ensures.partitioned (rows_parted c.as_slice-rows.result.now (p + 1) ordered) (λ a r q k. search (rules, of_calls)) in
    let point = subst (λ (rs : List Row). IsPartitionPoint (λ row. nat_lt (address_of row) (p + 1) ≡ true) (λ row. nat_lt (address_of row) (p + 1) ≡ false) rs behind) rows here in
    let bound : behind ≤ length image.map.rows = subst (λ (rs : List Row). behind ≤ length rs) rows c.partition_point-behind.ensures.bound in
    let row = c.in_ok-row.field-0.now in
    let k = c.in_ok-checked_sub.field-0 in
    let sub = c.in_ok-checked_sub.ensures in
    let look = c.in_ok-row.ensures.lookup in
    let within : k < length c.as_slice-rows.result.now = ltb-true k (length c.as_slice-rows.result.now) (sym look.0) in
    let there : slice_get c.as_slice-rows.result.now k ≡ Some row = slice_get_read c.as_slice-rows.result.now (length c.as_slice-rows.result.now) k row refl within look.1 in
    let place : k ≡ behind - 1 = omega (arith, sub) in
    let at : slice_get image.map.rows (behind - 1) ≡ Some row = subst (λ (i : ℕ). slice_get image.map.rows i ≡ Some row) place (subst (λ (rs : List Row). slice_get rs k ≡ Some row) rows there) in
    sym (over-other image c.requires p behind bound point row at (sym c.if-is_over.ensures))
