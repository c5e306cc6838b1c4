use Rattle.std.proofs.Common.{◌<◌, ◌^◌, length, List, subst}
use Rattle.std.specs.List.{All}
use Rattle.oat_verify.specs.{IsName, Block, Function, Row}
use Rattle.oat_report.specs.SameLines.{BeginsShort}
use Rattle.oat_report.proofs.typed.look_at_map.Goals as goal

pub returns : goal.returns
returns c = record {
  names = subst (All (λ (function : Function). IsName function.name)) c.as_slice.ensures c.look_at_functions.ensures;
  labels = subst (All (λ (block : Block). IsName block.label)) c.as_slice-2.ensures c.look_at_blocks.ensures;
  operations = subst (All BeginsShort) c.as_slice-3.ensures c.look_at_rows.ensures.operations;
  counted = subst (λ (rows : List Row). length rows < 2 ^ 64) c.as_slice-3.ensures c.look_at_rows.ensures.counted;
}
