use Rattle.std.proofs.Common.{◌≡◌, ◌+◌, length, take, arith}
use Rattle.std.specs.List.{flat_map}
use Rattle.oat_match.specs.{block_names}
use Rattle.oat_build.proofs.SymbolLists.{count_more, count_least}
use Rattle.oat_build.proofs.symbols.blocks_in.Goals as goal

pub overflow_cast-count : goal.overflow_cast-count
overflow_cast-count c =
    let more = count_more c.args.funcs.now c.loop-func.func-index c.func-item.result c.loop-func-test.true c.func-item.is in
    let least = count_least c.args.funcs.now (c.loop-func.func-index + 1) in
    omega arith

pub overflow_add-count : goal.overflow_add-count
overflow_add-count c =
    let more = count_more c.args.funcs.now c.loop-func.func-index c.func-item.result c.loop-func-test.true c.func-item.is in
    let least = count_least c.args.funcs.now (c.loop-func.func-index + 1) in
    omega arith

pub loop-func-preserved : goal.loop-func-preserved
loop-func-preserved c =
    let more = count_more c.args.funcs.now c.loop-func.func-index c.func-item.result c.loop-func-test.true c.func-item.is in
    omega arith
