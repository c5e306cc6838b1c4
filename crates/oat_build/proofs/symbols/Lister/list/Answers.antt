use Rattle.std.proofs.Common.{◌≡◌, ◌+◌, ◌-◌, length, take, drop, arith, sym, ap, List}
use Rattle.std.specs.List.{flat_map}
use Rattle.oat_match.specs.{Func, block_names}
use Rattle.oat_build.specs.Addresses.{address_in}
use Rattle.oat_build.proofs.SymbolLists.{count_more, count_least, functions_more, all_blocks_more}
use Rattle.oat_build.proofs.symbols.Lister.list.Goals as goal

pub push-requires-clause-labels : goal.push-requires-clause-labels
push-requires-clause-labels c =
    let funcs = take (c.args.to - c.args.from) (drop c.args.from c.as_slice.result.now) in
    let more = count_more funcs c.loop-func.func-index c.func-item.result c.loop-func-test.true c.func-item.is in
    let least = count_least funcs (c.loop-func.func-index + 1) in
    let same = ap (λ (gs : List Func). length (flat_map block_names (take (c.args.to - c.args.from) (drop c.args.from gs)))) c.as_slice.ensures in
    let label = c.loop-func.invariant.label in
    let few = c.requires.labels in
    omega arith

pub overflow_cast-label : goal.overflow_cast-label
overflow_cast-label c =
    let funcs = take (c.args.to - c.args.from) (drop c.args.from c.as_slice.result.now) in
    let more = count_more funcs c.loop-func.func-index c.func-item.result c.loop-func-test.true c.func-item.is in
    let least = count_least funcs (c.loop-func.func-index + 1) in
    let same = ap (λ (gs : List Func). length (flat_map block_names (take (c.args.to - c.args.from) (drop c.args.from gs)))) c.as_slice.ensures in
    let label = c.loop-func.invariant.label in
    let few = c.requires.labels in
    omega arith

pub overflow_add-label : goal.overflow_add-label
overflow_add-label c =
    let funcs = take (c.args.to - c.args.from) (drop c.args.from c.as_slice.result.now) in
    let more = count_more funcs c.loop-func.func-index c.func-item.result c.loop-func-test.true c.func-item.is in
    let least = count_least funcs (c.loop-func.func-index + 1) in
    let same = ap (λ (gs : List Func). length (flat_map block_names (take (c.args.to - c.args.from) (drop c.args.from gs)))) c.as_slice.ensures in
    let label = c.loop-func.invariant.label in
    let few = c.requires.labels in
    omega arith

pub loop-func-preserved : goal.loop-func-preserved
loop-func-preserved c =
    let funcs = take (c.args.to - c.args.from) (drop c.args.from c.as_slice.result.now) in
    let p = c.args.self.now.program.now in
    let i = c.loop-func.func-index in
    let address = address_in c.args.self.now.addresses.now in
    let more = count_more funcs i c.func-item.result c.loop-func-test.true c.func-item.is in
    let was = c.loop-func.invariant.label in
    record {
      functions = functions_more address p c.args.from c.args.first i c.loop-func.number c.loop-func.label funcs c.func-item.result c.args.symbols.now.functions.items c.loop-func.symbols.functions.items c.push.new.symbols.functions.items
          c.loop-func-test.true c.func-item.is c.loop-func.invariant.number c.loop-func.invariant.label c.loop-func.invariant.functions c.in_ok-push.ensures.functions;
      blocks = all_blocks_more address p c.args.from c.args.first i c.loop-func.label funcs c.func-item.result c.args.symbols.now.blocks.items c.loop-func.symbols.blocks.items c.push.new.symbols.blocks.items
          c.loop-func-test.true c.func-item.is c.loop-func.invariant.label c.loop-func.invariant.blocks c.in_ok-push.ensures.blocks;
      number = omega arith;
      label = omega arith;
    }
