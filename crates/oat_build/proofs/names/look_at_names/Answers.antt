use Rattle.std.proofs.Common.{List, sym, subst}
use Rattle.std.specs.Prelude.{Contains}
use Rattle.oat_match.specs.{Func}
use Rattle.oat_build.specs.Naming.{HasNames}
use Rattle.oat_build.proofs.Imaging.{all_more, all_through}
use Rattle.oat_build.proofs.names.look_at_names.Goals as goal

pub loop-func-preserved : goal.loop-func-preserved
loop-func-preserved c = all_more HasNames c.as_slice-func-items.result.now c.loop-func.func-index c.func-item.result c.loop-func-test.true c.func-item.is c.loop-func.invariant c.look_at_function.ensures

pub returns : goal.returns
returns c =
    let each = λ (func : Func) (has : Contains c.args.program.now.funcs func).
    all_through HasNames c.as_slice-func-items.result.now c.loop-func.func-index c.loop-func-test.false c.loop-func.invariant func (subst (λ (xs : List Func). Contains xs func) (sym c.as_slice-func-items.ensures) has) in
    record { functions = λ func has. (each func has).name; blocks = λ func block has inside. (each func has).blocks block inside }
