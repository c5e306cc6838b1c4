use Rattle.std.proofs.Common.{◌≡◌, ◌+◌, arith, ◌∙◌, ap}
use Rattle.oat_make.specs.Drill.{drill_state}
use Rattle.oat_make.proofs.Made.{state_more}
use Rattle.oat_make.proofs.case.draws_of_inputs.Goals as goal

pub loop-k-preserved : goal.loop-k-preserved
loop-k-preserved c = c.draw.ensures.stirred ∙ state_more c.args.number c.loop-k.k (c.loop-k.k + 1) c.loop-k.draws.state c.loop-k.invariant (omega arith)

pub returns : goal.returns
returns c =
    let low = c.loop-k-test.false in
    let high = c.loop-k.auto.k-end in
    let last : c.loop-k.k ≡ 17 = omega arith in
    c.loop-k.invariant ∙ ap (drill_state c.args.number) last
