use Rattle.std.proofs.Common.{◌≡◌, ◌+◌, arith, ◌∙◌, ap, map}
use Rattle.std.specs.List.{range_with_len}
use Rattle.oat_make.specs.Drill.{drill_input}
use Rattle.oat_make.proofs.Made.{state_more, inputs_more}
use Rattle.oat_make.proofs.case.make_inputs.Goals as goal

pub loop-k-preserved : goal.loop-k-preserved
loop-k-preserved c = record {
  drawn = c.draw.ensures.stirred ∙ state_more c.args.number (17 + c.loop-k.k) (17 + (c.loop-k.k + 1)) c.loop-k.draws.state c.loop-k.invariant.drawn (omega arith);
  made = inputs_more c.args.number c.loop-k.k c.draw.result c.loop-k.draws.state c.loop-k.inputs.items c.push.new.self.items c.loop-k.invariant.made c.loop-k.invariant.drawn c.draw.ensures.drawn c.in_ok-push.ensures.items;
}

pub returns : goal.returns
returns c =
    let low = c.loop-k-test.false in
    let high = c.loop-k.auto.k-end in
    let last : c.loop-k.k ≡ 80 = omega arith in
    c.loop-k.invariant.made ∙ ap (λ k. map (drill_input c.args.number) (range_with_len 0 k)) last
