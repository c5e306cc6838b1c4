use Rattle.std.proofs.Common.{◌≤◌, length, map, arith}
use Rattle.oat_policy.specs.Pieces.{path_word}
use Rattle.oat_policy.proofs.Parting.{all_met_by}
use Rattle.oat_policy.proofs.recent.meet.Goals as goal

pub returns : goal.returns
returns c = λ many.
    let so_far = c.loop-i.invariant many in
    let past : length c.args.patterns.now ≤ c.loop-i.i = omega (arith, c.loop-i-test.false, c.min-end.ensures, many) in
    all_met_by (λ pattern. pattern.now) (map path_word c.args.words.now) c.loop-i.met c.args.patterns.now c.loop-i.i past so_far.0 so_far.1
