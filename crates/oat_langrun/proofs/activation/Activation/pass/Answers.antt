use Rattle.std.proofs.Common.{◌+◌, ◌<◌, ℕ, List, [], ◌∷◌, ◌++◌, get_or, length, map, ap, sym, ◌∙◌, arith, length-set, refl}
use Rattle.std.specs.List.{range_with_len}
use Rattle.std.proofs.lemmas.List.{length-replicate}
use Rattle.std.proofs.lemmas.List.FromFn.{length-map-range_with_len, map-range_with_len_more}
use Rattle.oat_langrun.specs.Standing.{operands_of}
use Rattle.oat_langrun.proofs.Passing.{all_alike, passed}
use Rattle.oat_langrun.proofs.activation.Activation.pass.Goals as goal

pub loop-i-init : goal.loop-i-init
loop-i-init c = let none : ℕ = 0 in record { room = length-replicate 256 none; passed = all_alike 256 none }

pub loop-i-preserved : goal.loop-i-preserved
loop-i-preserved c =
    let f : ℕ → ℕ = operands_of c.args.self.now in
    let i = c.loop-i.i in
    let below = c.args.below in
    let room = c.loop-i.invariant.room in
    let fits = c.ranges.count.fits in
    let low = c.loop-i-test.true in
    let bound = c.loop-i.auto.i-end in
    let held : i < length c.loop-i.locals = omega (arith, room, low, bound, fits) in
    record {
      room = length-set c.loop-i.locals i c.operand.result ∙ room;
      passed = λ x.
          passed (map f (range_with_len below i)) c.loop-i.locals i c.operand.result (length-map-range_with_len f below i) held c.loop-i.invariant.passed x
          ∙ ap (λ (v : ℕ). get_or (map f (range_with_len below i) ++ v ∷ []) x 0) c.operand.ensures
          ∙ ap (λ (xs : List ℕ). get_or xs x 0) (sym (map-range_with_len_more f below i (below + i) refl));
    }
