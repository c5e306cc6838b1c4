use Rattle.std.proofs.Common.{◌<◌, ℕ, get_or, length, set, ap, ◌∙◌, arith, length-set}
use Rattle.std.proofs.lemmas.List.{length-replicate}
use Rattle.oat_meaning.specs.Activations.{locals_of}
use Rattle.oat_meaning.proofs.Passing.{all_alike, passed}
use Rattle.oat_meaning.proofs.activation.Activation.pass.Goals as goal

pub loop-i-init : goal.loop-i-init
loop-i-init c = let none : ℕ = 0 in record { room = length-replicate 255 none; passed = all_alike 255 none }

pub loop-i-preserved : goal.loop-i-preserved
loop-i-preserved c =
    let f : ℕ → ℕ = locals_of c.args.self.now in
    let args = c.args.args.now in
    let locals = c.loop-i.locals in
    let i = c.loop-i.i in
    let room = c.loop-i.invariant.room in
    let few = c.requires in
    let low : i < length args = c.loop-i-test.true in
    let held : i < length locals = omega (arith, room, few, low) in
    record {
      room = length-set locals i c.get.result ∙ room;
      passed = λ x. ap (λ (v : ℕ). get_or (set locals i v) x 0) c.get.ensures ∙ passed f args locals i low held c.loop-i.invariant.passed x;
    }
