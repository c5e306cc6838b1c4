use Rattle.std.proofs.Common.{◌-◌, ◌≤◌, ◌++◌, ℕ, List, take, drop, arith, ap, subst, ◌∙◌, append_assoc}
use Rattle.oat_feed.specs.Standing.{TakesIn}
use Rattle.oat_feed.proofs.Extending.{chunk_byte, chunk_joined, on_an_err}
use Rattle.oat_feed.proofs.intake.Intake.piece.Goals as goal

pub returns-in_err-take-clause-starved : goal.returns-in_err-take-clause-starved
returns-in_err-take-clause-starved c = λ came takes.
    let below : c.loop-done.done ≤ c.min-end.result = omega (arith, c.loop-done-test.true, c.min-end.ensures, c.saturating_add.ensures, c.loop-done.invariant.0) in
    on_an_err c.from_residual.result (chunk_byte came c.args.bytes.now c.loop-done.done c.min-end.result below (c.in_err-take.ensures.starved _ (c.loop-done.invariant.1 came takes)))

pub loop-done-preserved : goal.loop-done-preserved
loop-done-preserved c =
    let below : c.loop-done.done ≤ c.min-end.result = omega (arith, c.loop-done-test.true, c.min-end.ensures, c.saturating_add.ensures, c.loop-done.invariant.0) in (
      omega (arith, c.min-end.ensures),
      λ came takes. subst (λ (xs : List ℕ). TakesIn c.take.new.self xs)
          (append_assoc came (take c.loop-done.done c.args.bytes.now) (take (c.min-end.result - c.loop-done.done) (drop c.loop-done.done c.args.bytes.now))
          ∙ ap (λ xs. came ++ xs) (chunk_joined c.args.bytes.now c.loop-done.done c.min-end.result below))
          (c.in_ok-take.ensures.taken _ (c.loop-done.invariant.1 came takes)),
    )
