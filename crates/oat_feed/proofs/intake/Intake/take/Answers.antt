use Rattle.std.proofs.Common.{rules, ◌≡◌, ◌++◌, subst, sym}
use Rattle.std.specs.Prelude.{vec_capacity}
use Rattle.oat_feed.specs.{declared.intake.State.State, declared.intake.State.TheVariants.Broken, Standing.KeepsFront}
use Rattle.oat_feed.proofs.Extending.{broken_more}
use Rattle.oat_feed.proofs.intake.Intake.take.Goals as goal

pub returns-then-eq-clause-taken : goal.returns-then-eq-clause-taken
returns-then-eq-clause-taken c = λ came takes.
    let broken : c.args.self.now.state ≡ Broken = search rules in
    let keeps = subst (λ (state : State). KeepsFront state came c.args.self.now.front.items (vec_capacity c.args.self.now.front)) broken takes.keeps in
    record {
      begins = takes.begins;
      keeps = subst (λ (state : State). KeepsFront state (came ++ c.args.chunk.now) c.args.self.now.front.items (vec_capacity c.args.self.now.front)) (sym broken)
          (broken_more came c.args.self.now.front.items c.args.chunk.now (vec_capacity c.args.self.now.front) keeps);
    }
