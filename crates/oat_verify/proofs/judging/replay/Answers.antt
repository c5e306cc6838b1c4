use Rattle.std.proofs.Common.{refl, subst, List, ℕ}
use Rattle.oat_shape.proofs.Laid.{laid, starts}
use Rattle.oat_verify.specs.Verdict.{stuck, walked, JudgesPath}
use Rattle.oat_verify.proofs.judging.replay.Goals as goal

pub walk-requires-clause-ordered : goal.walk-requires-clause-ordered
walk-requires-clause-ordered c =
    rw c.image.ensures.same (laid c.args.shaped.now c.image.ensures.well_formed c.image.ensures.shaped).ordered

pub walk-requires-clause-begun : goal.walk-requires-clause-begun
walk-requires-clause-begun c = rw c.image.ensures.same (starts c.args.shaped.now.map c.args.session.now.op c.requires)

pub returns-in-Ok : goal.returns-in-Ok
returns-in-Ok c =
    walked c.in-Ok.path (rw c.image.ensures.same at c.in-Ok.ensures.walks)
    (subst (λ (head : List ℕ). JudgesPath head c.args.blob.now.body c.in-Ok.path c.judge_path.result)
    (rw (c.digest.ensures, c.head.ensures) at c.window_head-head.ensures) c.judge_path.ensures)

pub returns-in-Err-Stuck : goal.returns-in-Err-Stuck
returns-in-Err-Stuck c =
    stuck c.in-Err-Stuck.cause c.in-Err-Stuck.turn (rw (c.in-Err-Stuck.field-0-is, c.image.ensures.same) at c.in-Err-Stuck.ensures.stuck)
    (rw (c.in-Err-Stuck.cause-is, c.in-Err-Stuck.turn-is) refl)
