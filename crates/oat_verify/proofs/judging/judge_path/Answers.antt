use Rattle.std.proofs.Common.{rules, sym}
use Rattle.oat_verify.proofs.judging.judge_path.Goals as goal

pub returns-in-Some : goal.returns-in-Some
returns-in-Some c = c.in-Some.ensures c.args.head.now c.args.blob.now.body c.args.path (sym c.head.ensures) (search rules)

pub returns-in-None : goal.returns-in-None
returns-in-None c = c.in-None.ensures c.args.head.now c.args.blob.now.body c.args.path (sym c.head.ensures) (search rules)
