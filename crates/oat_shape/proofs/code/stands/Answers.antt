use Rattle.std.proofs.Common.{sym, ◌∙◌}
use Rattle.oat_shape.proofs.GroupLemmas.{stands_iff}
use Rattle.oat_shape.proofs.code.stands.Goals as goal

pub returns-in-Some : goal.returns-in-Some
returns-in-Some c =
    stands_iff c.args.code.now c.args.address c.in-Some.word c.encode.result c.args.inst.now (sym c.word_at.ensures ∙ c.in-Some.is) c.encode.ensures
