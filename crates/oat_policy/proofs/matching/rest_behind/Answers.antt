use Rattle.std.proofs.Common.{◌∙◌, sym}
use Rattle.oat_policy.proofs.Behind.{too_short, found_behind, other_front}
use Rattle.oat_policy.proofs.matching.rest_behind.Goals as goal

pub returns-then-text-front : goal.returns-then-text-front
returns-then-text-front c = sym (too_short c.args.front.now c.args.text.now c.if-text-front.true)

pub returns-then-eq : goal.returns-then-eq
returns-then-eq c =
    sym (found_behind c.args.front.now c.args.text.now c.split_at.result.0.now c.split_at.result.1.now c.split_at.ensures.front c.split_at.ensures.back
    (sym c.eq.ensures ∙ c.if-eq.true))

pub returns-else-eq : goal.returns-else-eq
returns-else-eq c =
    sym (other_front c.args.front.now c.args.text.now c.split_at.result.0.now c.split_at.ensures.front (sym c.eq.ensures ∙ c.if-eq.false))
