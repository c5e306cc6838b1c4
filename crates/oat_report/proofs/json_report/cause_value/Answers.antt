use Rattle.std.proofs.Common.{ℕ, List, ◌++◌, ap, subst, sym, ◌∙◌}
use Rattle.oat_report.specs.{VerdictLine.cause_text, JsonLine.IsPlainText}
use Rattle.oat_report.proofs.PlainTexts.{cause_is_plain}
use Rattle.oat_report.proofs.json_report.cause_value.Goals as goal

pub plain_value-requires : goal.plain_value-requires
plain_value-requires c = subst IsPlainText (sym (c.as_slice.ensures.value ∙ c.in_ok-put_cause.ensures ∙ ap (λ (front : List ℕ). front ++ cause_text c.args.cause.now) c.new-text.ensures.items)) (cause_is_plain c.args.cause.now)
