use Rattle.std.proofs.Common.{◌≡◌, ◌∷◌, ◌∙◌, ap}
use Rattle.std.proofs.lemmas.Result.{err_from_is_err_and}
use Rattle.oat_blob.proofs.Fixed.{ended, fields_stop, flag_stops}
use Rattle.oat_blob.proofs.reader.violation.Goals as goal

pub returns-in_default : goal.returns-in_default
returns-in_default c = ended c.args.bytes.now c.in_default.ensures.cases

pub returns-then-flag-ne1 : goal.returns-then-flag-ne1
returns-then-flag-ne1 c =
    let whole = c.in-Some.ensures.cases.0 in
    flag_stops c.args.bytes.now (λ rest same. c.if-flag-eq0.false (cc)) (λ rest same. c.if-flag-ne1.true (cc))

pub returns-in_err-violation : goal.returns-in_err-violation
returns-in_err-violation c =
    let flag : c.args.bytes.now ≡ 1 ∷ c.in-Some.rest.now = c.in-Some.ensures.cases.0 ∙ ap (λ b. b ∷ c.in-Some.rest.now) c.if-flag-ne1.false in
    let p = err_from_is_err_and c.from_residual.result c.from_residual.ensures.1 in
    rw (p.1, p.2) (fields_stop c.args.bytes.now c.in-Some.rest.now c.in_err-violation.field-0.0.left flag c.in_err-violation.ensures)
