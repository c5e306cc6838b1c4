use Rattle.std.proofs.Common.{◌++◌, refl, ap, sym, ◌∙◌, arith}
use Rattle.std.specs.Prelude.{is_some}
use Rattle.oat_feed.proofs.PartsAt.{behind_flag, flag_in, flagged, has_flag, length-version_part, one_byte, version_in}
use Rattle.oat_feed.proofs.places.head_size.Goals as goal

pub returns-in_err-version-clause-size : goal.returns-in_err-version-clause-size
returns-in_err-version-clause-size c = λ body mac rest blob.
    let flag = has_flag body blob.body_fits in
    rw c.from_residual.ensures (omega (arith, c.in_err-version.ensures, flag.high, flag.above))

pub returns-in_err-flag-clause-size : goal.returns-in_err-flag-clause-size
returns-in_err-flag-clause-size c = λ body mac rest blob.
    let flag = has_flag body blob.body_fits in
    let version = one_byte _ _ (c.in_ok-version.ensures.1 ∙ version_in c.args.front.now rest mac body blob c.in_ok-version.ensures.0) (length-version_part (is_some body.head.serial)) in
    let place = c.flag_at-flag_at.ensures.place (is_some body.head.serial) version in
    rw c.from_residual-in_err-flag.ensures (omega (arith, c.in_err-flag.ensures, flag.above, place))

pub returns-clause-size : goal.returns-clause-size
returns-clause-size c = λ body mac rest blob.
    let flag = has_flag body blob.body_fits in
    let version = one_byte _ _ (c.in_ok-version.ensures.1 ∙ version_in c.args.front.now rest mac body blob c.in_ok-version.ensures.0) (length-version_part (is_some body.head.serial)) in
    let place = c.flag_at-flag_at.ensures.place (is_some body.head.serial) version in
    let byte = one_byte _ _ (c.in_ok-flag.ensures.1 ∙ flag_in c.args.front.now rest mac body _ blob place c.in_ok-flag.ensures.0) refl in
    let size = c.flagged_size.ensures.size body.head.violation (behind_flag body.head.violation) (ap (λ xs. xs ++ behind_flag body.head.violation) byte ∙ sym (flagged body.head.violation)) in
    omega (arith, flag.size, place, size)
