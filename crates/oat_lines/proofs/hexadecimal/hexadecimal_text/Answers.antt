use Rattle.std.proofs.Common.{rules, sym, ◌∙◌, arith}
use Rattle.oat_lines.proofs.DigitsFilled.{digit_goes, digits_end}
use Rattle.oat_lines.proofs.hexadecimal.hexadecimal_text.Goals as goal

pub loop-place-preserved : goal.loop-place-preserved
loop-place-preserved g c =
    let written = c.digit_character.ensures in
    let kept = c.loop-place.invariant in (
      search (rules, kept.0),
      omega (arith, kept.1),
      kept.2 ∙ rw written (digit_goes c.loop-place.place c.loop-place.rest c.loop-place.digits (omega arith) (omega (arith, kept.0, kept.1))),
    )

pub returns : goal.returns
returns g c = sym (c.loop-place.invariant.2 ∙ digits_end c.loop-place.place c.loop-place.rest c.loop-place.digits (omega arith))
