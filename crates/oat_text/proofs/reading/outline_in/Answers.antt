use Rattle.std.proofs.Common.{refl}
use Rattle.std.proofs.lemmas.Result.{err_from_is_err_and}
use Rattle.oat_lines.specs.Lines.{lines_of}
use Rattle.oat_lines.proofs.Steps.{fails_as}
use Rattle.oat_text.specs.{Passes.numbered, Passes.over, Outline.nothing, Outline.outline_line, Outline.outline_of}
use Rattle.oat_text.proofs.reading.outline_in.Goals as goal

pub returns-in_err-end : goal.returns-in_err-end
returns-in_err-end c =
    let p = err_from_is_err_and c.from_residual.result c.from_residual.ensures.1 in
    let bad = rw c.new-outline.ensures at c.in_err-end.ensures.taken in
    rw (p.1, p.2)
    (fails_as c.in_err-end.field-0.0 (over outline_line nothing (numbered 1 (lines_of c.args.text.now))) (outline_of c.args.text.now) (λ e is. rw is refl) bad)
