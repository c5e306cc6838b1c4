use Rattle.std.proofs.Common.{arith}
use Rattle.std.proofs.lemmas.Result.{err_from_is_err_and}
use Rattle.oat_lines.specs.Lines.{words_of}
use Rattle.oat_text.specs.Outline.{add_parameter, add_parameters}
use Rattle.oat_text.proofs.Passing.{each_next, each_stops, each_done}
use Rattle.oat_text.proofs.outline.add_parameters.Goals as goal

pub words-preserved : goal.words-preserved
words-preserved c = (
  each_next (add_parameter c.args.line) c.words.locals c.add_parameter.new.locals c.in-Some.word.now (words_of c.words.rest.now) (words_of c.in-Some.after.now)
      (add_parameters c.args.line c.args.locals.now (words_of c.args.words.now)) c.in_ok-add_parameter.ensures.added c.in-Some.ensures.words c.words.invariant.0,
  (let more = c.in_ok-add_parameter.ensures.more in let cut = rw c.in-Some.ensures.words at c.words.invariant.1 in omega arith),
)

pub returns-in_err-add_parameter-clause-added : goal.returns-in_err-add_parameter-clause-added
returns-in_err-add_parameter-clause-added c =
    let p = err_from_is_err_and c.from_residual.result c.from_residual.ensures.1 in
    rw (p.1, p.2)
    (each_stops (add_parameter c.args.line) c.words.locals c.in-Some.word.now (words_of c.words.rest.now) (words_of c.in-Some.after.now)
    (add_parameters c.args.line c.args.locals.now (words_of c.args.words.now)) c.in_err-add_parameter.field-0.0 c.in_err-add_parameter.ensures.added c.in-Some.ensures.words c.words.invariant.0)

pub returns-clause-added : goal.returns-clause-added
returns-clause-added c =
    each_done (add_parameter c.args.line) c.words.locals (words_of c.words.rest.now) (add_parameters c.args.line c.args.locals.now (words_of c.args.words.now))
    c.in_default.ensures.words c.words.invariant.0
