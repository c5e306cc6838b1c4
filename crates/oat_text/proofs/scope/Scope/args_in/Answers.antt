use Rattle.std.proofs.Common.{◌<◌, ◌∙◌, sym, ap, Ok, arith}
use Rattle.std.proofs.lemmas.{Result.err_from_is_err_and, Bool.false≢true}
use Rattle.oat_lines.specs.Lines.{words_of}
use Rattle.oat_text.specs.Scoped.{scoped}
use Rattle.oat_text.proofs.Arguments.{next_argument, too_many, not_known, all_read, few_taken}
use Rattle.oat_text.proofs.scope.Scope.args_in.Goals as goal

pub words-preserved : goal.words-preserved
words-preserved c =
    let room : c.words.len < 4 = omega arith in
    next_argument (scoped c.args.self.now) c.words.locals c.words.len (words_of c.words.rest.now) (words_of c.args.words.now) c.words.invariant
    c.in-Some.word.now (words_of c.in-Some.after.now) c.in_ok-locals.field-0 c.in-Some.ensures.words (sym c.argument.ensures ∙ c.in_ok-locals.was) room

pub returns-then-len-eq4 : goal.returns-then-len-eq4
returns-then-len-eq4 c =
    too_many (scoped c.args.self.now) c.words.locals c.words.len (words_of c.words.rest.now) (words_of c.args.words.now) c.words.invariant
    c.in-Some.word.now (words_of c.in-Some.after.now) c.in-Some.ensures.words c.if-len-eq4.true

pub returns-in_err-locals : goal.returns-in_err-locals
returns-in_err-locals c =
    let room : c.words.len < 4 = omega arith in
    let p = err_from_is_err_and c.from_residual.result c.from_residual.ensures.1 in
    rw (p.1, p.2)
    (not_known (scoped c.args.self.now) c.words.locals c.words.len (words_of c.words.rest.now) (words_of c.args.words.now) c.words.invariant
    c.in-Some.word.now (words_of c.in-Some.after.now) c.in_err-locals.field-0.0 c.in-Some.ensures.words (sym c.argument.ensures ∙ c.in_err-locals.was) room)

pub returns-in-Some-new : goal.returns-in-Some-new
returns-in-Some-new c =
    ap Ok c.in-Some-new.ensures.same
    ∙ all_read (scoped c.args.self.now) c.words.locals c.words.len (words_of c.words.rest.now) (words_of c.args.words.now) c.words.invariant c.in_default.ensures.words

pub returns-in-None : goal.returns-in-None
returns-in-None c = absurd (false≢true (c.in-None.ensures.exact.1 (few_taken c.words.locals c.words.len c.words.invariant.room)))
