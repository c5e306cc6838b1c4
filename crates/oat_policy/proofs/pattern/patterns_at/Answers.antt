use Rattle.std.proofs.Common.{List, ap, ◌∙◌}
use Rattle.std.proofs.lemmas.Result.{err_from_is_err_and}
use Rattle.oat_report.specs.{TextWord, words_of}
use Rattle.oat_policy.specs.Reading.{patterns_at}
use Rattle.oat_policy.proofs.Loop.{onto, pattern_taken, pattern_fails, all_taken}
use Rattle.oat_policy.proofs.pattern.patterns_at.Goals as goal

pub returns-in_err-pattern_at : goal.returns-in_err-pattern_at
returns-in_err-pattern_at c =
    let p = err_from_is_err_and c.from_residual.result c.from_residual.ensures.1 in
    rw (p.1, p.2) (pattern_fails c.in_err-pattern_at.field-0.0 c.args.line c.words.patterns.items (words_of c.words.rest.now) c.in-Some.word.now (words_of c.in-Some.after.now)
    (patterns_at c.args.line (words_of c.args.words.now)) c.in-Some.ensures.words c.in_err-pattern_at.ensures c.words.invariant)

pub words-preserved : goal.words-preserved
words-preserved c =
    ap (λ (ps : List (List TextWord)). onto ps (patterns_at c.args.line (words_of c.in-Some.after.now))) c.in_ok-push.ensures.items
    ∙ pattern_taken c.args.line c.words.patterns.items c.in_ok-pattern_at.field-0 (words_of c.words.rest.now) c.in-Some.word.now (words_of c.in-Some.after.now)
    (patterns_at c.args.line (words_of c.args.words.now)) c.in-Some.ensures.words c.in_ok-pattern_at.ensures c.words.invariant

pub returns : goal.returns
returns c =
    all_taken c.args.line c.words.patterns.items (words_of c.words.rest.now) (patterns_at c.args.line (words_of c.args.words.now)) c.in_default.ensures.words c.words.invariant
