use Rattle.std.proofs.Common.{◌<◌, ◌≤◌, List, map, length, ap, sym, ◌∙◌, arith}
use Rattle.std.proofs.lemmas.List.{length-map}
use Rattle.oat_report.specs.{TextWord}
use Rattle.oat_policy.specs.{EdgeWords.meets_each, Pieces.path_word}
use Rattle.oat_policy.proofs.Meeting.{not_as_many, one_met, one_not_met, all_met}
use Rattle.oat_policy.proofs.matching.meets_each.Goals as goal

pub returns-then-pattern-words : goal.returns-then-pattern-words
returns-then-pattern-words c =
    let many = length-map c.args.words.now path_word in
    let same = ap length c.as_slice-pattern.ensures in
    sym (not_as_many c.args.pattern.now (map path_word c.args.words.now) (λ e. omega (arith, e, many, same, c.if-pattern-words.true)))

pub loop-i-preserved : goal.loop-i-preserved
loop-i-preserved c =
    let inside : c.loop-i.i < length c.args.words.now = c.loop-i-test.true in
    let within : c.loop-i.i < length c.as_slice-pattern.result.now = omega (arith, inside, c.if-pattern-words.false) in
    one_met c.as_slice-pattern.result.now c.args.words.now c.loop-i.i c.index-pattern-i.result _ c.as_slice.result.now c.meets.result _ within inside
    (c.as_slice.ensures ∙ c.index-pattern-i.is) c.meets.ensures c.if-not-meets.false c.loop-i.invariant

pub returns-then-not-meets : goal.returns-then-not-meets
returns-then-not-meets c =
    let inside : c.loop-i.i < length c.args.words.now = c.loop-i-test.true in
    let within : c.loop-i.i < length c.as_slice-pattern.result.now = omega (arith, inside, c.if-pattern-words.false) in
    one_not_met c.as_slice-pattern.result.now c.args.words.now c.loop-i.i c.index-pattern-i.result _ c.as_slice.result.now c.meets.result _ within inside
    (c.as_slice.ensures ∙ c.index-pattern-i.is) c.meets.ensures c.if-not-meets.true c.loop-i.invariant
    ∙ ap (λ (pattern : List TextWord). meets_each pattern (map path_word c.args.words.now)) c.as_slice-pattern.ensures

pub returns : goal.returns
returns c =
    let past : length c.args.words.now ≤ c.loop-i.i = c.loop-i-test.false in
    let beyond : length c.as_slice-pattern.result.now ≤ c.loop-i.i = omega (arith, past, c.if-pattern-words.false) in
    all_met c.as_slice-pattern.result.now c.args.words.now c.loop-i.i _ beyond past c.loop-i.invariant
    ∙ ap (λ (pattern : List TextWord). meets_each pattern (map path_word c.args.words.now)) c.as_slice-pattern.ensures
