use Rattle.std.proofs.Common.{◌≡◌, ◌<◌, ◌+◌, ◌++◌, List, length, drop, get_or, ap, ◌∙◌, arith}
use Rattle.std.proofs.lemmas.List.{drop_more}
use Rattle.oat_policy.specs.{declared.policy.PolicyRule.PolicyRule, EdgeWords.edge_words, Standing.all_patterns, Standing.met_of, Standing.patterns_of}
use Rattle.oat_policy.proofs.{Standings.stands_there, Standings.one_followed, Parting.parted, Parting.enough}
use Rattle.oat_policy.proofs.rules.follow.Goals as goal

pub loop-i-preserved : goal.loop-i-preserved
loop-i-preserved c = λ flow path edge next same.
    let rules = c.args.rules.now in
    let states = c.loop-i.states in
    let rest = c.loop-i.rest.now in
    let words = edge_words flow edge in
    let so_far = c.loop-i.invariant flow path edge next same in
    let within : c.loop-i.i < length rules = omega (arith, c.loop-i-test.true, c.min-end.ensures) in
    let inside : c.loop-i.i < length states = omega (arith, c.loop-i-test.true, c.min-end.ensures, c.loop-i.auto.states) in
    let mine = patterns_of (get_or rules c.loop-i.i c.index-rules-i.result).rule in
    let others = all_patterns (drop (c.loop-i.i + 1) rules) in
    let rest_is : rest ≡ met_of words (mine ++ others) =
    so_far.1 ∙ ap (λ (rs : List PolicyRule). met_of words (all_patterns rs)) (drop_more rules c.loop-i.i c.index-rules-i.result within) in
    let cut : c.min.result ≡ length mine = omega (arith, c.min.ensures, c.pattern_count.ensures, enough words mine others rest rest_is) in
    let parts = parted words mine others rest c.min.result rest_is cut in (
      one_followed flow path edge rules states c.loop-i.i c.index-rules-i.result c.behind.result c.behind.result within inside so_far.0
          (c.behind.ensures flow path edge (next.0, c.split_at.ensures.front ∙ parts.first)
          (stands_there flow path edge rules states c.loop-i.i c.index-rules-i.result _ within inside so_far.0)),
      c.split_at.ensures.back ∙ parts.others,
    )
