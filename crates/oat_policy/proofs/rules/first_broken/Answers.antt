use Rattle.std.proofs.Common.{◌<◌, ◌≤◌, length, sym, ◌∙◌, arith}
use Rattle.oat_policy.specs.Verdict.{verdict_of}
use Rattle.oat_policy.proofs.Standings.{stands_at, as_many, breaks_on, holds_there, all_hold}
use Rattle.oat_policy.proofs.rules.first_broken.Goals as goal

pub returns-in-Some : goal.returns-in-Some
returns-in-Some c = λ flow path many same.
    let rules = c.args.rules.now in
    let within : c.loop-i.i < length rules = omega (arith, c.loop-i-test.true, c.min-end.ensures) in
    breaks_on flow path rules c.loop-i.i c.index-rules-i.result c.index-rules-i-in-Some.result (verdict_of flow rules path) c.in-Some.place within
    (sym (c.broken_at.ensures flow path many (stands_at flow path rules c.args.states.now c.loop-i.i c.index-rules-i.result _ within same)) ∙ c.in-Some.is)
    (c.loop-i.invariant flow path many same)

pub loop-i-preserved : goal.loop-i-preserved
loop-i-preserved c = λ flow path many same.
    let rules = c.args.rules.now in
    let within : c.loop-i.i < length rules = omega (arith, c.loop-i-test.true, c.min-end.ensures) in
    holds_there flow path rules c.loop-i.i c.index-rules-i.result (verdict_of flow rules path) within
    (sym (c.broken_at.ensures flow path many (stands_at flow path rules c.args.states.now c.loop-i.i c.index-rules-i.result _ within same)) ∙ c.in_default.is)
    (c.loop-i.invariant flow path many same)

pub returns : goal.returns
returns c = λ flow path many same.
    let rules = c.args.rules.now in
    let length_is = as_many flow path rules c.args.states.now same in
    let past : length rules ≤ c.loop-i.i = omega (arith, c.loop-i-test.false, c.min-end.ensures, length_is) in
    all_hold flow path rules c.loop-i.i (verdict_of flow rules path) past (c.loop-i.invariant flow path many same)
