use Rattle.std.proofs.Common.{◌≡◌, ◌∙◌, sym, subst}
use Rattle.oat_attest.specs.{returns_of, Verdict}
use Rattle.oat_watch.specs.Watching.{PartsFrom}
use Rattle.oat_watch.proofs.Verdicts.{parts-from}
use Rattle.oat_watch.proofs.judging.parting.Goals as goal

pub returns-in_ok-replayed-in-Accept : goal.returns-in_ok-replayed-in-Accept
returns-in_ok-replayed-in-Accept c =
    let replayed : c.as_slice.result.now ≡ returns_of c.in-Accept.path = c.as_slice.ensures.value ∙ c.in_ok-replayed-in-Accept.ensures in
    subst (λ (v : Verdict). PartsFrom c.args.head.now c.args.returns.now v c.clash.result) (sym c.in-Accept.is)
    (parts-from c.args.head.now c.args.returns.now c.as_slice.result.now c.in-Accept.path c.clash.result replayed c.clash.ensures.none c.clash.ensures.place c.clash.ensures.digest)
