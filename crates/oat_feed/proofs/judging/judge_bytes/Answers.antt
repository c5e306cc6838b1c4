use Rattle.std.proofs.Common.{ap, refl}
use Rattle.oat_verify.specs.{BodyHead, Verdict.blob, Verdict.form, Verdict.carried}
use Rattle.oat_feed.specs.Verdict.{of_blob, of_none}
use Rattle.oat_feed.proofs.PlacesAre.{has_records, none_kept}
use Rattle.oat_feed.proofs.judging.judge_bytes.Goals as goal

pub returns-in_ok-judge-in-Ok-clause-verdict : goal.returns-in_ok-judge-in-Ok-clause-verdict
returns-in_ok-judge-in-Ok-clause-verdict c =
    let tells = c.in_ok-judge-in-Ok.ensures in
    record { verdict = tells.verdict; right = blob _ _ c.in-Ok.ensures.found tells.right; told = tells.told }

pub returns-in_ok-judge-in-Ok-clause-serial : goal.returns-in_ok-judge-in-Ok-clause-serial
returns-in_ok-judge-in-Ok-clause-serial c = carried _ _ c.in-Ok.ensures.found (ap (λ (head : BodyHead). head.serial) c.head.ensures)

pub returns-in_ok-judge-in-Ok-clause-within : goal.returns-in_ok-judge-in-Ok-clause-within
returns-in_ok-judge-in-Ok-clause-within c = (has_records c.args.bytes.now _ _ c.of.result c.in-Ok.ensures.found c.of.ensures).within

pub returns-in_ok-judge-in-Ok-clause-records : goal.returns-in_ok-judge-in-Ok-clause-records
returns-in_ok-judge-in-Ok-clause-records c =
    let has = has_records c.args.bytes.now _ _ c.of.result c.in-Ok.ensures.found c.of.ensures in
    of_blob _ _ c.in-Ok.ensures.found has.bits has.targets

pub returns-in-Err-clause-verdict : goal.returns-in-Err-clause-verdict
returns-in-Err-clause-verdict c = record { verdict = _; right = form c.in-Err.fault.offset c.in-Err.ensures.form refl; told = refl }

pub returns-in-Err-clause-records : goal.returns-in-Err-clause-records
returns-in-Err-clause-records c = of_none c.in-Err.ensures.form.no_blob (none_kept c.args.bytes.now).0 (none_kept c.args.bytes.now).1
