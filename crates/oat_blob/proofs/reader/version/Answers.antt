use Rattle.std.proofs.Common.{ap, arith, length}
use Rattle.oat_blob.proofs.{Fixed.version_stops, reader.version.Goals.in_default-via-in-Some-2+else-version-eq2, reader.version.Goals.in_default-via-in_default}
use Rattle.oat_blob.proofs.reader.version.Goals as goal

pub returns-in_default : goal.returns-in_default
returns-in_default c = elim c.in_default.branch [
  | in_default-via-in-Some-2+else-version-eq2 w ↦
      let first = w.in-Some.ensures.cases.0 in
      let second = w.in-Some-2.ensures.cases.0 in
      version_stops c.args.bytes.now (λ rest same. w.if-version-eq1.false (cc)) (λ rest same. w.if-version-eq2.false (cc))
  | in_default-via-in_default w ↦
      version_stops c.args.bytes.now (λ rest same. let long = ap length same in absurd (omega (arith, w.in_default.ensures.cases))) (λ rest same. let long = ap length same in absurd (omega (arith, w.in_default.ensures.cases)))
]
