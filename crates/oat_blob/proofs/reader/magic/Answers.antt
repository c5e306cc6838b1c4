use Rattle.std.proofs.Common.{ap, arith, length}
use Rattle.oat_blob.proofs.{Fixed.opening_front, Fixed.opening_more, Fixed.opening_stops, reader.magic.Goals.in_default-via-in-Some+else-byte-letter, reader.magic.Goals.in_default-via-in_default}
use Rattle.oat_blob.proofs.reader.magic.Goals as goal

pub returns-in_default : goal.returns-in_default
returns-in_default c =
    opening_stops c.args.bytes.now c.loop-letter.rest.now c.loop-letter.letter-index c.loop-letter-test.true c.loop-letter.invariant
    (λ behind same. elim c.in_default.branch [
      | in_default-via-in-Some+else-byte-letter w ↦ let whole = w.in-Some.ensures.cases.0 in w.if-byte-letter.false (cc)
      | in_default-via-in_default w ↦ let long = ap length same in absurd (omega (arith, w.in_default.ensures.cases))
    ])

pub loop-letter-preserved : goal.loop-letter-preserved
loop-letter-preserved c =
    opening_more c.args.bytes.now c.loop-letter.rest.now c.in-Some.behind.now c.loop-letter.letter-index c.in-Some.byte.now c.loop-letter-test.true c.loop-letter.invariant c.in-Some.ensures.cases.0 c.if-byte-letter.true

pub returns : goal.returns
returns c = opening_front c.args.bytes.now c.loop-letter.rest.now c.loop-letter.letter-index c.loop-letter-test.false c.loop-letter.invariant
