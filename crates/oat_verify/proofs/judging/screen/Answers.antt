use Rattle.std.proofs.Common.{rules, ◌≡◌, ◌∙◌, refl}
use Rattle.sha2.specs.Sha256.{sha256}
use Rattle.oat_shape.specs.{image_text, fails, passes}
use Rattle.oat_replay.specs.{hmac, covered_of}
use Rattle.oat_verify.specs.Verdict.{FitsSession}
use Rattle.oat_verify.proofs.judging.screen.Goals as goal

pub returns : goal.returns
returns c =
    let right_mac : c.args.blob.now.mac ≡ hmac c.args.session.now.key (covered_of c.args.blob.now.body) = search rules in
    let nonce : c.args.blob.now.body.head.nonce ≡ c.args.session.now.nonce = search rules in
    let serial : FitsSession c.args.blob.now.body.head.serial c.args.session.now.calls = search rules in
    let op : c.args.blob.now.body.head.op ≡ c.args.session.now.op = search rules in
    let carried : c.args.blob.now.body.head.digest ≡ c.digest.result = search rules in
    let image : c.args.blob.now.body.head.digest ≡ sha256 (image_text c.args.shaped.now) = carried ∙ c.digest.ensures in
    λ v replays. passes tt right_mac (passes tt nonce (passes tt serial (passes tt op (passes tt image replays))))

pub returns-then-ne : goal.returns-then-ne
returns-then-ne c = passes tt (search rules) (fails (search rules, refl))

pub returns-then-not-fits_session : goal.returns-then-not-fits_session
returns-then-not-fits_session c = passes tt (search rules) (passes tt (search rules) (fails (search rules, rw c.head-head.ensures refl)))

pub returns-then-head-session : goal.returns-then-head-session
returns-then-head-session c = passes tt (search rules) (passes tt (search rules) (passes tt (search rules) (fails (search rules, refl))))

pub returns-then-ne-2 : goal.returns-then-ne-2
returns-then-ne-2 c = passes tt (search rules) (passes tt (search rules) (passes tt (search rules) (passes tt (search rules) (fails (search rules, refl)))))
