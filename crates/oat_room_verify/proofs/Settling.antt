-- What a feed settled tells the verdict, and an acceptance has a path in the records that are kept.
use Rattle.std.proofs.Common.{◌≡◌, ℕ, List, Bool, refl, sym, ap, subst, ◌∙◌}
use Rattle.oat_blob.proofs.OneLayout.{one_body}
use Rattle.oat_replay.specs.Replay.{IsWalked}
use Rattle.oat_verify.proofs.OneVerdict.{acceptance_at_once}
use Rattle.oat_feed.specs.{declared.verdict.Settled.Settled, Verdict.AreRecordsOf, Verdict.RecordLists, Verdict.of_blob, Verdict.of_none, Verdict.feed_verdict_of}
use Rattle.oat_shown.specs.{Edge, Body, Verdict, Accept, Refuse, Cause, Accepts, Subject, IsVerdict}
use Rattle.oat_room_verify.specs.Settles.{HasPath, IsPathOf, SettlesBlob, TellsVerdict}
use Rattle.oat_feed.specs.declared.verdict.FeedVerdict.TheVariants as feeds

-- the records that are kept of an accepted blob are those of its path
kept_path : (s : Subject) (bytes : List ℕ) (kept : RecordLists) (path : List Edge) → AreRecordsOf bytes kept → Accepts s bytes path → IsPathOf s.map s.session.op kept path
kept_path s bytes kept path (of_blob body mac is bits targets) accepts =
    let one = (one_body bytes body accepts.body mac accepts.mac is accepts.is_blob).0 in
    subst (λ (xs : List Bool). IsWalked s.map s.session.op xs kept.targets path) (sym (bits ∙ ap (λ (b : Body). b.bits) one))
    (subst (λ (xs : List ℕ). IsWalked s.map s.session.op accepts.body.bits xs path) (sym (targets ∙ ap (λ (b : Body). b.targets) one)) accepts.walked)
kept_path s bytes kept path (of_none none bits targets) accepts = absurd (none accepts.body accepts.mac accepts.is_blob)

pub tells : (s : Subject) (bytes : List ℕ) (settled : Settled) (settles : SettlesBlob s bytes settled) → TellsVerdict s.map s.session.op settled settles.verdict.verdict
tells s bytes settled settles = record {
  told = settles.verdict.told;
  walked = λ path is. kept_path s bytes settled.kept path settles.kept ((acceptance_at_once s bytes path).0 (subst (IsVerdict s bytes) is settles.verdict.right));
}

never : (cause : Cause) → feeds.Refuse cause ≡ feeds.Accept → ⊥
never cause same = cc

pub accepted : (v : Verdict) → feed_verdict_of v ≡ feeds.Accept → (path : List Edge) × (v ≡ Accept path)
accepted (Accept path) same = (path, refl)
accepted (Refuse cause) same = absurd (never cause same)

pub has_path : (s : Subject) (bytes : List ℕ) (settled : Settled) → SettlesBlob s bytes settled → HasPath s.map s.session.op settled
has_path s bytes settled settles is =
    let found = accepted settles.verdict.verdict (sym settles.verdict.told ∙ is) in
    (found.0, (tells s bytes settled settles).walked found.0 found.1)
