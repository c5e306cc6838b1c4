-- The headline for `verify`, from same path, the clash of unequal returns, and exact violations: by whether the run's returns are those of the path.
use Rattle.std.proofs.Common.{◌≡◌, ℕ, ℤ, inl, inr, List, All, None, ap, ◌∙◌}
use Rattle.oat_chain.proofs.Messages.{decided}
use Rattle.oat_blob.proofs.OneLayout.{one_body}
use Rattle.oat_journal.specs.{Body, Session, Write, Image, Edge, returns_of, Uses.IsSound, Window.returns_of_run, Measured.dev, Measured.window_of, Measured.uses_of, Measured.opening_of}
use Rattle.oat_journal.proofs.RunLaws.{no_violation_means_sound}
use Rattle.oat_verify.specs.Verdict.{Accepts, subject_of}
use Rattle.oat_attest.specs.{Headline.IsReported, Headline.Headline, Lockstep.SamePath, Lockstep.ClashOfUnequalReturns}
use Rattle.oat_attest.proofs.{Joining.same_path, Clashing.clash_of_unequal_returns}

-- an accepted run has no violation, and so each of its checked uses is sound
all_sound : (image : Image) (session : Session) (begin_at : ℕ) (bytes : List ℕ) (path : List Edge) → Accepts (subject_of image session) bytes path
    → (inputs : List ℤ) (writes : List Write) (n s : ℕ) (body : Body)
    → IsReported image session begin_at (dev image (opening_of image session begin_at) inputs writes n) s body bytes
    → All IsSound (uses_of image (opening_of image session begin_at) s (dev image (opening_of image session begin_at) inputs writes n))
all_sound image session begin_at bytes path accepted inputs writes n s body reported =
    let same = one_body bytes body accepted.body _ accepted.mac reported.blob accepted.is_blob in
    let none : body.head.violation ≡ None = ap (λ (b : Body). b.head.violation) same.0 ∙ accepted.clean in
    (no_violation_means_sound image (opening_of image session begin_at) inputs writes n s body reported.has).sound none

headline_from : SamePath → ClashOfUnequalReturns → Headline
headline_from same_path clash image session begin_at setting bytes path accepted inputs writes n s body given reported =
    let o = opening_of image session begin_at in
    let run_returns = returns_of_run (window_of o s (dev image o inputs writes n)) in
    decided run_returns (returns_of path)
    (λ equal.
    let followed = same_path image session begin_at setting bytes path accepted inputs writes n s body given reported equal in
    inl (record { executed = followed.0; sound = all_sound image session begin_at bytes path accepted inputs writes n s body reported; loaded = followed.2 }))
    (λ unequal. inr (clash image session begin_at setting bytes path accepted inputs writes n s body given reported unequal))

pub headline : Headline
headline = headline_from same_path clash_of_unequal_returns
