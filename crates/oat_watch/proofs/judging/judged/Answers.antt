use Rattle.std.proofs.Common.{◌≡◌, ◌∙◌, ℕ, List, sym, ap, subst}
use Rattle.oat_verify.proofs.OneVerdict.{acceptance_at_once}
use Rattle.oat_attest.specs.{IsBlobOf, Case, chain, window_head, returns_of, opening_of, window_of, returns_of_run, serial_of, IsVerdict, head_of, subject_of}
use Rattle.oat_watch.specs.Watching.{PartsFrom, watched_run}
use Rattle.oat_watch.proofs.Verdicts.{body-of, body-there, holds-there, is-watched, number-is, one-chain}
use Rattle.oat_watch.proofs.judging.judged.Goals as goal

pub parting-requires : goal.parting-requires
parting-requires c =
    let image = c.args.shaped.now in
    let case = c.args.case.now in
    let device = c.args.device.now in
    let w = c.requires.whole in
    let s = c.args.serial in
    let o = opening_of image case.session device.begin_at in
    let run = watched_run image case device.begin_at in
    let b = body-of device s c.requires.sealed in
    let has = body-there device image case s b.body w b.has in
    let holds = holds-there device image case s case.session.op c.args.window.now w c.requires.holds in
    let key = ap (λ (x : Case). x.session.key) w.case_is in
    let blob : IsBlobOf b.body case.session.key c.as_slice.result.now =
    subst (λ (bytes : List ℕ). IsBlobOf b.body case.session.key bytes) (sym c.as_slice.ensures.value)
    (subst (λ (k : List ℕ). IsBlobOf b.body k c.in_ok-blob.blob.items) key (c.in_ok-blob.ensures b.body b.has)) in
    let number = c.number_of-number.ensures ∙ number-is case.session.calls s in
    let head : c.window_head-head.result ≡ head_of (subject_of image case.session) (serial_of o s) =
    c.window_head-head.ensures ∙ (ap (λ (d : List ℕ). window_head case.session.nonce case.session.op d c.number_of-number.result) c.digest.ensures
    ∙ ap (head_of (subject_of image case.session)) number) in
    let returns : c.as_slice-2.result.now ≡ returns_of_run (window_of o s run) = c.as_slice-2.ensures.value ∙ holds.returns in
    record {
      one_chain = λ path is.
          let judged = subst (IsVerdict (subject_of image case.session) c.as_slice.result.now) is c.in_ok-verdict.ensures in
          let accepted = (acceptance_at_once (subject_of image case.session) c.as_slice.result.now path).0 judged in
          let chains = one-chain image case device.begin_at s b.body c.as_slice.result.now path has blob accepted in
          ap (λ (h : List ℕ). chain h c.as_slice-2.result.now) head ∙ (ap (chain (head_of (subject_of image case.session) (serial_of o s))) returns
          ∙ (chains ∙ ap (λ (h : List ℕ). chain h (returns_of path)) (sym head)));
    }

pub returns : goal.returns
returns c =
    let image = c.args.shaped.now in
    let case = c.args.case.now in
    let device = c.args.device.now in
    let w = c.requires.whole in
    let s = c.args.serial in
    let o = opening_of image case.session device.begin_at in
    let run = watched_run image case device.begin_at in
    let b = body-of device s c.requires.sealed in
    let has = body-there device image case s b.body w b.has in
    let holds = holds-there device image case s case.session.op c.args.window.now w c.requires.holds in
    let key = ap (λ (x : Case). x.session.key) w.case_is in
    let blob : IsBlobOf b.body case.session.key c.as_slice.result.now =
    subst (λ (bytes : List ℕ). IsBlobOf b.body case.session.key bytes) (sym c.as_slice.ensures.value)
    (subst (λ (k : List ℕ). IsBlobOf b.body k c.in_ok-blob.blob.items) key (c.in_ok-blob.ensures b.body b.has)) in
    let number = c.number_of-number.ensures ∙ number-is case.session.calls s in
    let head : c.window_head-head.result ≡ head_of (subject_of image case.session) (serial_of o s) =
    c.window_head-head.ensures ∙ (ap (λ (d : List ℕ). window_head case.session.nonce case.session.op d c.number_of-number.result) c.digest.ensures
    ∙ ap (head_of (subject_of image case.session)) number) in
    let returns : c.as_slice-2.result.now ≡ returns_of_run (window_of o s run) = c.as_slice-2.ensures.value ∙ holds.returns in
    let parts = subst (λ (h : List ℕ). PartsFrom h (returns_of_run (window_of o s run)) c.in_ok-verdict.verdict c.in_ok-apart.apart) head
    (subst (λ (rs : List ℕ). PartsFrom c.window_head-head.result rs c.in_ok-verdict.verdict c.in_ok-apart.apart) returns c.in_ok-apart.ensures) in
    is-watched image case device.begin_at s b.body c.image-image.ensures.well_formed c.image-image.ensures.shaped w.begins has c.as_slice.result.now blob c.args.window.now holds
    _ c.in_ok-verdict.ensures parts (c.from_vec.ensures ∙ c.in_ok-path.ensures) c.in_ok-returns.ensures c.in_ok-uses.ensures
