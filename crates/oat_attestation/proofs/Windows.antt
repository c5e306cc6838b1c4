-- The windows of an attestation: how many verdicts there are, and the headline of each.
use Rattle.std.proofs.Common.{◌≡◌, ◌≤◌, ◌<◌, ℕ, List, Option, Some, None, option_map, refl, sym, subst, ◌∙◌, arith}
use Rattle.std.specs.Prelude.{IfSome, IsTrue, MatchOption, nat_le, unwrap_or, length, slice_get}
use Rattle.std.proofs.lemmas.{Bool.and_parts, Bool.leb-true, Slice.Zip.AllZip-long}
use Rattle.oat_build.specs.{Body, IsBlobOf, Case, IsWellFormedCase, calls_fit, Program, sealed_bodies, HasBody}
use Rattle.oat_attest.specs.{AcceptanceAtOnce, IsVerdict, subject_of, Verdict, Accept, Headline.Headline, Headline.IsSetting}
use Rattle.oat_device.specs.DeviceRun.{WindowsAreCounted}
use Rattle.oat_attestation.specs.{declared.attested.Attested.Attested, Attestation.Attests, Attestation.TellsRun, Laws.JudgesWindows, Laws.RunsAreHeadlined, Laws.WindowsAreJudged, Laws.opening_told}
use Rattle.oat_attestation.specs.{Laws.run_told}
use Rattle.oat_attestation.proofs.Places.{partner}

-- ---- a verdict, its blob, and its body

pub record Judged (case : Case) (a : Attested) (told : TellsRun case a) (s : ℕ) (v : Verdict) : Type 0 where
  pub bytes : List ℕ
  pub verdict : IsVerdict (subject_of a.shaped case.session) bytes v
  pub body : Body
  pub has : HasBody (opening_told told) (run_told told) s body
  pub blob : IsBlobOf body case.session.key bytes

pub judged : (case : Case) (a : Attested) (told : TellsRun case a) (s : ℕ) (v : Verdict) → slice_get a.verdicts s ≡ Some v → Judged case a told s v
judged case a told s v is =
    let on = partner (IsVerdict (subject_of a.shaped case.session)) a.blobs a.verdicts s v told.verdicts is in
    let of = partner (λ body bytes. IsBlobOf body case.session.key bytes) (sealed_bodies (opening_told told) (run_told told).measurements) a.blobs s on.0 told.blobs on.1 in
    record { bytes = on.0; verdict = on.2; body = of.0; has = of.1; blob = of.2 }

pub setting : (p : Program) (case : Case) (a : Attested) (h : Attests p case a) → IsSetting a.shaped case.session h.tells.begin_at
setting p case a h = record { well_formed = h.image.well_formed; shaped = h.image.shaped; begins = h.tells.begins }

-- ---- the headline

pub runs_are_headlined : Headline → AcceptanceAtOnce → RunsAreHeadlined
runs_are_headlined headline at_once p case a h s path is =
    let w = judged case a h.tells s (Accept path) is in
    headline a.shaped case.session h.tells.begin_at (setting p case a h) w.bytes path ((at_once (subject_of a.shaped case.session) w.bytes path).0 w.verdict)
    case.inputs case.writes case.steps s w.body h.given (record { has = w.has; blob = w.blob })

-- ---- how many

-- a case's session begins with the first window that it calls for
starts_at_first : (calls : Option ℕ) → IfSome calls (λ k. IsTrue (calls_fit k)) → MatchOption (option_map (λ (k : ℕ). 0) calls) (unwrap_or calls 1 ≡ 1) (λ (serial : ℕ). (serial ≡ 0) × (1 ≤ unwrap_or calls 1))
starts_at_first None fit = refl
starts_at_first (Some k) fit = (refl, leb-true 1 k (and_parts (nat_le 1 k) (nat_le k 1024) fit).0)

pub windows_are_judged : WindowsAreCounted → WindowsAreJudged
windows_are_judged counted case a formed told =
    let count = counted a.shaped (opening_told told) case.inputs case.writes case.steps (starts_at_first case.session.calls formed.calls) in
    let bodies = sealed_bodies (opening_told told) (run_told told).measurements in
    let long : length a.blobs ≡ length bodies = AllZip-long (λ body bytes. IsBlobOf body case.session.key bytes) bodies a.blobs told.blobs in
    record {
      each = AllZip-long (IsVerdict (subject_of a.shaped case.session)) a.blobs a.verdicts told.verdicts;
      all = λ whole. long ∙ count.all whole;
      fewer = λ open_still. (let few = count.fewer open_still in omega (arith, long, few));
    }
