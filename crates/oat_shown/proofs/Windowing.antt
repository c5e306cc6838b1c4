-- Windows of a case: there are few of them, and what the statuses of work on them say.
use Rattle.std.proofs.Common.{◌≡◌, ◌↔◌, ◌<◌, ◌≤◌, ℕ, Bool, true, false, length, Option, Some, None, ltb, refl, arith, option_map}
use Rattle.std.specs.Prelude.{IfSome, IsTrue, if◌then◌else◌, nat_le, unwrap_or, MatchOption}
use Rattle.std.proofs.lemmas.Bool.{and_parts, leb-true, ltb-true, ltb-false}
use Rattle.oat_journal.specs.{calls_fit, Case, Image, Measured.Run, Measured.dev, Measured.opening_of, sealed_bodies}
use Rattle.oat_device.specs.DeviceRun.{CountsItsWindows, IsSealed}
use Rattle.oat_device.proofs.Counting.{windows_are_counted}
use Rattle.oat_page.specs.{declared.page.Ended.TheVariants.Done, declared.page.Ended.TheVariants.Rejected, declared.page.Ended.TheVariants.Unsealed, Answer.status_of}

-- ---- a case calls for few windows

abbrev run_at : Image → Case → ℕ → Run
run_at image case begin_at = dev image (opening_of image case.session begin_at) case.inputs case.writes case.steps

-- a case's session begins with the first window that it calls for
pub first_window : (calls : Option ℕ) → IfSome calls (λ k. IsTrue (calls_fit k)) → MatchOption (option_map (λ (k : ℕ). 0) calls) (unwrap_or calls 1 ≡ 1) (λ (serial : ℕ). (serial ≡ 0) × (1 ≤ unwrap_or calls 1))
first_window None fit = refl
first_window (Some k) fit = (refl, leb-true 1 k (and_parts (nat_le 1 k) (nat_le k 1024) fit).0)

most_calls : (calls : Option ℕ) → IfSome calls (λ k. IsTrue (calls_fit k)) → unwrap_or calls 1 ≤ 1024
most_calls None fit = omega arith
most_calls (Some k) fit = leb-true k 1024 (and_parts (nat_le 1 k) (nat_le k 1024) fit).1

pub few_windows : (image : Image) (case : Case) (begin_at n : ℕ) → IfSome case.session.calls (λ k. IsTrue (calls_fit k))
    → n ≡ length (sealed_bodies (opening_of image case.session begin_at) (run_at image case begin_at).measurements) → n < 4294967296
few_windows image case begin_at n fit count =
    let o = opening_of image case.session begin_at in
    let counted = windows_are_counted image o case.inputs case.writes case.steps (first_window case.session.calls fit) in
    let most = most_calls case.session.calls fit in
    by (ltb n 4294967296) refl counted most where
      by : (b : Bool) → ltb n 4294967296 ≡ b → CountsItsWindows (opening_of image case.session begin_at) (run_at image case begin_at) → unwrap_or case.session.calls 1 ≤ 1024 → n < 4294967296
      by true is counted most = ltb-true n 4294967296 is
      by false is counted most =
          let long = ltb-false n 4294967296 is in
          let open_still : ¬ IsSealed (run_at image case begin_at) = λ shut. let all = counted.all shut in omega (arith, count, all, most, long) in
          let fewer = counted.fewer open_still in absurd (omega (arith, count, fewer, most, long))

-- ---- what the statuses say

pub statuses : (few refused : Bool) (status : ℕ) → status ≡ status_of (if few then Unsealed else (if refused then Rejected else Done))
    → (status ≡ 7 ↔ (few ≡ true)) × ((status ≡ 1 ↔ ((few ≡ false) × (refused ≡ true))) × (status ≡ 0 ↔ ((few ≡ false) × (refused ≡ false))))
statuses true refused status is = (
  (λ seven. refl, λ few. is),
  (
    (λ one. absurd (omega (arith, is, one)), λ both. absurd (let q = both.0 in cc)),
    (λ none. absurd (omega (arith, is, none)), λ both. absurd (let q = both.0 in cc)),
  ),
)
statuses false true status is = (
  (λ seven. absurd (omega (arith, is, seven)), λ few. absurd (let q = few in cc)),
  (
    (λ one. (refl, refl), λ both. is),
    (λ none. absurd (omega (arith, is, none)), λ both. absurd (let q = both.1 in cc)),
  ),
)
statuses false false status is = (
  (λ seven. absurd (omega (arith, is, seven)), λ few. absurd (let q = few in cc)),
  (
    (λ one. absurd (omega (arith, is, one)), λ both. absurd (let q = both.1 in cc)),
    (λ none. (refl, refl), λ both. is),
  ),
)
