-- Where nothing is written, an attestation tells the source's run, and accepts each of its calls.
use Rattle.std.proofs.Common.{◌≡◌, ◌+◌, ◌-◌, ◌*◌, ◌≤◌, ◌<◌, ◌⊎◌, ◌++◌, inl, inr, ℕ, ℤ, List, [], Option, Some, None, true, option_map, refl, sym, ap, subst, ◌∙◌, arith}
use Rattle.std.specs.{Prelude.FitsSigned, Prelude.IfSome, Prelude.IsTrue, Prelude.nat_le, Prelude.nat_lt, Prelude.unwrap_or, Prelude.length, Prelude.slice_get, Int.w64, List.All, List.AllByRecursion}
use Rattle.std.proofs.lemmas.{Bool.and_parts, Bool.leb-true, Bool.lt-ltb, List.Elements.recursion_from_All, Option.slice_get_cases, Option.slice_get_within, Slice.Zip.AllZip-long}
use Rattle.oat_build.specs.{Body, IsBlobOf, Case, Write, IsWellFormedCase, calls_fit, Program, IsChecked, CallsAreCounted, source_events, source_of, LineEdge, Finish, calls_done, has_completed}
use Rattle.oat_build.specs.{outputs_of, GoesBack, turn_of, Opening, sealed_bodies, serial_of, DeviceEnd, OutOfSteps, BodiesAreCalledFor, HasBody, IsCalledFor, Run, dev, end_of, uses_of, window_of}
use Rattle.oat_build.specs.{IsSound, executed_path, EndsAs, HasEnded, Means, RunShowsTheCall, Placement, device_end, instructions_for}
use Rattle.oat_attest.specs.{Verdict, IsVerdict, subject_of, Honest.CallsForOne, Honest.SoundRunsAreAccepted}
use Rattle.oat_attestation.specs.{declared.attested.Attested.Attested, Attestation.Attests, Laws.AcceptsTheCall, Laws.AttestationsAreComplete, Laws.EndsAsSource, Laws.HonestRunsAreAttested}
use Rattle.oat_attestation.specs.{Laws.calls_measured, Laws.opening_told, Laws.run_told}
use Rattle.oat_attestation.proofs.{Places.item_at, Windows.judged, Windows.setting}

-- ---- what a session of a case calls for

calls_for_one : (calls : Option ℕ) → IfSome calls (λ k. IsTrue (calls_fit k)) → IfSome calls (λ k. 0 < k)
calls_for_one None fit = tt
calls_for_one (Some k) fit = let low = leb-true 1 k (and_parts (nat_le 1 k) (nat_le k 1024) fit).0 in omega (arith, low)

at_least_one : (calls : Option ℕ) → IfSome calls (λ k. IsTrue (calls_fit k)) → 0 < unwrap_or calls 1
at_least_one None fit = omega arith
at_least_one (Some k) fit = let low = leb-true 1 k (and_parts (nat_le 1 k) (nat_le k 1024) fit).0 in omega (arith, low)

-- the serial number of window s
abbrev number_of : Option ℕ → ℕ → Option ℕ
number_of calls s = option_map (λ (first : ℕ). first + s) (option_map (λ (k : ℕ). 0) calls)

called_for : (calls : Option ℕ) (s : ℕ) → s < unwrap_or calls 1 → (s ≡ 0) ⊎ ((number : ℕ) × (number_of calls s ≡ Some number) × (number < unwrap_or calls 1))
called_for None s below = inl (omega (arith, below))
called_for (Some k) s below = inr (0 + s, refl, (let low : s < k = below in omega (arith, low)))

not_called_for : (calls : Option ℕ) → 0 < unwrap_or calls 1
    → ((unwrap_or calls 1 ≡ 0) ⊎ ((number : ℕ) × (number_of calls (unwrap_or calls 1) ≡ Some number) × (number < unwrap_or calls 1))) → ⊥
not_called_for calls some (inl none) = omega (arith, some, none)
not_called_for None some (inr (number, is, below)) = absurd (cc)
not_called_for (Some k) some (inr (number, is, below)) =
    let same : 0 + k ≡ number = cc in
    let low : number < k = below in omega (arith, same, low)

-- ---- the end of a run

abbrev ended_by : Option DeviceEnd → DeviceEnd
ended_by end = elim end [ None ↦ OutOfSteps | Some why ↦ why ]

module _ (p : Program) (case : Case) (a : Attested) (formed : IsWellFormedCase case) (h : Attests p case a) (unwritten : case.writes ≡ []) where
  abbrev o : Opening
  o = opening_told h.tells

  abbrev quiet : Run
  quiet = dev a.shaped o case.inputs [] case.steps

  same : run_told h.tells ≡ quiet
  same = ap (λ (writes : List Write). dev a.shaped o case.inputs writes case.steps) unwritten

  fit : AllByRecursion (FitsSigned w64) case.inputs
  fit = recursion_from_All (FitsSigned w64) case.inputs h.given.inputs_fit

  abbrev place : Placement LineEdge
  place = h.image.runs.placement

  means : Means (source_of p case.inputs) a.shaped place o case.inputs
  means = h.image.runs.means o case.inputs fit h.tells.begins

  ended : a.end ≡ ended_by quiet.end
  ended = h.tells.end ∙ ap end_of same

  put : a.outputs ≡ quiet.running.outputs
  put = h.tells.outputs ∙ ap (λ (run : Run). run.running.outputs) same

  back_by : (end : Option DeviceEnd) → quiet.end ≡ end → (a.end ≡ OutOfSteps) ⊎ HasEnded (source_of p case.inputs) a.outputs case.steps a.end
  back_by None is = inl (ended ∙ ap ended_by is)
  back_by (Some why) is =
      let whole = means.ends.back case.steps why is in
      inr (record { finish = whole.finish; ends = whole.ends; alike = ended ∙ ap ended_by is ∙ whole.alike; same = put ∙ whole.same })

  ends_as_source : EndsAsSource p case a
  ends_as_source = record {
    forth = λ k finish is few.
        let whole = means.ends.forth k case.steps finish is few in
        record { ended = ap Some (ended ∙ ap ended_by whole.ended); same = put ∙ whole.same };
    back = back_by quiet.end refl;
    prefix = (
        let rest = means.ends.prefix case.steps in
        (rest.0, ap (λ (xs : List ℤ). xs ++ rest.0) put ∙ rest.1)
        );
  }

  -- ---- a window

  accepts_the_call : SoundRunsAreAccepted → (s : ℕ) (v : Verdict) → slice_get a.verdicts s ≡ Some v → AcceptsTheCall p case a h s v
  accepts_the_call accepted s v is =
      let w = judged case a h.tells s v is in
      let op = case.session.op in
      let has : HasBody o quiet s w.body = subst (λ (run : Run). HasBody o run s w.body) same w.has in
      let completed = means.sealed s case.steps w.body has in
      let shows = λ (k : ℕ) (done : has_completed op s (source_events p case.inputs k) ≡ true).
      subst (λ (run : Run). RunShowsTheCall (source_of p case.inputs) a.shaped place o s k run) (sym same) (means.shows s k case.steps w.body done has) in
      let back : GoesBack turn_of [] (executed_path a.shaped.map op (window_of o s (run_told h.tells))) =
      subst (λ (run : Run). GoesBack turn_of [] (executed_path a.shaped.map op (window_of o s run))) (sym same) (h.image.runs.goes_back o case.inputs fit h.tells.begins case.steps s w.body has) in
      let few = leb-true case.steps 4194304 (and_parts (nat_le 1 case.steps) (nat_le case.steps 4194304) formed.steps).1 in
      record {
        path = executed_path a.shaped.map op (window_of o s (run_told h.tells));
        accepts =
            (accepted a.shaped case.session h.tells.begin_at (setting p case a h) case.inputs case.writes case.steps s w.body h.given w.has back
            (calls_for_one case.session.calls formed.calls) (shows case.steps completed).sound few w.bytes w.blob v).0 w.verdict;
        executed = refl;
        completed = completed;
        shows = shows;
      }

pub honest_runs_are_attested : SoundRunsAreAccepted → HonestRunsAreAttested
honest_runs_are_attested accepted p case a formed h unwritten = record {
  ends = ends_as_source p case a formed h unwritten;
  accepted = accepts_the_call p case a formed h unwritten accepted;
}

-- ---- completeness

-- a list that has an item at each place below a number, and none there
as_many : (bodies : List Body) (most : ℕ) → 0 < most → ((s : ℕ) → s < most → (body : Body) × (slice_get bodies s ≡ Some body)) → ((body : Body) → slice_get bodies most ≡ Some body → ⊥)
    → length bodies ≡ most
as_many bodies most some each none =
    let last = each (most - 1) (omega (arith, some)) in
    let low = slice_get_within bodies (most - 1) last.0 last.1 in
    elim (slice_get_cases bodies most).1 [
      | inl there ↦ absurd (none there.0 there.2)
      | inr past ↦ (let high = past.0 in omega (arith, some, low, high))
    ]

module _ (counted : CallsAreCounted) (p : Program) (case : Case) (a : Attested) (ok : IsChecked p) (formed : IsWellFormedCase case) (h : Attests p case a) (unwritten : case.writes ≡ []) where
  all_sealed : (k : ℕ) → calls_measured case.session ≤ calls_done case.session.op (source_events p case.inputs k) → instructions_for k ≤ case.steps
      → (s : ℕ) → s < calls_measured case.session → (body : Body) × HasBody (opening_told h.tells) (run_told h.tells) s body
  all_sealed k completes few s below =
      let done : has_completed case.session.op s (source_events p case.inputs k) ≡ true =
      counted p ok case.inputs k case.session.op s ∙ lt-ltb s (calls_done case.session.op (source_events p case.inputs k)) (omega (arith, below, completes)) in
      let found = (means p case a formed h unwritten).seals s k case.steps (called_for case.session.calls s below) done few in
      (found.0, subst (λ (run : Run). HasBody (opening_told h.tells) run s found.0) (sym (same p case a formed h unwritten)) found.1)

pub attestations_are_complete : HonestRunsAreAttested → CallsAreCounted → BodiesAreCalledFor → AttestationsAreComplete
attestations_are_complete honest counted called p case a ok formed h unwritten k completes few =
    let o = opening_told h.tells in
    let most = calls_measured case.session in
    let bodies = sealed_bodies o (run_told h.tells).measurements in
    let some = at_least_one case.session.calls formed.calls in
    let many : length bodies ≡ most = as_many bodies most some (all_sealed counted p case a ok formed h unwritten k completes few)
    (λ body is. not_called_for case.session.calls some (called a.shaped o case.inputs case.writes case.steps most body is)) in
    let blobs : length a.blobs ≡ most = AllZip-long (λ body bytes. IsBlobOf body case.session.key bytes) bodies a.blobs h.tells.blobs ∙ many in
    let verdicts : length a.verdicts ≡ most = AllZip-long (IsVerdict (subject_of a.shaped case.session)) a.blobs a.verdicts h.tells.verdicts ∙ blobs in
    record {
      blobs = blobs;
      verdicts = verdicts;
      each = λ s below.
          let v = item_at a.verdicts s (omega (arith, below, verdicts)) in
          (v.0, v.1, (honest p case a formed h unwritten).accepted s v.0 v.1);
    }
