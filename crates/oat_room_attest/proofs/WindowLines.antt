-- The parts of windows one after another, and the lines of a path.
use Rattle.std.proofs.Common.{◌≡◌, ◌∙◌, ◌+◌, ◌++◌, ℕ, List, ◌∷◌, length, get_or, Option, Some, None, sym, ap, subst, length-append, append_assoc, append-nil, refl, arith, []}
use Rattle.std.specs.Prelude.{slice_get}
use Rattle.std.proofs.lemmas.Option.{slice_get_read}
use Rattle.oat_shown.specs.{Map, Verdict, Windows.window_number}
use Rattle.oat_room_attest.specs.Attest.{window_text, windows_from}

-- ---- windows

no_verdict : (verdict : Verdict) → None ≡ Some verdict → ⊥
no_verdict verdict same = cc

pub some_verdict : (v w : Verdict) → Some v ≡ Some w → v ≡ w
some_verdict v w same = cc

-- one window more
windows_more : (flow : Map) (calls : Option ℕ) (s : ℕ) (before : List (List ℕ)) (blob : List ℕ) (verdicts : List Verdict) (verdict : Verdict)
    → slice_get verdicts (length before) ≡ Some verdict
    → windows_from flow calls s (before ++ blob ∷ []) verdicts
    ≡ windows_from flow calls s before verdicts ++ window_text flow (window_number calls (s + length before)) blob verdict
windows_more flow calls s [] blob [] verdict at = absurd (no_verdict verdict at)
windows_more flow calls s [] blob (v ∷ verdicts) verdict at =
    let same : s ≡ s + 0 = omega arith in
    append-nil (window_text flow (window_number calls s) blob v)
    ∙ (ap (window_text flow (window_number calls s) blob) (some_verdict v verdict at) ∙ ap (λ (n : ℕ). window_text flow (window_number calls n) blob verdict) same)
windows_more flow calls s (b ∷ before) blob [] verdict at = absurd (no_verdict verdict at)
windows_more flow calls s (b ∷ before) blob (v ∷ verdicts) verdict at =
    let same : s + 1 + length before ≡ s + length (b ∷ before) = omega arith in
    let first = window_text flow (window_number calls s) b v in
    let front = windows_from flow calls (s + 1) before verdicts in
    ap (λ (rest : List ℕ). first ++ rest)
    (windows_more flow calls (s + 1) before blob verdicts verdict at ∙ ap (λ (n : ℕ). front ++ window_text flow (window_number calls n) blob verdict) same)
    ∙ sym (append_assoc first front (window_text flow (window_number calls (s + length (b ∷ before))) blob verdict))

-- what stands behind some windows
windows_behind : (flow : Map) (calls : Option ℕ) (s : ℕ) (before rest : List (List ℕ)) (verdicts : List Verdict)
    → (left : List ℕ) × (windows_from flow calls s (before ++ rest) verdicts ≡ windows_from flow calls s before verdicts ++ left)
windows_behind flow calls s [] rest verdicts = (windows_from flow calls s rest verdicts, refl)
windows_behind flow calls s (b ∷ before) rest [] = ([], refl)
windows_behind flow calls s (b ∷ before) rest (v ∷ verdicts) =
    let behind = windows_behind flow calls (s + 1) before rest verdicts in
    let first = window_text flow (window_number calls s) b v in
    (behind.0, ap (λ (text : List ℕ). first ++ text) behind.1 ∙ sym (append_assoc first (windows_from flow calls (s + 1) before verdicts) behind.0))

-- the text of windows of which window s is the next
pub record IsNextWindow (flow : Map) (calls : Option ℕ) (blobs before : List (List ℕ)) (s : ℕ) (blob : List ℕ) (verdicts : List Verdict) (verdict : Verdict)
    : Type 0 where
  pub left : List ℕ
  pub pushed : windows_from flow calls 0 (before ++ blob ∷ []) verdicts
      ≡ windows_from flow calls 0 before verdicts ++ window_text flow (window_number calls s) blob verdict
  pub parted : windows_from flow calls 0 blobs verdicts
      ≡ windows_from flow calls 0 before verdicts ++ (window_text flow (window_number calls s) blob verdict ++ left)

verdict_at : (blobs before : List (List ℕ)) (s : ℕ) (blob : List ℕ) (rest : List (List ℕ)) (verdicts : List Verdict) (verdict : Verdict)
    → blobs ≡ before ++ blob ∷ rest → length verdicts ≡ length blobs → s ≡ length before → verdict ≡ get_or verdicts s verdict
    → slice_get verdicts (length before) ≡ Some verdict
verdict_at blobs before s blob rest verdicts verdict is each count at =
    let long = ap length is ∙ length-append before (blob ∷ rest) in
    subst (λ (n : ℕ). slice_get verdicts n ≡ Some verdict) count (slice_get_read verdicts (length verdicts) s verdict refl (omega (arith, long, each, count)) at)

pub next_window : (flow : Map) (calls : Option ℕ) (blobs before : List (List ℕ)) (s : ℕ) (blob : List ℕ) (rest : List (List ℕ)) (verdicts : List Verdict)
    (verdict : Verdict) → blobs ≡ before ++ blob ∷ rest → length verdicts ≡ length blobs → s ≡ length before → verdict ≡ get_or verdicts s verdict
    → IsNextWindow flow calls blobs before s blob verdicts verdict
next_window flow calls blobs before s blob rest verdicts verdict is each count at =
    let same : 0 + length before ≡ s = omega (arith, count) in
    let front = windows_from flow calls 0 before verdicts in
    let piece = window_text flow (window_number calls s) blob verdict in
    let more = windows_more flow calls 0 before blob verdicts verdict (verdict_at blobs before s blob rest verdicts verdict is each count at)
    ∙ ap (λ (n : ℕ). front ++ window_text flow (window_number calls n) blob verdict) same in
    let behind = windows_behind flow calls 0 (before ++ blob ∷ []) rest verdicts in
    record {
      left = behind.0;
      pushed = more;
      parted = ap (λ (bs : List (List ℕ)). windows_from flow calls 0 bs verdicts) (is ∙ sym (append_assoc before (blob ∷ []) rest))
          ∙ (behind.1 ∙ (ap (λ (text : List ℕ). text ++ behind.0) more ∙ append_assoc front piece behind.0));
    }
