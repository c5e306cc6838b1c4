-- The verdict on a window of a whole run, and what it says of the run.
use Rattle.std.proofs.Common.{◌≡◌, ◌++◌, ◌∙◌, ◌+◌, ◌<◌, ℕ, zero, suc, List, [], ◌∷◌, length, map, Option, Some, None, slice_get, option_map, inl, inr, refl, sym, ap, subst, arith}
use Rattle.std.specs.{Prelude.◌↔◌, Prelude.IfSome, Prelude.IsNone, List.All}
use Rattle.std.proofs.lemmas.List.{get_or-map, length-map}
use Rattle.sha2.specs.Sha256.{sha256}
use Rattle.oat_shape.proofs.Laid.{opens_once}
use Rattle.oat_blob.proofs.OneLayout.{one_body}
use Rattle.oat_journal.proofs.RunLaws.{bodies_tell_windows}
use Rattle.oat_verify.proofs.OneVerdict.{acceptance_at_once}
use Rattle.oat_attest.specs.{Headline.calls_before, Body, IsBlobOf, Case, DiffersAt, chain, messages, bytes_of, Clash, Image, IsWellFormedImage, Edge, BeginsAt, returns_of, Opening, sealed_bodies}
use Rattle.oat_attest.specs.{serial_of, HasBody, opening_of, window_of, AreGiven, CheckedUse, IsSound, returns_of_run, IsShaped, Verdict, Accept, Accepts, IsVerdict, head_of, subject_of}
use Rattle.oat_attest.proofs.Headlines.{headline}
use Rattle.oat_device.specs.DeviceRun.{DeviceRun, IsAtStart, bodies_so_far, run_so_far, window_opening}
use Rattle.oat_watch.specs.{declared.watched.CheckedUse.CheckedUse as ShownUse, declared.watched.WatchedWindow.WatchedWindow, declared.window.Window.Window, Shown.Holds, Shown.use_of}
use Rattle.oat_watch.specs.{Watching.FoundDefined, Watching.IsWatched, Watching.HasWholeRun, Watching.OfEach, Watching.PartsFrom, Watching.watched_run}

-- ---- the clash

pub parts-from : (head returns replayed : List ℕ) (path : List Edge) (apart : Option Clash) → replayed ≡ returns_of path → (IsNone apart ↔ (returns ≡ replayed))
    → IfSome apart (λ c. DiffersAt (messages head returns) (messages head replayed) (bytes_of c.first) (bytes_of c.second))
    → IfSome apart (λ c. sha256 (bytes_of c.first) ≡ sha256 (bytes_of c.second)) → PartsFrom head returns (Accept path) apart
parts-from head returns replayed path None is none place digest = none.0 refl ∙ is
parts-from head returns replayed path (Some clash) is none place digest =
    let same : DiffersAt (messages head returns) (messages head (returns_of path)) (bytes_of clash.first) (bytes_of clash.second) =
    subst (λ (rs : List ℕ). DiffersAt (messages head returns) (messages head rs) (bytes_of clash.first) (bytes_of clash.second)) is place in (
      record { differ = λ equal. absurd (let q = none.1 (equal ∙ sym is) in cc); first = bytes_of clash.first; second = bytes_of clash.second; place = same; one_digest = digest },
      refl,
      refl,
    )

-- ---- the body of a window

pub record Bodied (device : DeviceRun) (s : ℕ) : Type 0 where
  pub body : Body
  pub has : slice_get (bodies_so_far device) s ≡ Some body

bodied : (bodies : List Body) (s : ℕ) → s < length bodies → (body : Body) × (slice_get bodies s ≡ Some body)
bodied [] s below = absurd (omega (arith, below))
bodied (b ∷ bodies) zero below = (b, refl)
bodied (b ∷ bodies) (suc s) below = bodied bodies s (omega (arith, below))

pub number-is : (calls : Option ℕ) (s : ℕ) → option_map (λ (number : ℕ). s) calls ≡ option_map (λ (first : ℕ). first + s) (option_map (λ (number : ℕ). 0) calls)
number-is None s = refl
number-is (Some k) s = let same : s ≡ 0 + s = omega arith in ap (λ (n : ℕ). Some n) same

module _ (image : Image) (case : Case) (begin_at : ℕ) (s : ℕ) (body : Body) where
  abbrev o : Opening
  o = opening_of image case.session begin_at

  abbrev has_body : Type 0
  has_body = HasBody o (watched_run image case begin_at) s body

  abbrev head : Option ℕ → List ℕ
  head number = head_of (subject_of image case.session) number

  abbrev run_returns : List ℕ
  run_returns = returns_of_run (window_of o s (watched_run image case begin_at))

  -- the hash of an accepted blob is the chain of both lists of returns
  pub one-chain : (bytes : List ℕ) (path : List Edge) → has_body → IsBlobOf body case.session.key bytes → Accepts (subject_of image case.session) bytes path
      → chain (head (serial_of o s)) run_returns ≡ chain (head (serial_of o s)) (returns_of path)
  one-chain bytes path has blob accepted =
      let window = bodies_tell_windows image o case.inputs case.writes case.steps s body has in
      let same = one_body bytes body accepted.body _ accepted.mac blob accepted.is_blob in
      let serial : accepted.body.head.serial ≡ serial_of o s = ap (λ (b : Body). b.head.serial) (sym same.0) ∙ window.serial in
      sym window.hash ∙ ap (λ (b : Body). b.head.hash) same.0 ∙ accepted.hash ∙ ap (λ (number : Option ℕ). chain (head number) (returns_of path)) serial

  -- what is claimed of a run that was given such inputs and writes
  module _ (formed : IsWellFormedImage image) (shaped : IsShaped image) (begins : BeginsAt image.map case.session.op begin_at)
      (has : has_body) (bytes : List ℕ) (blob : IsBlobOf body case.session.key bytes) where
    abbrev window_shown : Window → Type 0
    window_shown window = Holds image o.op (calls_before o s (watched_run image case begin_at)) (window_of o s (watched_run image case begin_at)) window

    all-sound : (uses : List ShownUse) → All IsSound (map use_of uses) → All FoundDefined uses
    all-sound uses sound k d below =
        let there : k < length (map use_of uses) = rw length-map below in
        subst (λ (used : CheckedUse). IsSound used) (get_or-map use_of uses k d (use_of d) below) (sound k (use_of d) there)

    agrees : AreGiven case.inputs case.writes → (window : Window) → window_shown window → (path : List Edge) → IsVerdict (subject_of image case.session) bytes (Accept path) → run_returns ≡ returns_of path
        → (window.path.items ≡ path) × All FoundDefined window.uses.items
    agrees given window holds path judged equal =
        let accepted = (acceptance_at_once (subject_of image case.session) bytes path).0 judged in
        elim (headline image case.session begin_at (record { well_formed = formed; shaped = shaped; begins = begins }) bytes path accepted case.inputs case.writes case.steps s body given (record { has = has; blob = blob })) [
          | inl followed ↦ (holds.path ∙ followed.executed, all-sound window.uses.items (subst (All IsSound) (sym holds.uses) followed.sound))
          | inr clashes ↦ absurd (clashes.differ equal)
        ]

    pub is-watched : (window : Window) → window_shown window → (shown : WatchedWindow) → IsVerdict (subject_of image case.session) bytes shown.verdict
        → PartsFrom (head (serial_of o s)) run_returns shown.verdict shown.apart → shown.path ≡ window.path.items → shown.returns.items ≡ window.returns.items → shown.uses.items ≡ window.uses.items
        → IsWatched image case begin_at s shown
    is-watched window holds shown judged parts path returns uses = record {
      shows = record { path = path ∙ holds.path; returns = returns ∙ holds.returns; uses = ap (map use_of) uses ∙ holds.uses };
      judged = record { body = body; bytes = bytes; reported = record { has = has; blob = blob }; judged = judged };
      parts = parts;
      agrees = λ given accepted_path is none.
          let judged_so = subst (IsVerdict (subject_of image case.session) bytes) is judged in
          let equal : run_returns ≡ returns_of accepted_path = subst (λ (a : Option Clash). PartsFrom (head (serial_of o s)) run_returns (Accept accepted_path) a) none (subst (λ (v : Verdict). PartsFrom (head (serial_of o s)) run_returns v shown.apart) is parts) in
          let both = agrees given window holds accepted_path judged_so equal in (path ∙ both.0, subst (All FoundDefined) (sym uses) both.1);
    }

-- ---- a device that has made the whole run

abbrev pub whole_device : Image → Case → ℕ → DeviceRun
whole_device image case begin_at = record { image = image; case = case; begin_at = begin_at; turns = case.steps }

pub whole-is : (device : DeviceRun) (image : Image) (case : Case) → HasWholeRun device image case → device ≡ whole_device image case device.begin_at
whole-is device image case w = λ i. record { image = w.image_is i; case = w.case_is i; begin_at = device.begin_at; turns = w.turns_are i }

-- the body of each window that has sealed
pub body-of : (device : DeviceRun) (s : ℕ) → s < length (bodies_so_far device) → Bodied device s
body-of device s below = let b = bodied (bodies_so_far device) s below in record { body = b.0; has = b.1 }

-- the same of the device as of the run
pub body-there : (device : DeviceRun) (image : Image) (case : Case) (s : ℕ) (body : Body) → HasWholeRun device image case → slice_get (bodies_so_far device) s ≡ Some body
    → HasBody (opening_of image case.session device.begin_at) (watched_run image case device.begin_at) s body
body-there device image case s body w has = subst (λ (d : DeviceRun). slice_get (bodies_so_far d) s ≡ Some body) (whole-is device image case w) has

pub holds-there : (device : DeviceRun) (image : Image) (case : Case) (s op : ℕ) (window : Window) → HasWholeRun device image case
    → Holds image op (calls_before (window_opening device) s (run_so_far device)) (window_of (window_opening device) s (run_so_far device)) window
    → Holds image op (calls_before (opening_of image case.session device.begin_at) s (watched_run image case device.begin_at)) (window_of (opening_of image case.session device.begin_at) s (watched_run image case device.begin_at)) window
holds-there device image case s op window w holds =
    subst (λ (d : DeviceRun). Holds image op (calls_before (window_opening d) s (run_so_far d)) (window_of (window_opening d) s (run_so_far d)) window) (whole-is device image case w) holds

-- from its start, with all steps made, and made again
pub made-whole : (image : Image) (case : Case) (start once twice : DeviceRun) → IsAtStart start image case → once ≡ record start { turns = start.case.steps } → twice ≡ record once { turns = once.case.steps } → HasWholeRun twice image case
made-whole image case start once twice at one two = record {
  image_is = ap (λ (d : DeviceRun). d.image) two ∙ (ap (λ (d : DeviceRun). d.image) one ∙ at.image);
  case_is = ap (λ (d : DeviceRun). d.case) two ∙ (ap (λ (d : DeviceRun). d.case) one ∙ at.case);
  begins = subst (BeginsAt image.map case.session.op) (sym (ap (λ (d : DeviceRun). d.begin_at) two ∙ ap (λ (d : DeviceRun). d.begin_at) one)) at.begins;
  turns_are = ap (λ (d : DeviceRun). d.turns) two ∙ (ap (λ (d : DeviceRun). d.case.steps) one ∙ ap (λ (x : Case). x.steps) at.case);
}

-- its windows open at the one place
pub opens-there : (image : Image) (case : Case) (device : DeviceRun) → IsShaped image → HasWholeRun device image case → (begin_at : ℕ) → BeginsAt image.map case.session.op begin_at → device.begin_at ≡ begin_at
opens-there image case device shaped w begin_at begins = sym (opens_once image.map case.session.op device.begin_at begin_at shaped.paired w.begins begins)

pub run-is : (image : Image) (case : Case) (device : DeviceRun) → IsShaped image → HasWholeRun device image case → (begin_at : ℕ) → BeginsAt image.map case.session.op begin_at → run_so_far device ≡ watched_run image case begin_at
run-is image case device shaped w begin_at begins = ap run_so_far (whole-is device image case w) ∙ ap (watched_run image case) (opens-there image case device shaped w begin_at begins)

pub bodies-are : (image : Image) (case : Case) (device : DeviceRun) → IsShaped image → HasWholeRun device image case → (begin_at : ℕ) → BeginsAt image.map case.session.op begin_at
    → bodies_so_far device ≡ sealed_bodies (opening_of image case.session begin_at) (watched_run image case begin_at).measurements
bodies-are image case device shaped w begin_at begins =
    ap bodies_so_far (whole-is device image case w)
    ∙ ap (λ (b : ℕ). sealed_bodies (opening_of image case.session b) (watched_run image case b).measurements) (opens-there image case device shaped w begin_at begins)

-- ---- one window more

pub each-more : (windows : List WatchedWindow) (window : WatchedWindow) (claim : ℕ → WatchedWindow → Type 0) → OfEach windows claim → claim (length windows) window → OfEach (windows ++ window ∷ []) claim
each-more [] window claim all last zero shown at = subst (claim 0) (only window shown at) last where
  only : (a b : WatchedWindow) → ◌≡◌ {A = Option WatchedWindow} (Some a) (Some b) → a ≡ b
  only a b h = cc
each-more [] window claim all last (suc s) shown at = absurd (cc)
each-more (first ∷ windows) window claim all last zero shown at = all 0 shown at
each-more (first ∷ windows) window claim all last (suc s) shown at = each-more windows window (λ k. claim (suc k)) (λ k other h. all (suc k) other h) last s shown at
