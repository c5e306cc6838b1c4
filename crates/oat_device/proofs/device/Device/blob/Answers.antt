use Rattle.std.proofs.Common.{◌≡◌, ◌<◌, ℕ, List, Option, Some, length, refl, sym, ap, subst, ◌∙◌, arith}
use Rattle.std.specs.Prelude.{MatchOption, slice_get}
use Rattle.std.proofs.lemmas.Result.{IfOk-weaker}
use Rattle.oat_journal.specs.{Body, IsBlobOf, Monitored}
use Rattle.oat_device.specs.DeviceRun.{DeviceRun, IsSealed, ReportsItsBody, reported, run_so_far}
use Rattle.oat_device.proofs.Bodies.{Keeps, holds-within, keeps, last-is, last-sealed, on-shelf}
use Rattle.oat_device.proofs.device.Device.blob.Goals as goal

pub encode-requires-clause-bits : goal.encode-requires-clause-bits
encode-requires-clause-bits c =
    let k = subst (Keeps c.self.inside.course) c.self.view_is (keeps c.self.inside.course _ c.self.invariant refl) in
    let course = c.self.inside.course in
    let len = c.len.ensures in
    let within : c.args.serial < length course.shelf.bodies = let low = c.if-i-len.true in omega (arith, low, len) in
    let h = holds-within course.shelf.bodies c.args.serial within in
    let counts = (k.counts c.args.serial h.value (on-shelf course c.args.self.now c.args.serial k within ∙ h.here)).bits in
    let same = ap length (c.in_ok-bits.ensures h.value h.here) in
    omega (arith, counts, same)

pub encode-requires-clause-targets : goal.encode-requires-clause-targets
encode-requires-clause-targets c =
    let k = subst (Keeps c.self.inside.course) c.self.view_is (keeps c.self.inside.course _ c.self.invariant refl) in
    let course = c.self.inside.course in
    let len = c.len.ensures in
    let within : c.args.serial < length course.shelf.bodies = let low = c.if-i-len.true in omega (arith, low, len) in
    let h = holds-within course.shelf.bodies c.args.serial within in
    let counts = (k.counts c.args.serial h.value (on-shelf course c.args.self.now c.args.serial k within ∙ h.here)).targets in
    let same = ap length (c.targets.ensures h.value h.here) in
    omega (arith, counts, same)

-- a blob of a body under a key is one of an equal body under an equal key
same-blob : (body other : Body) (key same : List ℕ) (bytes : List ℕ) → body ≡ other → key ≡ same → IsBlobOf body key bytes → IsBlobOf other same bytes
same-blob body other key same bytes bodies keys blob =
    subst (λ (k : List ℕ). IsBlobOf other k bytes) keys (subst (λ (b : Body). IsBlobOf b key bytes) bodies blob)

pub returns-then-i-len : goal.returns-then-i-len
returns-then-i-len c =
    let k = subst (Keeps c.self.inside.course) c.self.view_is (keeps c.self.inside.course _ c.self.invariant refl) in
    let course = c.self.inside.course in
    let len = c.len.ensures in
    let within : c.args.serial < length course.shelf.bodies = let low = c.if-i-len.true in omega (arith, low, len) in
    let key = c.as_slice-key.ensures ∙ ap (λ (device : DeviceRun). device.case.session.key) c.self.view_is in
    IfOk-weaker c.encode.result _ _
    (λ bytes blob body is.
    let here : slice_get course.shelf.bodies c.args.serial ≡ Some body = sym (on-shelf course c.args.self.now c.args.serial k within) ∙ is in
    let head = c.head.ensures body here in
    let bits = c.in_ok-bits.ensures body here in
    let targets = c.targets.ensures body here in
    same-blob _ body _ c.args.self.now.case.session.key bytes.items (λ i. record { head = head i; bits = bits i; targets = targets i }) key blob)
    c.encode.ensures

abbrev Last : (device : DeviceRun) (B : Type 0) → (B → Monitored) → Option B → Type 0
Last device B now last = MatchOption last (IsSealed (run_so_far device) → ⊥) (λ b. ReportsItsBody device (now b))

pub unwrap-sealed-requires : goal.unwrap-sealed-requires
unwrap-sealed-requires c =
    let k = subst (Keeps c.self.inside.course) c.self.view_is (keeps c.self.inside.course _ c.self.invariant refl) in
    let course = c.self.inside.course in
    let len = c.len.ensures in
    let past = c.if-i-len.false in
    last-sealed course c.args.self.now k (λ b. b.now) c.sealed.result c.args.serial c.sealed.ensures c.requires.within (omega (arith, past, len))

pub encode-requires-2-clause-bits : goal.encode-requires-2-clause-bits
encode-requires-2-clause-bits c =
    let k = subst (Keeps c.self.inside.course) c.self.view_is (keeps c.self.inside.course _ c.self.invariant refl) in
    let course = c.self.inside.course in
    let len = c.len.ensures in
    let past = c.if-i-len.false in
    let shown = c.unwrap-sealed.result.now in
    let report = subst (Last c.args.self.now _ (λ b. b.now)) c.unwrap-sealed.ensures c.sealed.ensures in
    let here = last-is course c.args.self.now k shown c.args.serial report c.requires.within (omega (arith, past, len)) in
    let counts = (k.counts c.args.serial (reported shown) here).bits in
    let same = ap length c.bits-2.ensures in
    omega (arith, counts, same)

pub encode-requires-2-clause-targets : goal.encode-requires-2-clause-targets
encode-requires-2-clause-targets c =
    let k = subst (Keeps c.self.inside.course) c.self.view_is (keeps c.self.inside.course _ c.self.invariant refl) in
    let course = c.self.inside.course in
    let len = c.len.ensures in
    let past = c.if-i-len.false in
    let shown = c.unwrap-sealed.result.now in
    let report = subst (Last c.args.self.now _ (λ b. b.now)) c.unwrap-sealed.ensures c.sealed.ensures in
    let here = last-is course c.args.self.now k shown c.args.serial report c.requires.within (omega (arith, past, len)) in
    let counts = (k.counts c.args.serial (reported shown) here).targets in
    let same = ap length c.targets-2.ensures in
    omega (arith, counts, same)

pub returns : goal.returns
returns c =
    let k = subst (Keeps c.self.inside.course) c.self.view_is (keeps c.self.inside.course _ c.self.invariant refl) in
    let course = c.self.inside.course in
    let len = c.len.ensures in
    let past = c.if-i-len.false in
    let shown = c.unwrap-sealed.result.now in
    let report = subst (Last c.args.self.now _ (λ b. b.now)) c.unwrap-sealed.ensures c.sealed.ensures in
    let here = last-is course c.args.self.now k shown c.args.serial report c.requires.within (omega (arith, past, len)) in
    let key = c.as_slice-key.ensures ∙ ap (λ (device : DeviceRun). device.case.session.key) c.self.view_is in
    IfOk-weaker c.encode-2.result _ _
    (λ bytes blob body is.
    let both : Some (reported shown) ≡ Some body = sym here ∙ is in
    let last : reported shown ≡ body = cc in
    let head = c.head-2.ensures in
    let bits = c.bits-2.ensures in
    let targets = c.targets-2.ensures in
    let made : _ ≡ reported shown = λ i. record { head = head i; bits = bits i; targets = targets i } in
    same-blob _ body _ c.args.self.now.case.session.key bytes.items (made ∙ last) key blob)
    c.encode-2.ensures
