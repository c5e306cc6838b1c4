-- The bodies that a device gives: those on its shelf, and that of the last window where it has sealed.
use Rattle.std.proofs.Common.{◌≡◌, ◌+◌, ◌≤◌, ◌<◌, ◌^◌, ℕ, zero, suc, List, [], ◌∷◌, ◌++◌, length, length-append, Option, Some, None, refl, sym, ap, ◌∙◌, arith}
use Rattle.std.specs.{Prelude.IfSome, Prelude.IsSome, Prelude.IsTrue, Prelude.MatchOption, Prelude.nat_le, Prelude.slice_get, Option.unwrap_or}
use Rattle.std.proofs.lemmas.Bool.{and_parts, leb-true}
use Rattle.oat_journal.specs.{Body, calls_fit, Monitored, Measurements, declared.end.DeviceEnd.DeviceEnd, Measured.HasBody, TurnLaws.CountsFit}
use Rattle.oat_journal.proofs.RunLaws.{records_are_few}
use Rattle.oat_device.specs.{declared.course.Course.Course, DeviceRun.DeviceRun, DeviceRun.IsSealed, DeviceRun.ReportsItsBody, DeviceRun.bodies_so_far, DeviceRun.reported, DeviceRun.run_so_far}
use Rattle.oat_device.specs.{DeviceRun.window_opening, Standing.HasMade, Standing.turns_of}
use Rattle.oat_device.proofs.Runs.{bodies-shelved, measurements-are}

-- ---- places in a list

before : {X : Type 0} (xs ys : List X) (i : ℕ) → i < length xs → slice_get (xs ++ ys) i ≡ slice_get xs i
before [] ys i within = absurd (omega arith)
before (x ∷ xs) ys zero within = refl
before (x ∷ xs) ys (suc i) within = before xs ys i (omega arith)

at-end : {X : Type 0} (xs : List X) (x : X) → slice_get (xs ++ x ∷ []) (length xs) ≡ Some x
at-end [] x = refl
at-end (y ∷ xs) x = at-end xs x

-- an element in a place of a list
pub record Holds {X : Type 0} (xs : List X) (i : ℕ) : Type 0 where
  pub value : X
  pub here : slice_get xs i ≡ Some value

pub holds-within : {X : Type 0} (xs : List X) (i : ℕ) → i < length xs → Holds xs i
holds-within [] i within = absurd (omega arith)
holds-within (x ∷ xs) zero within = record { value = x; here = refl }
holds-within (x ∷ xs) (suc i) within = let h = holds-within xs i (omega arith) in record { value = h.value; here = h.here }

-- ---- what a device keeps of its bodies

pub record Keeps (course : Course) (device : DeviceRun) : Type 0 where
  pub shelved : course.shelf.bodies ≡ (run_so_far device).measurements.shelved
  pub few : length course.shelf.bodies + 1 < 2 ^ 32
  pub counts : (s : ℕ) (body : Body) → HasBody (window_opening device) (run_so_far device) s body → CountsFit body

turns-few : (course : Course) (end : Option DeviceEnd) → course.bare.made ≤ course.steps → (elim end as (λ _. ℕ) [ None ↦ course.bare.made | Some why ↦ course.steps ]) ≤ course.steps
turns-few course None within = within
turns-few course (Some why) within = omega arith

pub keeps : (course : Course) (device : DeviceRun) → HasMade course device.image device.case device.begin_at → device.turns ≡ turns_of course → Keeps course device
keeps course device s turns =
    let few = s.ready.shelf.few in
    let steps = s.ready.few in
    let made = turns-few course course.bare.end s.within in record {
      shelved = ap (λ (m : Measurements). m.shelved) (measurements-are course device s turns);
      few = omega (arith, few);
      counts = λ n body has.
          let r = records_are_few device.image (window_opening device) device.case.inputs device.case.writes device.turns n body has in
          let bits = r.bits in
          let targets = r.targets in record { bits = omega (arith, bits, made, steps, turns); targets = omega (arith, targets, made, steps, turns) };
    }

pub on-shelf : (course : Course) (device : DeviceRun) (i : ℕ) → Keeps course device → i < length course.shelf.bodies → slice_get (bodies_so_far device) i ≡ slice_get course.shelf.bodies i
on-shelf course device i k within =
    let shelved = ap (λ (bodies : List Body). length bodies) k.shelved in
    before (run_so_far device).measurements.shelved _ i (omega (arith, shelved, within)) ∙ ap (λ (bodies : List Body). slice_get bodies i) (sym k.shelved)

-- ---- how many bodies there are

pub count-open : (course : Course) (device : DeviceRun) → Keeps course device → (IsSealed (run_so_far device) → ⊥) → length (bodies_so_far device) ≡ length course.shelf.bodies
count-open course device k open_still = ap (λ (bodies : List Body). length bodies) (bodies-shelved device open_still ∙ sym k.shelved)

pub count-sealed : (course : Course) (device : DeviceRun) → Keeps course device → (shown : Monitored) → ReportsItsBody device shown → length (bodies_so_far device) ≡ length course.shelf.bodies + 1
count-sealed course device k shown report =
    let all = ap (λ (bodies : List Body). length bodies) report.body in
    let shelved = ap (λ (bodies : List Body). length bodies) k.shelved in
    let both = length-append (run_so_far device).measurements.shelved (reported shown ∷ []) in
    omega (arith, all, shelved, both)

-- the window behind those on the shelf is the last one, and has sealed
pub last-sealed : (course : Course) (device : DeviceRun) → Keeps course device → {B : Type 0} (now : B → Monitored) (last : Option B) (i : ℕ)
    → MatchOption last (IsSealed (run_so_far device) → ⊥) (λ b. ReportsItsBody device (now b)) → i < length (bodies_so_far device) → length course.shelf.bodies ≤ i → IsSome last
last-sealed course device k now (Some b) i report within behind = refl
last-sealed course device k now None i open_still within behind =
    let all = count-open course device k open_still in
    absurd (omega (arith, all, within, behind))

pub last-is : (course : Course) (device : DeviceRun) → Keeps course device → (shown : Monitored) (i : ℕ) → ReportsItsBody device shown → i < length (bodies_so_far device) → length course.shelf.bodies ≤ i
    → slice_get (bodies_so_far device) i ≡ Some (reported shown)
last-is course device k shown i report within behind =
    let m = (run_so_far device).measurements in
    let all = count-sealed course device k shown report in
    let shelved = ap (λ (bodies : List Body). length bodies) k.shelved in
    let at : i ≡ length m.shelved = omega (arith, all, shelved, within, behind) in
    ap (λ (bodies : List Body). slice_get bodies i) report.body ∙ ap (slice_get (m.shelved ++ reported shown ∷ [])) at ∙ at-end m.shelved (reported shown)

-- ---- how many a session calls for

pub calls-few : (calls : Option ℕ) → IfSome calls (λ k. IsTrue (calls_fit k)) → unwrap_or calls 1 ≤ 1024
calls-few None fit = omega arith
calls-few (Some k) fit = leb-true k 1024 (and_parts (nat_le 1 k) (nat_le k 1024) fit).1
