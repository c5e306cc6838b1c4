-- The room of `device`: where its work stops and goes on, that it has one answer, and what its statuses say.
use Rattle.std.proofs.Common.{◌≡◌, ◌<◌, ◌+◌, ◌++◌, ◌∙◌, ℕ, zero, suc, length, take, List, ◌∷◌, Some, refl, sym, ap, subst, arith, []}
use Rattle.std.specs.List.{AllZip, slice_get}
use Rattle.std.proofs.lemmas.{List.take_more, Option.get_or_from_slice_get}
use Rattle.oat_page.proofs.Working.{StopsWith-more}
use Rattle.oat_inputs.specs.Admits.{Rejects, AreAdmitted}
use Rattle.oat_inputs.proofs.Admitting.{Admits-rejected, Admits-admitted}
use Rattle.oat_shown.specs.{IsBlobOf, Body, Image, Case, opening_of, DeviceRun, HasRun, bodies_so_far, sealed_bodies, Stop, Answer, File, StopsWith}
use Rattle.oat_room_device.specs.Device.{IsBlobUnder, Runs, RunsCase, run_of}

-- ---- where the work stops, and where it goes on to the run

pub stops_rejecting : (image case : File) (stop : Stop) → StopsWith (Rejects image case) stop → StopsWith (Runs (image ∷ case ∷ [])) stop
stops_rejecting image case stop stops =
    StopsWith-more (Rejects image case) (Runs (image ∷ case ∷ [])) stop (λ a rejected. Admits-rejected image case RunsCase a rejected) stops

pub runs_admitted : (image case : File) (i : Image) (c : Case) (a : Answer) → AreAdmitted image case i c → RunsCase i c a → Runs (image ∷ case ∷ []) a
runs_admitted image case i c a admitted runs = Admits-admitted image case RunsCase a i c admitted runs

-- ---- what a device that has made the run reports

pub bodies_reported : (device : DeviceRun) (image : Image) (case : Case) → HasRun device image case
    → bodies_so_far device ≡ sealed_bodies (opening_of image case.session device.begin_at) (run_of image case device.begin_at).measurements
bodies_reported device image case has = λ i. sealed_bodies (has.opening i) (has.run i).measurements

-- one more blob behind those of the bodies before
blobs_more : (key : List ℕ) (bodies : List Body) (blobs : List (List ℕ)) (body : Body) (bytes : List ℕ) → AllZip (IsBlobUnder key) bodies blobs → IsBlobOf body key bytes
    → AllZip (IsBlobUnder key) (bodies ++ body ∷ []) (blobs ++ bytes ∷ [])
blobs_more key [] [] body bytes all last = (last, tt)
blobs_more key [] (b ∷ blobs) body bytes all last = absurd all
blobs_more key (x ∷ bodies) [] body bytes all last = absurd all
blobs_more key (x ∷ bodies) (b ∷ blobs) body bytes all last = (all.0, blobs_more key bodies blobs body bytes all.1 last)

body_at : (bodies : List Body) (s : ℕ) → s < length bodies → (body : Body) × (slice_get bodies s ≡ Some body)
body_at [] s within = absurd (omega arith)
body_at (body ∷ bodies) zero within = (body, refl)
body_at (body ∷ bodies) (suc s) within = body_at bodies s (omega arith)

pub blobs_up_to : (key : List ℕ) (bodies : List Body) (blobs : List (List ℕ)) (s : ℕ) (bytes : List ℕ) → s < length bodies → AllZip (IsBlobUnder key) (take s bodies) blobs
    → ((body : Body) → slice_get bodies s ≡ Some body → IsBlobOf body key bytes) → AllZip (IsBlobUnder key) (take (s + 1) bodies) (blobs ++ bytes ∷ [])
blobs_up_to key bodies blobs s bytes within all last =
    let found = body_at bodies s within in
    let more : take s bodies ++ found.0 ∷ [] ≡ take (s + 1) bodies = sym (take_more bodies s found.0 within ∙ ap (λ (b : Body). take s bodies ++ b ∷ []) (get_or_from_slice_get bodies s found.0 found.0 found.1)) in
    subst (λ (xs : List Body). AllZip (IsBlobUnder key) xs (blobs ++ bytes ∷ [])) more (blobs_more key (take s bodies) blobs found.0 bytes all (last found.0 found.1))
