-- An attestation: what is answered of a program and a case (docs/DEFINITIONS.md, "Attestation").
use Rattle.std.specs.{Prelude.◌≡◌, Prelude.ℕ, List.AllZip}
use Rattle.oat_build.specs.{IsBlobOf, Case, Program, BeginsAt, Opening, sealed_bodies, Run, dev, end_of, opening_of, AreGiven, Built.IsImageOf}
use Rattle.oat_attest.specs.{IsVerdict, subject_of}
use Rattle.oat_attestation.specs.declared.attested.Attested.{Attested}

-- what the windows of the case are opened for on the image, where they open at this address
abbrev pub opening_at : Case → Attested → ℕ → Opening
opening_at case a begin_at = opening_of a.shaped case.session begin_at

-- the measured run of the case on the image: with its session, inputs, writes and steps
abbrev pub run_at : Case → Attested → ℕ → Run
run_at case a begin_at = dev a.shaped (opening_at case a begin_at) case.inputs case.writes case.steps

-- It tells the measured run of the case on its image.
pub record TellsRun (case : Case) (a : Attested) : Type 0 where
  -- where the windows of the session's operation open
  pub begin_at : ℕ
  pub begins : BeginsAt a.shaped.map case.session.op begin_at
  pub end : a.end ≡ end_of (run_at case a begin_at)
  pub outputs : a.outputs ≡ (run_at case a begin_at).running.outputs
  -- the blobs are those of the run's bodies under the case's key, in their order
  pub blobs : AllZip (λ body bytes. IsBlobOf body case.session.key bytes) (sealed_bodies (opening_at case a begin_at) (run_at case a begin_at).measurements) a.blobs
  -- and the verdicts those on these blobs, in the case's session
  pub verdicts : AllZip (IsVerdict (subject_of a.shaped case.session)) a.blobs a.verdicts

-- The image is one of the program, and its measured run of the case is told.
pub record Attests (p : Program) (case : Case) (a : Attested) : Type 0 where
  pub image : IsImageOf p a.shaped
  -- inputs have 64 bits, and writes lie in data memory
  pub given : AreGiven case.inputs case.writes
  pub tells : TellsRun case a
