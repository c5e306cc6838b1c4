-- `device IMAGE CASE`: the first refusal of an input, or the lines of the measured run, with the blob of each window that
-- it sealed (docs/FORMATS.md).
use Rattle.std.specs.{Prelude.◌≡◌, Prelude.ℕ, Prelude.List, Prelude.[], Prelude.◌∷◌, Prelude.◌++◌, Prelude.codes, List.AllZip, List.flat_map}
use Rattle.oat_inputs.specs.Admits.{Admits}
use Rattle.oat_shown.specs.{Opening, IsBlobOf, Image, BeginsAt, Case, Run, dev, end_of, opening_of, sealed_bodies, IsSealed, Body, Done, Unsealed, line, Answer, shows, File, RunText.run_text}
use Rattle.oat_shown.specs.{BlobLine.blob_line}

-- the measured run of a case
abbrev pub run_of : Image → Case → ℕ → Run
run_of image case begin_at = dev image (opening_of image case.session begin_at) case.inputs case.writes case.steps

abbrev pub run_lines : Run → List ℕ
run_lines run = run_text run.running.outputs (end_of run)

abbrev pub IsBlobUnder : List ℕ → Body → List ℕ → Type 0
IsBlobUnder key body bytes = IsBlobOf body key bytes

-- the lines of a run, and that of the blob of each window that it sealed, in their order
abbrev pub run_and_blobs : Run → List (List ℕ) → List ℕ
run_and_blobs run blobs = run_lines run ++ flat_map blob_line blobs

-- The lines are shown; where the last window hasn't sealed, it is said that its blob is wanting.
pub data ShowsRun (o : Opening) (key : List ℕ) (run : Run) (a : Answer) : Type 0 where
  sealed : IsSealed run → (blobs : List (List ℕ)) → AllZip (IsBlobUnder key) (sealed_bodies o run.measurements) blobs
      → a ≡ shows Done (run_and_blobs run blobs) [] → ShowsRun o key run a
  unsealed : ¬ IsSealed run → (blobs : List (List ℕ)) → AllZip (IsBlobUnder key) (sealed_bodies o run.measurements) blobs
      → a ≡ shows Unsealed (run_and_blobs run blobs) (line (codes "no blob")) → ShowsRun o key run a

-- The run of the case on the image is shown.
pub record RunsCase (image : Image) (case : Case) (a : Answer) : Type 0 where
  pub begin_at : ℕ
  pub begins : BeginsAt image.map case.session.op begin_at
  pub shown : ShowsRun (opening_of image case.session begin_at) case.session.key (run_of image case begin_at) a

abbrev pub Runs : List File → Answer → Type 0
Runs (image ∷ case ∷ []) a = Admits image case RunsCase a
Runs _ a = ⊥
