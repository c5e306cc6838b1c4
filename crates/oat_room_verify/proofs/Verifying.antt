-- The room of `verify`: where its work stops and goes on.
use Rattle.std.proofs.Common.{ℕ, List, ◌∷◌, []}
use Rattle.oat_page.proofs.Working.{StopsWith-more}
use Rattle.oat_inputs.specs.{BlobText.IsBlobText, Refusals.RefusesBlob, Admits.Rejects, Admits.AreAdmitted}
use Rattle.oat_inputs.proofs.Admitting.{Admits-rejected, Admits-admitted}
use Rattle.oat_shown.specs.{Image, Case, subject_of, First, fails, passes, Stop, Answer, File, StopsWith}
use Rattle.oat_room_verify.specs.Verify.{Concludes, Verifies}

-- what comes after an image and a case are admitted
abbrev pub Judging : File → Image → Case → Answer → Type 0
Judging blob i c = First (List ℕ) Answer (IsBlobText blob.text) (RefusesBlob blob) (λ bytes. Concludes (subject_of i c.session) bytes)

-- ---- where the work stops, and where it goes on to the verdict

pub stops_admitting : (image case blob : File) (stop : Stop) → StopsWith (Rejects image case) stop → StopsWith (Verifies (image ∷ case ∷ blob ∷ [])) stop
stops_admitting image case blob stop stops =
    StopsWith-more (Rejects image case) (Verifies (image ∷ case ∷ blob ∷ [])) stop (λ a rejected. Admits-rejected image case (Judging blob) a rejected) stops

pub stops_blob : (image case blob : File) (i : Image) (c : Case) (stop : Stop) → AreAdmitted image case i c
    → StopsWith (RefusesBlob blob) stop → StopsWith (Verifies (image ∷ case ∷ blob ∷ [])) stop
stops_blob image case blob i c stop admitted stops =
    StopsWith-more (RefusesBlob blob) (Verifies (image ∷ case ∷ blob ∷ [])) stop
    (λ a refused. Admits-admitted image case (Judging blob) a i c admitted (fails refused)) stops

pub verifies_concluded : (image case blob : File) (i : Image) (c : Case) (bytes : List ℕ) (a : Answer) → AreAdmitted image case i c
    → IsBlobText blob.text bytes → Concludes (subject_of i c.session) bytes a → Verifies (image ∷ case ∷ blob ∷ []) a
verifies_concluded image case blob i c bytes a admitted spelled concludes =
    Admits-admitted image case (Judging blob) a i c admitted (passes bytes spelled concludes)
