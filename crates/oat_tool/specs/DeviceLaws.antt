-- What the statuses of `device` say of the defined outcome (docs/PROMISES.md).
use Rattle.std.specs.Prelude.{◌≡◌, ◌≢◌, ◌↔◌, ℕ, List, [], ◌∷◌}
use Rattle.oat_words.specs.{declared.command.Command.TheVariants.Device, Commands.IsLine, Commands.files_of}
use Rattle.oat_room_device.specs.Device.{Runs, RunsCase, run_of}
use Rattle.oat_room_attest.specs.{Contents, Image, Case, opening_of, CountsItsWindows, IsSealed, IsOne, Outcome, Answer, as_outcome, File, AreLoaded, AreAdmitted}
use Rattle.oat_tool.specs.{Defined.Defined, DefinedLaws.IsOfWork}

-- The files that the words name hold a shaped image and a case for one of its operations, and the outcome is what is
-- defined of the case's measured run on the image: with status 0 where its last window sealed, and else with status 7. So
-- status 7 comes exactly where fewer windows sealed than the case calls for.
pub record IsMeasuredRun (words : List (List ℕ)) (contents : Contents) (o : Outcome) : Type 0 where
  pub image : File
  pub case : File
  pub held : AreLoaded contents (files_of words Device) (image ∷ case ∷ [])
  pub i : Image
  pub c : Case
  pub admitted : AreAdmitted image case i c
  pub answer : Answer
  pub runs : RunsCase i c answer
  pub is : o ≡ as_outcome answer
  pub seals : o.status ≡ 0 ↔ IsSealed (run_of i c runs.begin_at)
  pub leaves_unsealed : o.status ≡ 7 ↔ ¬ IsSealed (run_of i c runs.begin_at)
  pub counted : CountsItsWindows (opening_of i c.session runs.begin_at) (run_of i c runs.begin_at)

-- A status of work is that of the measured run.
abbrev pub RunIsShown : Type 0
RunIsShown = (words : List (List ℕ)) (contents : Contents) (o : Outcome) → IsLine words Device → Defined words contents o
    → IsOfWork o.status → IsMeasuredRun words contents o

-- A run isn't rejected.
abbrev pub RunIsNotRejected : Type 0
RunIsNotRejected = (words : List (List ℕ)) (contents : Contents) (o : Outcome) → IsLine words Device → Defined words contents o → o.status ≢ 1

-- Files have one answer.
abbrev pub OneDeviceAnswer : Type 0
OneDeviceAnswer = (files : List File) → IsOne Answer (Runs files)
