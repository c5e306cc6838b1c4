-- What the defined outcomes of `drill` are (docs/PROMISES.md).
use Rattle.std.specs.Prelude.{◌≡◌, ℕ, List, ◌∷◌, length, []}
use Rattle.sha2.specs.Sha256.{sha256}
use Rattle.oat_words.specs.Commands.{IsLine, numbers_of}
use Rattle.oat_room_attest.specs.{Contents, Edge, Image, Accept, IsImageOf, Outcome, path_text}
use Rattle.oat_room_drill.specs.{drill_program, Drill.drill_report}
use Rattle.oat_tool.specs.Defined.{Defined}
use Rattle.oat_words.specs.declared.command.Command.TheVariants as commands

-- The words' number has an accepted drill: status 0, 80 outputs, and the 4,243 edges of the path of the source's call.
pub record IsAcceptedDrill (n : ℕ) (o : Outcome) : Type 0 where
  pub image : Image
  pub of_program : IsImageOf (drill_program n) image
  pub path : List Edge
  pub edges : length path ≡ 4243
  pub is : o ≡ record { status = 0; out = drill_report n 80 4243 (sha256 (path_text image.map path)) (Accept path); err = [] }

abbrev pub DrillIsAccepted : Type 0
DrillIsAccepted =
    (words : List (List ℕ)) (contents : Contents) (o : Outcome) → IsLine words commands.Drill → Defined words contents o
    → (n : ℕ) × (numbers_of words commands.Drill ≡ n ∷ []) × IsAcceptedDrill n o
