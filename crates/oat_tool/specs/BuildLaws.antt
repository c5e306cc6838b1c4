-- What the status of `build` says of the defined outcome (docs/PROMISES.md).
use Rattle.std.specs.Prelude.{◌≡◌, ◌⊎◌, ℕ, List, [], ◌∷◌}
use Rattle.oat_words.specs.Commands.{IsLine, files_of}
use Rattle.oat_room_program.specs.Build.{Builds, ShowsImage}
use Rattle.oat_room_attest.specs.{Contents, Image, image_text, Program, IsImageOf, Outcome, Answer, File, AreLoaded, IsCheckedText, CodeFits}
use Rattle.oat_tool.specs.{Defined.Defined, DefinedLaws.IsOfWork}
use Rattle.oat_words.specs.declared.command.Command.TheVariants as commands

-- The file that the words name holds a checked program whose code fits, and the outcome is the text of an image of it, with status 0.
pub record IsBuiltImage (words : List (List ℕ)) (contents : Contents) (o : Outcome) : Type 0 where
  pub program : File
  pub held : AreLoaded contents (files_of words commands.Build) (program ∷ [])
  pub p : Program
  pub checked : IsCheckedText program.text p
  pub fits : CodeFits p
  pub image : Image
  pub of_program : IsImageOf p image
  pub is : o ≡ record { status = 0; out = image_text image; err = [] }

-- A status of work is 0, and is that of an image of the program.
abbrev pub BuildIsShown : Type 0
BuildIsShown = (words : List (List ℕ)) (contents : Contents) (o : Outcome) → IsLine words commands.Build → Defined words contents o
    → IsOfWork o.status → IsBuiltImage words contents o

-- The file holds a checked program, and both answers are such as are shown of its image.
pub record AreBuilt (file : File) (a b : Answer) : Type 0 where
  pub p : Program
  pub checked : IsCheckedText file.text p
  pub one : ShowsImage p a
  pub other : ShowsImage p b

-- Of a file there is one answer, but for which image of a checked program it is.
abbrev pub OneBuildRefusal : Type 0
OneBuildRefusal = (file : File) (a b : Answer) → Builds (file ∷ []) a → Builds (file ∷ []) b → (a ≡ b) ⊎ AreBuilt file a b
