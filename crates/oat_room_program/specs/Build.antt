-- `build PROG`: the first refusal of the program, or the text of an image of it, or how many words its code needs where these are too many (docs/FORMATS.md). Which image it is stays open.
use Rattle.std.specs.Prelude.{◌≡◌, List, ◌∷◌, []}
use Rattle.oat_programs.specs.{Image, image_text, Program, IsImageOf, First, Tests, Done, Answer, shows, File, Programs.IsCheckedText, Programs.RefusesProgram, Programs.CodeFits, Programs.RefusesCode}

-- The text of an image of the program is shown.
pub record ShowsImage (p : Program) (a : Answer) : Type 0 where
  pub image : Image
  pub of_program : IsImageOf p image
  pub is : a ≡ shows Done (image_text image) []

-- The program's code is too long, or the text of an image of it is shown.
abbrev pub Compiles : File → Program → Answer → Type 0
Compiles file p = Tests Answer (CodeFits p) (RefusesCode file p) (ShowsImage p)

abbrev pub Builds : List File → Answer → Type 0
Builds (program ∷ []) a = First Program Answer (IsCheckedText program.text) (RefusesProgram program) (Compiles program) a
Builds _ a = ⊥
