-- The room of `build`: where its work stops and goes on, that it has one answer but for the image, and what its status says.
use Rattle.std.proofs.Common.{ℕ, List, ◌∷◌, Result, []}
use Rattle.oat_page.proofs.Working.{StopsWith-more, Works-more}
use Rattle.oat_programs.specs.{Program, fails, passes, Page, Stop, refused, File, Programs.IsCheckedText, Programs.RefusesProgram, Programs.RefusesCode, StopsWith, Works}
use Rattle.oat_room_program.specs.Build.{Builds, Compiles}

-- ---- where the work stops, and where it goes on

pub stops_at_program : (program : File) (stop : Stop) → StopsWith (RefusesProgram program) stop → StopsWith (Builds (program ∷ [])) stop
stops_at_program program stop stops = StopsWith-more (RefusesProgram program) (Builds (program ∷ [])) stop (λ a refused. fails refused) stops

pub works_on_checked : {P : Type 0} (text : P → List ℕ) (program : File) (p : Program) (work : Result (Page P) Stop) → IsCheckedText program.text p
    → Works text (Compiles program p) work → Works text (Builds (program ∷ [])) work
works_on_checked text program p work checked works = Works-more text (Compiles program p) (Builds (program ∷ [])) work (λ a shown. passes p checked shown) works

pub stops_at_code : (file : File) (p : Program) (stop : Stop) → StopsWith (RefusesCode file p) stop → StopsWith (Compiles file p) stop
stops_at_code file p stop stops = StopsWith-more (RefusesCode file p) (Compiles file p) stop (λ a refused. fails refused) stops
