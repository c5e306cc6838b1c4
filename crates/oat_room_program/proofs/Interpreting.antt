-- The room of `run`: where its work stops and goes on, that it has one answer, and what its status says.
use Rattle.std.proofs.Common.{◌∷◌, []}
use Rattle.oat_page.proofs.Working.{StopsWith-more}
use Rattle.oat_programs.specs.{Program, Case, fails, passes, Stop, Answer, File, Programs.IsCheckedText, Programs.RefusesProgram, Programs.IsCaseOf, Programs.RefusesCaseOf, StopsWith}
use Rattle.oat_room_program.specs.Interpret.{Interprets, ShowsSource}

-- ---- where the work stops, and where it goes on to the run

pub stops_at_program : (program case : File) (stop : Stop) → StopsWith (RefusesProgram program) stop → StopsWith (Interprets (program ∷ case ∷ [])) stop
stops_at_program program case stop stops =
    StopsWith-more (RefusesProgram program) (Interprets (program ∷ case ∷ [])) stop (λ a refused. fails refused) stops

pub stops_at_case : (program case : File) (p : Program) (stop : Stop) → IsCheckedText program.text p → StopsWith (RefusesCaseOf p case) stop
    → StopsWith (Interprets (program ∷ case ∷ [])) stop
stops_at_case program case p stop checked stops =
    StopsWith-more (RefusesCaseOf p case) (Interprets (program ∷ case ∷ [])) stop (λ a refused. passes p checked (fails refused)) stops

pub interprets_taken : (program case : File) (p : Program) (c : Case) (a : Answer) → IsCheckedText program.text p → IsCaseOf p case.text c
    → ShowsSource p c a → Interprets (program ∷ case ∷ []) a
interprets_taken program case p c a checked given shown = passes p checked (passes c given shown)
