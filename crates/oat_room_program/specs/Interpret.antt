-- `run PROG CASE`: the first refusal of an input, or the lines of the program's run on the case's inputs, and then those
-- of the first call of the case's operation where that completed (docs/FORMATS.md).
use Rattle.std.specs.{Prelude.◌≡◌, Prelude.ℕ, Prelude.List, Prelude.[], Prelude.◌∷◌, Prelude.◌++◌, Prelude.if◌then◌else◌, List.flat_map}
use Rattle.oat_meaning.specs.SourceRun.{SourceRun, whole_run, outputs_so_far, end_so_far, completed_so_far, path_so_far}
use Rattle.oat_programs.specs.{Program, SourceEdge, SourceEnd, Case, DeviceEnd, OutOfSteps, First, Done, line, Answer, shows, File, Programs.IsCheckedText, Programs.RefusesProgram, Programs.IsCaseOf}
use Rattle.oat_programs.specs.{Programs.RefusesCaseOf}
use Rattle.oat_shown.specs.{Halted, Trap, source_edge_line, RunText.run_text}
use Rattle.oat_ir.specs.declared.source.SourceEnd.TheVariants as source

-- the end of a run of a program, among those that run lines tell
abbrev pub end_told : SourceEnd → DeviceEnd
end_told source.Halted = Halted
end_told (source.Trap kind) = Trap kind
end_told source.OutOfSteps = OutOfSteps

-- the path of the first call of the operation, where it completed
abbrev pub path_told : SourceRun → List SourceEdge
path_told run = if completed_so_far run 0 then path_so_far run 0 else []

abbrev pub source_path_text : Program → List SourceEdge → List ℕ
source_path_text p path = flat_map (λ edge. line (source_edge_line p edge)) path

abbrev pub source_run_text : SourceRun → List ℕ
source_run_text run = run_text (outputs_so_far run) (end_told (end_so_far run))

abbrev pub source_text : SourceRun → List ℕ
source_text run = source_run_text run ++ source_path_text run.program (path_told run)

-- the run of a program on a case's inputs; the case's writes have no effect
abbrev pub case_run : Program → Case → SourceRun
case_run p c = whole_run p c.inputs c.session.op c.steps

-- The run is shown.
abbrev pub ShowsSource : Program → Case → Answer → Type 0
ShowsSource p c a = a ≡ shows Done (source_text (case_run p c)) []

abbrev pub Interprets : List File → Answer → Type 0
Interprets (program ∷ case ∷ []) a =
    First Program Answer (IsCheckedText program.text) (RefusesProgram program) (λ p.
    First Case Answer (IsCaseOf p case.text) (RefusesCaseOf p case) (λ c. ShowsSource p c)) a
Interprets _ a = ⊥
