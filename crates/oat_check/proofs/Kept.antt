-- A checked program, as a source, keeps its operations and cells.
use Rattle.std.proofs.Common.{List, ap, ℤ, refl}
use Rattle.oat_events.specs.Source.{SourceKeeps}
use Rattle.oat_ir.specs.declared.program.Program.{Program}
use Rattle.oat_check.specs.{Active.cells_at, Active.first_cells, Active.operation_active, Keeping.IsConsistent, Rules.IsChecked, Runs.source_of}
use Rattle.oat_check.proofs.{Keeping.ended_step, Keeping.runs_start_consistent, Lines.step_lawful}

abbrev pub keeps : (p : Program) → IsChecked p → (inputs : List ℤ) → SourceKeeps (source_of p inputs) (first_cells p)
keeps p ok inputs = record {
  Good = IsConsistent p;
  good = runs_start_consistent p ok inputs;
  goes = λ s g. (step_lawful p ok s g).good;
  stays = λ s why is. ap (λ n. n.state) (ended_step p s why is);
  quiet = λ s why is. ap (λ n. n.shown) (ended_step p s why is);
  active = operation_active p;
  cells = cells_at p;
  first_active = refl;
  first_cells = refl;
  passes = λ s g. (step_lawful p ok s g).passes;
}
