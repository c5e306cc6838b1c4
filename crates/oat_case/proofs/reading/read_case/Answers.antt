use Rattle.std.proofs.Common.{subst}
use Rattle.oat_lines.specs.Faults.{Gives}
use Rattle.oat_case.proofs.Law.{is_found, is_read, is_well_formed}
use Rattle.oat_case.proofs.reading.read_case.Goals as goal

pub returns-clause-found : goal.returns-clause-found
returns-clause-found c = is_found c.args.text.now c.case_in.result c.case_in.ensures

pub returns-clause-only : goal.returns-clause-only
returns-clause-only c = λ k stands. subst (λ r. Gives (λ read. read) c.case_in.result r) (is_read c.args.text.now k stands) c.case_in.ensures

pub returns-clause-well_formed : goal.returns-clause-well_formed
returns-clause-well_formed c = is_well_formed c.args.text.now c.case_in.result c.case_in.ensures
