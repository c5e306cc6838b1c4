use Rattle.std.proofs.Common.{refl, subst, sym}
use Rattle.oat_case.specs.Limits.{IsWellFormedCase}
use Rattle.oat_make.proofs.Written.{case_formed}
use Rattle.oat_make.proofs.case.make_case.Goals as goal

pub returns-clause-value : goal.returns-clause-value
returns-clause-value c = rw (c.in_ok-session.ensures, c.from_vec.ensures, c.in_ok-inputs.ensures, c.from_vec-2.ensures, c.new.ensures.items) refl

pub returns-clause-well_formed : goal.returns-clause-well_formed
returns-clause-well_formed c = subst IsWellFormedCase (sym (returns-clause-value c)) (case_formed c.args.number)
