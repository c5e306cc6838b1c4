-- What reading a case text and standing for a case have to do with each other, for the crates above.
use Rattle.std.proofs.Common.{◌≡◌, ℕ, List, Ok}
use Rattle.oat_case.specs.{declared.case.Case.Case, Grammar.IsCaseText, Reading.case_of}
use Rattle.oat_case.proofs.Law as law

pub stands : (text : List ℕ) (case : Case) → case_of text ≡ Ok case → IsCaseText text case
stands = law.stands

pub is_read : (text : List ℕ) (case : Case) → IsCaseText text case → case_of text ≡ Ok case
is_read = law.is_read
