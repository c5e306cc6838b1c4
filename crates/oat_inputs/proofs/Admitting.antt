-- What is refused before a command's own work, what is admitted, and what follows for all that comes after.
use Rattle.oat_first.proofs.FirstLaws.{First-one}
use Rattle.oat_image.specs.Grammar.{IsImageText}
use Rattle.oat_shape.specs.{Image, Shape.IsShaped, IsOperation, fails, passes, IsOne}
use Rattle.oat_case.specs.{declared.case.Case.Case, Grammar.IsCaseText}
use Rattle.oat_page.specs.{declared.page.Stop.Stop, Answer.Answer, Answer.as_outcome, Loads.File, Works.StopsWith}
use Rattle.oat_page.proofs.Working.{StopsWith-more, IsDone, refused_is_not_done}
use Rattle.oat_inputs.specs.{Refusals.RefusesImage, Refusals.RefusesShape, Refusals.RefusesCase, Refusals.RefusesOperation, Admits.Admits, Admits.Rejects, Admits.AreAdmitted}
use Rattle.oat_inputs.proofs.Refusing.{image_is_decisive, shape_is_decisive, case_is_decisive, operation_is_decisive}

-- ---- where the stages stop

pub rejects_image : (image case : File) (stop : Stop) → StopsWith (RefusesImage image) stop → StopsWith (Rejects image case) stop
rejects_image image case stop stops = StopsWith-more (RefusesImage image) (Rejects image case) stop (λ a refused. fails refused) stops

pub rejects_shape : (image case : File) (i : Image) (stop : Stop) → IsImageText image.text i
    → StopsWith (RefusesShape image i) stop → StopsWith (Rejects image case) stop
rejects_shape image case i stop read stops =
    StopsWith-more (RefusesShape image i) (Rejects image case) stop (λ a refused. passes i read (fails refused)) stops

pub rejects_case : (image case : File) (i : Image) (stop : Stop) → IsImageText image.text i → IsShaped i
    → StopsWith (RefusesCase case) stop → StopsWith (Rejects image case) stop
rejects_case image case i stop read shaped stops =
    StopsWith-more (RefusesCase case) (Rejects image case) stop (λ a refused. passes i read (passes tt shaped (fails refused))) stops

pub rejects_operation : (image case : File) (i : Image) (c : Case) (stop : Stop) → IsImageText image.text i → IsShaped i
    → IsCaseText case.text c → StopsWith (RefusesOperation case i.map c.session.op) stop → StopsWith (Rejects image case) stop
rejects_operation image case i c stop read shaped given stops =
    StopsWith-more (RefusesOperation case i.map c.session.op) (Rejects image case) stop
    (λ a refused. passes i read (passes tt shaped (passes c given (fails refused)))) stops

-- ---- what comes after

pub Admits-rejected : (image case : File) (Rest : Image → Case → Answer → Type 0) (a : Answer) → Rejects image case a → Admits image case Rest a
Admits-rejected image case Rest a (fails refused) = fails refused
Admits-rejected image case Rest a (passes i read (fails refused)) = passes i read (fails refused)
Admits-rejected image case Rest a (passes i read (passes u shaped (fails refused))) = passes i read (passes u shaped (fails refused))
Admits-rejected image case Rest a (passes i read (passes u shaped (passes c given (fails refused)))) =
    passes i read (passes u shaped (passes c given (fails refused)))
Admits-rejected image case Rest a (passes i read (passes u shaped (passes c given (passes v begun none)))) = absurd none

pub Admits-admitted : (image case : File) (Rest : Image → Case → Answer → Type 0) (a : Answer) (i : Image) (c : Case)
    → AreAdmitted image case i c → Rest i c a → Admits image case Rest a
Admits-admitted image case Rest a i c admitted after =
    passes i admitted.image_read (passes tt admitted.shaped (passes c admitted.case_read (passes tt admitted.begun after)))

pub Admits-one : (image case : File) (Rest : Image → Case → Answer → Type 0)
    → ((i : Image) (c : Case) → AreAdmitted image case i c → IsOne Answer (Rest i c)) → IsOne Answer (Admits image case Rest)
Admits-one image case Rest one =
    First-one Image Answer (IsImageText image.text) (RefusesImage image) _ (image_is_decisive image) (λ i read.
    First-one (Unit {0}) Answer (λ u. IsShaped i) (RefusesShape image i) _ (shape_is_decisive image i) (λ u shaped.
    First-one Case Answer (IsCaseText case.text) (RefusesCase case) _ (case_is_decisive case) (λ c given.
    First-one (Unit {0}) Answer (λ u. IsOperation i.map c.session.op) (RefusesOperation case i.map c.session.op) (λ u. Rest i c)
    (operation_is_decisive case i.map c.session.op) (λ v begun.
    one i c (record { image_read = read; shaped = shaped; case_read = given; begun = begun })))))

-- ---- what was done was admitted

pub record Through (image case : File) (Rest : Image → Case → Answer → Type 0) (a : Answer) : Type 0 where
  pub i : Image
  pub c : Case
  pub admitted : AreAdmitted image case i c
  pub after : Rest i c a

pub Admits-through : (image case : File) (Rest : Image → Case → Answer → Type 0) (a : Answer) → IsDone (as_outcome a).status
    → Admits image case Rest a → Through image case Rest a
Admits-through image case Rest a is_done (fails refused) = absurd (refused_is_not_done a _ _ refused.told is_done)
Admits-through image case Rest a is_done (passes i read (fails refused)) = absurd (refused_is_not_done a _ _ refused.told is_done)
Admits-through image case Rest a is_done (passes i read (passes u shaped (fails refused))) =
    absurd (refused_is_not_done a _ _ refused.told is_done)
Admits-through image case Rest a is_done (passes i read (passes u shaped (passes c given (fails refused)))) =
    absurd (refused_is_not_done a _ _ refused.told is_done)
Admits-through image case Rest a is_done (passes i read (passes u shaped (passes c given (passes v begun after)))) = record {
  i = i;
  c = c;
  admitted = record { image_read = read; shaped = shaped; case_read = given; begun = begun };
  after = after;
}
