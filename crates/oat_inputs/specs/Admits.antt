-- What a command over an image and a case looks at before its own work: the image's text and shape, the case's text and
-- operation (docs/FORMATS.md).
use Rattle.oat_image.specs.Grammar.{IsImageText}
use Rattle.oat_shape.specs.{Image, Shape.IsShaped, IsOperation, Tests}
use Rattle.oat_case.specs.{declared.case.Case.Case, Grammar.IsCaseText}
use Rattle.oat_page.specs.{First, Answer.Answer, Loads.File}
use Rattle.oat_inputs.specs.Refusals.{RefusesImage, RefusesShape, RefusesCase, RefusesOperation}

-- The first that is refused decides, and else the rest, over the image and the case.
abbrev pub Admits : (image case : File) → (Image → Case → Answer → Type 0) → Answer → Type 0
Admits image case Rest =
    First Image Answer (IsImageText image.text) (RefusesImage image) (λ i.
    Tests Answer (IsShaped i) (RefusesShape image i) (
    First Case Answer (IsCaseText case.text) (RefusesCase case) (λ c.
    Tests Answer (IsOperation i.map c.session.op) (RefusesOperation case i.map c.session.op) (Rest i c))))

-- The image or the case is refused.
abbrev pub Rejects : (image case : File) → Answer → Type 0
Rejects image case = Admits image case (λ i c a. ⊥)

-- The texts are those of an image that has the shape, and of a case for one of its operations.
pub record AreAdmitted (image case : File) (i : Image) (c : Case) : Type 0 where
  pub image_read : IsImageText image.text i
  pub shaped : IsShaped i
  pub case_read : IsCaseText case.text c
  pub begun : IsOperation i.map c.session.op
