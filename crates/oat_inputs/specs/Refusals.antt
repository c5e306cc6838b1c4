-- Why an input is refused, and what is said of it: the first fault of a text, the first shape rule that an image breaks,
-- an operation that isn't the map's (docs/FORMATS.md).
use Rattle.std.specs.{Prelude.◌≡◌, Prelude.ℕ, Prelude.List, Prelude.◌++◌, Prelude.codes, Prelude.Err, Fmt.decimal}
use Rattle.oat_lines.specs.FaultText.{fault_text}
use Rattle.oat_image.specs.{declared.fault.ImageFaultKind.ImageFaultKind, FaultText.image_fault_word, ImageReading.image_at}
use Rattle.oat_shape.specs.{Map, Image, Fault, Shape.IsBroken, IsOperation, hexadecimal}
use Rattle.oat_case.specs.{declared.fault.CaseFaultKind.CaseFaultKind, FaultText.case_fault_word, Reading.case_of}
use Rattle.oat_page.specs.{Answer.Answer, Answer.refused, Answer.no_operation, Loads.File}
use Rattle.oat_inputs.specs.BlobText.{IsBlobText}

abbrev pub rule_reason : ℕ → ℕ → List ℕ
rule_reason number at = codes "S" ++ decimal number ++ codes " " ++ hexadecimal 16 at

-- An image text is refused for its first fault.
pub record RefusesImage (file : File) (a : Answer) : Type 0 where
  pub fault : Fault ImageFaultKind
  pub first : image_at file.text ≡ Err fault
  pub told : a ≡ refused file.name (fault_text image_fault_word fault)

-- An image is refused for the first shape rule that it breaks, at the lowest address.
pub record RefusesShape (file : File) (image : Image) (a : Answer) : Type 0 where
  pub number : ℕ
  pub at : ℕ
  pub broken : IsBroken image number at
  pub told : a ≡ refused file.name (rule_reason number at)

-- A case text is refused for its first fault.
pub record RefusesCase (file : File) (a : Answer) : Type 0 where
  pub fault : Fault CaseFaultKind
  pub first : case_of file.text ≡ Err fault
  pub told : a ≡ refused file.name (fault_text case_fault_word fault)

-- A case is refused for an operation that isn't the map's.
pub record RefusesOperation (file : File) (flow : Map) (op : ℕ) (a : Answer) : Type 0 where
  pub lacks : ¬ IsOperation flow op
  pub told : a ≡ no_operation file.name op

-- A blob's text is refused as no hexadecimal one.
pub record RefusesBlob (file : File) (a : Answer) : Type 0 where
  pub not_hex : (bytes : List ℕ) → ¬ IsBlobText file.text bytes
  pub told : a ≡ refused file.name (codes "Hex")
