-- The words of the faults of an image text (docs/FORMATS.md, "Texts").
use Rattle.std.specs.Prelude.{ℕ, List, codes}
use Rattle.oat_image.specs.{declared.fault.ImageFaultKind.ImageFaultKind, declared.fault.ImageFaultKind.TheVariants.Token, declared.fault.ImageFaultKind.TheVariants.Number}
use Rattle.oat_image.specs.{declared.fault.ImageFaultKind.TheVariants.Order, declared.fault.ImageFaultKind.TheVariants.Limit}

abbrev pub image_fault_word : ImageFaultKind → List ℕ
image_fault_word Token = codes "Token"
image_fault_word Number = codes "Number"
image_fault_word Order = codes "Order"
image_fault_word Limit = codes "Limit"
