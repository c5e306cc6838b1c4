-- The words for what can be wrong with a line of a program text (docs/FORMATS.md, "Program text").
use Rattle.std.specs.Prelude.{ℕ, List, codes}
use Rattle.oat_text.specs.{declared.fault.TextFaultKind.TextFaultKind, declared.fault.TextFaultKind.TheVariants.Token, declared.fault.TextFaultKind.TheVariants.Expected}
use Rattle.oat_text.specs.{declared.fault.TextFaultKind.TheVariants.Number, declared.fault.TextFaultKind.TheVariants.Duplicate, declared.fault.TextFaultKind.TheVariants.Unknown}

abbrev pub kind_text : TextFaultKind → List ℕ
kind_text Token = codes "Token"
kind_text Expected = codes "Expected"
kind_text Number = codes "Number"
kind_text Duplicate = codes "Duplicate"
kind_text Unknown = codes "Unknown"
