use Rattle.std.proofs.Common.{◌∙◌, ap}
use Rattle.hex.specs.Hex.{decode_of}
use Rattle.oat_inputs.specs.BlobText.{before_end}
use Rattle.oat_inputs.proofs.blob_text.blob_digits.Goals as goal

pub returns-else-are_digits : goal.returns-else-are_digits
returns-else-are_digits c = λ bytes is.
    c.are_digits.ensures.no c.if-are_digits.false (bytes, ap decode_of (c.digits_only-digits.ensures ∙ ap before_end c.digits_on.ensures) ∙ is)
