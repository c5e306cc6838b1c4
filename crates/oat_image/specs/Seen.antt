-- The place that the code holds in a text (docs/DEFINITIONS.md).
use Rattle.oat_image.specs.{declared.text.Text.Text, Reading.Remainder}

abbrev pub seen : Text → Remainder
seen text = record { rest = text.rest.now; line = text.line }
