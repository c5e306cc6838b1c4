-- An image is well formed where its two halves are in order.
use Rattle.std.proofs.Common.{◌↔◌, None}
use Rattle.oat_image.specs.{declared.image.Image.Image, Grammar.IsWellFormedImage, WellFormed.IsMemory, WellFormed.IsFlow}
use Rattle.oat_image.proofs.{Sections.rising_unkeyed, Sections.strict_from_rising, Sections.rising_from_strict, Images.cells_same, Images.same_cells}

joined : (image : Image) → IsMemory image → IsFlow image → IsWellFormedImage image
joined image memory flow = record {
  code = memory.0.0;
  words = memory.1.0;
  words_rise = strict_from_rising (λ w. w.index) image.words memory.1.1;
  cells = memory.2.0;
  cells_rise = same_cells image.cells (strict_from_rising (λ c. c) image.cells memory.2.1);
  functions = flow.0.0;
  functions_rise = strict_from_rising (λ f. f.entry) image.map.functions flow.0.1;
  blocks = flow.1.0;
  blocks_rise = strict_from_rising (λ b. b.start) image.map.blocks flow.1.1;
  rows = flow.2.0;
}

memory_of : (image : Image) → IsWellFormedImage image → IsMemory image
memory_of image fits = (
  (fits.code, rising_unkeyed None image.code),
  (fits.words, rising_from_strict (λ w. w.index) image.words fits.words_rise),
  (fits.cells, rising_from_strict (λ c. c) image.cells (cells_same image.cells fits.cells_rise)),
)

flow_of : (image : Image) → IsWellFormedImage image → IsFlow image
flow_of image fits = (
  (fits.functions, rising_from_strict (λ f. f.entry) image.map.functions fits.functions_rise),
  (fits.blocks, rising_from_strict (λ b. b.start) image.map.blocks fits.blocks_rise),
  (fits.rows, rising_unkeyed None image.map.rows),
)

pub halves : (image : Image) → (IsMemory image × IsFlow image) ↔ IsWellFormedImage image
halves image = (λ h. joined image h.0 h.1, λ fits. (memory_of image fits, flow_of image fits))
