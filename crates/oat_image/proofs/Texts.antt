-- The pieces of an image text, joined.
use Rattle.std.proofs.Common.{◌≡◌, ℕ, List, ◌++◌, append_assoc}
use Rattle.std.specs.Prelude.{codes}
use Rattle.oat_lines.specs.Fields.{ended}
use Rattle.oat_image.specs.{declared.image.Image.Image, Spelling.section_text, Grammar.image_text, Grammar.has_elements, Grammar.version_line, Grammar.code_line, Grammar.data_line, Grammar.cell_line}
use Rattle.oat_image.specs.{Grammar.function_line, Grammar.block_line, Grammar.row_line, Printing.memory_text, Printing.map_text}

regroup : (t h c d x f b r e : List ℕ) → (((t ++ h) ++ (c ++ d ++ x)) ++ (f ++ b ++ r)) ++ e ≡ t ++ (h ++ c ++ d ++ x ++ f ++ b ++ r ++ e)
regroup t h c d x f b r e = simp append_assoc

pub joined : (image : Image) (text : List ℕ)
    → (((text ++ ended (version_line (has_elements image.map.rows))) ++ memory_text image) ++ map_text image) ++ ended (codes "end") ≡ text ++ image_text image
joined image text =
    regroup text (ended (version_line (has_elements image.map.rows)))
    (section_text (codes "code") code_line image.code) (section_text (codes "data") data_line image.words) (section_text (codes "cells") cell_line image.cells)
    (section_text (codes "functions") function_line image.map.functions) (section_text (codes "blocks") block_line image.map.blocks) (section_text (codes "rows") row_line image.map.rows)
    (ended (codes "end"))
