-- A text that is handed over piece by piece: to a hasher, or to a vector that grows (docs/FORMATS.md). These are words
-- of this project's own.
use Rattle.std.specs.Prelude.{ℕ, List, ◌++◌, codes}
use Rattle.oat_image.specs.{declared.image.Image.Image, Spelling.section_text, Grammar.code_line, Grammar.data_line, Grammar.cell_line, Grammar.function_line, Grammar.block_line, Grammar.row_line}

-- what held a text, holds it with the piece behind it
abbrev pub Takes : {R : Type 0} → (R → List ℕ → Type 0) → List ℕ → R → R → Type 0
Takes holds piece before after = (text : List ℕ) → holds before text → holds after (text ++ piece)

-- the sections of code, data and cells
abbrev pub memory_text : Image → List ℕ
memory_text image =
    section_text (codes "code") code_line image.code
    ++ section_text (codes "data") data_line image.words
    ++ section_text (codes "cells") cell_line image.cells

-- the sections of functions, blocks and rows
abbrev pub map_text : Image → List ℕ
map_text image =
    section_text (codes "functions") function_line image.map.functions
    ++ section_text (codes "blocks") block_line image.map.blocks
    ++ section_text (codes "rows") row_line image.map.rows
