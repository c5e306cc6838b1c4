-- The image or the first fault of a whole text (docs/FORMATS.md).
use Rattle.std.specs.Prelude.{ℕ, Bool, true, false, not, ◌||◌, List, length, codes, Result, Ok, Err, ◌==◌, bytes_eq, if◌then◌else◌}
use Rattle.oat_lines.specs.{declared.fault.Fault.Fault, Faults.at, Reading.◌>>=◌, Reading.guard}
use Rattle.oat_map.specs.{declared.map.Map.Map, declared.row.Row.Row}
use Rattle.oat_image.specs.{declared.image.Image.Image, declared.image.InitWord.InitWord, declared.fault.ImageFaultKind.ImageFaultKind, declared.fault.ImageFaultKind.TheVariants.Token}
use Rattle.oat_image.specs.{Grammar.version_line, Grammar.has_elements, Reading.Remainder, Reading.line_at, Reading.section_at, Reading.fixed_at, LineReading.block_of, LineReading.cell_key}
use Rattle.oat_image.specs.{LineReading.cell_of, LineReading.code_of, LineReading.data_of, LineReading.entry_key, LineReading.function_of, LineReading.index_key, LineReading.no_key}
use Rattle.oat_image.specs.{LineReading.start_key, RowReading.row_of}

-- whether the first line is that of the second version
abbrev pub version_of : List ℕ → Result Bool ImageFaultKind
version_of line =
    if bytes_eq line (version_line false) then Ok false else
    if bytes_eq line (version_line true) then Ok true else Err Token

unfoldable pub version_at : Remainder → Result (Bool × Remainder) (Fault ImageFaultKind)
version_at t = do
  line ← line_at t
  second ← at t.line (version_of line.0)
  Ok (second, line.1)

-- code, data and cells
unfoldable pub memory_at : Remainder → Result (List ℕ × List InitWord × List ℕ × Remainder) (Fault ImageFaultKind)
memory_at t = do
  code ← section_at (codes "code") 1 131072 code_of no_key t
  words ← section_at (codes "data") 0 65536 data_of index_key code.1
  cells ← section_at (codes "cells") 0 65536 cell_of cell_key words.1
  Ok (code.0, words.0, cells.0, cells.1)

-- functions, blocks and rows
unfoldable pub map_at : Bool → Remainder → Result (Map × Remainder) (Fault ImageFaultKind)
map_at second t = do
  functions ← section_at (codes "functions") 0 131072 function_of entry_key t
  blocks ← section_at (codes "blocks") 0 131072 block_of start_key functions.1
  rows ← section_at (codes "rows") 0 131072 (row_of second) no_key blocks.1
  Ok (record { functions = functions.0; blocks = blocks.0; rows = rows.0 }, rows.1)

-- the last line, which is none in the second version without a row of an element; nothing stands behind it
unfoldable pub ending_at : Bool → List Row → Remainder → Result (Unit {0}) (Fault ImageFaultKind)
ending_at second rows t = do
  last ← fixed_at (codes "end") t
  due ← at t.line (guard (not second || has_elements rows) Token)
  at last.line (guard (length last.rest == 0) Token)

unfoldable pub parts_at : Bool → Remainder → Result Image (Fault ImageFaultKind)
parts_at second t = do
  memory ← memory_at t
  flow ← map_at second memory.3
  ended ← ending_at second flow.0.rows flow.1
  Ok (record { code = memory.0; words = memory.1; cells = memory.2; map = flow.0 })

-- the image of a whole text, or its first fault
unfoldable pub image_at : List ℕ → Result Image (Fault ImageFaultKind)
image_at text = do
  version ← version_at (record { rest = text; line = 1 })
  parts_at version.0 version.1
