-- The two halves of a well-formed image, which are tested one after the other (docs/FORMATS.md). The keys are those of
-- reading.
use Rattle.std.specs.Prelude.{ℕ, List, Option, None}
use Rattle.oat_image.specs.{declared.image.Image.Image, Grammar.IsWord, Grammar.IsInitWord, Grammar.IsIndex, Grammar.IsFunction, Grammar.IsBlock, Grammar.IsRow, Grammar.IsSection, LineReading.no_key}
use Rattle.oat_image.specs.{LineReading.index_key, LineReading.cell_key, LineReading.entry_key, LineReading.start_key, Rising.Rising}

-- so many items, each in its ranges and above the one before
abbrev pub IsInOrder : {X : Type 0} → (X → Type 0) → (X → Option ℕ) → ℕ → ℕ → List X → Type 0
IsInOrder Fits key least most items = IsSection Fits least most items × Rising key None items

-- code, data and cells
abbrev pub IsMemory : Image → Type 0
IsMemory image =
    IsInOrder IsWord no_key 1 131072 image.code × IsInOrder IsInitWord index_key 0 65536 image.words
    × IsInOrder IsIndex cell_key 0 65536 image.cells

-- functions, blocks and rows
abbrev pub IsFlow : Image → Type 0
IsFlow image =
    IsInOrder IsFunction entry_key 0 131072 image.map.functions × IsInOrder IsBlock start_key 0 131072 image.map.blocks
    × IsInOrder IsRow no_key 0 131072 image.map.rows
