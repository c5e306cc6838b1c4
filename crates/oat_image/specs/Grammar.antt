-- The image grammar: which images have a text, and the one text of each. Addresses and words of code are
-- eight upper-case hexadecimal digits, values of data sixteen, and all other numbers are decimal.
-- docs/FORMATS.md shows whole texts.
use Rattle.std.specs.{Prelude.◌≡◌, Prelude.ℕ, Prelude.◌^◌, Prelude.◌<◌, Prelude.◌≤◌, Prelude.Bool, Prelude.true, Prelude.false, Prelude.List, Prelude.[], Prelude.◌∷◌, Prelude.◌++◌, Prelude.length}
use Rattle.std.specs.{Prelude.map, Prelude.codes, Prelude.decimal, List.AllByRecursion, List.list_any, List.Sorted.IsStrictlyIncreasing}
use Rattle.oat_lines.specs.{Fields.spaced, Fields.ended, Hexadecimal.hexadecimal}
use Rattle.oat_map.specs.{Name.IsName, declared.map.Function.Function, declared.map.Block.Block, declared.row.Row.Row, declared.row.Row.TheVariants.Jump, declared.row.Row.TheVariants.Branch}
use Rattle.oat_map.specs.{declared.row.Row.TheVariants.Call, declared.row.Row.TheVariants.ICall, declared.row.Row.TheVariants.Ret, declared.row.Row.TheVariants.Begin, declared.row.Row.TheVariants.End}
use Rattle.oat_map.specs.{declared.row.Row.TheVariants.UseCell, declared.row.Row.TheVariants.DefCell, declared.row.Row.TheVariants.UseAt, declared.row.Row.TheVariants.DefAt}
use Rattle.oat_map.specs.{declared.row.Row.TheVariants.Check}
use Rattle.oat_image.specs.{declared.image.Image.Image, declared.image.InitWord.InitWord, Spelling.section_text}

-- ---- the lines of the sections

abbrev pub code_line : ℕ → List ℕ
code_line word = hexadecimal 8 word

abbrev pub data_line : InitWord → List ℕ
data_line word = spaced (decimal word.index ∷ hexadecimal 16 word.value ∷ [])

abbrev pub cell_line : ℕ → List ℕ
cell_line index = decimal index

abbrev pub flag_text : Bool → List ℕ
flag_text true = codes "1"
flag_text false = codes "0"

abbrev pub function_line : Function → List ℕ
function_line f = spaced (hexadecimal 8 f.entry ∷ f.name ∷ decimal f.params ∷ flag_text f.referenced ∷ [])

abbrev pub block_line : Block → List ℕ
block_line b = spaced (hexadecimal 8 b.start ∷ b.label ∷ [])

abbrev pub row_line : Row → List ℕ
row_line (Jump at to) = spaced (codes "jump" ∷ hexadecimal 8 at ∷ hexadecimal 8 to ∷ [])
row_line (Branch at taken other) = spaced (codes "branch" ∷ hexadecimal 8 at ∷ hexadecimal 8 taken ∷ hexadecimal 8 other ∷ [])
row_line (Call at to) = spaced (codes "call" ∷ hexadecimal 8 at ∷ hexadecimal 8 to ∷ [])
row_line (ICall at params) = spaced (codes "icall" ∷ hexadecimal 8 at ∷ decimal params ∷ [])
row_line (Ret at) = spaced (codes "ret" ∷ hexadecimal 8 at ∷ [])
row_line (Begin at op) = spaced (codes "begin" ∷ hexadecimal 8 at ∷ decimal op ∷ [])
row_line (End at op) = spaced (codes "end" ∷ hexadecimal 8 at ∷ decimal op ∷ [])
row_line (UseCell at cell) = spaced (codes "use" ∷ hexadecimal 8 at ∷ decimal cell ∷ [])
row_line (DefCell at cell) = spaced (codes "def" ∷ hexadecimal 8 at ∷ decimal cell ∷ [])
row_line (UseAt at cell len) = spaced (codes "useat" ∷ hexadecimal 8 at ∷ decimal cell ∷ decimal len ∷ [])
row_line (DefAt at cell len) = spaced (codes "defat" ∷ hexadecimal 8 at ∷ decimal cell ∷ decimal len ∷ [])
row_line (Check at) = spaced (codes "check" ∷ hexadecimal 8 at ∷ [])

-- ---- the text

-- whether a row uses or defines an element of a critical array
abbrev pub is_of_element : Row → Bool
is_of_element (UseAt at cell len) = true
is_of_element (DefAt at cell len) = true
is_of_element _ = false

abbrev pub has_elements : List Row → Bool
has_elements rows = list_any is_of_element rows

-- the first line of the second version, and that of the first
abbrev pub version_line : Bool → List ℕ
version_line true = codes "oat-image 2"
version_line false = codes "oat-image 1"

-- a text is of the second version where its image has a row of an element, and else of the first
abbrev pub image_text : Image → List ℕ
image_text image =
    ended (version_line (has_elements image.map.rows))
    ++ section_text (codes "code") code_line image.code
    ++ section_text (codes "data") data_line image.words
    ++ section_text (codes "cells") cell_line image.cells
    ++ section_text (codes "functions") function_line image.map.functions
    ++ section_text (codes "blocks") block_line image.map.blocks
    ++ section_text (codes "rows") row_line image.map.rows
    ++ ended (codes "end")

-- ---- what has a text

abbrev pub IsAddress : ℕ → Type 0
IsAddress address = address < 2 ^ 32

abbrev pub IsWord : ℕ → Type 0
IsWord word = word < 2 ^ 32

-- the number of a word of global data
abbrev pub IsIndex : ℕ → Type 0
IsIndex index = index ≤ 65535

-- the number of elements of a critical array
abbrev pub IsLength : ℕ → Type 0
IsLength len = (1 ≤ len) × (len ≤ 4096)

abbrev pub IsOperationNumber : ℕ → Type 0
IsOperationNumber op = (1 ≤ op) × (op ≤ 65535)

pub record IsInitWord (word : InitWord) : Type 0 where
  pub index : IsIndex word.index
  pub set : 1 ≤ word.value
  pub value : word.value < 2 ^ 64

pub record IsFunction (f : Function) : Type 0 where
  pub entry : IsAddress f.entry
  pub name : IsName f.name
  pub params : f.params ≤ 4

pub record IsBlock (b : Block) : Type 0 where
  pub start : IsAddress b.start
  pub label : IsName b.label

abbrev pub IsRow : Row → Type 0
IsRow (Jump at to) = IsAddress at × IsAddress to
IsRow (Branch at taken other) = IsAddress at × IsAddress taken × IsAddress other
IsRow (Call at to) = IsAddress at × IsAddress to
IsRow (ICall at params) = IsAddress at × (params ≤ 4)
IsRow (Ret at) = IsAddress at
IsRow (Begin at op) = IsAddress at × IsOperationNumber op
IsRow (End at op) = IsAddress at × IsOperationNumber op
IsRow (UseCell at cell) = IsAddress at × IsIndex cell
IsRow (DefCell at cell) = IsAddress at × IsIndex cell
IsRow (UseAt at cell len) = IsAddress at × IsIndex cell × IsLength len
IsRow (DefAt at cell len) = IsAddress at × IsIndex cell × IsLength len
IsRow (Check at) = IsAddress at

-- so many items, each in its ranges
pub record IsSection {X : Type 0} (Fits : X → Type 0) (least most : ℕ) (items : List X) : Type 0 where
  pub each : AllByRecursion Fits items
  pub enough : least ≤ length items
  pub limited : length items ≤ most

-- the ranges and the order of an image
pub record IsWellFormedImage (image : Image) : Type 0 where
  pub code : IsSection IsWord 1 131072 image.code
  pub words : IsSection IsInitWord 0 65536 image.words
  pub words_rise : IsStrictlyIncreasing (map (λ w. w.index) image.words)
  pub cells : IsSection IsIndex 0 65536 image.cells
  pub cells_rise : IsStrictlyIncreasing image.cells
  pub functions : IsSection IsFunction 0 131072 image.map.functions
  pub functions_rise : IsStrictlyIncreasing (map (λ f. f.entry) image.map.functions)
  pub blocks : IsSection IsBlock 0 131072 image.map.blocks
  pub blocks_rise : IsStrictlyIncreasing (map (λ b. b.start) image.map.blocks)
  pub rows : IsSection IsRow 0 131072 image.map.rows

-- the image grammar: the text is the one of this image
pub record IsImageText (text : List ℕ) (image : Image) : Type 0 where
  pub well_formed : IsWellFormedImage image
  pub spelled : text ≡ image_text image
