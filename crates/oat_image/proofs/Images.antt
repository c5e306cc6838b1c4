-- An image that is read is the one of the text, and the image of a text is read.
use Rattle.std.proofs.Common.{◌≡◌, ℕ, ◌<◌, Bool, true, not, ◌||◌, List, [], ◌∷◌, ◌++◌, length, None, Result, Ok, Err, refl, sym, ap, subst, ◌∙◌, append_assoc, arith}
use Rattle.std.specs.{Prelude.codes, Prelude.IfOk, Prelude.map, Prelude.◌==◌, List.list_all, List.Sorted.IsStrictlyIncreasing}
use Rattle.std.proofs.lemmas.{Bool.eqb-true, List.append-nil, List.nil_from_length}
use Rattle.oat_lines.specs.{declared.fault.Fault.Fault, Faults.at, Faults.Gives, Reading.◌>>=◌, Reading.guard, Fields.ended, Fields.is_visible, Fields.IsField}
use Rattle.oat_lines.proofs.Steps.{bind_ok, ok_is, at_ok, guard_ok}
use Rattle.oat_map.specs.{declared.map.Map.Map, declared.map.Function.Function, declared.map.Block.Block, declared.row.Row.Row}
use Rattle.oat_image.specs.{declared.image.Image.Image, declared.image.InitWord.InitWord, declared.fault.ImageFaultKind.ImageFaultKind, declared.fault.ImageFaultKind.TheVariants.Token}
use Rattle.oat_image.specs.{Spelling.section_text, Grammar.has_elements, Grammar.version_line, Grammar.code_line, Grammar.data_line, Grammar.cell_line, Grammar.function_line, Grammar.block_line}
use Rattle.oat_image.specs.{Grammar.row_line, Grammar.image_text, Grammar.IsWord, Grammar.IsInitWord, Grammar.IsIndex, Grammar.IsFunction, Grammar.IsBlock, Grammar.IsSection}
use Rattle.oat_image.specs.{Grammar.IsWellFormedImage, Grammar.IsImageText, Reading.Remainder, Reading.section_at, Reading.fixed_at, LineReading.code_of, LineReading.data_of, LineReading.cell_of}
use Rattle.oat_image.specs.{LineReading.function_of, LineReading.block_of, LineReading.no_key, LineReading.index_key, LineReading.cell_key, LineReading.entry_key, LineReading.start_key}
use Rattle.oat_image.specs.{RowReading.row_of, ImageReading.version_at, ImageReading.memory_at, ImageReading.map_at, ImageReading.ending_at, ImageReading.parts_at, ImageReading.image_at}
use Rattle.oat_image.proofs.{Sections.section_takes, Sections.section_again, Sections.fixed_takes, Sections.fixed_again, Sections.rising_unkeyed, Sections.strict_from_rising}
use Rattle.oat_image.proofs.{Sections.rising_from_strict, Forms.code_form, Forms.data_form, Forms.cell_form, Forms.function_form, Forms.block_form, Versions.IsRowIn, Versions.are_rows}
use Rattle.oat_image.proofs.{Versions.version_is, Versions.rows_in, Versions.is_due, Versions.version_takes, Versions.version_again, RowForms.row_form}

map_id : (xs : List ℕ) → map (λ x. x) xs ≡ xs
map_id [] = refl
map_id (x ∷ xs) = ap (λ (t : List ℕ). x ∷ t) (map_id xs)

abbrev code_text : List ℕ → List ℕ
code_text code = section_text (codes "code") code_line code

abbrev data_text : List InitWord → List ℕ
data_text words = section_text (codes "data") data_line words

abbrev cells_text : List ℕ → List ℕ
cells_text cells = section_text (codes "cells") cell_line cells

abbrev functions_text : List Function → List ℕ
functions_text functions = section_text (codes "functions") function_line functions

abbrev blocks_text : List Block → List ℕ
blocks_text blocks = section_text (codes "blocks") block_line blocks

abbrev rows_text : List Row → List ℕ
rows_text rows = section_text (codes "rows") row_line rows

-- cells are their own keys
pub cells_same : (cells : List ℕ) → IsStrictlyIncreasing cells → IsStrictlyIncreasing (map (λ c. c) cells)
cells_same cells h = subst (λ (xs : List ℕ). IsStrictlyIncreasing xs) (sym (map_id cells)) h

pub same_cells : (cells : List ℕ) → IsStrictlyIncreasing (map (λ c. c) cells) → IsStrictlyIncreasing cells
same_cells cells h = subst (λ (xs : List ℕ). IsStrictlyIncreasing xs) (map_id cells) h

-- ---- code, data and cells

record IsMemory (t : Remainder) (code : List ℕ) (words : List InitWord) (cells : List ℕ) (p : Remainder) : Type 0 where
  parts : t.rest ≡ code_text code ++ (data_text words ++ (cells_text cells ++ p.rest))
  code_fits : IsSection IsWord 1 131072 code
  words_fit : IsSection IsInitWord 0 65536 words
  words_rise : IsStrictlyIncreasing (map (λ w. w.index) words)
  cells_fit : IsSection IsIndex 0 65536 cells
  cells_rise : IsStrictlyIncreasing (map (λ c. c) cells)

memory_takes : (t : Remainder) (m : List ℕ × List InitWord × List ℕ × Remainder) → memory_at t ≡ Ok m → IsMemory t m.0 m.1 m.2 m.3
unfolding memory_at
memory_takes t m e =
    let a = bind_ok (section_at (codes "code") 1 131072 code_of no_key t) (λ code. section_at (codes "data") 0 65536 data_of index_key code.1 >>= λ words. section_at (codes "cells") 0 65536 cell_of cell_key words.1 >>= λ cells. Ok (code.0, words.0, cells.0, cells.1)) m e in
    let b = bind_ok (section_at (codes "data") 0 65536 data_of index_key a.0.1) (λ words. section_at (codes "cells") 0 65536 cell_of cell_key words.1 >>= λ cells. Ok (a.0.0, words.0, cells.0, cells.1)) m a.2 in
    let d = bind_ok (section_at (codes "cells") 0 65536 cell_of cell_key b.0.1) (λ cells. Ok (a.0.0, b.0.0, cells.0, cells.1)) m b.2 in
    let code = section_takes code_form no_key (codes "code") 1 131072 (omega arith) t a.0 a.1 in
    let words = section_takes data_form index_key (codes "data") 0 65536 (omega arith) a.0.1 b.0 b.1 in
    let cells = section_takes cell_form cell_key (codes "cells") 0 65536 (omega arith) b.0.1 d.0 d.1 in
    let made : List ℕ × List InitWord × List ℕ × Remainder = (a.0.0, b.0.0, d.0.0, d.0.1) in
    subst (λ (q : List ℕ × List InitWord × List ℕ × Remainder). IsMemory t q.0 q.1 q.2 q.3) (ok_is made m d.2)
    (record {
      parts = code.0 ∙ ap (λ (r : List ℕ). code_text a.0.0 ++ r) words.0 ∙ ap (λ (r : List ℕ). code_text a.0.0 ++ (data_text b.0.0 ++ r)) cells.0;
      code_fits = code.1;
      words_fit = words.1;
      words_rise = strict_from_rising (λ w. w.index) b.0.0 words.2;
      cells_fit = cells.1;
      cells_rise = strict_from_rising (λ c. c) d.0.0 cells.2;
    })

-- ---- the map

record IsFlow (second : Bool) (t : Remainder) (flow : Map) (p : Remainder) : Type 0 where
  parts : t.rest ≡ functions_text flow.functions ++ (blocks_text flow.blocks ++ (rows_text flow.rows ++ p.rest))
  functions_fit : IsSection IsFunction 0 131072 flow.functions
  functions_rise : IsStrictlyIncreasing (map (λ f. f.entry) flow.functions)
  blocks_fit : IsSection IsBlock 0 131072 flow.blocks
  blocks_rise : IsStrictlyIncreasing (map (λ b. b.start) flow.blocks)
  rows_fit : IsSection (IsRowIn second) 0 131072 flow.rows

map_takes : (second : Bool) (t : Remainder) (m : Map × Remainder) → map_at second t ≡ Ok m → IsFlow second t m.0 m.1
unfolding map_at
map_takes second t m e =
    let a = bind_ok (section_at (codes "functions") 0 131072 function_of entry_key t) (λ functions. section_at (codes "blocks") 0 131072 block_of start_key functions.1 >>= λ blocks. section_at (codes "rows") 0 131072 (row_of second) no_key blocks.1 >>= λ rows. Ok (record { functions = functions.0; blocks = blocks.0; rows = rows.0 }, rows.1)) m e in
    let b = bind_ok (section_at (codes "blocks") 0 131072 block_of start_key a.0.1) (λ blocks. section_at (codes "rows") 0 131072 (row_of second) no_key blocks.1 >>= λ rows. Ok (record { functions = a.0.0; blocks = blocks.0; rows = rows.0 }, rows.1)) m a.2 in
    let d = bind_ok (section_at (codes "rows") 0 131072 (row_of second) no_key b.0.1) (λ rows. Ok (record { functions = a.0.0; blocks = b.0.0; rows = rows.0 }, rows.1)) m b.2 in
    let functions = section_takes function_form entry_key (codes "functions") 0 131072 (omega arith) t a.0 a.1 in
    let blocks = section_takes block_form start_key (codes "blocks") 0 131072 (omega arith) a.0.1 b.0 b.1 in
    let rows = section_takes (row_form second) no_key (codes "rows") 0 131072 (omega arith) b.0.1 d.0 d.1 in
    let made : Map × Remainder = (record { functions = a.0.0; blocks = b.0.0; rows = d.0.0 }, d.0.1) in
    subst (λ (q : Map × Remainder). IsFlow second t q.0 q.1) (ok_is made m d.2)
    (record {
      parts = functions.0 ∙ ap (λ (r : List ℕ). functions_text a.0.0 ++ r) blocks.0 ∙ ap (λ (r : List ℕ). functions_text a.0.0 ++ (blocks_text b.0.0 ++ r)) rows.0;
      functions_fit = functions.1;
      functions_rise = strict_from_rising (λ f. f.entry) a.0.0 functions.2;
      blocks_fit = blocks.1;
      blocks_rise = strict_from_rising (λ b. b.start) b.0.0 blocks.2;
      rows_fit = rows.1;
    })

ending_takes : (second : Bool) (rows : List Row) (t : Remainder) (u : Unit {0}) → ending_at second rows t ≡ Ok u → ((not second || has_elements rows) ≡ true) × (t.rest ≡ ended (codes "end"))
unfolding ending_at
ending_takes second rows t u e =
    let due : Bool = not second || has_elements rows in
    let a = bind_ok (fixed_at (codes "end") t) (λ last. at t.line (guard due Token) >>= λ due. at last.line (guard (length last.rest == 0) Token)) u e in
    let b = bind_ok (at t.line (guard due Token)) (λ due. at a.0.line (guard (length a.0.rest == 0) Token)) u a.2 in
    let none : a.0.rest ≡ [] = nil_from_length a.0.rest (eqb-true (length a.0.rest) 0 (guard_ok (length a.0.rest == 0) Token u (at_ok a.0.line (guard (length a.0.rest == 0) Token) u b.2))) in (
      guard_ok due Token b.0 (at_ok t.line (guard due Token) b.0 b.1),
      fixed_takes (codes "end") t a.0 a.1 ∙ ap (λ (r : List ℕ). ended (codes "end") ++ r) none ∙ append-nil (ended (codes "end")),
    )

-- ---- the whole text

regroup : (h c d x f b r e : List ℕ) → h ++ (c ++ (d ++ (x ++ (f ++ (b ++ (r ++ e)))))) ≡ h ++ c ++ d ++ x ++ f ++ b ++ r ++ e
regroup h c d x f b r e = simp append_assoc

record IsParts (second : Bool) (t : Remainder) (image : Image) : Type 0 where
  version : has_elements image.map.rows ≡ second
  parts : t.rest ≡ code_text image.code ++ (data_text image.words ++ (cells_text image.cells ++ (functions_text image.map.functions ++ (blocks_text image.map.blocks ++ (rows_text image.map.rows ++ ended (codes "end"))))))
  fits : IsWellFormedImage image

parts_takes : (second : Bool) (t : Remainder) (image : Image) → parts_at second t ≡ Ok image → IsParts second t image
unfolding parts_at
parts_takes second t image e =
    let a = bind_ok (memory_at t) (λ memory. map_at second memory.3 >>= λ flow. ending_at second flow.0.rows flow.1 >>= λ ended. Ok (record { code = memory.0; words = memory.1; cells = memory.2; map = flow.0 })) image e in
    let b = bind_ok (map_at second a.0.3) (λ flow. ending_at second flow.0.rows flow.1 >>= λ ended. Ok (record { code = a.0.0; words = a.0.1; cells = a.0.2; map = flow.0 })) image a.2 in
    let d = bind_ok (ending_at second b.0.0.rows b.0.1) (λ ended. Ok (record { code = a.0.0; words = a.0.1; cells = a.0.2; map = b.0.0 })) image b.2 in
    let memory = memory_takes t a.0 a.1 in
    let flow = map_takes second a.0.3 b.0 b.1 in
    let last = ending_takes second b.0.0.rows b.0.1 d.0 d.1 in
    let made : Image = record { code = a.0.0; words = a.0.1; cells = a.0.2; map = b.0.0 } in
    let front : List ℕ → List ℕ = λ r. code_text a.0.0 ++ (data_text a.0.1 ++ (cells_text a.0.2 ++ r)) in
    let back : List ℕ → List ℕ = λ r. functions_text b.0.0.functions ++ (blocks_text b.0.0.blocks ++ (rows_text b.0.0.rows ++ r)) in
    subst (λ (i : Image). IsParts second t i) (ok_is made image d.2)
    (record {
      parts = memory.parts ∙ ap front flow.parts ∙ ap (λ (r : List ℕ). front (back r)) last.1;
      version = version_is second b.0.0.rows flow.rows_fit.each last.0;
      fits = record {
        code = memory.code_fits;
        words = memory.words_fit;
        words_rise = memory.words_rise;
        cells = memory.cells_fit;
        cells_rise = same_cells a.0.2 memory.cells_rise;
        functions = flow.functions_fit;
        functions_rise = flow.functions_rise;
        blocks = flow.blocks_fit;
        blocks_rise = flow.blocks_rise;
        rows = record { each = are_rows second b.0.0.rows flow.rows_fit.each; enough = flow.rows_fit.enough; limited = flow.rows_fit.limited };
      };
    })

pub image_takes : (text : List ℕ) (image : Image) → image_at text ≡ Ok image → IsImageText text image
unfolding image_at
image_takes text image e =
    let start : Remainder = record { rest = text; line = 1 } in
    let a = bind_ok (version_at start) (λ version. parts_at version.0 version.1) image e in
    let rest = parts_takes a.0.0 a.0.1 image a.2 in
    let first : List ℕ = ended (version_line (has_elements image.map.rows)) in
    let whole : text ≡ image_text image =
    version_takes start a.0 a.1 ∙ ap (λ second. ended (version_line second) ++ a.0.1.rest) (sym rest.version) ∙ ap (λ (r : List ℕ). first ++ r) rest.parts
    ∙ regroup first (code_text image.code) (data_text image.words) (cells_text image.cells) (functions_text image.map.functions) (blocks_text image.map.blocks) (rows_text image.map.rows) (ended (codes "end")) in
    record { well_formed = rest.fits; spelled = whole }

-- ---- back again

keyword : (word : List ℕ) → list_all is_visible word ≡ true → 0 < length word → IsField word
keyword word visible some = record { visible = visible; nonempty = some }

memory_again : (image : Image) (rest : List ℕ) (n : ℕ) → IsWellFormedImage image
    → (m : ℕ) × (memory_at (record { rest = code_text image.code ++ (data_text image.words ++ (cells_text image.cells ++ rest)); line = n }) ≡ Ok (image.code, image.words, image.cells, record { rest = rest; line = m }))
unfolding memory_at
memory_again image rest n fits =
    let a = section_again code_form no_key (codes "code") 1 131072 (keyword (codes "code") refl (omega arith)) (omega arith) image.code (data_text image.words ++ (cells_text image.cells ++ rest)) n fits.code (rising_unkeyed None image.code) in
    let b = section_again data_form index_key (codes "data") 0 65536 (keyword (codes "data") refl (omega arith)) (omega arith) image.words (cells_text image.cells ++ rest) a.0 fits.words (rising_from_strict (λ w. w.index) image.words fits.words_rise) in
    let d = section_again cell_form cell_key (codes "cells") 0 65536 (keyword (codes "cells") refl (omega arith)) (omega arith) image.cells rest b.0 fits.cells (rising_from_strict (λ c. c) image.cells (cells_same image.cells fits.cells_rise)) in
    (d.0, rw (a.1, b.1, d.1) refl)

map_again : (second : Bool) (flow : Map) (rest : List ℕ) (n : ℕ) → IsSection IsFunction 0 131072 flow.functions → IsStrictlyIncreasing (map (λ f. f.entry) flow.functions)
    → IsSection IsBlock 0 131072 flow.blocks → IsStrictlyIncreasing (map (λ b. b.start) flow.blocks) → IsSection (IsRowIn second) 0 131072 flow.rows
    → (m : ℕ) × (map_at second (record { rest = functions_text flow.functions ++ (blocks_text flow.blocks ++ (rows_text flow.rows ++ rest)); line = n }) ≡ Ok (flow, record { rest = rest; line = m }))
unfolding map_at
map_again second flow rest n functions_fit functions_rise blocks_fit blocks_rise rows_fit =
    let a = section_again function_form entry_key (codes "functions") 0 131072 (keyword (codes "functions") refl (omega arith)) (omega arith) flow.functions (blocks_text flow.blocks ++ (rows_text flow.rows ++ rest)) n functions_fit (rising_from_strict (λ f. f.entry) flow.functions functions_rise) in
    let b = section_again block_form start_key (codes "blocks") 0 131072 (keyword (codes "blocks") refl (omega arith)) (omega arith) flow.blocks (rows_text flow.rows ++ rest) a.0 blocks_fit (rising_from_strict (λ b. b.start) flow.blocks blocks_rise) in
    let d = section_again (row_form second) no_key (codes "rows") 0 131072 (keyword (codes "rows") refl (omega arith)) (omega arith) flow.rows rest b.0 rows_fit (rising_unkeyed None flow.rows) in
    (d.0, rw (a.1, b.1, d.1) refl)

ending_again : (rows : List Row) (n : ℕ) → ending_at (has_elements rows) rows (record { rest = ended (codes "end"); line = n }) ≡ Ok tt
unfolding ending_at
ending_again rows n = rw (fixed_again (codes "end") [] n refl, is_due (has_elements rows)) refl

pub image_again : (image : Image) → IsWellFormedImage image → image_at (image_text image) ≡ Ok image
unfolding image_at parts_at
image_again image fits =
    let flow = image.map in
    let last : List ℕ = ended (codes "end") in
    let back : List ℕ = functions_text flow.functions ++ (blocks_text flow.blocks ++ (rows_text flow.rows ++ last)) in
    let front : List ℕ = code_text image.code ++ (data_text image.words ++ (cells_text image.cells ++ back)) in
    let first : List ℕ = ended (version_line (has_elements flow.rows)) in
    let version = version_again (has_elements flow.rows) front 1 in
    let rows : IsSection (IsRowIn (has_elements flow.rows)) 0 131072 flow.rows = record { each = rows_in flow.rows fits.rows.each; enough = fits.rows.enough; limited = fits.rows.limited } in
    let memory = memory_again image back 2 fits in
    let mapped = map_again (has_elements flow.rows) flow last memory.0 fits.functions fits.functions_rise fits.blocks fits.blocks_rise rows in
    let spelled : image_text image ≡ first ++ front =
    sym (regroup first (code_text image.code) (data_text image.words) (cells_text image.cells) (functions_text flow.functions) (blocks_text flow.blocks) (rows_text flow.rows) last) in
    ap image_at spelled ∙ rw (version, memory.1, mapped.1, ending_again flow.rows mapped.0) refl

pub is_found : (text : List ℕ) (r : Result Image (Fault ImageFaultKind)) → Gives (λ i. i) r (image_at text) → IfOk r (λ image. IsImageText text image)
is_found text (Ok image) given = image_takes text image given
is_found text (Err e) given = tt

pub image_reads : (text : List ℕ) (image : Image) → IsImageText text image → image_at text ≡ Ok image
image_reads text image is = ap image_at is.spelled ∙ image_again image is.well_formed

pub is_only : (text : List ℕ) (r : Result Image (Fault ImageFaultKind)) → Gives (λ i. i) r (image_at text) → (image : Image) → IsImageText text image → Gives (λ i. i) r (Ok image)
is_only text r given image is =
    subst (λ (read : Result Image (Fault ImageFaultKind)). Gives (λ i. i) r read) (image_reads text image is) given

pub one_of_text : (text : List ℕ) (image other : Image) → IsImageText text image → IsImageText text other → image ≡ other
one_of_text text image other is also =
    ok_is image other (sym (image_reads text image is) ∙ image_reads text other also)
