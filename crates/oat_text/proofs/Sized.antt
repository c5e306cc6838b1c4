-- The size of a program is within the number of its lines.
use Rattle.std.proofs.Common.{◌≡◌, ℕ, suc, ◌+◌, ◌*◌, ◌≤◌, Bool, true, false, not, eqb, List, [], ◌∷◌, ◌++◌, length, drop, map, refl, ap, arith}
use Rattle.std.specs.{Prelude.codes, Prelude.if◌then◌else◌, List.AllZip, List.AllByRecursion, List.flat_map, List.sum_by, List.slice_split, Str.Lines.lines_of_parts}
use Rattle.std.proofs.lemmas.{List.length-append, List.length-map, List.length-drop, List.Sums.count_by-le-length, List.Sums.length-filter, List.Sums.sum_by-cons, List.Splits.length-slice_split}
use Rattle.oat_lines.specs.Lines.{TextWord, lines_of, words_of, is_skipped, counting}
use Rattle.oat_ir.specs.{declared.program.Program.Program, declared.func.Func.Func, declared.func.BlockIr.BlockIr, Size.block_size, Size.func_size, Size.program_size}
use Rattle.oat_text.specs.{Words.Keyword, Words.Says, Grammar.Line, Grammar.global_line, Grammar.local_line, Grammar.instr_line, Grammar.term_line, Grammar.block_lines, Grammar.func_lines}
use Rattle.oat_text.specs.{Grammar.program_lines}

-- ---- lines of a text

parts_many : (parts : List (List ℕ)) → length (lines_of_parts parts) ≤ length parts
parts_many [] = omega arith
parts_many (x ∷ []) = by (eqb (length x) 0)
  where
    by : (b : Bool) → length (if b then [] else x ∷ []) ≤ 1
    by true = omega arith
    by false = omega arith
parts_many (x ∷ y ∷ more) = (let rest = parts_many (y ∷ more) in omega arith)

lines_many : (text : List ℕ) → length (lines_of text) ≤ length text + 1
unfolding lines_of
lines_many text =
    let feed = λ (b : ℕ). eqb b 10 in
    let most = parts_many (slice_split feed text) in
    let split = length-slice_split feed text in
    let few = count_by-le-length feed text in
    omega arith

pub counting_many : (text : List ℕ) → length (counting (lines_of text)) ≤ length text + 1
counting_many text =
    let kept = length-filter (λ (words : List TextWord). not (is_skipped words)) (map words_of (lines_of text)) in
    let few = count_by-le-length (λ (words : List TextWord). not (is_skipped words)) (map words_of (lines_of text)) in
    let same = length-map (lines_of text) words_of in
    let most = lines_many text in
    omega arith

pub zip_many : (words : List (List TextWord)) (lines : List Line) → AllZip (AllZip Says) words lines → length words ≡ length lines
zip_many [] [] all = refl
zip_many [] (l ∷ ls) all = absurd all
zip_many (w ∷ ws) [] all = absurd all
zip_many (w ∷ ws) (l ∷ ls) all = ap (λ n. suc n) (zip_many ws ls all.1)

-- ---- lines of a program

block_many : (p : Program) (f : Func) (b : BlockIr) → length (block_lines p f b) ≡ block_size b
block_many p f b =
    let instrs = length-map b.instrs (instr_line p f) in
    let whole = length-append (map (instr_line p f) b.instrs) (term_line f b.term ∷ []) in
    omega arith

blocks_many : (p : Program) (f : Func) (bs : List BlockIr) → length (flat_map (block_lines p f) bs) ≡ sum_by block_size bs
blocks_many p f [] = refl
blocks_many p f (b ∷ bs) =
    let one = block_many p f b in
    let sum = sum_by-cons block_size b bs in
    let more = blocks_many p f bs in
    let whole = length-append (block_lines p f b) (flat_map (block_lines p f) bs) in
    omega arith

func_many : (p : Program) (f : Func) → f.params ≤ 4 → func_size f ≤ 5 * length (func_lines p f)
func_many p f few =
    let dropped = length-drop f.params f.locals in
    let locals = length-map (drop f.params f.locals) local_line in
    let blocks = blocks_many p f f.blocks in
    let inner = length-append (flat_map (block_lines p f) f.blocks) ((Keyword (codes "end") ∷ []) ∷ []) in
    let outer = length-append (map local_line (drop f.params f.locals)) (flat_map (block_lines p f) f.blocks ++ ((Keyword (codes "end") ∷ []) ∷ [])) in
    omega arith

funcs_many : (p : Program) (fs : List Func) → AllByRecursion (λ f. f.params ≤ 4) fs → sum_by func_size fs ≤ 5 * length (flat_map (func_lines p) fs)
funcs_many p [] few = omega arith
funcs_many p (f ∷ fs) few =
    let one = func_many p f few.0 in
    let sum = sum_by-cons func_size f fs in
    let more = funcs_many p fs few.1 in
    let whole = length-append (func_lines p f) (flat_map (func_lines p) fs) in
    omega arith

pub lines_bound : (p : Program) → AllByRecursion (λ f. f.params ≤ 4) p.funcs → program_size p ≤ 5 * length (program_lines p)
lines_bound p few =
    let globals = length-map p.globals global_line in
    let funcs = funcs_many p p.funcs few in
    let whole = length-append (map global_line p.globals) (flat_map (func_lines p) p.funcs) in
    omega arith
