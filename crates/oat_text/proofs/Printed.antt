-- The pieces that are printed, joined, are the text of a program.
use Rattle.std.proofs.Common.{◌≡◌, ℕ, List, [], ◌∷◌, ◌++◌, map, take, drop, refl, sym, ap, ◌∙◌, append_assoc}
use Rattle.std.specs.{Prelude.codes, Prelude.decimal, List.flat_map}
use Rattle.std.proofs.lemmas.{Grind.flat_map-append, List.append-nil}
use Rattle.oat_lines.specs.{Fields.spaced, Fields.ended, Lines.TextWord}
use Rattle.oat_ir.specs.{declared.program.Program.Program, declared.func.Func.Func, declared.func.Role.Role, declared.func.Role.TheVariants.Plain, declared.func.Role.TheVariants.Operation}
use Rattle.oat_ir.specs.{declared.func.Role.TheVariants.Main, declared.func.BlockIr.BlockIr, WellFormed.IsRole}
use Rattle.oat_text.specs.{Words.Said, Words.printed_word, Grammar.global_line, Grammar.instr_line, Grammar.term_line, Grammar.parameter, Grammar.head_line, Grammar.local_line, Grammar.block_lines}
use Rattle.oat_text.specs.{Grammar.func_lines, Grammar.line_text, Grammar.lines_text, Grammar.program_text, Printing.words_behind, Printing.head_text}

-- ---- lists

flat_mapped : {X Y A : Type 0} (g : Y → List A) (f : X → Y) (xs : List X) → flat_map g (map f xs) ≡ flat_map (λ x. g (f x)) xs
flat_mapped g f [] = refl
flat_mapped g f (x ∷ xs) = ap (λ (rest : List _). g (f x) ++ rest) (flat_mapped g f xs)

flat_flattened : {X Y A : Type 0} (g : Y → List A) (f : X → List Y) (xs : List X) → flat_map g (flat_map f xs) ≡ flat_map (λ x. flat_map g (f x)) xs
flat_flattened g f [] = refl
flat_flattened g f (x ∷ xs) = flat_map-append g (f x) (flat_map f xs) ∙ ap (λ (rest : List _). flat_map g (f x) ++ rest) (flat_flattened g f xs)

spaced_behind : {X : Type 0} (said : X → Said) (first : TextWord) (items : List X)
    → spaced (first ∷ map printed_word (map said items)) ≡ first ++ words_behind said items
spaced_behind said first [] = sym (append-nil first)
spaced_behind said first (x ∷ xs) = ap (λ (rest : List ℕ). first ++ 32 ∷ rest) (spaced_behind said (printed_word (said x)) xs)

spaced_more : {X : Type 0} (said : X → Said) (words : List TextWord) (first : TextWord) (items : List X)
    → spaced ((first ∷ words) ++ map printed_word (map said items)) ≡ spaced (first ∷ words) ++ words_behind said items
spaced_more said [] first items = spaced_behind said first items
spaced_more said (word ∷ words) first items =
    ap (λ (rest : List ℕ). first ++ 32 ∷ rest) (spaced_more said words word items)
    ∙ sym (append_assoc first (32 ∷ spaced (word ∷ words)) (words_behind said items))

grouped : (a b c d : List ℕ) → ((a ++ b) ++ c) ++ d ≡ a ++ ((b ++ c) ++ d)
grouped a b c d = append_assoc (a ++ b) c d ∙ append_assoc a b (c ++ d) ∙ ap (λ (rest : List ℕ). a ++ rest) (sym (append_assoc b c d))

-- ---- lines

pub call_printed : {X : Type 0} (front : List ℕ) (keyword x callee : TextWord) (said : X → Said) (items : List X)
    → ((((front ++ keyword) ++ 32 ∷ x) ++ 32 ∷ callee) ++ words_behind said items) ++ 10 ∷ []
    ≡ front ++ ended (spaced (keyword ∷ x ∷ callee ∷ map printed_word (map said items)))
call_printed front keyword x callee said items = rw (spaced_behind said callee items) (simp append_assoc refl)

words_joined : (front : List ℕ) (f : Func) (words : List TextWord) (first : TextWord)
    → ((front ++ spaced (first ∷ words)) ++ words_behind parameter (take f.params f.locals)) ++ 10 ∷ []
    ≡ front ++ ended (spaced ((first ∷ words) ++ map printed_word (map parameter (take f.params f.locals))))
words_joined front f words first =
    grouped front (spaced (first ∷ words)) (words_behind parameter (take f.params f.locals)) (10 ∷ [])
    ∙ ap (λ (line : List ℕ). front ++ ended line) (sym (spaced_more parameter words first (take f.params f.locals)))

pub head_printed : (front : List ℕ) (f : Func) (role : Role) → IsRole role f
    → ((front ++ head_text role f.name) ++ words_behind parameter (take f.params f.locals)) ++ 10 ∷ []
    ≡ front ++ line_text (head_line role f.name (take f.params f.locals))
head_printed front f Plain fits = words_joined front f (f.name ∷ []) (codes "func")
head_printed front f (Operation id) fits = words_joined front f (decimal id ∷ f.name ∷ []) (codes "operation")
head_printed front f Main fits = rw (fits.1) (grouped front (codes "main") [] (10 ∷ []))

-- ---- blocks, functions and programs

pub block_printed : (front : List ℕ) (p : Program) (f : Func) (b : BlockIr)
    → ((front ++ ended (spaced (codes "block" ∷ b.label ∷ []))) ++ flat_map (λ i. line_text (instr_line p f i)) b.instrs) ++ line_text (term_line f b.term)
    ≡ front ++ lines_text (block_lines p f b)
block_printed front p f b =
    let first = ended (spaced (codes "block" ∷ b.label ∷ [])) in
    let instrs = flat_map (λ i. line_text (instr_line p f i)) b.instrs in
    let behind : flat_map line_text (map (instr_line p f) b.instrs ++ term_line f b.term ∷ []) ≡ instrs ++ line_text (term_line f b.term) =
    flat_map-append line_text (map (instr_line p f) b.instrs) (term_line f b.term ∷ []) ∙ rw (flat_mapped line_text (instr_line p f) b.instrs, append-nil) refl in
    append_assoc (front ++ first) instrs (line_text (term_line f b.term)) ∙ append_assoc front first (instrs ++ line_text (term_line f b.term))
    ∙ ap (λ (rest : List ℕ). front ++ (first ++ rest)) (sym behind)

pub func_printed : (front : List ℕ) (p : Program) (f : Func)
    → (((front ++ line_text (head_line f.role f.name (take f.params f.locals))) ++ flat_map (λ l. line_text (local_line l)) (drop f.params f.locals))
    ++ flat_map (λ b. lines_text (block_lines p f b)) f.blocks) ++ ended (codes "end")
    ≡ front ++ lines_text (func_lines p f)
func_printed front p f =
    rw (flat_map-append line_text (map local_line (drop f.params f.locals)) _, flat_mapped line_text local_line (drop f.params f.locals), flat_map-append line_text (flat_map (block_lines p f) f.blocks) _, flat_flattened line_text (block_lines p f) f.blocks)
    (simp (append_assoc, append-nil) refl)

pub program_printed : (p : Program)
    → flat_map (λ g. line_text (global_line g)) p.globals ++ flat_map (λ f. lines_text (func_lines p f)) p.funcs ≡ program_text p
program_printed p =
    rw (flat_map-append line_text (map global_line p.globals) (flat_map (func_lines p) p.funcs), flat_mapped line_text global_line p.globals, flat_flattened line_text (func_lines p) p.funcs) refl
