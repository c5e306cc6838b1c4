-- The code of each line and the start of each function, at their places.
use Rattle.std.proofs.Common.{inl, inr, ◌≡◌, ◌+◌, ◌*◌, ◌<◌, ◌≤◌, ℕ, Bool, [], ◌∷◌, length, map, Some, refl, sym, ap, subst, ◌∙◌, arith}
use Rattle.std.specs.Prelude.{slice_get}
use Rattle.std.proofs.lemmas.Option.{slice_get_within}
use Rattle.oat_parts.proofs.Lists.{get_before, map_get, map_length}
use Rattle.oat_check.proofs.{Checking.func_formed, Frames.there}
use Rattle.oat_frames.proofs.FrameLaws.{lines-stand}
use Rattle.oat_globals.specs.{Program, Func, Role, Main, Operation, Plain, BlockIr, IsRole, IsChecked, operation_number, CodeLine, IsFunctionAt, CodeStands, prologue, World, is_leaf}
use Rattle.oat_globals.specs.{words_before_line, Operations.HasBegin, Operations.HasShortNumber, Operations.start_code}
use Rattle.oat_globals.proofs.GlobalLaws.{starts_stand}
use Rattle.oat_symbols.specs.Programs.{label_of_block}
use Rattle.oat_match.specs.{Code.block_items, Code.instruction_items, Code.line_items, Code.terminator_items, Compiled.IsCompiled, Compiled.LinesArePlaced}
use Rattle.oat_match.proofs.Finding.{LineCases, last_one, line_cases}

-- ---- an operation's number

short : (func : Func) (r : Role) → IsRole r func → HasShortNumber (operation_number r)
short func (Operation op) h number e = let same : op ≡ number = cc in let low : op ≤ 65535 = h.1 in omega arith
short func Plain h number e = absurd (cc)
short func Main h number e = absurd (cc)

pub short_number : (p : Program) → IsChecked p → (f : ℕ) (func : Func) → slice_get p.funcs f ≡ Some func → HasShortNumber (operation_number func.role)
short_number p ok f func is = short func func.role (func_formed p ok f func is).role

-- a line's code among those of its block
code_in_block : (p : Program) (f : ℕ) (func : Func) (block : BlockIr) (n : ℕ) (line : CodeLine) → LineCases block n line → slice_get (block_items p f func block) n ≡ Some (line_items p f func (is_leaf func) line)
code_in_block p f func block n line (inl i) =
    let low : n < length block.instrs = slice_get_within block.instrs n i.0 i.1 in
    let long : length (map (instruction_items p (is_leaf func)) block.instrs) ≡ length block.instrs = map_length (instruction_items p (is_leaf func)) block.instrs in
    get_before (map (instruction_items p (is_leaf func)) block.instrs) (terminator_items p f func (is_leaf func) block.term ∷ []) n (omega arith) ∙ map_get (instruction_items p (is_leaf func)) block.instrs n i.0 i.1
    ∙ ap (λ (l : CodeLine). Some (line_items p f func (is_leaf func) l)) (sym i.2)
code_in_block p f func block n line (inr t) =
    last_one (map (instruction_items p (is_leaf func)) block.instrs) (terminator_items p f func (is_leaf func) block.term) n (t.0 ∙ sym (map_length (instruction_items p (is_leaf func)) block.instrs)) ∙ ap (λ (l : CodeLine). Some (line_items p f func (is_leaf func) l)) (sym t.1)

pub lines_are_placed : LinesArePlaced
lines_are_placed p w c f func block line is there at =
    lines-stand w f (label_of_block p f.func f.block) (block_items p f.func func block) (line_items p f.func func (w.is_leaf f.func) line) (c.blocks f.func f.block func block is there)
    (code_in_block p f.func func block f.line line (line_cases block f.line line at) ∙ ap (λ (leaf : Bool). Some (line_items p f.func func leaf line)) (sym (c.data_of.leaves f.func func is)))

module _ (p : Program) (ok : IsChecked p) (w : World) (c : IsCompiled p w) where
  -- the first line of a block stands at its label
  pub block_begins : (f b : ℕ) (func : Func) (block : BlockIr) → slice_get p.funcs f ≡ Some func → slice_get func.blocks b ≡ Some block → w.place f b 0 ≡ w.label (label_of_block p f b)
  block_begins f b func block is there =
      let none : words_before_line (block_items p f func block) 0 ≡ 0 = refl in
      (c.blocks f b func block is there).places 0 (omega arith) ∙ at (w.label (label_of_block p f b)) (words_before_line (block_items p f func block) 0) none where
        at : (a n : ℕ) → n ≡ 0 → a + 4 * n ≡ a
        at a n e = omega arith

  -- ---- the start of a function

  module _ (f : ℕ) (func : Func) (is : slice_get p.funcs f ≡ Some func) where
    start_here : CodeStands w (w.label f) (start_code (w.is_leaf f) func.params (w.locals f) (operation_number func.role))
    start_here =
        subst (λ (leaf : Bool). CodeStands w (w.label f) (start_code leaf func.params (w.locals f) (operation_number func.role))) (sym (c.data_of.leaves f func is))
        (subst (λ (n : ℕ). CodeStands w (w.label f) (start_code (is_leaf func) func.params n (operation_number func.role))) (sym (c.data_of.locals f func is)) (c.functions f func is).code)

    pub function_at : (params : ℕ) → params ≡ func.params → IsFunctionAt w f params
    function_at params same = record {
      start = subst (λ (n : ℕ). CodeStands w (w.label f) (prologue (w.is_leaf f) n (w.locals f))) (sym same) (starts_stand w f func.params (operation_number func.role) start_here).0;
    }

    pub has_begin : (block : BlockIr) → slice_get func.blocks 0 ≡ Some block → HasBegin w f (operation_number func.role)
    has_begin block there = record {
      code = (starts_stand w f func.params (operation_number func.role) start_here).1;
      first = block_begins f 0 func block is there ∙ (c.functions f func is).first;
      number = short_number p ok f func is;
    }
