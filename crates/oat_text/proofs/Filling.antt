-- What the two passes make of the lines of a function's blocks.
use Rattle.std.proofs.Common.{◌≡◌, ℕ, zero, suc, ◌<◌, ◌≤◌, Bool, true, List, [], ◌∷◌, ◌++◌, length, map, get_or, Ok, refl, sym, ◌∙◌, subst, append_assoc, arith}
use Rattle.std.specs.{Prelude.codes, Prelude.Option, Prelude.Some, Prelude.None, Prelude.slice_get, Prelude.bytes_eq, List.AllByRecursion, List.AllZip, List.IsDistinct, List.flat_map}
use Rattle.std.proofs.lemmas.{List.append-nil, List.length-map, List.map-append, List.Elements.recursion_from_All}
use Rattle.oat_lines.specs.{Lines.TextWord, Reading.between}
use Rattle.oat_ir.specs.{declared.program.Program.Program, declared.func.Func.Func, declared.func.BlockIr.BlockIr, declared.instr.Instr.Instr, declared.instr.Instr.TheVariants.Const}
use Rattle.oat_ir.specs.{declared.instr.Instr.TheVariants.Copy, declared.instr.Instr.TheVariants.Binary, declared.instr.Instr.TheVariants.Load, declared.instr.Instr.TheVariants.Store}
use Rattle.oat_ir.specs.{declared.instr.Instr.TheVariants.LoadX, declared.instr.Instr.TheVariants.StoreX, declared.instr.Instr.TheVariants.RefTo, declared.instr.Instr.TheVariants.Call}
use Rattle.oat_ir.specs.{declared.instr.Instr.TheVariants.ICall, declared.instr.Instr.TheVariants.Input, declared.instr.Instr.TheVariants.Output, declared.instr.Term.Term}
use Rattle.oat_ir.specs.{declared.instr.Term.TheVariants.Jump, declared.instr.Term.TheVariants.Branch, declared.instr.Term.TheVariants.Ret, declared.instr.Term.TheVariants.Halt, Distinct.global_name}
use Rattle.oat_ir.specs.{Distinct.have_one_label, Indices.HasLocal, Indices.HasBlock, Indices.HasGlobal, Indices.HasFunc, Indices.AreArguments, Indices.IsInstr, Indices.IsTerm, WellFormed.IsBlockIr}
use Rattle.oat_ir.specs.{WellFormed.IsFunc, WellFormed.IsProgram}
use Rattle.oat_text.specs.{declared.form.InstrForm.InstrForm, declared.form.TermForm.TermForm, declared.head.Stage.Stage, declared.head.Stage.TheVariants.Locals}
use Rattle.oat_text.specs.{declared.head.Stage.TheVariants.Inside, declared.head.Stage.TheVariants.Behind, Words.Said, Words.Keyword, Words.Named, Words.Integer, Words.Says, Grammar.Line}
use Rattle.oat_text.specs.{Grammar.local_at, Grammar.block_at, Grammar.global_at, Grammar.func_at, Forms.instr_word, Forms.term_word, Outline.Outline, Outline.itself, Outline.local_name}
use Rattle.oat_text.specs.{Outline.stands, Outline.block_line, Outline.declare, Bodies.Scope, Bodies.Bodies, Bodies.index_of, Bodies.arguments, Bodies.copy_of, Bodies.load_of, Bodies.store_of}
use Rattle.oat_text.specs.{Bodies.ref_of, Bodies.binary_of, Bodies.const_of, Bodies.loadx_of, Bodies.storex_of, Bodies.call_of, Bodies.icall_of, Bodies.instr_of, Bodies.branch_of, Bodies.term_of}
use Rattle.oat_text.specs.{Bodies.scope_of, Bodies.instr_in, Bodies.term_in, Bodies.instr_line, Bodies.term_line, Bodies.fill}
use Rattle.oat_text.proofs.{Crossing.is_between, Crossing.four_suit, Crossing.name_fresh, Crossing.name_of, Crossing.label_of, Crossing.head_of, Crossing.with_funcs, Crossing.in_func, Finding.alike}
use Rattle.oat_text.proofs.{Finding.found_at, Lines.Numbered, Lines.Say, Lines.Fits, Lines.Crosses, Lines.here, Lines.onward, Lines.line_crossed, Lines.one_word, Lines.more_words, Lines.two_words}
use Rattle.oat_text.proofs.{Lines.three_words, Spoken.Suits, Spoken.AllSuit, Spoken.name_read, Spoken.integer_read, Tables.place_mapped}
use Rattle.oat_text.specs.declared.form.LineForm.TheVariants as line
use Rattle.oat_text.specs.declared.form.InstrForm.TheVariants as instrs
use Rattle.oat_text.specs.declared.form.TermForm.TheVariants as terms
use Rattle.oat_text.specs.declared.form.WordKind.TheVariants as kind
use Rattle.oat_text.specs.Grammar as grammar

-- ---- names

name_found : {X : Type 0} (called : X → TextWord) (xs : List X) (i : ℕ) (word : TextWord) → IsDistinct (alike called) xs → i < length xs
    → word ≡ get_or (map called xs) i [] → index_of itself (map called xs) word ≡ Some i
name_found called xs i word apart within is = sym (place_mapped (bytes_eq word) called xs) ∙ found_at called xs i word apart within is

-- ---- bodies

-- the blocks of the functions that have ended, those of the present one, and what has come of the next block
abbrev pub filled : Program → List Func → List BlockIr → Option TextWord → List Instr → Bodies
filled p done blocks label instrs = record { outline = with_funcs p.globals p.funcs; ended = map (λ f. f.blocks) done; blocks = blocks; label = label; instrs = instrs }

module _ (p : Program) (f : Func) (program : IsProgram p) (func : IsFunc p f) where
  abbrev scope : Scope
  scope = scope_of (with_funcs p.globals p.funcs) (head_of f)

  local_found : (x : ℕ) (word : TextWord) → HasLocal f x → Says word (local_at f x) → index_of local_name f.locals word ≡ Some x
  local_found x word has says = found_at local_name f.locals x word func.local_names has says.0

  global_found : (g : ℕ) (word : TextWord) → HasGlobal p g → Says word (global_at p g) → index_of global_name p.globals word ≡ Some g
  global_found g word has says = found_at global_name p.globals g word program.global_names has says.0

  func_found : (g : ℕ) (word : TextWord) → HasFunc p g → Says word (func_at p g) → index_of itself (map name_of p.funcs) word ≡ Some g
  func_found g word has says = name_found name_of p.funcs g word program.func_names has says.0

  block_found : (c : ℕ) (word : TextWord) → HasBlock f c → Says word (block_at f c) → index_of itself (map label_of f.blocks) word ≡ Some c
  block_found c word has says = name_found label_of f.blocks c word func.labels has says.0

  -- ---- words

  args_read : (most : ℕ) (args : List ℕ) (words : List TextWord) → length args ≤ most → AllByRecursion (HasLocal f) args
      → AllZip Says words (map (local_at f) args) → arguments scope most words ≡ Ok args
  unfolding arguments
  args_read most [] [] few has says = refl
  args_read most [] (w ∷ ws) few has says = absurd says
  args_read most (x ∷ xs) [] few has says = absurd says
  args_read zero (x ∷ xs) (w ∷ ws) few has says = absurd (omega arith)
  args_read (suc most) (x ∷ xs) (w ∷ ws) few has says = rw (local_found x w has.0 says.0, args_read most xs ws (omega arith) has.1 says.1) refl

  names_suit : (args : List ℕ) → AllByRecursion (Suits kind.Named) (map (local_at f) args)
  names_suit [] = tt
  names_suit (x ∷ xs) = (tt, names_suit xs)

  module _ (args : List ℕ) (are : AreArguments f args) where
    args_suit : AllSuit (kind.Named ∷ kind.Named ∷ kind.Named ∷ kind.Named ∷ []) (map (local_at f) args)
    args_suit = four_suit kind.Named (map (local_at f) args) (names_suit args) (let few = are.0 in omega (arith, length-map args (local_at f)))

    args_number : between 2 6 (suc (suc (length (map (local_at f) args)))) ≡ true
    args_number = is_between 2 6 (suc (suc (length (map (local_at f) args)))) (omega arith) (let few = are.0 in omega (arith, length-map args (local_at f)))

    call_read : (x g : ℕ) (words : List TextWord) → HasLocal f x → HasFunc p g → AllZip Says words (local_at f x ∷ func_at p g ∷ map (local_at f) args)
        → instr_of scope instrs.Call words ≡ Ok (Call x g args)
    unfolding instr_of call_of
    call_read x g words has names said =
        let t = more_words (local_at f x) (func_at p g ∷ map (local_at f) args) words said in
        let u = more_words (func_at p g) (map (local_at f) args) t.1 t.4 in
        rw (t.2, u.2, local_found x t.0 has t.3, func_found g u.0 names u.3, args_read 4 args u.1 are.0 (recursion_from_All (HasLocal f) args are.1) u.4) refl

    icall_read : (x y : ℕ) (words : List TextWord) → HasLocal f x → HasLocal f y → AllZip Says words (local_at f x ∷ local_at f y ∷ map (local_at f) args)
        → instr_of scope instrs.ICall words ≡ Ok (ICall x y args)
    unfolding instr_of icall_of
    icall_read x y words has also said =
        let t = more_words (local_at f x) (local_at f y ∷ map (local_at f) args) words said in
        let u = more_words (local_at f y) (map (local_at f) args) t.1 t.4 in
        rw (t.2, u.2, local_found x t.0 has t.3, local_found y u.0 also u.3, args_read 4 args u.1 are.0 (recursion_from_All (HasLocal f) args are.1) u.4) refl

  -- ---- lines

  -- so far, both passes stand within a block of this function
  module _ (done : List Func) (at : slice_get (map head_of p.funcs) (length (map (λ (g : Func). g.blocks) done)) ≡ Some (head_of f)) (labels : List TextWord) where
    abbrev inside : Stage → Outline
    inside stage = in_func p.globals done f f.locals labels stage

    module _ (blocks : List BlockIr) (label : TextWord) where
      abbrev within : List Instr → Bodies
      within instrs = filled p done blocks (Some label) instrs

      instr_by : (i : Instr) (so_far : List Instr) (form : InstrForm) (saids : List Said) → Fits (line.Instr form) saids
          → ((words : List TextWord) → AllZip Says words saids → instr_of scope form words ≡ Ok i)
          → (lines : Numbered) (more : List Line) → Say lines ((Keyword (instr_word form) ∷ saids) ∷ more)
          → Crosses (inside Inside) (inside Inside) (within so_far) (within (so_far ++ i ∷ [])) lines more
      unfolding declare fill instr_line instr_in
      instr_by i so_far form saids fits reads lines more says =
          line_crossed (inside Inside) (inside Inside) (within so_far) (within (so_far ++ i ∷ [])) (line.Instr form) saids fits refl
          (λ n words said. (refl, rw (at, reads words said) refl)) lines more says

      pub instr_crossed : (i : Instr) (so_far : List Instr) → IsInstr p f i
          → (lines : Numbered) (more : List Line) → Say lines (grammar.instr_line p f i ∷ more)
          → Crosses (inside Inside) (inside Inside) (within so_far) (within (so_far ++ i ∷ [])) lines more
      unfolding instr_of const_of copy_of binary_of load_of store_of loadx_of storex_of ref_of
      instr_crossed (Const x value) so_far has =
          instr_by (Const x value) so_far instrs.Const (local_at f x ∷ Integer value ∷ []) (record { suits = (tt, (tt, tt)); number = refl })
          (λ words said.
          let t = two_words (local_at f x) (Integer value) words said in
          rw (t.2, local_found x t.0 has t.3, (integer_read t.1 value t.4.0 t.4.1).0) refl)
      instr_crossed (Copy x y) so_far has =
          instr_by (Copy x y) so_far instrs.Copy (local_at f x ∷ local_at f y ∷ []) (record { suits = (tt, (tt, tt)); number = refl })
          (λ words said.
          let t = two_words (local_at f x) (local_at f y) words said in
          rw (t.2, local_found x t.0 has.0 t.3, local_found y t.1 has.1 t.4) refl)
      instr_crossed (Binary op x y z) so_far has =
          instr_by (Binary op x y z) so_far (instrs.Binary op) (local_at f x ∷ local_at f y ∷ local_at f z ∷ []) (record { suits = (tt, (tt, (tt, tt))); number = refl })
          (λ words said.
          let t = three_words (local_at f x) (local_at f y) (local_at f z) words said in
          rw (t.3, local_found x t.0 has.0 t.4, local_found y t.1 has.1 t.5, local_found z t.2 has.2 t.6) refl)
      instr_crossed (Load x global) so_far has =
          instr_by (Load x global) so_far instrs.Load (local_at f x ∷ global_at p global ∷ []) (record { suits = (tt, (tt, tt)); number = refl })
          (λ words said.
          let t = two_words (local_at f x) (global_at p global) words said in
          rw (t.2, local_found x t.0 has.0 t.3, global_found global t.1 has.1 t.4) refl)
      instr_crossed (Store global x) so_far has =
          instr_by (Store global x) so_far instrs.Store (global_at p global ∷ local_at f x ∷ []) (record { suits = (tt, (tt, tt)); number = refl })
          (λ words said.
          let t = two_words (global_at p global) (local_at f x) words said in
          rw (t.2, global_found global t.0 has.0 t.3, local_found x t.1 has.1 t.4) refl)
      instr_crossed (LoadX x array i) so_far has =
          instr_by (LoadX x array i) so_far instrs.LoadX (local_at f x ∷ global_at p array ∷ local_at f i ∷ []) (record { suits = (tt, (tt, (tt, tt))); number = refl })
          (λ words said.
          let t = three_words (local_at f x) (global_at p array) (local_at f i) words said in
          rw (t.3, local_found x t.0 has.0 t.4, global_found array t.1 has.1 t.5, local_found i t.2 has.2 t.6) refl)
      instr_crossed (StoreX array i x) so_far has =
          instr_by (StoreX array i x) so_far instrs.StoreX (global_at p array ∷ local_at f i ∷ local_at f x ∷ []) (record { suits = (tt, (tt, (tt, tt))); number = refl })
          (λ words said.
          let t = three_words (global_at p array) (local_at f i) (local_at f x) words said in
          rw (t.3, global_found array t.0 has.0 t.4, local_found i t.1 has.1 t.5, local_found x t.2 has.2 t.6) refl)
      instr_crossed (RefTo x g) so_far has =
          instr_by (RefTo x g) so_far instrs.RefTo (local_at f x ∷ func_at p g ∷ []) (record { suits = (tt, (tt, tt)); number = refl })
          (λ words said.
          let t = two_words (local_at f x) (func_at p g) words said in
          rw (t.2, local_found x t.0 has.0 t.3, func_found g t.1 has.1 t.4) refl)
      instr_crossed (Call x g args) so_far has =
          instr_by (Call x g args) so_far instrs.Call (local_at f x ∷ func_at p g ∷ map (local_at f) args)
          (record { suits = (tt, (tt, args_suit args has.2)); number = args_number args has.2 })
          (λ words said. call_read args has.2 x g words has.0 has.1 said)
      instr_crossed (ICall x y args) so_far has =
          instr_by (ICall x y args) so_far instrs.ICall (local_at f x ∷ local_at f y ∷ map (local_at f) args)
          (record { suits = (tt, (tt, args_suit args has.2)); number = args_number args has.2 })
          (λ words said. icall_read args has.2 x y words has.0 has.1 said)
      instr_crossed (Input x) so_far has =
          instr_by (Input x) so_far instrs.Input (local_at f x ∷ []) (record { suits = (tt, tt); number = refl })
          (λ words said. let t = one_word (local_at f x) words said in rw (t.1, local_found x t.0 has t.2) refl)
      instr_crossed (Output x) so_far has =
          instr_by (Output x) so_far instrs.Output (local_at f x ∷ []) (record { suits = (tt, tt); number = refl })
          (λ words said. let t = one_word (local_at f x) words said in rw (t.1, local_found x t.0 has t.2) refl)

      abbrev behind : List Instr → Term → Bodies
      behind so_far term = filled p done (blocks ++ record { label = label; instrs = so_far; term = term } ∷ []) None []

      term_by : (t : Term) (so_far : List Instr) (form : TermForm) (saids : List Said) → Fits (line.Term form) saids
          → ((words : List TextWord) → AllZip Says words saids → term_of scope form words ≡ Ok t)
          → (lines : Numbered) (more : List Line) → Say lines ((Keyword (term_word form) ∷ saids) ∷ more)
          → Crosses (inside Inside) (inside Behind) (within so_far) (behind so_far t) lines more
      unfolding declare fill term_line term_in
      term_by t so_far form saids fits reads lines more says =
          line_crossed (inside Inside) (inside Behind) (within so_far) (behind so_far t) (line.Term form) saids fits refl
          (λ n words said. (refl, rw (at, reads words said) refl)) lines more says

      pub term_crossed : (t : Term) (so_far : List Instr) → IsTerm f t
          → (lines : Numbered) (more : List Line) → Say lines (grammar.term_line f t ∷ more)
          → Crosses (inside Inside) (inside Behind) (within so_far) (behind so_far t) lines more
      unfolding term_of branch_of
      term_crossed (Jump to) so_far has =
          term_by (Jump to) so_far terms.Jump (block_at f to ∷ []) (record { suits = (tt, tt); number = refl })
          (λ words said. let t = one_word (block_at f to) words said in rw (t.1, block_found to t.0 has t.2) refl)
      term_crossed (Branch x first second) so_far has =
          term_by (Branch x first second) so_far terms.Branch (local_at f x ∷ block_at f first ∷ block_at f second ∷ []) (record { suits = (tt, (tt, (tt, tt))); number = refl })
          (λ words said.
          let t = three_words (local_at f x) (block_at f first) (block_at f second) words said in
          rw (t.3, local_found x t.0 has.0 t.4, block_found first t.1 has.1 t.5, block_found second t.2 has.2 t.6) refl)
      term_crossed (Ret x) so_far has =
          term_by (Ret x) so_far terms.Ret (local_at f x ∷ []) (record { suits = (tt, tt); number = refl })
          (λ words said. let t = one_word (local_at f x) words said in rw (t.1, local_found x t.0 has t.2) refl)
      term_crossed Halt so_far has =
          term_by Halt so_far terms.Halt [] (record { suits = tt; number = refl }) (λ words said. refl)

      -- the instructions, one after the other
      pub instrs_crossed : (so_far todo : List Instr) → AllByRecursion (IsInstr p f) todo
          → (lines : Numbered) (more : List Line) → Say lines (map (grammar.instr_line p f) todo ++ more)
          → Crosses (inside Inside) (inside Inside) (within so_far) (within (so_far ++ todo)) lines more
      instrs_crossed so_far [] has lines more says = rw append-nil (here (inside Inside) (within so_far) lines more says)
      instrs_crossed so_far (i ∷ is) has lines more says =
          onward (instr_crossed i so_far has.0 lines (map (grammar.instr_line p f) is ++ more) says)
          (λ left said. subst (λ (all : List Instr). Crosses (inside Inside) (inside Inside) (within (so_far ++ i ∷ [])) (within all) left more) (append_assoc so_far (i ∷ []) is)
          (instrs_crossed (so_far ++ i ∷ []) is has.1 left more said))

  -- a block, where one may begin
  module _ (done : List Func) (at : slice_get (map head_of p.funcs) (length (map (λ (g : Func). g.blocks) done)) ≡ Some (head_of f)) where
    abbrev so_far_in : List BlockIr → Stage → Outline
    so_far_in blocks stage = in_func p.globals done f f.locals (map label_of blocks) stage

    begun_crossed : (before rest : List BlockIr) (c : BlockIr) (stage : Stage) → ((first : Bool) → stands stage first line.Block ≡ true)
        → IsDistinct have_one_label (before ++ c ∷ rest) → (lines : Numbered) (more : List Line) → Say lines ((Keyword (codes "block") ∷ Named c.label ∷ []) ∷ more)
        → Crosses (so_far_in before stage) (so_far_in (before ++ c ∷ []) Inside) (filled p done before None []) (filled p done before (Some c.label) []) lines more
    unfolding declare block_line fill
    begun_crossed before rest c stage place apart lines more says =
        line_crossed (so_far_in before stage) (so_far_in (before ++ c ∷ []) Inside) (filled p done before None []) (filled p done before (Some c.label) [])
        line.Block (Named c.label ∷ []) (record { suits = (tt, tt); number = refl }) (place _)
        (λ n words said.
        let t = one_word (Named c.label) words said in (
          rw (t.1, t.2.0, name_read c.label t.2.1, name_fresh label_of before c rest apart, map-append label_of before (c ∷ [])) refl,
          rw (t.1, t.2.0, name_read c.label t.2.1) refl,
        )) lines more says

    block_crossed : (before rest : List BlockIr) (c : BlockIr) (stage : Stage) → ((first : Bool) → stands stage first line.Block ≡ true)
        → IsDistinct have_one_label (before ++ c ∷ rest) → IsBlockIr p f c → (lines : Numbered) (more : List Line) → Say lines (grammar.block_lines p f c ++ more)
        → Crosses (so_far_in before stage) (so_far_in (before ++ c ∷ []) Behind) (filled p done before None []) (filled p done (before ++ c ∷ []) None []) lines more
    block_crossed before rest c stage place apart has lines more says =
        let tail : List Line = grammar.term_line f c.term ∷ more in
        let said : Say lines ((Keyword (codes "block") ∷ Named c.label ∷ []) ∷ (map (grammar.instr_line p f) c.instrs ++ tail)) =
        rw (← append_assoc (map (grammar.instr_line p f) c.instrs) (grammar.term_line f c.term ∷ []) more) says in
        let labels : List TextWord = map label_of (before ++ c ∷ []) in
        onward (begun_crossed before rest c stage place apart lines (map (grammar.instr_line p f) c.instrs ++ tail) said)
        (λ left first. onward (instrs_crossed done at labels before c.label [] c.instrs (recursion_from_All (IsInstr p f) c.instrs has.0) left tail first)
        (λ last second. term_crossed done at labels before c.label c.term c.instrs has.1 last more second))

    -- the blocks behind the first
    pub blocks_crossed : (before todo : List BlockIr) → IsDistinct have_one_label (before ++ todo) → AllByRecursion (IsBlockIr p f) todo
        → (lines : Numbered) (more : List Line) → Say lines (flat_map (grammar.block_lines p f) todo ++ more)
        → Crosses (so_far_in before Behind) (so_far_in (before ++ todo) Behind) (filled p done before None []) (filled p done (before ++ todo) None []) lines more
    blocks_crossed before [] apart has lines more says = rw append-nil (here (so_far_in before Behind) (filled p done before None []) lines more says)
    blocks_crossed before (c ∷ cs) apart has lines more says =
        let tail : List Line = flat_map (grammar.block_lines p f) cs ++ more in
        let said : Say lines (grammar.block_lines p f c ++ tail) = rw (← append_assoc (grammar.block_lines p f c) (flat_map (grammar.block_lines p f) cs) more) says in
        let again : IsDistinct have_one_label ((before ++ c ∷ []) ++ cs) = rw (append_assoc before (c ∷ []) cs) apart in
        onward (block_crossed before cs c Behind (λ first. refl) apart has.0 lines tail said)
        (λ left first. subst (λ (all : List BlockIr). Crosses (so_far_in (before ++ c ∷ []) Behind) (so_far_in all Behind) (filled p done (before ++ c ∷ []) None []) (filled p done all None []) left more)
        (append_assoc before (c ∷ []) cs) (blocks_crossed (before ++ c ∷ []) cs again has.1 left more first))

    -- all blocks; there is one
    pub body_crossed : (blocks : List BlockIr) → 1 ≤ length blocks → IsDistinct have_one_label blocks → AllByRecursion (IsBlockIr p f) blocks
        → (lines : Numbered) (more : List Line) → Say lines (flat_map (grammar.block_lines p f) blocks ++ more)
        → Crosses (so_far_in [] Locals) (so_far_in blocks Behind) (filled p done [] None []) (filled p done blocks None []) lines more
    body_crossed [] some apart has lines more says = absurd (omega arith)
    body_crossed (c ∷ cs) some apart has lines more says =
        let tail : List Line = flat_map (grammar.block_lines p f) cs ++ more in
        let said : Say lines (grammar.block_lines p f c ++ tail) = rw (← append_assoc (grammar.block_lines p f c) (flat_map (grammar.block_lines p f) cs) more) says in
        onward (block_crossed [] cs c Locals (λ first. refl) apart has.0 lines tail said)
        (λ left first. blocks_crossed (c ∷ []) cs apart has.1 left more first)

    -- the end of the function
    pub end_crossed : (lines : Numbered) (more : List Line) → Say lines ((Keyword (codes "end") ∷ []) ∷ more)
        → Crosses (so_far_in f.blocks Behind) (with_funcs p.globals (done ++ f ∷ [])) (filled p done f.blocks None []) (filled p (done ++ f ∷ []) [] None []) lines more
    unfolding declare fill
    end_crossed lines more says =
        line_crossed (so_far_in f.blocks Behind) (with_funcs p.globals (done ++ f ∷ [])) (filled p done f.blocks None []) (filled p (done ++ f ∷ []) [] None [])
        line.End [] (record { suits = tt; number = refl }) refl
        (λ n words said. (rw (map-append head_of done (f ∷ [])) refl, rw (map-append (λ (g : Func). g.blocks) done (f ∷ [])) refl)) lines more says
