-- What is left to read says the lines of what is still to come.
use Rattle.std.proofs.Common.{◌≡◌, ℕ, ◌+◌, ◌≤◌, Bool, true, false, List, [], ◌∷◌, ◌++◌, length, take, drop, map, Option, Some, None, Result, Ok, refl, sym, ap, ◌∙◌, subst, append_assoc, arith}
use Rattle.std.specs.{Prelude.bytes_eq, Prelude.codes, Prelude.option_map, List.AllZip, List.AllByRecursion, List.IsDistinct, List.flat_map, List.slice_get, Option.ok_or}
use Rattle.std.proofs.lemmas.{List.append-nil, List.length-append, List.Elements.All-from_recursion}
use Rattle.oat_lines.specs.{Lines.TextWord, Reading.◌>>=◌}
use Rattle.oat_lines.proofs.Steps.{some_is}
use Rattle.oat_ir.specs.{declared.program.Program.Program, declared.program.GlobalItem.GlobalItem, declared.func.Func.Func, declared.func.Role.Role, declared.func.Role.TheVariants.Plain}
use Rattle.oat_ir.specs.{declared.func.Role.TheVariants.Operation, declared.func.Role.TheVariants.Main, declared.func.Local.Local, declared.func.BlockIr.BlockIr, declared.instr.Instr.Instr}
use Rattle.oat_ir.specs.{declared.instr.Term.Term, Indices.IsInstr, Indices.IsTerm, WellFormed.IsGlobal, WellFormed.IsLocal, WellFormed.IsRole, WellFormed.IsBlockIr, WellFormed.IsFunc}
use Rattle.oat_text.specs.{declared.form.InstrForm.InstrForm, declared.form.FuncForm.FuncForm, declared.form.GlobalForm.GlobalForm, declared.form.TermForm.TermForm, declared.head.Head.Head}
use Rattle.oat_text.specs.{declared.head.Stage.Stage, declared.head.Stage.TheVariants.Outside, declared.head.Stage.TheVariants.Locals, declared.head.Stage.TheVariants.Inside}
use Rattle.oat_text.specs.{declared.head.Stage.TheVariants.Behind, declared.fault.TextFaultKind.TheVariants.Unknown, Words.Keyword, Words.Named, Words.Says, Forms.global_word, Forms.func_word}
use Rattle.oat_text.specs.{Forms.instr_word, Forms.term_word, Forms.instr_kinds, Forms.term_kinds, Grammar.Line, Grammar.global_line, Grammar.local_line, Grammar.instr_line, Grammar.term_line}
use Rattle.oat_text.specs.{Grammar.head_line, Grammar.block_lines, Grammar.func_lines, Readings.has_number, Readings.name_at, Outline.Outline, Outline.no_head, Outline.with_locals}
use Rattle.oat_text.specs.{Outline.with_labels, Bodies.Bodies, Bodies.Scope, Bodies.scope_of, Bodies.scope_in, Bodies.instr_in, Bodies.term_in, Bodies.instr_of, Bodies.term_of}
use Rattle.oat_text.proofs.{Lines.Numbered, Lines.Say, Programs.all_append, Crossing.role_operations, Crossing.operations_of, Crossing.head_of, Accepted.AreShaped, Accepted.names_in}
use Rattle.oat_text.proofs.{LinesSay.instr_said, LinesSay.term_said, Declared.BeginsRole, Declared.GlobalTaken, Declared.LocalTaken, Declared.BlockTaken, Declared.FuncTaken, Apart.IsApart}
use Rattle.oat_text.proofs.{Apart.IsApartHead}
use Rattle.oat_text.specs.declared.form.LineForm.TheVariants as line

-- ---- lists

one_of_all : {X : Type 0} (Q : X → Type 0) (front : List X) (x : X) (back : List X) → AllByRecursion Q (front ++ x ∷ back) → Q x
one_of_all Q [] x back all = all.0
one_of_all Q (y ∷ ys) x back all = one_of_all Q ys x back all.1

apart_mapped : {X Y : Type 0} (e : Y → Y → Bool) (f : X → Y) (x : X) (xs : List X) → AllByRecursion (λ y. e (f x) y ≡ false) (map f xs)
    → AllByRecursion (λ y. e (f x) (f y) ≡ false) xs
apart_mapped e f x [] all = tt
apart_mapped e f x (y ∷ ys) all = (all.0, apart_mapped e f x ys all.1)

pub distinct_mapped : {X Y : Type 0} (e : Y → Y → Bool) (f : X → Y) (xs : List X) → IsDistinct e (map f xs) → IsDistinct (λ x y. e (f x) (f y)) xs
unfolding IsDistinct
distinct_mapped e f [] d = tt
distinct_mapped e f (x ∷ xs) d = (apart_mapped e f x xs d.0, distinct_mapped e f xs d.1)

front_taken : {X : Type 0} (xs ys : List X) → (take (length xs) (xs ++ ys) ≡ xs) × (drop (length xs) (xs ++ ys) ≡ ys)
front_taken [] ys = (refl, refl)
front_taken {X = X} (x ∷ xs) ys = let p = front_taken xs ys in (ap (λ (zs : List X). x ∷ zs) p.0, p.1)

parts_of : {X : Type 0} (n : ℕ) (whole xs ys : List X) → n ≡ length xs → whole ≡ xs ++ ys → (take n whole ≡ xs) × (drop n whole ≡ ys)
parts_of n whole xs ys many is = rw (many, is) (front_taken xs ys)

slice_behind : {X : Type 0} (front : List X) (x : X) (back : List X) → slice_get (front ++ x ∷ back) (length front) ≡ Some x
slice_behind [] x back = refl
slice_behind (y ∷ ys) x back = slice_behind ys x back

pushed_first : {X : Type 0} (whole front all : List X) (x : X) (back : List X) → front ++ x ∷ [] ≡ all → whole ≡ all ++ back → whole ≡ front ++ x ∷ back
pushed_first {X = X} whole front all x back new e = e ∙ ap (λ (zs : List X). zs ++ back) (sym new) ∙ append_assoc front (x ∷ []) back

head_as : (words : List TextWord) (r role : Role) (m name : TextWord) (ls params : List Local) → r ≡ role → m ≡ name → ls ≡ params
    → AllZip Says words (head_line role name params) → AllZip Says words (head_line r m ls)
head_as words r role m name ls params same_role same_name same_params says = rw (same_role, same_name, same_params) says

role_is : (f : Func) (role : Role) (name : TextWord) (params : ℕ) → f.name ≡ name → f.params ≡ params → BeginsRole role name params → IsRole role f
role_is f Plain name params named many begins = tt
role_is f (Operation id) name params named many begins = begins
role_is f Main name params named many begins = (named ∙ begins.0, many ∙ begins.1)

-- ---- what is still to come

abbrev pub end_lines : List Line
end_lines = (Keyword (codes "end") ∷ []) ∷ []

-- this outline is the last one, and the program has its names
pub record IsLast (O : Outline) (P : Program) : Type 0 where
  pub globals : P.globals ≡ O.globals
  pub names : map (λ g. g.name) P.funcs ≡ O.funcs
  pub apart : IsApart O
  pub outside : O.stage ≡ Outside

module _ (O : Outline) (B : Bodies) (P : Program) (last : IsLast O P) where
  -- Behind these names, numbers of operations, heads and bodies come the functions that have begun and others, and what is
  -- left says the rest of the former and all of the latter.
  pub record Ahead (names : List TextWord) (ids : List ℕ) (heads : List Head) (ended : List (List BlockIr)) (begun : List Func) (left : Numbered) (coming : List Line) : Type 0 where
    pub funcs : List Func
    pub names_are : O.funcs ≡ names ++ map (λ f. f.name) funcs
    pub ids_are : O.operations ≡ ids ++ operations_of funcs
    pub heads_are : O.heads ≡ heads ++ map head_of (begun ++ funcs)
    pub ended_are : B.ended ≡ ended ++ map (λ f. f.blocks) (begun ++ funcs)
    pub fits : AllByRecursion (IsFunc P) funcs
    pub says : Say left (coming ++ flat_map (func_lines P) funcs)

  -- between functions
  pub record AfterFuncs (o : Outline) (b : Bodies) (left : Numbered) : Type 0 where
    pub globals : List GlobalItem
    pub all : O.globals ≡ o.globals ++ globals
    pub closed : 1 ≤ length o.funcs → globals ≡ []
    pub fits : AllByRecursion IsGlobal globals
    pub ahead : Ahead o.funcs o.operations o.heads b.ended [] left (map global_line globals)

  -- the function that has begun
  pub record IsBegun (name : TextWord) (globals : List GlobalItem) (role : Role) (params : ℕ) (func : Func) : Type 0 where
    pub globals_are : O.globals ≡ globals
    pub named : func.name ≡ name
    pub role_is : func.role ≡ role
    pub params_are : func.params ≡ params

  pub record AfterLocals (name : TextWord) (o : Outline) (b : Bodies) (left : Numbered) : Type 0 where
    pub func : Func
    pub begun : IsBegun name o.globals o.present.role o.present.params func
    pub locals : List Local
    pub all : func.locals ≡ o.present.locals ++ locals
    pub fits : AllByRecursion IsLocal locals
    pub some : 1 ≤ length func.blocks
    pub blocks_fit : AllByRecursion (IsBlockIr P func) func.blocks
    pub ahead : Ahead o.funcs o.operations o.heads b.ended (func ∷ []) left (map local_line locals ++ (flat_map (block_lines P func) func.blocks ++ end_lines))

  pub record AfterInstrs (name : TextWord) (o : Outline) (b : Bodies) (left : Numbered) : Type 0 where
    pub func : Func
    pub begun : IsBegun name o.globals o.present.role o.present.params func
    pub locals_are : func.locals ≡ o.present.locals
    pub label : TextWord
    pub instrs : List Instr
    pub term : Term
    pub blocks : List BlockIr
    pub labelled : b.label ≡ Some label
    pub all : func.blocks ≡ b.blocks ++ (record { label = label; instrs = b.instrs ++ instrs; term = term }) ∷ blocks
    pub instrs_fit : AllByRecursion (IsInstr P func) instrs
    pub term_fits : IsTerm func term
    pub blocks_fit : AllByRecursion (IsBlockIr P func) blocks
    pub ahead : Ahead o.funcs o.operations o.heads b.ended (func ∷ []) left (((map (instr_line P func) instrs ++ (term_line func term ∷ [])) ++ flat_map (block_lines P func) blocks) ++ end_lines)

  pub record AfterBlocks (name : TextWord) (o : Outline) (b : Bodies) (left : Numbered) : Type 0 where
    pub func : Func
    pub begun : IsBegun name o.globals o.present.role o.present.params func
    pub locals_are : func.locals ≡ o.present.locals
    pub blocks : List BlockIr
    pub all : func.blocks ≡ b.blocks ++ blocks
    pub blocks_fit : AllByRecursion (IsBlockIr P func) blocks
    pub ahead : Ahead o.funcs o.operations o.heads b.ended (func ∷ []) left (flat_map (block_lines P func) blocks ++ end_lines)

  abbrev pub After : Stage → TextWord → Outline → Bodies → Numbered → Type 0
  After Outside name o b left = AfterFuncs o b left
  After Locals name o b left = AfterLocals name o b left
  After Inside name o b left = AfterInstrs name o b left
  After Behind name o b left = AfterBlocks name o b left

  -- one line before what is left
  module _ (names : List TextWord) (ids : List ℕ) (heads : List Head) (ended : List (List BlockIr)) (begun : List Func) where
    said_first : (n : ℕ) (words : List TextWord) (line : Line) (left : Numbered) (coming : List Line) → AllZip Says words line
        → Ahead names ids heads ended begun left coming → Ahead names ids heads ended begun ((n, words) ∷ left) (line ∷ coming)
    said_first n words line left coming says ahead = record {
      funcs = ahead.funcs;
      names_are = ahead.names_are;
      ids_are = ahead.ids_are;
      heads_are = ahead.heads_are;
      ended_are = ahead.ended_are;
      fits = ahead.fits;
      says = (says, ahead.says);
    }

  -- ---- lines of declarations

  module _ (n : ℕ) (name : TextWord) (o : Outline) (b : Bodies) (w : TextWord) (words : List TextWord) (left : Numbered) where
    abbrev Whole : Numbered
    Whole = (n, w ∷ words) ∷ left

    spelled_so : (v : TextWord) (line : Line) → w ≡ v → AllZip Says (v ∷ words) line → AllZip Says (w ∷ words) line
    spelled_so v line same says = subst (λ (u : TextWord). AllZip Says (u ∷ words) line) (sym same) says

    pub global_step : (form : GlobalForm) (p : Outline) (t : GlobalTaken o form words p) → w ≡ global_word form → length o.funcs ≡ 0
        → AfterFuncs (record o { globals = t.all }) b left → AfterFuncs o b Whole
    global_step form p t spells none after = record {
      globals = t.item ∷ after.globals;
      all = pushed_first O.globals o.globals t.all t.item after.globals t.new.1 after.all;
      closed = λ some. absurd (omega arith);
      fits = (t.said.1, after.fits);
      ahead = said_first o.funcs o.operations o.heads b.ended [] n (w ∷ words) (global_line t.item) left (map global_line after.globals) (spelled_so (global_word form) (global_line t.item) spells t.said.0) after.ahead;
    }

    pub local_step : (p : Outline) (t : LocalTaken o words p) → w ≡ codes "local" → AfterLocals name (record o { present = with_locals o.present t.all }) b left
        → AfterLocals name o b Whole
    local_step p t spells after = record {
      func = after.func;
      begun = after.begun;
      locals = t.local ∷ after.locals;
      all = pushed_first after.func.locals o.present.locals t.all t.local after.locals t.new.1 after.all;
      fits = (t.fits, after.fits);
      some = after.some;
      blocks_fit = after.blocks_fit;
      ahead = said_first o.funcs o.operations o.heads b.ended (after.func ∷ []) n (w ∷ words) (local_line t.local) left (map local_line after.locals ++ (flat_map (block_lines P after.func) after.func.blocks ++ end_lines)) (spelled_so (codes "local") (local_line t.local) spells t.says) after.ahead;
    }

    -- ---- blocks

    module _ (p : Outline) (t : BlockTaken o words p) (spells : w ≡ codes "block") (fresh : b.instrs ≡ [])
        (after : AfterInstrs name (record o { present = with_labels o.present t.all; stage = Inside }) (record b { label = name_at words 0 }) left) where
      abbrev begun_block : BlockIr
      begun_block = record { label = after.label; instrs = after.instrs; term = after.term }

      same_label : t.label ≡ after.label
      same_label = some_is t.label after.label (sym t.read ∙ after.labelled)

      all_blocks : after.func.blocks ≡ b.blocks ++ begun_block ∷ after.blocks
      all_blocks = after.all ∙ ap (λ (is : List Instr). b.blocks ++ (record { label = after.label; instrs = is ++ after.instrs; term = after.term }) ∷ after.blocks) fresh

      block_fits : AllByRecursion (IsBlockIr P after.func) (begun_block ∷ after.blocks)
      block_fits = ((All-from_recursion (IsInstr P after.func) after.instrs after.instrs_fit, after.term_fits), after.blocks_fit)

      block_ahead : Ahead o.funcs o.operations o.heads b.ended (after.func ∷ []) Whole (flat_map (block_lines P after.func) (begun_block ∷ after.blocks) ++ end_lines)
      block_ahead =
          said_first o.funcs o.operations o.heads b.ended (after.func ∷ []) n (w ∷ words) (Keyword (codes "block") ∷ Named after.label ∷ []) left (((map (instr_line P after.func) after.instrs ++ (term_line after.func after.term ∷ [])) ++ flat_map (block_lines P after.func) after.blocks) ++ end_lines) (spells, subst (λ (l : TextWord). AllZip Says words (Named l ∷ [])) same_label t.says) after.ahead

      pub next_block : AfterBlocks name o b Whole
      next_block = record {
        func = after.func;
        begun = after.begun;
        locals_are = after.locals_are;
        blocks = begun_block ∷ after.blocks;
        all = all_blocks;
        blocks_fit = block_fits;
        ahead = block_ahead;
      }

      pub first_block : b.blocks ≡ [] → AfterLocals name o b Whole
      first_block none =
          let whole : after.func.blocks ≡ begun_block ∷ after.blocks = all_blocks ∙ ap (λ (bs : List BlockIr). bs ++ begun_block ∷ after.blocks) none in
          record {
            func = after.func;
            begun = after.begun;
            locals = [];
            all = after.locals_are ∙ sym (append-nil o.present.locals);
            fits = tt;
            some = subst (λ (bs : List BlockIr). 1 ≤ length bs) (sym whole) (omega arith);
            blocks_fit = subst (AllByRecursion (IsBlockIr P after.func)) (sym whole) block_fits;
            ahead = subst (λ (bs : List BlockIr). Ahead o.funcs o.operations o.heads b.ended (after.func ∷ []) Whole (flat_map (block_lines P after.func) bs ++ end_lines)) (sym whole) block_ahead;
          }

    -- ---- the end of a function

    pub end_step : w ≡ codes "end" → words ≡ [] → 1 ≤ length o.funcs → o.present.labels ≡ map (λ c. c.label) b.blocks
        → AfterFuncs (record o { heads = o.heads ++ o.present ∷ []; present = no_head; stage = Outside }) (record b { ended = b.ended ++ b.blocks ∷ []; blocks = [] }) left
        → AfterBlocks name o b Whole
    end_step spells bare some labels after =
        let ahead = after.ahead in
        let none = after.closed some in
        let func : Func = record { name = name; role = o.present.role; params = o.present.params; locals = o.present.locals; blocks = b.blocks } in
        let head : o.present ≡ head_of func = ap (with_labels o.present) labels in
        record {
          func = func;
          begun = record {
            globals_are = after.all ∙ ap (λ (gs : List GlobalItem). o.globals ++ gs) none ∙ append-nil o.globals;
            named = refl;
            role_is = refl;
            params_are = refl;
          };
          locals_are = refl;
          blocks = [];
          all = sym (append-nil b.blocks);
          blocks_fit = tt;
          ahead = record {
            funcs = ahead.funcs;
            names_are = ahead.names_are;
            ids_are = ahead.ids_are;
            heads_are = pushed_first O.heads o.heads (o.heads ++ head_of func ∷ []) (head_of func) (map head_of ahead.funcs) refl (ahead.heads_are ∙ ap (λ (h : Head). (o.heads ++ h ∷ []) ++ map head_of ahead.funcs) head);
            ended_are = pushed_first B.ended b.ended (b.ended ++ b.blocks ∷ []) b.blocks (map (λ f. f.blocks) ahead.funcs) refl ahead.ended_are;
            fits = ahead.fits;
            says = (spelled_so (codes "end") (Keyword (codes "end") ∷ []) spells (subst (λ (ws : List TextWord). AllZip Says (codes "end" ∷ ws) (Keyword (codes "end") ∷ [])) (sym bare) (refl, tt)), subst (λ (gs : List GlobalItem). Say left (map global_line gs ++ flat_map (func_lines P) ahead.funcs)) none ahead.says);
          };
        }

    -- ---- instructions and terminators

    names_of : (func : Func) → scope_of O (head_of func) ≡ names_in P func
    names_of func =
        ap (λ (gs : List GlobalItem). record { globals = gs; funcs = O.funcs; locals = func.locals; labels = map (λ c. c.label) func.blocks }) (sym last.globals)
        ∙ ap (λ (ns : List TextWord). record { globals = P.globals; funcs = ns; locals = func.locals; labels = map (λ c. c.label) func.blocks }) (sym last.names)

    scope_is : (func : Func) (more : List Head) → b.outline ≡ O → length b.ended ≡ length o.heads → O.heads ≡ o.heads ++ head_of func ∷ more
        → scope_in b ≡ Ok (names_in P func)
    scope_is func more outline many heads =
        let found : slice_get O.heads (length b.ended) ≡ Some (head_of func) = rw (many, heads) (slice_behind o.heads (head_of func) more) in
        let here : scope_in b ≡ ok_or (option_map (scope_of O) (slice_get O.heads (length b.ended))) Unknown = ap (λ (u : Outline). ok_or (option_map (scope_of u) (slice_get u.heads (length b.ended))) Unknown) outline in
        here ∙ ap (λ (h : Option Head). ok_or (option_map (scope_of O) h) Unknown) found ∙ ap Ok (names_of func)

    instr_read : (func : Func) (form : InstrForm) (instr : Instr) → scope_in b ≡ Ok (names_in P func) → instr_in b form words ≡ Ok instr
        → instr_of (names_in P func) form words ≡ Ok instr
    unfolding instr_in
    instr_read func form instr scope e = sym (ap (λ (r : Result Scope _). r >>= λ s. instr_of s form words) scope) ∙ e

    term_read : (func : Func) (form : TermForm) (term : Term) → scope_in b ≡ Ok (names_in P func) → term_in b form words ≡ Ok term
        → term_of (names_in P func) form words ≡ Ok term
    unfolding term_in
    term_read func form term scope e = sym (ap (λ (r : Result Scope _). r >>= λ s. term_of s form words) scope) ∙ e

    pub instr_step : (form : InstrForm) (instr : Instr) → w ≡ instr_word form → has_number (line.Instr form) words ≡ true → AreShaped (instr_kinds form) words
        → instr_in b form words ≡ Ok instr → b.outline ≡ O → length b.ended ≡ length o.heads
        → AfterInstrs name o (record b { instrs = b.instrs ++ instr ∷ [] }) left → AfterInstrs name o b Whole
    instr_step form instr spells number shaped e outline many after =
        let ahead = after.ahead in
        let scope = scope_is after.func (map head_of ahead.funcs) outline many ahead.heads_are in
        let said = instr_said P after.func form words instr number shaped (instr_read after.func form instr scope e) in
        record {
          func = after.func;
          begun = after.begun;
          locals_are = after.locals_are;
          label = after.label;
          instrs = instr ∷ after.instrs;
          term = after.term;
          blocks = after.blocks;
          labelled = after.labelled;
          all = after.all ∙ ap (λ (is : List Instr). b.blocks ++ (record { label = after.label; instrs = is; term = after.term }) ∷ after.blocks) (append_assoc b.instrs (instr ∷ []) after.instrs);
          instrs_fit = (said.1, after.instrs_fit);
          term_fits = after.term_fits;
          blocks_fit = after.blocks_fit;
          ahead = said_first o.funcs o.operations o.heads b.ended (after.func ∷ []) n (w ∷ words) (instr_line P after.func instr) left (((map (instr_line P after.func) after.instrs ++ (term_line after.func after.term ∷ [])) ++ flat_map (block_lines P after.func) after.blocks) ++ end_lines) (spelled_so (instr_word form) (instr_line P after.func instr) spells said.0) ahead;
        }

    pub term_step : (form : TermForm) (term : Term) (label : TextWord) → w ≡ term_word form → has_number (line.Term form) words ≡ true → AreShaped (term_kinds form) words
        → term_in b form words ≡ Ok term → b.label ≡ Some label → b.outline ≡ O → length b.ended ≡ length o.heads
        → AfterBlocks name (record o { stage = Behind }) (record b { blocks = b.blocks ++ (record { label = label; instrs = b.instrs; term = term }) ∷ []; label = None; instrs = [] }) left
        → AfterInstrs name o b Whole
    term_step form term label spells number shaped e labelled outline many after =
        let ahead = after.ahead in
        let scope = scope_is after.func (map head_of ahead.funcs) outline many ahead.heads_are in
        let said = term_said P after.func form words term number shaped (term_read after.func form term scope e) in
        let block : BlockIr = record { label = label; instrs = b.instrs; term = term } in
        record {
          func = after.func;
          begun = after.begun;
          locals_are = after.locals_are;
          label = label;
          instrs = [];
          term = term;
          blocks = after.blocks;
          labelled = labelled;
          all = pushed_first after.func.blocks b.blocks (b.blocks ++ block ∷ []) block after.blocks refl after.all ∙ ap (λ (is : List Instr). b.blocks ++ (record { label = label; instrs = is; term = term }) ∷ after.blocks) (sym (append-nil b.instrs));
          instrs_fit = tt;
          term_fits = said.1;
          blocks_fit = after.blocks_fit;
          ahead = said_first o.funcs o.operations o.heads b.ended (after.func ∷ []) n (w ∷ words) (term_line after.func term) left (flat_map (block_lines P after.func) after.blocks ++ end_lines) (spelled_so (term_word form) (term_line after.func term) spells said.0) ahead;
        }

    -- ---- the beginning of a function

    module _ (form : FuncForm) (p : Outline) (t : FuncTaken o form words p) (spells : w ≡ func_word form)
        (after : AfterLocals t.name (record o { operations = o.operations ++ role_operations t.role; funcs = t.names; present = record { role = t.role; params = length t.locals; locals = t.locals; labels = [] }; stage = Locals }) b left) where
      abbrev func : Func
      func = after.func

      head_apart : IsApartHead (head_of func)
      head_apart = one_of_all IsApartHead o.heads (head_of func) (map head_of after.ahead.funcs) (subst (AllByRecursion IsApartHead) after.ahead.heads_are last.apart.heads)

      func_fits : IsFunc P func
      func_fits =
          let few = t.few in
          let many : length func.locals ≡ length t.locals + length after.locals = ap length after.all ∙ length-append t.locals after.locals in
          let params : func.params ≡ length t.locals = after.begun.params_are in
          record {
            role = subst (λ (r : Role). IsRole r func) (sym after.begun.role_is) (role_is func t.role t.name (length t.locals) after.begun.named params t.begins);
            few_params = omega arith;
            params_first = omega arith;
            locals = All-from_recursion IsLocal func.locals (subst (AllByRecursion IsLocal) (sym after.all) (all_append IsLocal t.locals after.locals t.fits after.fits));
            local_names = head_apart.locals;
            begun = after.some;
            labels = distinct_mapped bytes_eq (λ (c : BlockIr). c.label) func.blocks head_apart.labels;
            blocks = All-from_recursion (IsBlockIr P func) func.blocks after.blocks_fit;
          }

      parts : (take func.params func.locals ≡ t.locals) × (drop func.params func.locals ≡ after.locals)
      parts = parts_of func.params func.locals t.locals after.locals after.begun.params_are after.all

      head_said : AllZip Says (w ∷ words) (head_line func.role func.name (take func.params func.locals))
      head_said = head_as (w ∷ words) func.role t.role func.name t.name (take func.params func.locals) t.locals after.begun.role_is after.begun.named parts.0 (spelled_so (func_word form) (head_line t.role t.name t.locals) spells t.says)

      rest_said : Say left ((map local_line (drop func.params func.locals) ++ (flat_map (block_lines P func) func.blocks ++ end_lines)) ++ flat_map (func_lines P) after.ahead.funcs)
      rest_said = subst (λ (ls : List Local). Say left ((map local_line ls ++ (flat_map (block_lines P func) func.blocks ++ end_lines)) ++ flat_map (func_lines P) after.ahead.funcs)) (sym parts.1) after.ahead.says

      pub func_step : AfterFuncs o b Whole
      func_step =
          let ahead = after.ahead in
          let funcs = ahead.funcs in
          record {
            globals = [];
            all = after.begun.globals_are ∙ sym (append-nil o.globals);
            closed = λ some. refl;
            fits = tt;
            ahead = record {
              funcs = func ∷ funcs;
              names_are = pushed_first O.funcs o.funcs t.names t.name (map (λ f. f.name) funcs) t.new.1 ahead.names_are ∙ ap (λ (nm : TextWord). o.funcs ++ nm ∷ map (λ f. f.name) funcs) (sym after.begun.named);
              ids_are = ahead.ids_are ∙ append_assoc o.operations (role_operations t.role) (operations_of funcs) ∙ ap (λ (r : Role). o.operations ++ (role_operations r ++ operations_of funcs)) (sym after.begun.role_is);
              heads_are = ahead.heads_are;
              ended_are = ahead.ended_are;
              fits = (func_fits, ahead.fits);
              says = (head_said, rest_said);
            };
          }
