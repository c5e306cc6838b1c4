-- What the two passes make of the lines that declare: globals, the head of a function, and its locals.
use Rattle.std.proofs.Common.{◌≡◌, ℕ, suc, ◌≤◌, true, false, eqb, List, [], ◌∷◌, ◌++◌, length, map, take, drop, Ok, refl, sym, ap, ◌∙◌, subst, append_assoc, arith}
use Rattle.std.specs.{Prelude.codes, Prelude.bytes_eq, List.AllByRecursion, List.AllZip, List.IsDistinct, List.list_any}
use Rattle.std.proofs.lemmas.{Bool.eqb-false, Bool.le-leb, Bool.ne_eqb, List.append-nil, List.length-map, List.length-take-le, List.map-append, List.take-append-drop}
use Rattle.oat_lines.specs.{Lines.TextWord, Reading.between}
use Rattle.oat_ir.specs.{declared.program.GlobalItem.GlobalItem, declared.program.GlobalItem.TheVariants.Scalar, declared.program.GlobalItem.TheVariants.FnScalar}
use Rattle.oat_ir.specs.{declared.program.GlobalItem.TheVariants.Array, declared.program.GlobalItem.TheVariants.CriticalArray, declared.func.Func.Func, declared.func.Role.Role}
use Rattle.oat_ir.specs.{declared.func.Role.TheVariants.Plain, declared.func.Role.TheVariants.Operation, declared.func.Role.TheVariants.Main, declared.func.Local.Local, declared.func.BlockIr.BlockIr}
use Rattle.oat_ir.specs.{Distinct.global_name, Distinct.are_one_global, Distinct.have_one_name, Distinct.are_one_operation, Distinct.have_one_operation, Distinct.are_one_local, WellFormed.IsGlobal}
use Rattle.oat_ir.specs.{WellFormed.IsLocal, WellFormed.IsRole}
use Rattle.oat_text.specs.{declared.form.GlobalForm.GlobalForm, declared.form.WordKind.WordKind, declared.head.Head.Head, declared.head.Stage.Stage, declared.head.Stage.TheVariants.Outside}
use Rattle.oat_text.specs.{declared.head.Stage.TheVariants.Locals, Words.Said, Words.Named, Words.Typed, Words.Number, Words.Integer, Words.Says, Grammar.Line, Grammar.parameter, Grammar.head_line}
use Rattle.oat_text.specs.{Passes.each, Outline.Outline, Outline.no_head, Outline.global_in, Outline.global_of, Outline.scalar_of, Outline.add_parameter, Outline.add_parameters, Outline.local_name}
use Rattle.oat_text.specs.{Outline.begin_func, Outline.begin_operation, Outline.plain_line, Outline.operation_line, Outline.func_line, Outline.global_line, Outline.local_line, Outline.declare}
use Rattle.oat_text.specs.{Bodies.Bodies, Bodies.fill}
use Rattle.oat_text.proofs.{Finding.alike, Finding.fresh, Lines.Numbered, Lines.Say, Lines.Crosses, Lines.line_crossed, Lines.more_words, Lines.two_words, Spoken.Suits, Spoken.AllSuit}
use Rattle.oat_text.proofs.{Spoken.name_read, Spoken.params_read, Spoken.ty_read, Spoken.parameter_read, Spoken.integer_read, Spoken.count_read, Tables.any_mapped}
use Rattle.oat_ir.specs.declared.func.Ty.TheVariants as ty
use Rattle.oat_text.specs.declared.form.LineForm.TheVariants as line
use Rattle.oat_text.specs.declared.form.GlobalForm.TheVariants as globals
use Rattle.oat_text.specs.declared.form.FuncForm.TheVariants as funcs
use Rattle.oat_text.specs.declared.form.WordKind.TheVariants as kind
use Rattle.oat_text.specs.Grammar as grammar

-- ---- words

pub is_between : (low high n : ℕ) → low ≤ n → n ≤ high → between low high n ≡ true
is_between low high n above below = rw (le-leb low n above, le-leb n high below) refl

-- up to four words of one kind
pub four_suit : (k : WordKind) (saids : List Said) → AllByRecursion (Suits k) saids → length saids ≤ 4 → AllSuit (k ∷ k ∷ k ∷ k ∷ []) saids
four_suit k [] all few = tt
four_suit k (a ∷ []) all few = (all.0, tt)
four_suit k (a ∷ b ∷ []) all few = (all.0, (all.1.0, tt))
four_suit k (a ∷ b ∷ c ∷ []) all few = (all.0, (all.1.0, (all.1.1.0, tt)))
four_suit k (a ∷ b ∷ c ∷ d ∷ []) all few = (all.0, (all.1.0, (all.1.1.0, (all.1.1.1.0, tt))))
four_suit k (a ∷ b ∷ c ∷ d ∷ e ∷ rest) all few = absurd (omega arith)

-- a name that none of those before has
pub name_fresh : {X : Type 0} (called : X → TextWord) (done : List X) (item : X) (rest : List X) → IsDistinct (alike called) (done ++ item ∷ rest)
    → list_any (bytes_eq (called item)) (map called done) ≡ false
name_fresh called done item rest d = sym (any_mapped (bytes_eq (called item)) called done) ∙ fresh called done item rest d

-- ---- outlines

-- the numbers of the operations among them
abbrev pub role_operations : Role → List ℕ
role_operations (Operation id) = id ∷ []
role_operations _ = []

abbrev pub operations_of : List Func → List ℕ
operations_of [] = []
operations_of (f ∷ fs) = role_operations f.role ++ operations_of fs

abbrev pub name_of : Func → TextWord
name_of f = f.name

abbrev pub label_of : BlockIr → TextWord
label_of b = b.label

abbrev pub head_of : Func → Head
head_of f = record { role = f.role; params = f.params; locals = f.locals; labels = map label_of f.blocks }

-- these functions have ended
abbrev pub with_funcs : List GlobalItem → List Func → Outline
with_funcs globals done = record { globals = globals; operations = operations_of done; funcs = map name_of done; heads = map head_of done; present = no_head; stage = Outside }

-- a function has begun behind these
abbrev pub in_func : List GlobalItem → List Func → Func → List Local → List TextWord → Stage → Outline
in_func globals done f locals labels stage = record {
  globals = globals;
  operations = operations_of (done ++ f ∷ []);
  funcs = map name_of (done ++ f ∷ []);
  heads = map head_of done;
  present = record { role = f.role; params = f.params; locals = locals; labels = labels };
  stage = stage;
}

-- ---- globals

global_read : (form : GlobalForm) (g : GlobalItem) (name w x : TextWord) → Says w (Named name) → global_of form name x ≡ Ok g
    → global_in form (w ∷ x ∷ []) ≡ Ok g
unfolding global_in
global_read form g name w x says is = rw (says.0, name_read name says.1, is) refl

module _ (done rest : List GlobalItem) (g : GlobalItem) (b : Bodies) (d : IsDistinct are_one_global (done ++ g ∷ rest)) where
  global_steps : (form : GlobalForm) (n : ℕ) (words : List TextWord) → global_in form words ≡ Ok g
      → (declare n (with_funcs done []) (line.Global form) words ≡ Ok (with_funcs (done ++ g ∷ []) [])) × (fill n b (line.Global form) words ≡ Ok b)
  unfolding declare global_line fill
  global_steps form n words is = (rw (is, fresh global_name done g rest d) refl, refl)

  global_by : (form : GlobalForm) (name : TextWord) (s : Said) → ((x : TextWord) → Says x s → global_of form name x ≡ Ok g)
      → (n : ℕ) (words : List TextWord) → AllZip Says words (Named name ∷ s ∷ [])
      → (declare n (with_funcs done []) (line.Global form) words ≡ Ok (with_funcs (done ++ g ∷ []) [])) × (fill n b (line.Global form) words ≡ Ok b)
  global_by form name s of n words said =
      let t = two_words (Named name) s words said in
      global_steps form n words (rw t.2 (global_read form g name t.0 t.1 t.3 (of t.1 t.4)))

pub global_crossed : (done rest : List GlobalItem) (g : GlobalItem) (b : Bodies) → IsDistinct are_one_global (done ++ g ∷ rest) → IsGlobal g
    → (lines : Numbered) (more : List Line) → Say lines (grammar.global_line g ∷ more) → Crosses (with_funcs done []) (with_funcs (done ++ g ∷ []) []) b b lines more
unfolding scalar_of global_of
global_crossed done rest (Scalar name start true) b d fits lines more says =
    line_crossed (with_funcs done []) (with_funcs (done ++ Scalar name start true ∷ []) []) b b (line.Global globals.Critical) (Named name ∷ Integer start ∷ [])
    (record { suits = (tt, (tt, tt)); number = refl }) refl
    (global_by done rest (Scalar name start true) b d globals.Critical name (Integer start) (λ x s. rw (integer_read x start s.0 s.1).0 refl)) lines more says
global_crossed done rest (Scalar name start false) b d fits lines more says =
    line_crossed (with_funcs done []) (with_funcs (done ++ Scalar name start false ∷ []) []) b b (line.Global globals.Plain) (Named name ∷ Integer start ∷ [])
    (record { suits = (tt, (tt, tt)); number = refl }) refl
    (global_by done rest (Scalar name start false) b d globals.Plain name (Integer start)
    (λ x s. rw ((integer_read x start s.0 s.1).2, (integer_read x start s.0 s.1).0) refl)) lines more says
global_crossed done rest (FnScalar name params) b d fits lines more says =
    line_crossed (with_funcs done []) (with_funcs (done ++ FnScalar name params ∷ []) []) b b (line.Global globals.Plain) (Named name ∷ Typed (ty.Fn params) ∷ [])
    (record { suits = (tt, (fits, tt)); number = refl }) refl
    (global_by done rest (FnScalar name params) b d globals.Plain name (Typed (ty.Fn params)) (λ x s. rw (s, params_read params fits) refl)) lines more says
global_crossed done rest (Array name len) b d fits lines more says =
    line_crossed (with_funcs done []) (with_funcs (done ++ Array name len ∷ []) []) b b (line.Global globals.Array) (Named name ∷ Number len ∷ [])
    (record { suits = (tt, (fits, tt)); number = refl }) refl
    (global_by done rest (Array name len) b d globals.Array name (Number len) (λ x s. rw (count_read 65536 len x s fits.0 fits.1).0 refl)) lines more says
global_crossed done rest (CriticalArray name len) b d fits lines more says =
    line_crossed (with_funcs done []) (with_funcs (done ++ CriticalArray name len ∷ []) []) b b (line.Global globals.Criticals) (Named name ∷ Number len ∷ [])
    (record { suits = (tt, (fits, tt)); number = refl }) refl
    (global_by done rest (CriticalArray name len) b d globals.Criticals name (Number len) (λ x s. rw (count_read 4096 len x s fits.0 fits.1).0 refl)) lines more says

-- ---- parameters

params_added : (n : ℕ) (done params rest : List Local) (words : List TextWord) → AllZip Says words (map parameter params)
    → AllByRecursion IsLocal params → IsDistinct are_one_local (done ++ (params ++ rest)) → add_parameters n done words ≡ Ok (done ++ params)
unfolding each add_parameter
params_added n done [] rest [] says fits d = rw append-nil refl
params_added n done [] rest (w ∷ ws) says fits d = absurd says
params_added n done (p ∷ ps) rest [] says fits d = absurd says
params_added n done (p ∷ ps) rest (w ∷ ws) says fits d =
    let one : add_parameter n done w ≡ Ok (done ++ p ∷ []) =
    rw (says.0.0, (parameter_read p.name p.ty says.0.1 fits.0).0, fresh local_name done p (ps ++ rest) d) refl in
    let again : IsDistinct are_one_local ((done ++ p ∷ []) ++ (ps ++ rest)) = rw (append_assoc done (p ∷ []) (ps ++ rest)) d in
    rw one (params_added n (done ++ p ∷ []) ps rest ws says.1 fits.1 again ∙ ap Ok (append_assoc done (p ∷ []) ps))

-- ---- operations

operation_apart : (r : Role) (id : ℕ) (os : List ℕ) → are_one_operation r (Operation id) ≡ false → list_any (λ o. eqb id o) os ≡ false
    → list_any (λ o. eqb id o) (role_operations r ++ os) ≡ false
operation_apart Plain id os apart more = more
operation_apart (Operation other) id os apart more = rw (ne_eqb id other (λ e. eqb-false other id apart (sym e)), more) refl
operation_apart Main id os apart more = more

head_apart : (g f : Func) (gs rest : List Func) → AllByRecursion (λ h. have_one_operation g h ≡ false) (gs ++ f ∷ rest) → have_one_operation g f ≡ false
head_apart g f [] rest all = all.0
head_apart g f (h ∷ hs) rest all = head_apart g f hs rest all.1

operation_fresh : (done : List Func) (f : Func) (rest : List Func) (id : ℕ) → f.role ≡ Operation id → IsDistinct have_one_operation (done ++ f ∷ rest)
    → list_any (λ o. eqb id o) (operations_of done) ≡ false
unfolding IsDistinct
operation_fresh [] f rest id is d = refl
operation_fresh (g ∷ gs) f rest id is d =
    operation_apart g.role id (operations_of gs) (subst (λ (r : Role). are_one_operation g.role r ≡ false) is (head_apart g f gs rest d.0))
    (operation_fresh gs f rest id is d.1)

operations_last : (done : List Func) (f : Func) → operations_of (done ++ f ∷ []) ≡ operations_of done ++ role_operations f.role
operations_last [] f = append-nil (role_operations f.role)
operations_last (g ∷ gs) f = ap (λ (os : List ℕ). role_operations g.role ++ os) (operations_last gs f) ∙ sym (append_assoc (role_operations g.role) (operations_of gs) (role_operations f.role))

-- ---- heads

parameters_suit : (params : List Local) → AllByRecursion IsLocal params → AllByRecursion (Suits kind.Parameter) (map parameter params)
parameters_suit [] fits = tt
parameters_suit (p ∷ ps) fits = (fits.0, parameters_suit ps fits.1)

module _ (globals : List GlobalItem) (done rest : List Func) (f : Func) (names : IsDistinct have_one_name (done ++ f ∷ rest))
    (fits : AllByRecursion IsLocal (take f.params f.locals)) (locals : IsDistinct are_one_local f.locals) (few : f.params ≤ 4) (first : f.params ≤ length f.locals) where
  abbrev opened : List ℕ → Outline
  opened operations = record { globals = globals; operations = operations; funcs = map name_of done; heads = map head_of done; present = no_head; stage = Outside }

  abbrev params : List Local
  params = take f.params f.locals

  few_said : length (map parameter params) ≤ 4
  few_said = omega (arith, length-map params parameter, length-take-le f.params f.locals first)

  abbrev begun : Outline
  begun = in_func globals done f params [] Locals

  func_begun : (n : ℕ) (role : Role) (operations : List ℕ) (words : List TextWord) → f.role ≡ role → operations ≡ operations_of (done ++ f ∷ [])
      → AllZip Says words (map parameter params) → begin_func n (opened operations) role f.name words ≡ Ok begun
  unfolding begin_func
  func_begun n role operations words is numbers says =
      let apart : IsDistinct are_one_local ([] ++ (params ++ drop f.params f.locals)) = rw take-append-drop locals in
      rw (name_fresh name_of done f rest names, params_added n [] params (drop f.params f.locals) words says fits apart, numbers, map-append name_of done (f ∷ []), length-take-le f.params f.locals first, is) refl

  no_operation : (role : Role) → f.role ≡ role → role_operations role ≡ [] → operations_of done ≡ operations_of (done ++ f ∷ [])
  no_operation role is none = sym (operations_last done f ∙ rw (is, none, append-nil) refl)

  plain_declared : (n : ℕ) (words : List TextWord) → f.role ≡ Plain → AllZip Says words (Named f.name ∷ map parameter params)
      → declare n (with_funcs globals done) (line.Func funcs.Plain) words ≡ Ok begun
  unfolding declare func_line plain_line
  plain_declared n words is said =
      let t = more_words (Named f.name) (map parameter params) words said in
      rw (t.2, t.3.0, name_read f.name t.3.1) (func_begun n Plain (operations_of done) t.1 is (no_operation Plain is refl) t.4)

  main_declared : (n : ℕ) (words : List TextWord) → f.role ≡ Main → f.name ≡ codes "main" → f.params ≡ 0 → AllZip Says words []
      → declare n (with_funcs globals done) (line.Func funcs.Main) words ≡ Ok begun
  unfolding declare func_line
  main_declared n words is main none said =
      let nothing : params ≡ [] = rw none refl in
      let says : AllZip Says words (map parameter params) = rw nothing said in
      rw (← main) (func_begun n Main (operations_of done) words is (no_operation Main is refl) says)

  operation_declared : (n id : ℕ) (words : List TextWord) → f.role ≡ Operation id → 1 ≤ id → id ≤ 65535 → IsDistinct have_one_operation (done ++ f ∷ rest)
      → AllZip Says words (Number id ∷ Named f.name ∷ map parameter params)
      → declare n (with_funcs globals done) (line.Func funcs.Operation) words ≡ Ok begun
  unfolding declare func_line operation_line begin_operation
  operation_declared n id words is low high apart said =
      let t = more_words (Number id) (Named f.name ∷ map parameter params) words said in
      let u = more_words (Named f.name) (map parameter params) t.1 t.4 in
      let numbers : operations_of done ++ id ∷ [] ≡ operations_of (done ++ f ∷ []) = sym (operations_last done f ∙ rw is refl) in
      rw (t.2, (count_read 65535 id t.0 t.3 low high).0, u.2, u.3.0, name_read f.name u.3.1, operation_fresh done f rest id is apart)
      (func_begun n (Operation id) (operations_of done ++ id ∷ []) u.1 is numbers u.4)

  params_suit : AllSuit (kind.Parameter ∷ kind.Parameter ∷ kind.Parameter ∷ kind.Parameter ∷ []) (map parameter params)
  params_suit = four_suit kind.Parameter (map parameter params) (parameters_suit params fits) few_said

  -- the head of a function
  pub head_crossed : (b : Bodies) (role : Role) → f.role ≡ role → IsRole role f → IsDistinct have_one_operation (done ++ f ∷ rest)
      → (lines : Numbered) (more : List Line) → Say lines (head_line role f.name params ∷ more) → Crosses (with_funcs globals done) begun b b lines more
  unfolding fill
  head_crossed b Plain is fits apart lines more says =
      line_crossed (with_funcs globals done) begun b b (line.Func funcs.Plain) (Named f.name ∷ map parameter params)
      (record { suits = (tt, params_suit); number = is_between 1 5 (suc (length (map parameter params))) (omega arith) (let few = few_said in omega arith) }) refl
      (λ n words said. (plain_declared n words is said, refl)) lines more says
  head_crossed b (Operation id) is fits apart lines more says =
      line_crossed (with_funcs globals done) begun b b (line.Func funcs.Operation) (Number id ∷ Named f.name ∷ map parameter params)
      (record { suits = (fits, (tt, params_suit)); number = is_between 2 6 (suc (suc (length (map parameter params)))) (omega arith) (let few = few_said in omega arith) }) refl
      (λ n words said. (operation_declared n id words is fits.0 fits.1 apart said, refl)) lines more says
  head_crossed b Main is fits apart lines more says =
      line_crossed (with_funcs globals done) begun b b (line.Func funcs.Main) []
      (record { suits = tt; number = refl }) refl
      (λ n words said. (main_declared n words is fits.0 fits.1 said, refl)) lines more says

-- ---- locals

pub local_crossed : (globals : List GlobalItem) (done : List Func) (f : Func) (so_far rest : List Local) (l : Local) (b : Bodies)
    → IsDistinct are_one_local (so_far ++ l ∷ rest) → IsLocal l → (lines : Numbered) (more : List Line) → Say lines (grammar.local_line l ∷ more)
    → Crosses (in_func globals done f so_far [] Locals) (in_func globals done f (so_far ++ l ∷ []) [] Locals) b b lines more
unfolding declare local_line fill
local_crossed globals done f so_far rest l b apart fits lines more says =
    line_crossed (in_func globals done f so_far [] Locals) (in_func globals done f (so_far ++ l ∷ []) [] Locals) b b line.Local (Named l.name ∷ Typed l.ty ∷ [])
    (record { suits = (tt, (fits, tt)); number = refl }) refl
    (λ n words said.
    let t = two_words (Named l.name) (Typed l.ty) words said in
    (rw (t.2, t.3.0, name_read l.name t.3.1, t.4, (ty_read l.ty fits).0, fresh local_name so_far l rest apart) refl, refl)) lines more says
