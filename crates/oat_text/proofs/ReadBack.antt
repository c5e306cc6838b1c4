-- A text of a program is read, and gives the program.
use Rattle.std.proofs.Common.{◌≡◌, ℕ, ◌<◌, List, [], ◌∷◌, ◌++◌, length, map, take, drop, Ok, refl, sym, ap, ◌∙◌, subst, append_assoc, arith}
use Rattle.std.specs.{Prelude.codes, Prelude.Some, Prelude.None, Prelude.slice_get, Prelude.zip, List.AllByRecursion, List.IsDistinct, List.flat_map}
use Rattle.std.proofs.Math.Seq.{get_or-append_seam}
use Rattle.std.proofs.lemmas.{List.append-nil, List.length-append, List.length-map, List.map-append, List.take-append-drop, Option.slice_get_read, List.Elements.recursion_from_All}
use Rattle.oat_lines.specs.{Faults.Gives, Lines.lines_of}
use Rattle.oat_ir.specs.{declared.program.Program.Program, declared.program.GlobalItem.GlobalItem, declared.func.Func.Func, declared.func.Local.Local, Distinct.are_one_global, Distinct.have_one_name}
use Rattle.oat_ir.specs.{Distinct.have_one_operation, Distinct.are_one_local, WellFormed.IsGlobal, WellFormed.IsLocal, WellFormed.IsBlockIr, WellFormed.IsFunc, WellFormed.IsProgram}
use Rattle.oat_text.specs.{declared.head.Stage.TheVariants.Locals, Words.Keyword, Grammar.IsProgramText, Grammar.program_text, Grammar.Line, Grammar.local_line, Grammar.block_lines}
use Rattle.oat_text.specs.{Grammar.func_lines, Grammar.global_line, Grammar.program_lines, Laws.TextIsRead, Laws.PrintedIsRead, Passes.OrFault, Passes.numbered, Passes.each, Outline.nothing}
use Rattle.oat_text.specs.{Outline.outline_of, Bodies.program_of, Bodies.Bodies, Bodies.bodies_of, Bodies.func_from}
use Rattle.oat_text.proofs.{Crossing.name_of, Crossing.head_of, Crossing.with_funcs, Crossing.in_func, Crossing.global_crossed, Crossing.head_crossed, Crossing.local_crossed, Filling.filled}
use Rattle.oat_text.proofs.{Filling.body_crossed, Filling.end_crossed, Programs.all_take, Programs.all_drop, Programs.printed, Lines.Numbered, Lines.Say, Lines.Crosses, Lines.here, Lines.onward}
use Rattle.oat_text.proofs.{Lines.numbered_words, Lines.say_from_zip}

-- ---- globals

globals_crossed : (done todo : List GlobalItem) (b : Bodies) → IsDistinct are_one_global (done ++ todo) → AllByRecursion IsGlobal todo
    → (lines : Numbered) (more : List Line) → Say lines (map global_line todo ++ more) → Crosses (with_funcs done []) (with_funcs (done ++ todo) []) b b lines more
globals_crossed done [] b apart fits lines more says = rw append-nil (here (with_funcs done []) b lines more says)
globals_crossed done (g ∷ gs) b apart fits lines more says =
    let again : IsDistinct are_one_global ((done ++ g ∷ []) ++ gs) = rw (append_assoc done (g ∷ []) gs) apart in
    onward (global_crossed done gs g b apart fits.0 lines (map global_line gs ++ more) says)
    (λ left said. subst (λ (all : List GlobalItem). Crosses (with_funcs (done ++ g ∷ []) []) (with_funcs all []) b b left more) (append_assoc done (g ∷ []) gs)
    (globals_crossed (done ++ g ∷ []) gs b again fits.1 left more said))

-- ---- functions

locals_crossed : (globals : List GlobalItem) (done : List Func) (f : Func) (so_far todo : List Local) (b : Bodies) → IsDistinct are_one_local (so_far ++ todo)
    → AllByRecursion IsLocal todo → (lines : Numbered) (more : List Line) → Say lines (map local_line todo ++ more)
    → Crosses (in_func globals done f so_far [] Locals) (in_func globals done f (so_far ++ todo) [] Locals) b b lines more
locals_crossed globals done f so_far [] b apart fits lines more says = rw append-nil (here (in_func globals done f so_far [] Locals) b lines more says)
locals_crossed globals done f so_far (l ∷ ls) b apart fits lines more says =
    let again : IsDistinct are_one_local ((so_far ++ l ∷ []) ++ ls) = rw (append_assoc so_far (l ∷ []) ls) apart in
    onward (local_crossed globals done f so_far ls l b apart fits.0 lines (map local_line ls ++ more) says)
    (λ left said. subst (λ (all : List Local). Crosses (in_func globals done f (so_far ++ l ∷ []) [] Locals) (in_func globals done f all [] Locals) b b left more) (append_assoc so_far (l ∷ []) ls)
    (locals_crossed globals done f (so_far ++ l ∷ []) ls b again fits.1 left more said))

-- the function that ends next has the next head
head_next : (done rest : List Func) (f : Func) → slice_get (map head_of (done ++ f ∷ rest)) (length (map (λ (g : Func). g.blocks) done)) ≡ Some (head_of f)
head_next done rest f =
    let same : length (map (λ (g : Func). g.blocks) done) ≡ length (map head_of done) =
    length-map done (λ (g : Func). g.blocks) ∙ sym (length-map done head_of) in
    let heads = map head_of done ++ head_of f ∷ map head_of rest in
    let within : length (map head_of done) < length heads = rw length-append (omega arith) in
    rw (map-append head_of done (f ∷ rest), same)
    (slice_get_read heads (length heads) (length (map head_of done)) (head_of f) refl within (sym (get_or-append_seam (map head_of done) (head_of f) (map head_of rest) (head_of f))))

lines_joined : (h e : Line) (locals body more : List Line) → ((h ∷ (locals ++ (body ++ (e ∷ [])))) ++ more) ≡ h ∷ (locals ++ (body ++ (e ∷ more)))
lines_joined h e locals body more =
    ap (λ (all : List Line). h ∷ all) (append_assoc locals (body ++ (e ∷ [])) more ∙ ap (λ (all : List Line). locals ++ all) (append_assoc body (e ∷ []) more))

module _ (p : Program) (program : IsProgram p) where
  func_crossed : (done rest : List Func) (f : Func) → p.funcs ≡ done ++ f ∷ rest → IsFunc p f → (lines : Numbered) (more : List Line) → Say lines (func_lines p f ++ more)
      → Crosses (with_funcs p.globals done) (with_funcs p.globals (done ++ f ∷ [])) (filled p done [] None []) (filled p (done ++ f ∷ []) [] None []) lines more
  func_crossed done rest f is fits lines more says =
      let names : IsDistinct have_one_name (done ++ f ∷ rest) = rw (← is) program.func_names in
      let operations : IsDistinct have_one_operation (done ++ f ∷ rest) = rw (← is) program.operations in
      let at : slice_get (map head_of p.funcs) (length (map (λ (g : Func). g.blocks) done)) ≡ Some (head_of f) = rw is (head_next done rest f) in
      let params = take f.params f.locals in
      let others = drop f.params f.locals in
      let joined : params ++ others ≡ f.locals = take-append-drop f.params f.locals in
      let locals = recursion_from_All IsLocal f.locals fits.locals in
      let apart : IsDistinct are_one_local (params ++ others) = rw joined fits.local_names in
      let body = flat_map (block_lines p f) f.blocks in
      let b = filled p done [] None [] in
      let ending : List Line = body ++ (Keyword (codes "end") ∷ []) ∷ more in
      let said = subst (λ (all : List Line). Say lines all) (lines_joined _ _ (map local_line others) body more) says in
      onward (head_crossed p.globals done rest f names (all_take IsLocal f.params f.locals locals) fits.local_names fits.few_params fits.params_first b f.role refl fits.role operations lines (map local_line others ++ ending) said)
      (λ after first. onward
      (subst (λ (all : List Local). Crosses (in_func p.globals done f params [] Locals) (in_func p.globals done f all [] Locals) b b after ending) joined
      (locals_crossed p.globals done f params others b apart (all_drop IsLocal f.params f.locals locals) after ending first))
      (λ behind second. onward
      (body_crossed p f program fits done at f.blocks fits.begun fits.labels (recursion_from_All (IsBlockIr p f) f.blocks fits.blocks) behind ((Keyword (codes "end") ∷ []) ∷ more) second)
      (λ last third. end_crossed p f program fits done at last more third)))

  funcs_crossed : (done todo : List Func) → p.funcs ≡ done ++ todo → AllByRecursion (IsFunc p) todo → (lines : Numbered) → Say lines (flat_map (func_lines p) todo)
      → Crosses (with_funcs p.globals done) (with_funcs p.globals (done ++ todo)) (filled p done [] None []) (filled p (done ++ todo) [] None []) lines []
  funcs_crossed done [] is fits lines says = rw append-nil (here (with_funcs p.globals done) (filled p done [] None []) lines [] says)
  funcs_crossed done (f ∷ fs) is fits lines says =
      let again : p.funcs ≡ (done ++ f ∷ []) ++ fs = is ∙ sym (append_assoc done (f ∷ []) fs) in
      onward (func_crossed done fs f is fits.0 lines (flat_map (func_lines p) fs) says)
      (λ left said. subst (λ (all : List Func). Crosses (with_funcs p.globals (done ++ f ∷ [])) (with_funcs p.globals all) (filled p (done ++ f ∷ []) [] None []) (filled p all [] None []) left [])
      (append_assoc done (f ∷ []) fs) (funcs_crossed (done ++ f ∷ []) fs again fits.1 left said))

  program_crossed : (lines : Numbered) → Say lines (program_lines p)
      → Crosses nothing (with_funcs p.globals p.funcs) (filled p [] [] None []) (filled p p.funcs [] None []) lines []
  program_crossed lines says =
      onward (globals_crossed [] p.globals (filled p [] [] None []) program.global_names (recursion_from_All IsGlobal p.globals program.globals) lines (flat_map (func_lines p) p.funcs) says)
      (λ left said. funcs_crossed [] p.funcs refl (recursion_from_All (IsFunc p) p.funcs program.funcs) left said)

-- ---- the text

none_left : (left : Numbered) → Say left [] → left ≡ []
none_left [] says = refl
none_left (l ∷ ls) says = absurd says

pub funcs_back : (funcs : List Func) → map func_from (zip (map name_of funcs) (zip (map head_of funcs) (map (λ (f : Func). f.blocks) funcs))) ≡ funcs
funcs_back [] = refl
funcs_back (f ∷ fs) = ap (λ (rest : List Func). f ∷ rest) (funcs_back fs)

pub text_read : TextIsRead
unfolding each
text_read text p is =
    let lines = numbered 1 (lines_of text) in
    let says : Say lines (program_lines p) = say_from_zip lines (program_lines p) (rw (numbered_words 1 (lines_of text)) is.says) in
    let all = program_crossed p is.well_formed lines says in
    let none = none_left all.left all.says in
    let outline : outline_of text ≡ Ok (with_funcs p.globals p.funcs) = rw (all.outline, none) refl in
    let bodies : bodies_of (with_funcs p.globals p.funcs) text ≡ Ok (filled p p.funcs [] None []) = rw (all.bodies, none) refl in
    rw (outline, bodies, funcs_back p.funcs) refl

pub is_only : (text : List ℕ) (answer : OrFault Program) → Gives (λ p. p) answer (program_of text) → (p : Program) → IsProgramText text p → Gives (λ p. p) answer (Ok p)
is_only text answer gives p is = subst (λ (read : OrFault Program). Gives (λ (q : Program). q) answer read) (text_read text p is) gives

pub printed_back : PrintedIsRead
printed_back p fits values = text_read (program_text p) p (printed p fits values)
