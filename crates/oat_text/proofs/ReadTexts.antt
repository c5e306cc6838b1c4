-- What is read from a text is a program of it.
use Rattle.std.proofs.Common.{◌≡◌, ℕ, ◌+◌, ◌≤◌, Bool, true, false, eqb, List, [], ◌∷◌, ◌++◌, length, map, Ok, Err, refl, inl, inr, sym, ap, ◌∙◌, subst, arith}
use Rattle.std.specs.{Prelude.bytes_eq, Prelude.if◌then◌else◌, Prelude.◌⊎◌, Prelude.IfOk, List.AllZip, List.AllByRecursion, List.IsDistinct, List.flat_map, List.zip}
use Rattle.std.proofs.lemmas.List.Elements.{All-from_recursion}
use Rattle.oat_lines.specs.{Lines.TextWord, Lines.lines_of, Lines.words_of, Lines.is_skipped, Lines.counting, declared.fault.Fault.Fault, declared.fault.Fault.TheVariants.At, Faults.Gives}
use Rattle.oat_lines.specs.{Reading.◌>>=◌, Reading.guard}
use Rattle.oat_lines.proofs.Steps.{bind_ok, guarded_ok, ok_is}
use Rattle.oat_ir.specs.{declared.program.Program.Program, declared.func.Func.Func, declared.func.Role.Role, declared.func.Role.TheVariants.Plain, declared.func.Role.TheVariants.Operation}
use Rattle.oat_ir.specs.{declared.func.Role.TheVariants.Main, Distinct.are_one_operation, Distinct.have_one_operation, Size.program_size, WellFormed.IsGlobal, WellFormed.IsFunc, WellFormed.IsProgram}
use Rattle.oat_text.specs.{declared.head.Stage.Stage, declared.head.Stage.TheVariants.Outside, declared.head.Stage.TheVariants.Locals, declared.head.Stage.TheVariants.Inside}
use Rattle.oat_text.specs.{declared.head.Stage.TheVariants.Behind, declared.fault.TextFaultKind.TextFaultKind, declared.fault.TextFaultKind.TheVariants.Expected, Words.Says, Grammar.global_line}
use Rattle.oat_text.specs.{Grammar.func_lines, Grammar.program_lines, Grammar.TextSays, Grammar.IsProgramText, Passes.OrFault, Passes.numbered, Passes.over, Outline.Outline, Outline.nothing}
use Rattle.oat_text.specs.{Outline.is_outside, Outline.outline_line, Outline.outline_of, Bodies.Bodies, Bodies.no_bodies, Bodies.bodies_of, Bodies.func_from, Bodies.program_from, Bodies.program_of}
use Rattle.oat_text.specs.{Laws.ReadIsText, Laws.OneProgram, Laws.ProgramOrFault}
use Rattle.oat_text.proofs.{Lines.Numbered, Lines.Say, Lines.numbered_words, Lines.zip_from_say, Apart.nothing_apart, Apart.lines_apart, Crossing.role_operations, Crossing.operations_of}
use Rattle.oat_text.proofs.{Crossing.head_of, ReadBack.text_read, ReadBack.funcs_back, Ahead.IsLast, Ahead.AfterFuncs, Ahead.distinct_mapped, Followed.follow, Sized.counting_many, Sized.zip_many}
use Rattle.oat_text.proofs.{Sized.lines_bound}

-- ---- lines

one_counts : (skipped : Bool) (n : ℕ) (words : List TextWord) (more : Numbered) → is_skipped words ≡ skipped → AllByRecursion (λ l. 1 ≤ length l.1) more
    → AllByRecursion (λ l. 1 ≤ length l.1) (if skipped then more else ((n, words) ∷ more))
one_counts true n words more is all = all
one_counts false n [] more is all = absurd cc
one_counts false n (w ∷ ws) more is all = (omega arith, all)

all_count : (n : ℕ) (raw : List (List ℕ)) → AllByRecursion (λ l. 1 ≤ length l.1) (numbered n raw)
unfolding numbered
all_count n [] = tt
all_count n (line ∷ lines) = one_counts (is_skipped (words_of line)) n (words_of line) (numbered (n + 1) lines) refl (all_count (n + 1) lines)

-- ---- numbers of operations

roles_ids : (fs : List Func) → operations_of fs ≡ flat_map role_operations (map (λ f. f.role) fs)
roles_ids [] = refl
roles_ids (f ∷ fs) = ap (λ (ids : List ℕ). role_operations f.role ++ ids) (roles_ids fs)

ids_apart : (id : ℕ) (rs : List Role) → AllByRecursion (λ k. eqb id k ≡ false) (flat_map role_operations rs) → AllByRecursion (λ r. are_one_operation (Operation id) r ≡ false) rs
ids_apart id [] all = tt
ids_apart id (Plain ∷ rs) all = (refl, ids_apart id rs all)
ids_apart id (Main ∷ rs) all = (refl, ids_apart id rs all)
ids_apart id (Operation k ∷ rs) all = (all.0, ids_apart id rs all.1)

plain_apart : (rs : List Role) → AllByRecursion (λ r. are_one_operation Plain r ≡ false) rs
plain_apart [] = tt
plain_apart (r ∷ rs) = (refl, plain_apart rs)

main_apart : (rs : List Role) → AllByRecursion (λ r. are_one_operation Main r ≡ false) rs
main_apart [] = tt
main_apart (r ∷ rs) = (refl, main_apart rs)

roles_distinct : (rs : List Role) → IsDistinct eqb (flat_map role_operations rs) → IsDistinct are_one_operation rs
unfolding IsDistinct
roles_distinct [] d = tt
roles_distinct (Plain ∷ rs) d = (plain_apart rs, roles_distinct rs d)
roles_distinct (Main ∷ rs) d = (main_apart rs, roles_distinct rs d)
roles_distinct (Operation id ∷ rs) d = (ids_apart id rs d.0, roles_distinct rs d.1)

-- ---- the program that both passes give

nameless : TextWord → Func
nameless name = record { name = name; role = Plain; params = 0; locals = []; blocks = [] }

names_again : (names : List TextWord) → map (λ (f : Func). f.name) (map nameless names) ≡ names
unfolding nameless
names_again [] = refl
names_again (name ∷ names) = ap (λ (rest : List TextWord). name ∷ rest) (names_again names)

outside_is : (stage : Stage) → is_outside stage ≡ true → stage ≡ Outside
outside_is Outside e = refl
outside_is Locals e = absurd cc
outside_is Inside e = absurd cc
outside_is Behind e = absurd cc

module _ (text : List ℕ) (O : Outline) (B : Bodies) (outline : over outline_line nothing (numbered 1 (lines_of text)) ≡ Ok O) (whole : O.stage ≡ Outside)
    (filled : bodies_of O text ≡ Ok B) where
  abbrev lines : Numbered
  lines = numbered 1 (lines_of text)

  -- for a program with the names of the outline
  abbrev Last : Program → Type 0
  Last P = IsLast O P

  last_of : (P : Program) → P.globals ≡ O.globals → map (λ f. f.name) P.funcs ≡ O.funcs → Last P
  last_of P globals names = record { globals = globals; names = names; apart = lines_apart lines nothing O outline nothing_apart; outside = whole }

  after : (P : Program) (last : Last P) → AfterFuncs O B P last nothing (no_bodies O) lines
  after P last = follow O B P last lines nothing (no_bodies O) [] (all_count 1 (lines_of text)) (record { outline = refl; many = refl; fits = (refl, refl) }) outline filled

  abbrev program : Program
  program = program_from O B.ended

  funcs_are : (P : Program) (last : Last P) → program.funcs ≡ (after P last).ahead.funcs
  funcs_are P last =
      let a = (after P last).ahead in
      ap (λ (names : List TextWord). map func_from (zip names (zip O.heads B.ended))) a.names_are
      ∙ ap (λ (heads : List _). map func_from (zip (map (λ f. f.name) a.funcs) (zip heads B.ended))) a.heads_are
      ∙ ap (λ (ended : List _). map func_from (zip (map (λ f. f.name) a.funcs) (zip (map head_of a.funcs) ended))) a.ended_are
      ∙ funcs_back a.funcs

  -- the program itself has these names
  last_program : Last program
  last_program =
      let P : Program = record { globals = O.globals; funcs = map nameless O.funcs } in
      let last = last_of P refl (names_again O.funcs) in
      last_of program refl (ap (λ (fs : List Func). map (λ (f : Func). f.name) fs) (funcs_are P last) ∙ sym (after P last).ahead.names_are)

  abbrev read : AfterFuncs O B program last_program nothing (no_bodies O) lines
  read = after program last_program

  says_lines : Say lines (program_lines program)
  says_lines =
      let globals = subst (λ (gs : List _). Say lines (map global_line gs ++ flat_map (func_lines program) read.ahead.funcs)) (sym read.all) read.ahead.says in
      subst (λ (fs : List Func). Say lines (map global_line program.globals ++ flat_map (func_lines program) fs)) (sym (funcs_are program last_program)) globals

  says : TextSays text (program_lines program)
  says = subst (λ (words : List (List TextWord)). AllZip (AllZip Says) words (program_lines program)) (numbered_words 1 (lines_of text)) (zip_from_say lines (program_lines program) says_lines)

  funcs_fit : AllByRecursion (IsFunc program) program.funcs
  funcs_fit = subst (AllByRecursion (IsFunc program)) (sym (funcs_are program last_program)) read.ahead.fits

  few : (fs : List Func) → AllByRecursion (IsFunc program) fs → AllByRecursion (λ f. f.params ≤ 4) fs
  few [] all = tt
  few (f ∷ fs) all = (all.0.few_params, few fs all.1)

  sized : length text ≤ 1048576 → program_size program ≤ 67108864
  sized short =
      let bound = lines_bound program (few program.funcs funcs_fit) in
      let many = zip_many (counting (lines_of text)) (program_lines program) says in
      let most = counting_many text in
      omega arith

  ids_distinct : IsDistinct have_one_operation program.funcs
  ids_distinct =
      let apart = last_program.apart.operations in
      let ids : O.operations ≡ flat_map role_operations (map (λ f. f.role) program.funcs) = read.ahead.ids_are ∙ ap operations_of (sym (funcs_are program last_program)) ∙ roles_ids program.funcs in
      distinct_mapped are_one_operation (λ (f : Func). f.role) program.funcs (roles_distinct (map (λ f. f.role) program.funcs) (subst (IsDistinct eqb) ids apart))

  is_program : length text ≤ 1048576 → IsProgram program
  is_program short = record {
    globals = All-from_recursion IsGlobal program.globals (subst (AllByRecursion IsGlobal) (sym read.all) read.fits);
    global_names = last_program.apart.globals;
    funcs = All-from_recursion (IsFunc program) program.funcs funcs_fit;
    func_names = distinct_mapped bytes_eq (λ (f : Func). f.name) program.funcs (subst (IsDistinct bytes_eq) (sym last_program.names) last_program.apart.funcs);
    operations = ids_distinct;
    size = sized short;
  }

  pub text_is : length text ≤ 1048576 → IsProgramText text program
  text_is short = record { says = says; well_formed = is_program short }

pub read_is_text : ReadIsText
read_is_text text program short e =
    let a = bind_ok (outline_of text) (λ outline. bodies_of outline text >>= λ bodies. Ok (program_from outline bodies.ended)) program e in
    let b = bind_ok (bodies_of a.0 text) (λ bodies. Ok (program_from a.0 bodies.ended)) program a.2 in
    let c = bind_ok (over outline_line nothing (numbered 1 (lines_of text))) (λ o. guard (is_outside o.stage) (At (1 + length (lines_of text)) Expected) >>= λ _. Ok o) a.0 a.1 in
    let g = guarded_ok (is_outside c.0.stage) (At (1 + length (lines_of text)) Expected) (λ (u : Unit {0}). Ok c.0) a.0 c.2 in
    let same : c.0 ≡ a.0 = ok_is c.0 a.0 g.1 in
    let outline : over outline_line nothing (numbered 1 (lines_of text)) ≡ Ok a.0 = c.1 ∙ ap Ok same in
    let whole : a.0.stage ≡ Outside = subst (λ (o : Outline). o.stage ≡ Outside) same (outside_is c.0.stage g.0) in
    subst (IsProgramText text) (ok_is (program_from a.0 b.0.ended) program b.2) (text_is text a.0 b.0 outline whole b.1 short)

-- ---- laws

pub is_found : (text : List ℕ) (answer : OrFault Program) → length text ≤ 1048576 → Gives (λ p. p) answer (program_of text) → IfOk answer (λ p. IsProgramText text p)
is_found text (Ok program) short gives = read_is_text text program short gives
is_found text (Err fault) short gives = tt

pub one_program : OneProgram
one_program text p q is other = ok_is p q (sym (text_read text p is) ∙ text_read text q other)

pub program_or_fault : ProgramOrFault
program_or_fault text short = by (program_of text) refl
  where
    by : (read : OrFault Program) → program_of text ≡ read
        → ((program : Program) × IsProgramText text program) ⊎ ((fault : Fault TextFaultKind) × (program_of text ≡ Err fault) × ((program : Program) → ¬ IsProgramText text program))
    by (Ok program) e = inl (program, read_is_text text program short e)
    by (Err fault) e = inr (fault, e, λ program is. (let both : Path (OrFault Program) (Ok program) (Err fault) = sym (text_read text program is) ∙ e in cc))
