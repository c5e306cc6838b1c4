-- Reading gives a case exactly where the text stands for it.
use Rattle.std.proofs.Common.{◌≡◌, ℕ, ◌+◌, Bool, true, false, cond, ◌&&◌, List, [], ◌∷◌, Option, Some, None, Result, Ok, Err, refl, sym, ap, subst, ◌∙◌, inl, inr}
use Rattle.std.specs.{Prelude.IsTrue, Prelude.IfOk, Prelude.IfSome, Prelude.not, Prelude.map, Prelude.filter, Prelude.codes, List.AllByRecursion, List.filter_map, Option.ok_or, Option.option_to_list}
use Rattle.std.specs.{Str.bytes_eq}
use Rattle.std.proofs.lemmas.{Bool.cases_Bool, Bool.and_parts, List.append-nil, Slice.Eq.bytes_eq-Decides}
use Rattle.oat_lines.specs.{declared.fault.Fault.Fault, declared.fault.Fault.TheVariants.At, Lines.TextWord, Lines.lines_of, Lines.words_of, Lines.is_comment, Lines.is_skipped, Lines.sole}
use Rattle.oat_lines.specs.{Reading.◌>>=◌, Reading.guard, Faults.Gives}
use Rattle.oat_lines.proofs.Steps.{ok_is, bind_ok, guarded_ok, or_ok}
use Rattle.oat_case.specs.{Limits.key_fits, Limits.operation_fits, Limits.steps_fit, Limits.calls_fit, Limits.IsInLimits, Limits.RisesFrom, Limits.IsWellFormedCase, Grammar.Statement}
use Rattle.oat_case.specs.{Grammar.SaysStatement, Grammar.SayStatements, Grammar.key_in, Grammar.nonce_in, Grammar.operation_in, Grammar.steps_in, Grammar.calls_in, Grammar.header, Grammar.IsCaseText}
use Rattle.oat_case.specs.{Reading.Gathered, Reading.nothing_yet, Reading.statement_line, Reading.header_line, Reading.line_of, Reading.session_of, Reading.whole, Reading.case_from, Reading.case_of}
use Rattle.oat_case.specs.{declared.case.Session.Session, declared.case.Case.Case, declared.fault.CaseFaultKind.CaseFaultKind, declared.fault.CaseFaultKind.TheVariants.Token}
use Rattle.oat_case.specs.{declared.fault.CaseFaultKind.TheVariants.Missing}
use Rattle.oat_case.proofs.{OneLine.done, OneLine.sole_is, OneLine.Once, OneLine.once_last, Statements.Gathers, Statements.Adds, Statements.any, Statements.statement_adds, Completion.Goes}
use Rattle.oat_case.proofs.{Completion.statement_goes}

abbrev counts : List TextWord → Bool
counts words = not (is_skipped words)

-- the header, where it is still to come
abbrev heading : Bool → List (List TextWord) → List (List TextWord)
heading true lines = lines
heading false lines = header ∷ lines

-- what was given and what these lines say is the case
record Completes (g : Gathered) (all : List (List TextWord)) (c : Case) : Type 0 where
  lines : List (List TextWord)
  statements : List Statement
  counted : filter counts all ≡ heading g.begun lines
  each : SayStatements lines statements
  gathers : Gathers g statements c

abbrev started : Gathered → Gathered
started g = record g { begun = true }

-- ---- what is read stands in the text

skipped_sound : (g : Gathered) (words : List TextWord) (all : List (List TextWord)) (c : Case) → counts words ≡ false → Completes g all c → Completes g (words ∷ all) c
skipped_sound g words all c skip k = record { lines = k.lines; statements = k.statements; counted = rw skip k.counted; each = k.each; gathers = k.gathers }

statement_sound : (g : Gathered) (words : List TextWord) (h : Gathered) (all : List (List TextWord)) (c : Case) → counts words ≡ true → g.begun ≡ true → Adds g words h → Completes h all c → Completes g (words ∷ all) c
statement_sound g words h all c count begun a k =
    let after : h.begun ≡ true = a.begun ∙ begun in
    let rest : filter counts all ≡ k.lines = rw after at k.counted in
    record {
      lines = words ∷ k.lines;
      statements = a.statement ∷ k.statements;
      counted = rw (count, begun) (ap (λ (ls : List (List TextWord)). words ∷ ls) rest);
      each = (a.says, k.each);
      gathers = a.gathers k.statements c k.gathers;
    }

header_sound : (n : ℕ) (g : Gathered) (first : TextWord) (words : List TextWord) (h : Gathered) (all : List (List TextWord)) (c : Case) → counts (first ∷ words) ≡ true → g.begun ≡ false
    → header_line n g first words ≡ Ok h → Completes h all c → Completes g ((first ∷ words) ∷ all) c
unfolding header_line
header_sound n g first words h all c count fresh e k0 =
    let a = bind_ok (ok_or (sole words) (At n Token)) (λ version. guard (bytes_eq first (codes "oat-case") && bytes_eq version (codes "1")) (At n Token) >>= λ _. Ok (started g)) h e in
    let d = guarded_ok (bytes_eq first (codes "oat-case") && bytes_eq a.0 (codes "1")) (At n Token) (λ _. Ok (started g)) h a.2 in
    let both = and_parts (bytes_eq first (codes "oat-case")) (bytes_eq a.0 (codes "1")) d.0 in
    let name : first ≡ codes "oat-case" = (bytes_eq-Decides first (codes "oat-case")).0 both.0 in
    let version : a.0 ≡ codes "1" = (bytes_eq-Decides a.0 (codes "1")).0 both.1 in
    let others : words ≡ a.0 ∷ [] = sole_is words a.0 (or_ok (sole words) (At n Token) a.0 a.1) in
    let same : first ∷ words ≡ header = cc in
    let k : Completes (started g) all c = subst (λ (z : Gathered). Completes z all c) (sym (ok_is (started g) h d.1)) k0 in
    let rest : filter counts all ≡ k.lines = k.counted in
    record {
      lines = k.lines;
      statements = k.statements;
      counted = rw (count, fresh) (ap (λ (ws : List TextWord). ws ∷ filter counts all) same ∙ ap (λ (ls : List (List TextWord)). header ∷ ls) rest);
      each = k.each;
      gathers = record { key = k.gathers.key; nonce = k.gathers.nonce; operation = k.gathers.operation; steps = k.gathers.steps; calls = k.gathers.calls; inputs = k.gathers.inputs; writes = k.gathers.writes; limits = k.gathers.limits; order = k.gathers.order };
    }

if_true : {X : Type 0} (b : Bool) (x y : X) → b ≡ true → cond b x y ≡ x
if_true true x y e = refl
if_true false x y e = absurd cc

if_false : {X : Type 0} (b : Bool) (x y : X) → b ≡ false → cond b x y ≡ y
if_false true x y e = absurd cc
if_false false x y e = refl

begun_line : (n : ℕ) (g : Gathered) (first : TextWord) (words : List TextWord) → is_comment first ≡ false → g.begun ≡ true → line_of n g (first ∷ words) ≡ statement_line n g first words
unfolding line_of
begun_line n g first words plain begun =
    if_false (is_comment first) (done g) (cond g.begun (statement_line n g first words) (header_line n g first words)) plain ∙ if_true g.begun (statement_line n g first words) (header_line n g first words) begun

fresh_line : (n : ℕ) (g : Gathered) (first : TextWord) (words : List TextWord) → is_comment first ≡ false → g.begun ≡ false → line_of n g (first ∷ words) ≡ header_line n g first words
unfolding line_of
fresh_line n g first words plain fresh =
    if_false (is_comment first) (done g) (cond g.begun (statement_line n g first words) (header_line n g first words)) plain ∙ if_false g.begun (statement_line n g first words) (header_line n g first words) fresh

line_sound : (n : ℕ) (g : Gathered) (words : List TextWord) (h : Gathered) (all : List (List TextWord)) (c : Case) → line_of n g words ≡ Ok h → Completes h all c → Completes g (words ∷ all) c
unfolding line_of
line_sound n g [] h all c e k = skipped_sound g [] all c refl (subst (λ (z : Gathered). Completes z all c) (sym (ok_is g h e)) k)
line_sound n g (first ∷ words) h all c e k =
    elim (cases_Bool (is_comment first)) [
      | inl comment ↦ skipped_sound g (first ∷ words) all c (ap not comment) (subst (λ (z : Gathered). Completes z all c) (sym (ok_is g h (rw comment at e))) k)
      | inr plain ↦ elim (cases_Bool g.begun) [
        | inl begun ↦ statement_sound g (first ∷ words) h all c (ap not plain) begun (statement_adds n g first words h (sym (begun_line n g first words plain begun) ∙ e)) k
        | inr fresh ↦ header_sound n g first words h all c (ap not plain) fresh (sym (fresh_line n g first words plain fresh) ∙ e) k
      ]
    ]

abbrev session : List ℕ → List ℕ → ℕ → Option ℕ → Session
session key nonce op calls = record { key = key; nonce = nonce; op = op; calls = calls }

session_parts : (n : ℕ) (key nonce : Option (List ℕ)) (op calls : Option ℕ) (s : Session) → session_of n key nonce op calls ≡ Ok s → (key ≡ Some s.key) × (nonce ≡ Some s.nonce) × (op ≡ Some s.op) × (calls ≡ s.calls)
session_parts n None x o calls s e = absurd cc
session_parts n (Some k) None o calls s e = absurd cc
session_parts n (Some k) (Some x) None calls s e = absurd cc
session_parts n (Some k) (Some x) (Some o) calls s e =
    let same : session k x o calls ≡ s = ok_is (session k x o calls) s e in
    (ap (λ (z : Session). Some z.key) same, ap (λ (z : Session). Some z.nonce) same, ap (λ (z : Session). Some z.op) same, ap (λ (z : Session). z.calls) same)

given_once : {X : Type 0} (fits : X → Bool) (given value : Option X) → given ≡ value → Once fits given [] value
given_once fits given value e = record { one = append-nil (option_to_list given) ∙ ap option_to_list e; fit = tt }

abbrev made : Gathered → Session → ℕ → Case
made g session steps = record { session = session; steps = steps; inputs = g.inputs; writes = g.writes }

whole_sound : (n : ℕ) (g : Gathered) (c : Case) → whole n g ≡ Ok c → Completes g [] c
unfolding whole
whole_sound n g c e =
    let a = guarded_ok g.begun (At n Missing) (λ _. session_of n g.key g.nonce g.operation g.calls >>= λ s. ok_or g.steps (At n Missing) >>= λ t. Ok (made g s t)) c e in
    let b = bind_ok (session_of n g.key g.nonce g.operation g.calls) (λ s. ok_or g.steps (At n Missing) >>= λ t. Ok (made g s t)) c a.1 in
    let d = bind_ok (ok_or g.steps (At n Missing)) (λ t. Ok (made g b.0 t)) c b.2 in
    let p = session_parts n g.key g.nonce g.operation g.calls b.0 b.1 in
    subst (λ (z : Case). Completes g [] z) (ok_is (made g b.0 d.0) c d.2) (record {
      lines = [];
      statements = [];
      counted = rw a.0 refl;
      each = tt;
      gathers = record {
        key = given_once key_fits g.key (Some b.0.key) p.0;
        nonce = given_once any g.nonce (Some b.0.nonce) p.1;
        operation = given_once operation_fits g.operation (Some b.0.op) p.2;
        steps = given_once steps_fit g.steps (Some d.0) (or_ok g.steps (At n Missing) d.0 d.1);
        calls = given_once calls_fit g.calls b.0.calls p.3;
        inputs = append-nil g.inputs;
        writes = append-nil g.writes;
        limits = tt;
        order = tt;
      };
    })

sound : (lines : List TextWord) (n : ℕ) (g : Gathered) (c : Case) → case_from n g lines ≡ Ok c → Completes g (map words_of lines) c
unfolding case_from
sound [] n g c e = whole_sound n g c e
sound (line ∷ lines) n g c e =
    let b = bind_ok (line_of n g (words_of line)) (λ h. case_from (n + 1) h lines) c e in
    line_sound n g (words_of line) b.0 (map words_of lines) c b.1 (sound lines (n + 1) b.0 c b.2)

-- ---- what stands in the text is read

skipped_back : (g : Gathered) (words : List TextWord) (all : List (List TextWord)) (c : Case) → counts words ≡ false → Completes g (words ∷ all) c → Completes g all c
skipped_back g words all c skip k = record { lines = k.lines; statements = k.statements; counted = rw skip at k.counted; each = k.each; gathers = k.gathers }

-- the first line's statement, and the others
record Said (words : List TextWord) (rest : List (List TextWord)) (statements : List Statement) : Type 0 where
  first : Statement
  others : List Statement
  both : statements ≡ first ∷ others
  says : SaysStatement words first
  each : SayStatements rest others

said : (words : List TextWord) (rest : List (List TextWord)) (statements : List Statement) → SayStatements (words ∷ rest) statements → Said words rest statements
said words rest [] each = absurd each
said words rest (s ∷ ss) each = record { first = s; others = ss; both = refl; says = each.0; each = each.1 }

record Reaches (n : ℕ) (g : Gathered) (words : List TextWord) (all : List (List TextWord)) (c : Case) : Type 0 where
  after : Gathered
  taken : line_of n g words ≡ Ok after
  completes : Completes after all c

header_again : (n : ℕ) (g : Gathered) (first : TextWord) (words : List TextWord) → first ∷ words ≡ header → header_line n g first words ≡ Ok (started g)
unfolding header_line
header_again n g first words same =
    let name : first ≡ codes "oat-case" = cc in
    let version : words ≡ codes "1" ∷ [] = cc in
    rw (name, version) refl

kept : (words : List TextWord) (all : List (List TextWord)) → counts words ≡ true → filter counts (words ∷ all) ≡ words ∷ filter counts all
kept words all count = if_true (counts words) (words ∷ filter counts all) (filter counts all) count

heading_true : (b : Bool) (lines : List (List TextWord)) → b ≡ true → heading b lines ≡ lines
heading_true true lines e = refl
heading_true false lines e = absurd cc

heading_false : (b : Bool) (lines : List (List TextWord)) → b ≡ false → heading b lines ≡ header ∷ lines
heading_false true lines e = absurd cc
heading_false false lines e = refl

statement_back : (n : ℕ) (g : Gathered) (first : TextWord) (words : List TextWord) (all : List (List TextWord)) (c : Case) → is_comment first ≡ false → g.begun ≡ true → Completes g ((first ∷ words) ∷ all) c
    → Reaches n g (first ∷ words) all c
statement_back n g first words all c plain begun k =
    let counted : (first ∷ words) ∷ filter counts all ≡ k.lines = sym (kept (first ∷ words) all (ap not plain)) ∙ k.counted ∙ heading_true g.begun k.lines begun in
    let s : Said (first ∷ words) (filter counts all) k.statements = said (first ∷ words) (filter counts all) k.statements (rw counted k.each) in
    let goes : Goes n g first words s.others c = statement_goes n g first words s.first s.others c s.says (subst (λ (ss : List Statement). Gathers g ss c) s.both k.gathers) in
    let after : goes.after.begun ≡ true = goes.begun ∙ begun in
    record {
      after = goes.after;
      taken = begun_line n g first words plain begun ∙ goes.taken;
      completes = record { lines = filter counts all; statements = s.others; counted = rw after refl; each = s.each; gathers = goes.gathers };
    }

header_back : (n : ℕ) (g : Gathered) (first : TextWord) (words : List TextWord) (all : List (List TextWord)) (c : Case) → is_comment first ≡ false → g.begun ≡ false → Completes g ((first ∷ words) ∷ all) c
    → Reaches n g (first ∷ words) all c
header_back n g first words all c plain fresh k =
    let counted : (first ∷ words) ∷ filter counts all ≡ header ∷ k.lines = sym (kept (first ∷ words) all (ap not plain)) ∙ k.counted ∙ heading_false g.begun k.lines fresh in
    let same : first ∷ words ≡ header = cc in
    let rest : filter counts all ≡ k.lines = cc in
    record {
      after = started g;
      taken = fresh_line n g first words plain fresh ∙ header_again n g first words same;
      completes = record {
        lines = k.lines;
        statements = k.statements;
        counted = rest;
        each = k.each;
        gathers = record { key = k.gathers.key; nonce = k.gathers.nonce; operation = k.gathers.operation; steps = k.gathers.steps; calls = k.gathers.calls; inputs = k.gathers.inputs; writes = k.gathers.writes; limits = k.gathers.limits; order = k.gathers.order };
      };
    }

line_back : (n : ℕ) (g : Gathered) (words : List TextWord) (all : List (List TextWord)) (c : Case) → Completes g (words ∷ all) c → Reaches n g words all c
unfolding line_of
line_back n g [] all c k = record { after = g; taken = refl; completes = skipped_back g [] all c refl k }
line_back n g (first ∷ words) all c k =
    elim (cases_Bool (is_comment first)) [
      | inl comment ↦ record { after = g; taken = rw comment refl; completes = skipped_back g (first ∷ words) all c (ap not comment) k }
      | inr plain ↦ elim (cases_Bool g.begun) [
        | inl begun ↦ statement_back n g first words all c plain begun k
        | inr fresh ↦ header_back n g first words all c plain fresh k
      ]
    ]

none_said : (lines : List (List TextWord)) (statements : List Statement) → lines ≡ [] → SayStatements lines statements → statements ≡ []
none_said [] [] e each = refl
none_said [] (s ∷ ss) e each = absurd each
none_said (l ∷ ls) ss e each = absurd cc

-- no line is left: the header came, and no statement follows
record Ended (g : Gathered) (c : Case) : Type 0 where
  begun : g.begun ≡ true
  gathers : Gathers g [] c

ended : (g : Gathered) (c : Case) → Completes g [] c → Ended g c
ended g c k =
    elim (cases_Bool g.begun) [
      | inl begun ↦
          let none : [] ≡ k.lines = rw begun at k.counted in
          record { begun = begun; gathers = subst (λ (ss : List Statement). Gathers g ss c) (none_said k.lines k.statements (sym none) k.each) k.gathers }
      | inr fresh ↦ absurd (no_header k.lines (rw fresh at k.counted))
    ]
  where
    no_header : (lines : List (List TextWord)) → [] ≡ header ∷ lines → ⊥
    no_header lines e = cc

whole_back : (n : ℕ) (g : Gathered) (c : Case) → Ended g c → whole n g ≡ Ok c
unfolding whole
whole_back n g c k =
    let key : g.key ≡ Some c.session.key = once_last key_fits g.key (Some c.session.key) k.gathers.key in
    let nonce : g.nonce ≡ Some c.session.nonce = once_last any g.nonce (Some c.session.nonce) k.gathers.nonce in
    let operation : g.operation ≡ Some c.session.op = once_last operation_fits g.operation (Some c.session.op) k.gathers.operation in
    let steps : g.steps ≡ Some c.steps = once_last steps_fit g.steps (Some c.steps) k.gathers.steps in
    let calls : g.calls ≡ c.session.calls = once_last calls_fit g.calls c.session.calls k.gathers.calls in
    let inputs : g.inputs ≡ c.inputs = sym (append-nil g.inputs) ∙ k.gathers.inputs in
    let writes : g.writes ≡ c.writes = sym (append-nil g.writes) ∙ k.gathers.writes in
    rw (k.begun, key, nonce, operation, steps, calls, inputs, writes) refl

complete : (lines : List TextWord) (n : ℕ) (g : Gathered) (c : Case) → Completes g (map words_of lines) c → case_from n g lines ≡ Ok c
unfolding case_from
complete [] n g c k = whole_back n g c (ended g c k)
complete (line ∷ lines) n g c k =
    let b = line_back n g (words_of line) (map words_of lines) c k in
    rw b.taken (complete lines (n + 1) b.after c b.completes)

-- ---- the law

value_fits : {X : Type 0} (fits : X → Bool) (values : List X) (value : Option X) → Once fits None values value → IfSome value (λ v. IsTrue (fits v))
value_fits fits values None once = tt
value_fits fits values (Some value) once =
    let all : AllByRecursion (λ x. fits x ≡ true) (value ∷ []) = subst (λ xs. AllByRecursion (λ x. fits x ≡ true) xs) once.one once.fit in
    all.0

once_of : {X : Type 0} (fits : X → Bool) (values : List X) (value : Option X) → values ≡ option_to_list value → IfSome value (λ v. IsTrue (fits v)) → Once fits None values value
once_of fits values None e fit = record { one = e; fit = subst (λ xs. AllByRecursion (λ x. fits x ≡ true) xs) (sym e) tt }
once_of fits values (Some value) e fit = record { one = e; fit = subst (λ xs. AllByRecursion (λ x. fits x ≡ true) xs) (sym e) (fit, tt) }

pub stands : (text : List ℕ) (c : Case) → case_of text ≡ Ok c → IsCaseText text c
stands text c e =
    let k = sound (lines_of text) 1 nothing_yet c e in
    let g = k.gathers in
    record {
      lines = k.lines;
      statements = k.statements;
      says = k.counted;
      each = k.each;
      key = g.key.one;
      nonce = g.nonce.one;
      operation = g.operation.one;
      steps = g.steps.one;
      calls = g.calls.one;
      inputs = g.inputs;
      writes = g.writes;
      limits = record {
        key = value_fits key_fits (filter_map key_in k.statements) (Some c.session.key) g.key;
        operation = value_fits operation_fits (filter_map operation_in k.statements) (Some c.session.op) g.operation;
        steps = value_fits steps_fit (filter_map steps_in k.statements) (Some c.steps) g.steps;
        calls = value_fits calls_fit (filter_map calls_in k.statements) c.session.calls g.calls;
        writes = subst (λ ws. AllByRecursion IsInLimits ws) g.writes g.limits;
        order = subst (λ ws. RisesFrom 0 ws) g.writes g.order;
      };
    }

pub is_read : (text : List ℕ) (c : Case) → IsCaseText text c → case_of text ≡ Ok c
is_read text c t =
    complete (lines_of text) 1 nothing_yet c (record {
      lines = t.lines;
      statements = t.statements;
      counted = t.says;
      each = t.each;
      gathers = record {
        key = once_of key_fits (filter_map key_in t.statements) (Some c.session.key) t.key t.limits.key;
        nonce = once_of any (filter_map nonce_in t.statements) (Some c.session.nonce) t.nonce refl;
        operation = once_of operation_fits (filter_map operation_in t.statements) (Some c.session.op) t.operation t.limits.operation;
        steps = once_of steps_fit (filter_map steps_in t.statements) (Some c.steps) t.steps t.limits.steps;
        calls = once_of calls_fit (filter_map calls_in t.statements) c.session.calls t.calls t.limits.calls;
        inputs = t.inputs;
        writes = t.writes;
        limits = subst (λ ws. AllByRecursion IsInLimits ws) (sym t.writes) t.limits.writes;
        order = subst (λ ws. RisesFrom 0 ws) (sym t.writes) t.limits.order;
      };
    })

pub is_found : (text : List ℕ) (r : Result Case (Fault CaseFaultKind)) → Gives (λ read. read) r (case_of text) → IfOk r (IsCaseText text)
is_found text (Ok c) given = stands text c given
is_found text (Err e) given = tt

pub is_well_formed : (text : List ℕ) (r : Result Case (Fault CaseFaultKind)) → Gives (λ read. read) r (case_of text) → IfOk r IsWellFormedCase
is_well_formed text (Ok c) given = (stands text c given).limits
is_well_formed text (Err e) given = tt
