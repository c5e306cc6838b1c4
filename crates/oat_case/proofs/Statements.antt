-- A line that says a statement adds it to what the lines above have given.
use Rattle.std.proofs.Common.{◌≡◌, ℕ, ◌-◌, ◌^◌, ◌<◌, ◌≤◌, Bool, true, eqb, leb, ltb, List, [], ◌∷◌, ◌++◌, length, Some, Ok, Err, ℤ, refl, sym, ap, subst, ◌∙◌, append_assoc, arith, inl, inr}
use Rattle.std.specs.{Prelude.is_none, Prelude.codes, List.AllByRecursion, List.filter_map, Option.ok_or, Str.bytes_eq}
use Rattle.std.proofs.lemmas.{Bool.cases_Bool, Bool.and_parts, Bool.leb-true, Bool.ltb-true, Bool.eqb-true, Slice.Eq.bytes_eq-Decides}
use Rattle.hex.specs.Hex.{decode_of}
use Rattle.oat_mem.specs.DataMemory.{fits}
use Rattle.oat_lines.specs.{declared.fault.Fault.TheVariants.At, Lines.TextWord, Lines.sole, Lines.triple, Decimal.numeral_of, Integer.read_as_integer, Reading.◌>>=◌, Reading.guard, Reading.between}
use Rattle.oat_lines.proofs.{Integers.integer_takes, Steps.ok_is, Steps.bind_ok, Steps.guarded_ok, Steps.or_ok}
use Rattle.oat_case.specs.{Limits.key_fits, Limits.operation_fits, Limits.steps_fit, Limits.calls_fit, Limits.write_fits, Limits.IsInLimits, Limits.RisesFrom, Grammar.Statement, Grammar.KeyIs}
use Rattle.oat_case.specs.{Grammar.NonceIs, Grammar.OperationIs, Grammar.StepsAre, Grammar.CallsAre, Grammar.InputIs, Grammar.WriteIs, Grammar.SaysStatement, Grammar.address_numeral, Grammar.key_in}
use Rattle.oat_case.specs.{Grammar.nonce_in, Grammar.operation_in, Grammar.steps_in, Grammar.calls_in, Grammar.input_in, Grammar.write_in, Reading.Gathered, Reading.bytes_at, Reading.numeral_at}
use Rattle.oat_case.specs.{Reading.integer_at, Reading.key_line, Reading.nonce_line, Reading.operation_line, Reading.steps_line, Reading.calls_line, Reading.input_line, Reading.write_of}
use Rattle.oat_case.specs.{Reading.add_write, Reading.write_line, Reading.statement_line, declared.case.Write.Write, declared.case.Case.Case, declared.fault.CaseFaultKind.TheVariants.Token}
use Rattle.oat_case.specs.{declared.fault.CaseFaultKind.TheVariants.Range, declared.fault.CaseFaultKind.TheVariants.OutsideData, declared.fault.CaseFaultKind.TheVariants.Order}
use Rattle.oat_case.proofs.OneLine.{done, or_token_ok, integer_ok, sole_is, triple_is, number_takes, none_of, Takes, one_takes, Once, once_step}

abbrev pub any : {X : Type 0} → X → Bool
any x = true

abbrev pub nonce_fits : List ℕ → Bool
nonce_fits nonce = eqb (length nonce) 16

-- What was given and what these statements say is the case, within the limits.
pub record Gathers (g : Gathered) (statements : List Statement) (c : Case) : Type 0 where
  pub key : Once key_fits g.key (filter_map key_in statements) (Some c.session.key)
  pub nonce : Once any g.nonce (filter_map nonce_in statements) (Some c.session.nonce)
  pub operation : Once operation_fits g.operation (filter_map operation_in statements) (Some c.session.op)
  pub steps : Once steps_fit g.steps (filter_map steps_in statements) (Some c.steps)
  pub calls : Once calls_fit g.calls (filter_map calls_in statements) c.session.calls
  pub inputs : g.inputs ++ filter_map input_in statements ≡ c.inputs
  pub writes : g.writes ++ filter_map write_in statements ≡ c.writes
  pub limits : AllByRecursion IsInLimits (filter_map write_in statements)
  pub order : RisesFrom g.least (filter_map write_in statements)

-- the line says a statement, which leads from g to h
pub record Adds (g : Gathered) (words : List TextWord) (h : Gathered) : Type 0 where
  pub statement : Statement
  pub says : SaysStatement words statement
  pub begun : h.begun ≡ g.begun
  pub gathers : (statements : List Statement) (c : Case) → Gathers h statements c → Gathers g (statement ∷ statements) c

abbrev pub with_key : Gathered → List ℕ → Gathered
with_key g key = record g { key = Some key }

abbrev pub with_nonce : Gathered → List ℕ → Gathered
with_nonce g nonce = record g { nonce = Some nonce }

abbrev pub with_operation : Gathered → ℕ → Gathered
with_operation g id = record g { operation = Some id }

abbrev pub with_steps : Gathered → ℕ → Gathered
with_steps g steps = record g { steps = Some steps }

abbrev pub with_calls : Gathered → ℕ → Gathered
with_calls g calls = record g { calls = Some calls }

abbrev pub with_input : Gathered → ℤ → Gathered
with_input g input = record g { inputs = g.inputs ++ input ∷ [] }

abbrev pub with_write : Gathered → Write → Gathered
with_write g write = record g { writes = g.writes ++ write ∷ []; least = write.before }

-- ---- from a line to its statement

key_adds : (n : ℕ) (g : Gathered) (words : List TextWord) (h : Gathered) → key_line n g words ≡ Ok h → Adds g (codes "key" ∷ words) h
unfolding key_line
key_adds n g words h e =
    let t : Takes (bytes_at n) (is_none g.key) key_fits (with_key g) words h = one_takes n (bytes_at n) (is_none g.key) key_fits (with_key g) words h e in
    subst (λ (z : Gathered). Adds g (codes "key" ∷ words) z) t.made (record {
      statement = KeyIs t.value;
      says = (t.word, ap (λ (ws : List TextWord). codes "key" ∷ ws) t.words, or_token_ok n (decode_of t.word) t.value t.parses);
      begun = refl;
      gathers = λ ss c k. record { key = once_step key_fits g.key t.value (filter_map key_in ss) (Some c.session.key) (none_of g.key t.free) t.fits k.key; nonce = k.nonce; operation = k.operation; steps = k.steps; calls = k.calls; inputs = k.inputs; writes = k.writes; limits = k.limits; order = k.order };
    })

nonce_adds : (n : ℕ) (g : Gathered) (words : List TextWord) (h : Gathered) → nonce_line n g words ≡ Ok h → Adds g (codes "nonce" ∷ words) h
unfolding nonce_line
nonce_adds n g words h e =
    let t : Takes (bytes_at n) (is_none g.nonce) nonce_fits (with_nonce g) words h = one_takes n (bytes_at n) (is_none g.nonce) nonce_fits (with_nonce g) words h e in
    subst (λ (z : Gathered). Adds g (codes "nonce" ∷ words) z) t.made (record {
      statement = NonceIs t.value;
      says = (t.word, ap (λ (ws : List TextWord). codes "nonce" ∷ ws) t.words, or_token_ok n (decode_of t.word) t.value t.parses, eqb-true _ _ t.fits);
      begun = refl;
      gathers = λ ss c k. record { key = k.key; nonce = once_step any g.nonce t.value (filter_map nonce_in ss) (Some c.session.nonce) (none_of g.nonce t.free) refl k.nonce; operation = k.operation; steps = k.steps; calls = k.calls; inputs = k.inputs; writes = k.writes; limits = k.limits; order = k.order };
    })

operation_adds : (n : ℕ) (g : Gathered) (words : List TextWord) (h : Gathered) → operation_line n g words ≡ Ok h → Adds g (codes "operation" ∷ words) h
unfolding operation_line
operation_adds n g words h e =
    let t : Takes (numeral_at n) (is_none g.operation) operation_fits (with_operation g) words h = one_takes n (numeral_at n) (is_none g.operation) operation_fits (with_operation g) words h e in
    let low : t.value ≤ 65535 = leb-true _ _ (and_parts (leb 1 t.value) (leb t.value 65535) t.fits).1 in
    subst (λ (z : Gathered). Adds g (codes "operation" ∷ words) z) t.made (record {
      statement = OperationIs t.value;
      says = (t.word, ap (λ (ws : List TextWord). codes "operation" ∷ ws) t.words, number_takes n t.word t.value t.parses (omega arith));
      begun = refl;
      gathers = λ ss c k. record { key = k.key; nonce = k.nonce; operation = once_step operation_fits g.operation t.value (filter_map operation_in ss) (Some c.session.op) (none_of g.operation t.free) t.fits k.operation; steps = k.steps; calls = k.calls; inputs = k.inputs; writes = k.writes; limits = k.limits; order = k.order };
    })

steps_adds : (n : ℕ) (g : Gathered) (words : List TextWord) (h : Gathered) → steps_line n g words ≡ Ok h → Adds g (codes "steps" ∷ words) h
unfolding steps_line
steps_adds n g words h e =
    let t : Takes (numeral_at n) (is_none g.steps) steps_fit (with_steps g) words h = one_takes n (numeral_at n) (is_none g.steps) steps_fit (with_steps g) words h e in
    let low : t.value ≤ 4194304 = leb-true _ _ (and_parts (leb 1 t.value) (leb t.value 4194304) t.fits).1 in
    subst (λ (z : Gathered). Adds g (codes "steps" ∷ words) z) t.made (record {
      statement = StepsAre t.value;
      says = (t.word, ap (λ (ws : List TextWord). codes "steps" ∷ ws) t.words, number_takes n t.word t.value t.parses (omega arith));
      begun = refl;
      gathers = λ ss c k. record { key = k.key; nonce = k.nonce; operation = k.operation; steps = once_step steps_fit g.steps t.value (filter_map steps_in ss) (Some c.steps) (none_of g.steps t.free) t.fits k.steps; calls = k.calls; inputs = k.inputs; writes = k.writes; limits = k.limits; order = k.order };
    })

calls_adds : (n : ℕ) (g : Gathered) (words : List TextWord) (h : Gathered) → calls_line n g words ≡ Ok h → Adds g (codes "calls" ∷ words) h
unfolding calls_line
calls_adds n g words h e =
    let t : Takes (numeral_at n) (is_none g.calls) calls_fit (with_calls g) words h = one_takes n (numeral_at n) (is_none g.calls) calls_fit (with_calls g) words h e in
    let low : t.value ≤ 1024 = leb-true _ _ (and_parts (leb 1 t.value) (leb t.value 1024) t.fits).1 in
    subst (λ (z : Gathered). Adds g (codes "calls" ∷ words) z) t.made (record {
      statement = CallsAre t.value;
      says = (t.word, ap (λ (ws : List TextWord). codes "calls" ∷ ws) t.words, number_takes n t.word t.value t.parses (omega arith));
      begun = refl;
      gathers = λ ss c k. record { key = k.key; nonce = k.nonce; operation = k.operation; steps = k.steps; calls = once_step calls_fit g.calls t.value (filter_map calls_in ss) c.session.calls (none_of g.calls t.free) t.fits k.calls; inputs = k.inputs; writes = k.writes; limits = k.limits; order = k.order };
    })

input_adds : (n : ℕ) (g : Gathered) (words : List TextWord) (h : Gathered) → input_line n g words ≡ Ok h → Adds g (codes "input" ∷ words) h
unfolding input_line
input_adds n g words h e =
    let a = bind_ok (ok_or (sole words) (At n Token)) (λ word. integer_at n word >>= λ z. Ok (with_input g z)) h e in
    let b = bind_ok (integer_at n a.0) (λ z. Ok (with_input g z)) h a.2 in
    let r = integer_takes a.0 b.0 (integer_ok n (read_as_integer a.0) b.0 b.1) in
    subst (λ (z : Gathered). Adds g (codes "input" ∷ words) z) (ok_is (with_input g b.0) h b.2) (record {
      statement = InputIs b.0;
      says = (a.0, ap (λ (ws : List TextWord). codes "input" ∷ ws) (sole_is words a.0 (or_ok (sole words) (At n Token) a.0 a.1)), r.0, r.1);
      begun = refl;
      gathers = λ ss c k. record { key = k.key; nonce = k.nonce; operation = k.operation; steps = k.steps; calls = k.calls; inputs = sym (append_assoc g.inputs (b.0 ∷ []) (filter_map input_in ss)) ∙ k.inputs; writes = k.writes; limits = k.limits; order = k.order };
    })

abbrev written : ℕ → ℕ → List ℕ → Write
written before address bytes = record { before = before; address = address; bytes = bytes }

write_parts : (n : ℕ) (three : TextWord × TextWord × TextWord) (w : Write) → write_of n three ≡ Ok w → w.before < 2 ^ 64 - 1
    → (numeral_of three.0 ≡ Some w.before) × (address_numeral three.1 ≡ Some w.address) × (decode_of three.2 ≡ Ok w.bytes)
unfolding write_of
write_parts n three w e low =
    let a = bind_ok (numeral_at n three.0) (λ before. ok_or (address_numeral three.1) (At n Token) >>= λ address. bytes_at n three.2 >>= λ bytes. done (written before address bytes)) w e in
    let b = bind_ok (ok_or (address_numeral three.1) (At n Token)) (λ address. bytes_at n three.2 >>= λ bytes. done (written a.0 address bytes)) w a.2 in
    let d = bind_ok (bytes_at n three.2) (λ bytes. done (written a.0 b.0 bytes)) w b.2 in
    let made : written a.0 b.0 d.0 ≡ w = ok_is (written a.0 b.0 d.0) w d.2 in
    let same : a.0 ≡ w.before = ap (λ (z : Write). z.before) made in
    let small : a.0 < 2 ^ 64 - 1 = omega arith in
    subst (λ (z : Write). (numeral_of three.0 ≡ Some z.before) × (address_numeral three.1 ≡ Some z.address) × (decode_of three.2 ≡ Ok z.bytes)) made
    (number_takes n three.0 a.0 a.1 small, or_ok (address_numeral three.1) (At n Token) b.0 b.1, or_token_ok n (decode_of three.2) d.0 d.1)

write_adds : (n : ℕ) (g : Gathered) (words : List TextWord) (h : Gathered) → write_line n g words ≡ Ok h → Adds g (codes "write" ∷ words) h
unfolding write_line add_write
write_adds n g words h e =
    let a = bind_ok (ok_or (triple words) (At n Token)) (λ three. write_of n three >>= λ w. add_write n g w) h e in
    let b = bind_ok (write_of n a.0) (λ w. add_write n g w) h a.2 in
    let w : Write = b.0 in
    let f = guarded_ok (write_fits w) (At n Range) (λ _. guard (fits w.address (length w.bytes)) (At n OutsideData) >>= λ _. guard (leb g.least w.before) (At n Order) >>= λ _. Ok (with_write g w)) h b.2 in
    let i = guarded_ok (fits w.address (length w.bytes)) (At n OutsideData) (λ _. guard (leb g.least w.before) (At n Order) >>= λ _. Ok (with_write g w)) h f.1 in
    let o = guarded_ok (leb g.least w.before) (At n Order) (λ _. Ok (with_write g w)) h i.1 in
    let early : w.before < 4194304 = ltb-true _ _ (and_parts (ltb w.before 4194304) (between 1 4096 (length w.bytes)) f.0).0 in
    let p = write_parts n a.0 w b.1 (omega arith) in
    subst (λ (z : Gathered). Adds g (codes "write" ∷ words) z) (ok_is (with_write g w) h o.1) (record {
      statement = WriteIs w;
      says = (a.0.0, a.0.1, a.0.2, ap (λ (ws : List TextWord). codes "write" ∷ ws) (triple_is words a.0 (or_ok (triple words) (At n Token) a.0 a.1)), p.0, p.1, p.2);
      begun = refl;
      gathers = λ ss c k. record { key = k.key; nonce = k.nonce; operation = k.operation; steps = k.steps; calls = k.calls; inputs = k.inputs; writes = sym (append_assoc g.writes (w ∷ []) (filter_map write_in ss)) ∙ k.writes; limits = ((f.0, i.0), k.limits); order = (o.0, k.order) };
    })

named : (name keyword : TextWord) (words : List TextWord) (g h : Gathered) → bytes_eq keyword name ≡ true → Adds g (name ∷ words) h → Adds g (keyword ∷ words) h
named name keyword words g h same adds = rw ((bytes_eq-Decides keyword name).0 same) adds

pub statement_adds : (n : ℕ) (g : Gathered) (keyword : TextWord) (words : List TextWord) (h : Gathered) → statement_line n g keyword words ≡ Ok h → Adds g (keyword ∷ words) h
unfolding statement_line
statement_adds n g keyword words h e0 =
    elim (cases_Bool (bytes_eq keyword (codes "key"))) [
      | inl is ↦ named (codes "key") keyword words g h is (key_adds n g words h (rw is at e0))
      | inr not_key ↦ let e1 = rw not_key at e0 in elim (cases_Bool (bytes_eq keyword (codes "nonce"))) [
        | inl is ↦ named (codes "nonce") keyword words g h is (nonce_adds n g words h (rw is at e1))
        | inr not_nonce ↦ let e2 = rw not_nonce at e1 in elim (cases_Bool (bytes_eq keyword (codes "operation"))) [
          | inl is ↦ named (codes "operation") keyword words g h is (operation_adds n g words h (rw is at e2))
          | inr not_operation ↦ let e3 = rw not_operation at e2 in elim (cases_Bool (bytes_eq keyword (codes "steps"))) [
            | inl is ↦ named (codes "steps") keyword words g h is (steps_adds n g words h (rw is at e3))
            | inr not_steps ↦ let e4 = rw not_steps at e3 in elim (cases_Bool (bytes_eq keyword (codes "calls"))) [
              | inl is ↦ named (codes "calls") keyword words g h is (calls_adds n g words h (rw is at e4))
              | inr not_calls ↦ let e5 = rw not_calls at e4 in elim (cases_Bool (bytes_eq keyword (codes "input"))) [
                | inl is ↦ named (codes "input") keyword words g h is (input_adds n g words h (rw is at e5))
                | inr not_input ↦ let e6 = rw not_input at e5 in elim (cases_Bool (bytes_eq keyword (codes "write"))) [
                  | inl is ↦ named (codes "write") keyword words g h is (write_adds n g words h (rw is at e6))
                  | inr not_write ↦ absurd (let bad : Err (At n Token) ≡ done h = rw not_write at e6 in cc)
                ]
              ]
            ]
          ]
        ]
      ]
    ]
