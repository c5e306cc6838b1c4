-- No two devices of a script have one id.
use Rattle.std.proofs.Common.{◌≡◌, ℕ, ◌+◌, Bool, true, false, not, ◌||◌, List, [], ◌∷◌, ◌++◌, length, map, None, Some, Ok, Err, refl, sym, ap, subst, ◌∙◌, inl, inr, append_assoc}
use Rattle.std.specs.{Prelude.◌==◌, Prelude.nat_lt, Prelude.if◌then◌else◌, Prelude.codes, List.list_any, Option.ok_or, Str.bytes_eq}
use Rattle.std.proofs.lemmas.{Bool.cases_Bool, Bool.eq-eqb, Bool.eqb-true, Bool.ne_eqb, List.append-nil, List.map-append}
use Rattle.oat_lines.proofs.Steps.{ok_is, bind_ok, guarded_ok}
use Rattle.oat_owner.specs.{Fault, At, TextWord, lines_of, words_of, is_comment, sole, triple, ◌>>=◌, guard, declared.call.OwnerCall.OwnerCall, Ledger.repeated_behind}
use Rattle.oat_script.specs.{declared.script.ScriptDevice.ScriptDevice, declared.script.Script.Script, declared.fault.ScriptFaultKind.ScriptFaultKind, declared.fault.ScriptFaultKind.TheVariants.Token}
use Rattle.oat_script.specs.{declared.fault.ScriptFaultKind.TheVariants.Twice, declared.fault.ScriptFaultKind.TheVariants.Order, Laws.HasDistinctIds, Laws.IdsDiffer, Reading.is_new}
use Rattle.oat_script.specs.{Reading.may_be_device, Reading.device_words, Reading.device_line, Reading.challenge_words, Reading.add_call, Reading.challenge_line, Reading.bytes_word}
use Rattle.oat_script.specs.{Reading.answer_line, Reading.statement_line, Reading.line_of, Reading.whole, Reading.script_from, Reading.script_of}
use Rattle.oat_owner.specs.declared.call.OwnerCall.TheVariants as calls

-- ---- one id more

eq_mirrored : (m n : ℕ) → (m == n) ≡ (n == m)
eq_mirrored m n = elim (cases_Bool (m == n)) [
  | inl same ↦ same ∙ sym (eq-eqb n m (sym (eqb-true m n same)))
  | inr other ↦ other ∙ sym (ne_eqb n m (λ same. let bad = sym other ∙ eq-eqb m n (sym same) in cc))
]

any_id : (devices : List ScriptDevice) (id : ℕ) → list_any (λ d. d.id == id) devices ≡ list_any (λ other. id == other) (map (λ d. d.id) devices)
any_id [] id = refl
any_id (d ∷ devices) id =
    let rest = any_id devices id in
    let first = eq_mirrored d.id id in
    ap (λ (b : Bool). b || list_any (λ (x : ScriptDevice). x.id == id) devices) first ∙ ap (λ (b : Bool). (id == d.id) || b) rest

not_false : (b : Bool) → not b ≡ true → b ≡ false
not_false true is = sym is
not_false false is = refl

repeated_more : (before ids : List ℕ) (id : ℕ) → list_any (λ other. id == other) (before ++ ids) ≡ false → repeated_behind before ids ≡ None
    → repeated_behind before (ids ++ id ∷ []) ≡ None
repeated_more before [] id none so_far =
    let here : list_any (λ other. id == other) before ≡ false = ap (list_any (λ (other : ℕ). id == other)) (sym (append-nil before)) ∙ none in
    rw here refl
repeated_more before (x ∷ ids) id none so_far = elim (cases_Bool (list_any (λ (other : ℕ). x == other) before)) [
  | inl stands ↦ absurd (let bad = rw stands at so_far in cc)
  | inr new ↦
      let left = rw new at so_far in
      rw new
      (repeated_more (before ++ x ∷ []) ids id
      (ap (list_any (λ (other : ℕ). id == other)) (append_assoc before (x ∷ []) ids) ∙ none) left)
]

more : (g : Script) (d : ScriptDevice) → is_new g.devices d.id ≡ true → HasDistinctIds g → HasDistinctIds (record g { devices = g.devices ++ d ∷ [] })
more g d new so_far =
    let none = sym (any_id g.devices d.id) ∙ not_false (list_any (λ (x : ScriptDevice). x.id == d.id) g.devices) new in
    subst (λ (ids : List ℕ). repeated_behind [] ids ≡ None) (sym (map-append (λ (x : ScriptDevice). x.id) g.devices (d ∷ [])))
    (repeated_more [] (map (λ (x : ScriptDevice). x.id) g.devices) d.id none so_far)

-- ---- each line

device_keeps : (n : ℕ) (g h : Script) (words : List TextWord) → device_line n g words ≡ Ok h → HasDistinctIds g → HasDistinctIds h
unfolding device_line
device_keeps n g h words e so_far =
    let added = λ (d : ScriptDevice). record g { devices = g.devices ++ d ∷ [] } in
    let a = bind_ok (ok_or (triple words) (At n Token)) (λ three. device_words n three >>= λ d. guard (is_new g.devices d.id) (At n Twice) >>= λ once. guard (may_be_device g) (At n Order) >>= λ placed. Ok (added d)) h e in
    let b = bind_ok (device_words n a.0) (λ d. guard (is_new g.devices d.id) (At n Twice) >>= λ once. guard (may_be_device g) (At n Order) >>= λ placed. Ok (added d)) h a.2 in
    let c = guarded_ok (is_new g.devices b.0.id) (At n Twice) (λ once. guard (may_be_device g) (At n Order) >>= λ placed. Ok (added b.0)) h b.2 in
    let d = guarded_ok (may_be_device g) (At n Order) (λ placed. Ok (added b.0)) h c.1 in
    subst HasDistinctIds (ok_is (added b.0) h d.1) (more g b.0 c.0 so_far)

call_keeps : (n : ℕ) (g h : Script) (call : OwnerCall) → add_call n g call ≡ Ok h → HasDistinctIds g → HasDistinctIds h
unfolding add_call
call_keeps n g h call e so_far =
    let added = record g { calls = g.calls ++ call ∷ [] } in
    let a = guarded_ok (nat_lt 0 (length g.devices)) (At n Order) (λ placed. Ok added) h e in
    subst HasDistinctIds (ok_is added h a.1) so_far

challenge_keeps : (n : ℕ) (g h : Script) (words : List TextWord) → challenge_line n g words ≡ Ok h → HasDistinctIds g → HasDistinctIds h
unfolding challenge_line
challenge_keeps n g h words e so_far =
    let a = bind_ok (ok_or (triple words) (At n Token)) (λ three. challenge_words n three >>= λ call. add_call n g call) h e in
    let b = bind_ok (challenge_words n a.0) (λ call. add_call n g call) h a.2 in
    call_keeps n g h b.0 b.2 so_far

answer_keeps : (n : ℕ) (g h : Script) (words : List TextWord) → answer_line n g words ≡ Ok h → HasDistinctIds g → HasDistinctIds h
unfolding answer_line
answer_keeps n g h words e so_far =
    let a = bind_ok (ok_or (sole words) (At n Token)) (λ word. bytes_word n word >>= λ frame. add_call n g (calls.Answer frame)) h e in
    let b = bind_ok (bytes_word n a.0) (λ frame. add_call n g (calls.Answer frame)) h a.2 in
    call_keeps n g h (calls.Answer b.0) b.2 so_far

statement_keeps : (n : ℕ) (g h : Script) (keyword : TextWord) (words : List TextWord) → statement_line n g keyword words ≡ Ok h → HasDistinctIds g → HasDistinctIds h
unfolding statement_line
statement_keeps n g h keyword words e so_far = elim (cases_Bool (bytes_eq keyword (codes "device"))) [
  | inl device ↦ device_keeps n g h words (rw device at e) so_far
  | inr other ↦ elim (cases_Bool (bytes_eq keyword (codes "challenge"))) [
    | inl challenge ↦ challenge_keeps n g h words (rw (other, challenge) at e) so_far
    | inr third ↦ elim (cases_Bool (bytes_eq keyword (codes "answer"))) [
      | inl answer ↦ answer_keeps n g h words (rw (other, third, answer) at e) so_far
      | inr wrong ↦ absurd (let bad = rw (other, third, wrong) at e in cc)
    ]
  ]
]

line_keeps : (n : ℕ) (g h : Script) (words : List TextWord) → line_of n g words ≡ Ok h → HasDistinctIds g → HasDistinctIds h
unfolding line_of
line_keeps n g h [] e so_far = subst HasDistinctIds (ok_is g h e) so_far
line_keeps n g h (first ∷ words) e so_far = elim (cases_Bool (is_comment first)) [
  | inl comment ↦ subst HasDistinctIds (ok_is g h (rw comment at e)) so_far
  | inr plain ↦ statement_keeps n g h first words (rw plain at e) so_far
]

-- ---- all lines

lines_keep : (n : ℕ) (g h : Script) (lines : List TextWord) → script_from n g lines ≡ Ok h → HasDistinctIds g → HasDistinctIds h
unfolding script_from whole
lines_keep n g h [] e so_far =
    let a = guarded_ok (nat_lt 0 (length g.devices)) (At n Order) (λ some. Ok g) h e in
    subst HasDistinctIds (ok_is g h a.1) so_far
lines_keep n g h (line ∷ lines) e so_far =
    let a = bind_ok (line_of n g (words_of line)) (λ next. script_from (n + 1) next lines) h e in
    lines_keep (n + 1) a.0 h lines a.2 (line_keeps n g a.0 (words_of line) a.1 so_far)

pub ids_differ : IdsDiffer
ids_differ text script read = lines_keep 1 (record { devices = []; calls = [] }) script (lines_of text) read refl
