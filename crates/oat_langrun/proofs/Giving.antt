-- What follows where a value was held, read or passed.
use Rattle.std.proofs.Common.{◌≡◌, ◌<◌, ℕ, List, [], length, get_or, replicate, Option, Some, None, refl, sym, ap, subst, ◌∙◌}
use Rattle.std.proofs.Math.Path.{fun_ext}
use Rattle.std.proofs.lemmas.Option.{get_or_from_slice_get, slice_get-get_or}
use Rattle.oat_events.specs.Events as event
use Rattle.oat_langrun.specs.declared.activation.Activation.{Activation}
use Rattle.oat_langrun.specs.declared.interpreter.Interpreter.{Interpreter}
use Rattle.oat_langrun.specs.declared.step.Step.{Step}
use Rattle.oat_langrun.specs.Keeping.{IsGood}
use Rattle.oat_langrun.specs.Meaning.{Run, cell_of, first_of, gives, if_any, reads_global, step_at, takes_value, uses_here}
use Rattle.oat_langrun.specs.Recording.{entry_added, events_added}
use Rattle.oat_langrun.specs.Running.{HasStepped, IsReady, StandsAt, code_of, state_of, tree_of}
use Rattle.oat_langrun.specs.Standing.{run_of}
use Rattle.oat_langrun.proofs.Passing.{all_alike}
use Rattle.oat_langrun.proofs.Words.{events_append, loads_nothing}

-- ---- a value that was held

module _ (m : Interpreter) (a : Activation) (st : Step) (v : ℕ) (taken : run_of a ≡ takes_value st.use_of st.open_below (run_of m.running) v) where
  pub taken_ready : IsReady m → IsReady (record m { running = a })
  taken_ready h = record {
    lang = h.lang;
    routines = h.routines;
    words = h.words;
    good = subst (λ (r : Run). IsGood (tree_of m) (record (state_of m) { run = r })) (sym taken)
        (record { stands = record { its = h.good.stands.its; is = h.good.stands.is; within = h.good.stands.within }; callers = h.good.callers; few = h.good.few });
  }

  pub taken_there : StandsAt m st → StandsAt (record m { running = a }) st
  taken_there at = ap (λ (r : Run). step_at (code_of m) r) taken ∙ at

  pub given : (last : Interpreter) → HasStepped (record m { running = a }) (uses_here (code_of m) (record (state_of m) { run = run_of a }) st v) last
      → HasStepped m (gives (code_of m) (state_of m) st v) last
  given last t =
      subst (λ (r : Run). HasStepped m (uses_here (code_of m) (record (state_of m) { run = r }) st v) last) taken
      (record { state = t.state; recorded = t.recorded; left = t.left; items = t.items; routines = t.routines; words = t.words })

-- ---- a value that was read

pub value_held : (m : Interpreter) (g i : ℕ) → i < length (get_or m.memory g []) → get_or (get_or m.memory g []) i 0 ≡ (state_of m).globals g i
value_held m g i low = let row = get_or m.memory g [] in sym (get_or_from_slice_get row i (get_or row i 0) (first_of (code_of m) g i) (slice_get-get_or row i 0 low))

pub read_given : (m : Interpreter) (st : Step) (g i v : ℕ) (last : Interpreter) → v ≡ (state_of m).globals g i → HasStepped m (gives (code_of m) (state_of m) st v) last
    → HasStepped m (reads_global (code_of m) (state_of m) st g i) last
read_given m st g i v last is t =
    let c = code_of m in
    let held = (state_of m).globals g i in
    let shown = if_any (cell_of c g i) (λ cell. event.loads cell held) in
    let u : HasStepped m (gives c (state_of m) st held) last = subst (λ (n : ℕ). HasStepped m (gives c (state_of m) st n) last) is t in
    record {
      state = u.state;
      recorded = u.recorded ∙ sym (events_append m.kept.recorded shown (gives c (state_of m) st held).shown ∙ ap (λ r. events_added r (gives c (state_of m) st held).shown) (loads_nothing m.kept.recorded (cell_of c g i) held));
      left = u.left;
      items = u.items;
      routines = u.routines;
      words = u.words;
    }

-- ---- a function that was entered

pub entry_recorded : (m : Interpreter) (o : Option ℕ) → entry_added m.kept.recorded o ≡ events_added m.kept.recorded (if_any o event.enters)
entry_recorded m None = refl
entry_recorded m (Some op) = refl

pub entered_run : (a : Activation) (func : ℕ) (args : List ℕ) → a.func ≡ func → a.place ≡ 0 → ((x : ℕ) → get_or a.locals x 0 ≡ get_or args x 0) → a.operands ≡ replicate 256 0
    → run_of a ≡ record { func = func; place = 0; locals = λ i. get_or args i 0; operands = λ i. 0 }
entered_run a func args f p locals operands =
    λ i. record {
      func = f i;
      place = p i;
      locals = fun_ext locals i;
      operands = (ap (λ (xs : List ℕ). λ (n : ℕ). get_or xs n 0) operands ∙ fun_ext (all_alike 256 0)) i;
    }
