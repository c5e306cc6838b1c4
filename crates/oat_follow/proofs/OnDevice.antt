-- From the bare run to the measured run of a session.
use Rattle.std.proofs.Common.{◌≡◌, ◌+◌, ℕ, ℤ, true, List, [], ◌++◌, map, slice_get, Option, Some, None, is_some, refl, sym, ap, subst, ◌∙◌, arith}
use Rattle.oat_events.proofs.WindowLaws.{closed_alike}
use Rattle.oat_measure.specs.Shelving.{Measured}
use Rattle.oat_journal.specs.{Body, Write, SourceMachine, is_closed, Image, Opening, StopKind, at_start, measures, sealed_bodies, Measured.HasBody, Measured.IsCalledFor, Measured.Run, Measured.dev}
use Rattle.oat_journal.specs.{Measured.run_until, Measured.start_cells, Run.Entry, Run.Running, Run.bare, Run.journal, declared.end.DeviceEnd.DeviceEnd, Window.executed_path, Window.made_call}
use Rattle.oat_journal.specs.{Window.opens_window, Window.seals_window, Window.window}
use Rattle.oat_journal.proofs.RunLaws.{bodies_are_called_for}
use Rattle.oat_follow.specs.{Following.EndsAlike, Following.Means, Following.RunsAs, Following.ShowsTheCall, Order.KeepOrder, Order.OrderedRunsAreSealed, Order.SealsWindows}
use Rattle.oat_follow.specs.{Order.defines_up_to_window, Order.is_window_closed, Order.uses_in_window, Placement.Placement}
use Rattle.oat_follow.proofs.{Several.several, Shelving.Seals, Shelving.has_body, Shelving.opening, Shelving.sealing, Showing.map-shown}

-- ---- a run whose calls keep order

body-there : (body : Option Body) → is_some body ≡ true → (b : Body) × (body ≡ Some b)
body-there None h = absurd (cc)
body-there (Some b) h = (b, refl)

module _ (image : Image) (o : Opening) (inputs : List ℤ) (writes : List Write) (n : ℕ) (order : KeepOrder (start_cells image) (map made_call (journal image inputs writes n))) where
  abbrev js : List Entry
  js = journal image inputs writes n

  abbrev measured_run : Measured
  measured_run = measures o (at_start o (start_cells image)) (map made_call js)

  sealed-windows : Seals o [] o.serial measured_run (λ s. is_closed (opening o) (sealing o) s (map made_call js))
  sealed-windows = several o (at_start o (start_cells image)).state None (start_cells image) (map made_call js) order.active order.cells refl order.passes

  -- the monitor stops nothing, so the measured run is the bare run
  abbrev plain_run : Run
  plain_run = record { running = bare image inputs writes n; measurements = measured_run.measurements; end = (bare image inputs writes n).end; journal = js }

  dev-is : dev image o inputs writes n ≡ plain_run
  dev-is = ap (λ (stop : Option StopKind). run_until image inputs writes n measured_run stop) sealed-windows.stop

  -- the windows of the calls are those of the journal
  closed-calls : (s : ℕ) → is_closed (opening o) (sealing o) s (map made_call js) ≡ is_window_closed o.op o.begin_at s js
  closed-calls s =
      ap (is_closed (opening o) (sealing o) s) (map-shown made_call js)
      ∙ closed_alike (λ (e : Entry). Some (made_call e)) (opens_window made_call o.op o.begin_at) (seals_window made_call o.op) (opening o) (sealing o) (λ e. refl) (λ e. refl) s js

  has-body : (s : ℕ) → IsCalledFor o s → has_body o measured_run.measurements s ≡ is_window_closed o.op o.begin_at s js
  has-body s due =
      let none : 0 + s ≡ s = omega arith in
      ap (has_body o measured_run.measurements) (sym none) ∙ sealed-windows.done s due ∙ closed-calls s

  pub seals-windows : SealsWindows image o inputs writes n
  seals-windows = record {
    running = ap (λ (r : Run). r.running) dev-is;
    end = ap (λ (r : Run). r.end) dev-is;
    whole = ap (λ (r : Run). r.journal) dev-is;
    seals = λ s due closed.
        let found = body-there (slice_get (sealed_bodies o measured_run.measurements) s) (has-body s due ∙ closed) in
        (found.0, subst (λ (r : Run). HasBody o r s found.0) (sym dev-is) found.1);
    sealed = λ s body is.
        let here : HasBody o plain_run s body = subst (λ (r : Run). HasBody o r s body) dev-is is in
        sym (has-body s (bodies_are_called_for image o inputs writes n s body is)) ∙ ap (λ (b : Option Body). is_some b) here;
  }

pub ordered_runs_are_sealed : OrderedRunsAreSealed
ordered_runs_are_sealed image o inputs writes n order = seals-windows image o inputs writes n order

-- ---- a run that runs as a source

ends-alike : (S : SourceMachine) (end end' : ℕ → Option DeviceEnd) (outputs outputs' : ℕ → List ℤ) → ((n : ℕ) → end' n ≡ end n) → ((n : ℕ) → outputs' n ≡ outputs n)
    → EndsAlike S end outputs → EndsAlike S end' outputs'
ends-alike S end end' outputs outputs' same alike w = record {
  forth = λ k n finish ends enough. let e = w.forth k n finish ends enough in record { ended = same n ∙ e.ended; same = alike n ∙ e.same };
  back = λ n why is. let e = w.back n why (sym (same n) ∙ is) in record { finish = e.finish; ends = e.ends; alike = e.alike; same = alike n ∙ e.same };
  prefix = λ n. let e = w.prefix n in (e.0, ap (λ (xs : List ℤ). xs ++ e.0) (alike n) ∙ e.1);
}

module _ (S : SourceMachine) (image : Image) (p : Placement S.Edge) (o : Opening) (inputs : List ℤ) (begun : p.begin o.op ≡ o.begin_at) (R : RunsAs S image p inputs) where
  sealed-run : (n : ℕ) → SealsWindows image o inputs [] n
  sealed-run n = ordered_runs_are_sealed image o inputs [] n (R.ordered n)

  -- the window opens where the operation begins
  closed-there : (s n : ℕ) → is_window_closed o.op (p.begin o.op) s (journal image inputs [] n) ≡ is_window_closed o.op o.begin_at s (journal image inputs [] n)
  closed-there s n = ap (λ (at : ℕ). is_window_closed o.op at s (journal image inputs [] n)) begun

  sealed-closed : (s n : ℕ) (body : Body) → HasBody o (dev image o inputs [] n) s body → is_window_closed o.op (p.begin o.op) s (journal image inputs [] n) ≡ true
  sealed-closed s n body is = closed-there s n ∙ (sealed-run n).sealed s body is

  abbrev ShownFrom : ℕ → ℕ → ℕ → List Entry → Type 0
  ShownFrom s k at es =
      ShowsTheCall S image p o.op s k (executed_path image.map o.op (window made_call o.op at s es)) (uses_in_window (start_cells image) o.op at s es) (defines_up_to_window o.op at s es)

  pub means : Means S image p o inputs
  means = record {
    whole = λ n. (sealed-run n).whole;
    ends = ends-alike S _ _ _ _ (λ n. (sealed-run n).end) (λ n. ap (λ (r : Running). r.outputs) (sealed-run n).running) R.ends;
    seals = λ s k n due has enough. (sealed-run n).seals s due (sym (closed-there s n) ∙ R.closes o.op s k n has enough);
    sealed = λ s n body is. R.closed o.op s n (sealed-closed s n body is);
    shows = λ s k n body has is.
        subst (ShownFrom s k o.begin_at) (sym (sealed-run n).whole) (subst (λ (at : ℕ). ShownFrom s k at (journal image inputs [] n)) begun (R.shows o.op s k n has (sealed-closed s n body is)));
  }
