-- What the engine of a course makes of a monitor call, and the room that it leaves.
use Rattle.std.proofs.Common.{◌≡◌, ◌+◌, ◌-◌, ◌≤◌, ◌<◌, ◌^◌, ◌⊎◌, ℕ, Bool, true, false, cond, eqb, not, [], ◌∷◌, Option, Some, None, Result, Ok, Err, refl, sym, ap, subst, ◌∙◌, inl, inr, arith, length}
use Rattle.std.proofs.Common.{length-append}
use Rattle.std.specs.Prelude.{MatchResult}
use Rattle.oat_journal.specs.{MonitorCall, Engine, Opening, StopKind, BodyShelf, Stage, State, unmeasured, measuring, sealed, before_window, inside_window, after_window, measured, opens, Measurements}
use Rattle.oat_journal.specs.{measured_on, settled, with_state, engine_shown, engine_state, Run.Running, Progress.Progress, Progress.stopped_by, Progress.with_measurement}
use Rattle.oat_device.specs.{declared.bare.BareRun.BareRun, declared.course.Course.Course, Records.bits_taken, Records.targets_taken, Standing.HasShelfRoom, Standing.LeavesRoom, Standing.bits_held}
use Rattle.oat_device.specs.{Standing.shelf_bits, Standing.shelf_targets, Standing.targets_held, Standing.windows_to_come, Telling.FitsShelf, Telling.Settles, Telling.measurements_of, Telling.outcome}
use Rattle.oat_device.specs.{Telling.unnumbered, Telling.windows_due}
use Rattle.oat_measure.specs.declared.call.MonitorCall.TheVariants as svc

-- ---- the records that a call takes

record GrowsBy (bits targets : ℕ) (old new : State) : Type 0 where
  bits_grow : length new.bits ≤ length old.bits + bits
  targets_grow : length new.targets ≤ length old.targets + targets

abbrev Grows : State → MonitorCall → Result State StopKind → Type 0
Grows s call result = MatchResult result (GrowsBy (bits_taken call) (targets_taken call) s) (λ stop. Unit {0})

stays : (bits targets : ℕ) (old new : State) → length new.bits ≡ length old.bits → length new.targets ≡ length old.targets → GrowsBy bits targets old new
stays bits targets old new b t = record { bits_grow = omega (arith, b); targets_grow = omega (arith, t) }

grows-if : (bits targets : ℕ) (t : Bool) (s a b : State) → GrowsBy bits targets s a → GrowsBy bits targets s b → GrowsBy bits targets s (cond t a b)
grows-if bits targets true s a b p q = p
grows-if bits targets false s a b p q = q

before-grows : (o : Opening) (s : State) (call : MonitorCall) → GrowsBy (bits_taken call) (targets_taken call) s (before_window o s call)
before-grows o s (svc.Begin op at) = grows-if 0 0 (opens o.op o.begin_at (svc.Begin op at)) s _ _ (stays 0 0 s _ refl refl) (stays 0 0 s s refl refl)
before-grows o s (svc.End op) = stays 0 0 s s refl refl
before-grows o s (svc.Bit value) = stays 1 0 s s refl refl
before-grows o s (svc.Target address) = stays 0 1 s s refl refl
before-grows o s (svc.Return address) = stays 0 0 s s refl refl
before-grows o s (svc.Define cell value) = stays 0 0 s _ refl refl
before-grows o s (svc.Use cell value) = stays 0 0 s s refl refl

after-grows : (s : State) (call : MonitorCall) → GrowsBy (bits_taken call) (targets_taken call) s (after_window s call)
after-grows s (svc.Begin op at) = stays 0 0 s s refl refl
after-grows s (svc.End op) = stays 0 0 s s refl refl
after-grows s (svc.Bit value) = stays 1 0 s s refl refl
after-grows s (svc.Target address) = stays 0 1 s s refl refl
after-grows s (svc.Return address) = stays 0 0 s s refl refl
after-grows s (svc.Define cell value) = stays 0 0 s _ refl refl
after-grows s (svc.Use cell value) = stays 0 0 s s refl refl

end-grows : (t : Bool) (s next : State) (op : ℕ) (stop : StopKind) → GrowsBy 0 0 s next → Grows s (svc.End op) (cond t (Ok next) (Err stop))
end-grows true s next op stop grows = grows
end-grows false s next op stop grows = tt

inside-grows : (o : Opening) (s : State) (call : MonitorCall) → Grows s call (inside_window o s call)
inside-grows o s (svc.Begin op at) = tt
inside-grows o s (svc.End op) = end-grows (eqb op o.op) s _ op _ (stays 0 0 s _ refl refl)
inside-grows o s (svc.Bit value) = record { bits_grow = omega (arith, length-append s.bits (not (eqb value 0) ∷ [])); targets_grow = omega arith }
inside-grows o s (svc.Target address) = record { bits_grow = omega arith; targets_grow = omega (arith, length-append s.targets (address ∷ [])) }
inside-grows o s (svc.Return address) = stays 0 0 s _ refl refl
inside-grows o s (svc.Define cell value) = stays 0 0 s _ refl refl
inside-grows o s (svc.Use cell value) = stays 0 0 s _ refl refl

at-stage : (o : Opening) (s : State) (call : MonitorCall) (stage : Stage)
    → Grows s call (elim stage [ unmeasured ↦ Ok (before_window o s call) | measuring ↦ inside_window o s call | sealed ↦ Ok (after_window s call) ])
at-stage o s call unmeasured = before-grows o s call
at-stage o s call measuring = inside-grows o s call
at-stage o s call sealed = after-grows s call

grown : (o : Opening) (s next : State) (call : MonitorCall) → Ok next ≡ measured o s (Some call) → GrowsBy (bits_taken call) (targets_taken call) s next
grown o s next call is = subst (Grows s call) (sym is) (at-stage o s call s.stage)

-- ---- the measurements

-- what windows are opened for tells what a call does, whatever the number of the present one
measured-for : (o q : Opening) (m : Measurements) (call : Option MonitorCall) → unnumbered o ≡ unnumbered q → measured_on o m call ≡ measured_on q m call
measured-for o q m call same = ap (λ (x : Opening). measured_on x m call) same

pub told-on : (o : Opening) (e told after : Engine) (shelf next : BodyShelf) (call : MonitorCall) (running : Running)
    → unnumbered (engine_shown e).opening ≡ unnumbered o → Ok (engine_state told) ≡ measured (engine_shown e).opening (engine_state e) (Some call)
    → (engine_shown told).opening ≡ (engine_shown e).opening → measurements_of after next ≡ settled (engine_shown told).opening (measurements_of told shelf)
    → record { running = running; measurements = measurements_of after next } ≡ with_measurement (record { running = running; measurements = measurements_of e shelf }) (measured_on o (measurements_of e shelf) (Some call))
told-on o e told after shelf next call running same is opening settles =
    let own = (engine_shown e).opening in
    let left : measured_on own (measurements_of e shelf) (Some call) ≡ Ok (measurements_of after next) =
    ap (with_state own shelf.bodies) (sym is) ∙ ap (λ (x : Opening). Ok (settled x (measurements_of told shelf))) (sym opening) ∙ ap Ok (sym settles) in
    let all = sym (measured-for own o (measurements_of e shelf) (Some call) same) ∙ left in
    sym (ap (with_measurement (record { running = running; measurements = measurements_of e shelf })) all)

pub stopped-on : (o : Opening) (e told : Engine) (shelf : BodyShelf) (call : MonitorCall) (running : Running) (kind : StopKind)
    → unnumbered (engine_shown e).opening ≡ unnumbered o → Err kind ≡ measured (engine_shown e).opening (engine_state e) (Some call) → engine_state told ≡ engine_state e
    → record { running = stopped_by (Some kind) running; measurements = measurements_of told shelf } ≡ with_measurement (record { running = running; measurements = measurements_of e shelf }) (measured_on o (measurements_of e shelf) (Some call))
stopped-on o e told shelf call running kind same is kept =
    let own = (engine_shown e).opening in
    let p : Progress = record { running = running; measurements = measurements_of e shelf } in
    let all : measured_on o (measurements_of e shelf) (Some call) ≡ Err kind = sym (measured-for own o (measurements_of e shelf) (Some call) same) ∙ ap (with_state own shelf.bodies) (sym is) in
    ap (λ (s : State). record { running = stopped_by (Some kind) running; measurements = record { shelved = shelf.bodies; state = s } }) kept ∙ sym (ap (with_measurement p) all)

-- ---- the room

-- what a call leaves of an engine's own room
pub record TakesRoom (call : MonitorCall) (old new : Engine) : Type 0 where
  pub opening : (engine_shown new).opening ≡ (engine_shown old).opening
  pub room : (engine_shown new).room ≡ (engine_shown old).room
  pub bits : (engine_shown old).spare_bits ≤ (engine_shown new).spare_bits + bits_taken call
  pub targets : (engine_shown old).spare_targets ≤ (engine_shown new).spare_targets + targets_taken call

-- the shelf has room for what a window holds, with one record more
pub record HasRoomFor (call : MonitorCall) (e : Engine) (shelf : BodyShelf) : Type 0 where
  pub bits_held : length (engine_state e).bits ≤ shelf.spare_bits
  pub targets_held : length (engine_state e).targets ≤ shelf.spare_targets
  pub bodies : windows_due (engine_shown e).opening ≤ shelf.spare_bodies
  pub few : length shelf.bodies + windows_due (engine_shown e).opening + 1 < 2 ^ 32
  pub bits : bits_taken call ≤ shelf.spare_bits - length (engine_state e).bits
  pub targets : targets_taken call ≤ shelf.spare_targets - length (engine_state e).targets

pub room-for-call : (device : Course) (e : Engine) (call : MonitorCall) → device.engine ≡ Some e → HasShelfRoom device → bits_taken call ≤ shelf_bits device → targets_taken call ≤ shelf_targets device
    → HasRoomFor call e device.shelf
room-for-call device e call is room more_bits more_targets =
    let bits = ap bits_held is in
    let targets = ap targets_held is in
    let due = ap windows_to_come is in record {
      bits_held = omega (arith, bits, room.bits);
      targets_held = omega (arith, targets, room.targets);
      bodies = omega (arith, due, room.bodies);
      few = omega (arith, due, room.few);
      bits = omega (arith, bits, more_bits);
      targets = omega (arith, targets, more_targets);
    }

-- a call that the monitor took, with the engine that it left
pub record Told (old : Course) (e told : Engine) (call : MonitorCall) : Type 0 where
  pub is : old.engine ≡ Some e
  pub has : HasRoomFor call e old.shelf
  pub takes : TakesRoom call e told
  pub leaves : Ok (engine_state told) ≡ measured (engine_shown e).opening (engine_state e) (Some call)

pub told-known : (old : Course) (e told : Engine) (stop : Option StopKind) (call : MonitorCall) → old.engine ≡ Some e → HasShelfRoom old → bits_taken call ≤ shelf_bits old → targets_taken call ≤ shelf_targets old
    → TakesRoom call e told → outcome told stop ≡ measured (engine_shown e).opening (engine_state e) (Some call) → stop ≡ None → Told old e told call
told-known old e told stop call is room more_bits more_targets takes tells goes_on = record {
  is = is;
  has = room-for-call old e call is room more_bits more_targets;
  takes = takes;
  leaves = sym (ap (outcome told) goes_on) ∙ tells;
}

pub told-fits : (e told : Engine) (shelf : BodyShelf) (call : MonitorCall) → HasRoomFor call e shelf → TakesRoom call e told → Ok (engine_state told) ≡ measured (engine_shown e).opening (engine_state e) (Some call)
    → FitsShelf told shelf
told-fits e told shelf call has takes is =
    let g = grown (engine_shown e).opening (engine_state e) (engine_state told) call is in
    let due = ap windows_due takes.opening in record {
      bits = omega (arith, g.bits_grow, has.bits, has.bits_held);
      targets = omega (arith, g.targets_grow, has.targets, has.targets_held);
      bodies = omega (arith, due, has.bodies);
    }

abbrev pub course_of : BareRun → ℕ → Engine → BodyShelf → Course
course_of bare steps e shelf = record { bare = bare; steps = steps; engine = Some e; shelf = shelf }

pub told-leaves : (bare bare_next : BareRun) (steps steps_next : ℕ) (e told after : Engine) (shelf next : BodyShelf) (call : MonitorCall)
    → HasRoomFor call e shelf → TakesRoom call e told → Ok (engine_state told) ≡ measured (engine_shown e).opening (engine_state e) (Some call) → Settles told after shelf next
    → LeavesRoom (bits_taken call) (targets_taken call) (course_of bare steps e shelf) (course_of bare_next steps_next after next)
told-leaves bare bare_next steps steps_next e told after shelf next call has takes is goes =
    let g = grown (engine_shown e).opening (engine_state e) (engine_state told) call is in
    let due = ap windows_due takes.opening in
    let bits = goes.bits in
    let targets = goes.targets in
    let bodies = goes.bodies in
    let spare_bodies = goes.spare_bodies in record {
      window = goes.room ∙ takes.room;
      bits = spares (bits_taken call) takes.bits goes.spare_bits;
      targets = spares (targets_taken call) takes.targets goes.spare_targets;
      shelf = record {
        bits = omega (arith, g.bits_grow, has.bits, has.bits_held, bits);
        targets = omega (arith, g.targets_grow, has.targets, has.targets_held, targets);
        bodies = omega (arith, due, has.bodies, spare_bodies);
        few = omega (arith, due, has.few, bodies);
      };
      bits_to_shelve = omega (arith, g.bits_grow, has.bits, has.bits_held, bits);
      targets_to_shelve = omega (arith, g.targets_grow, has.targets, has.targets_held, targets);
    }
  where
    spares : {old told after room : ℕ} (taken : ℕ) → old ≤ told + taken → (after ≡ told) ⊎ (room ≤ after) → (old ≤ after + taken) ⊎ (room ≤ after)
    spares taken few (inl same) = inl (omega (arith, few, same))
    spares taken few (inr all) = inr all

pub stopped-leaves : (bare bare_next : BareRun) (steps steps_next : ℕ) (e told : Engine) (shelf : BodyShelf) (call : MonitorCall)
    → HasRoomFor call e shelf → TakesRoom call e told → engine_state told ≡ engine_state e
    → LeavesRoom (bits_taken call) (targets_taken call) (course_of bare steps e shelf) (course_of bare_next steps_next told shelf)
stopped-leaves bare bare_next steps steps_next e told shelf call has takes kept =
    let due = ap windows_due takes.opening in
    let bits = ap (λ (s : State). length s.bits) kept in
    let targets = ap (λ (s : State). length s.targets) kept in record {
      window = takes.room;
      bits = inl takes.bits;
      targets = inl takes.targets;
      shelf = record {
        bits = omega (arith, has.bits_held, bits);
        targets = omega (arith, has.targets_held, targets);
        bodies = omega (arith, due, has.bodies);
        few = omega (arith, due, has.few);
      };
      bits_to_shelve = omega (arith, bits);
      targets_to_shelve = omega (arith, targets);
    }

-- ---- the windows that are due

behind : (calls : ℕ) (serial : Option ℕ) → (elim serial as (λ _. ℕ) [ None ↦ 0 | Some number ↦ calls - (number + 1) ]) ≤ calls - 1
behind calls None = omega arith
behind calls (Some number) = omega arith

pub windows-few : (o : Opening) → windows_due o ≤ o.calls - 1
windows-few o = behind o.calls o.serial
