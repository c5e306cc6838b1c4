use Rattle.std.proofs.Common.{◌≡◌, None, sym, ap, subst, ◌∙◌}
use Rattle.std.specs.Prelude.{IsSome}
use Rattle.oat_device.specs.{Advancing.HasEntry, Advancing.HasNoEntry, Advancing.end_by_now, Advancing.run_after_next, DeviceRun.DeviceRun}
use Rattle.oat_device.proofs.{Advancing.device_of, Advancing.goes-on, Advancing.has-entry, Advancing.has-no-entry, Advancing.has-word, Advancing.makes-one, Advancing.shown, Runs.Turned, Runs.is-none}
use Rattle.oat_device.proofs.{Runs.made-next}
use Rattle.oat_device.proofs.device.Device.advance.Goals as goal

pub invariant_of-self : goal.invariant_of-self
invariant_of-self c =
    let d = c.self.inside in
    let on : end_by_now c.args.self.now ≡ None = sym c.end.ensures.end ∙ is-none c.end.result (sym c.if-is_some.ensures) in
    let g = goes-on d.course d.shaped.now d.case.now d.begin_at c.self.invariant (ap end_by_now c.self.view_is ∙ on) in
    let t = c.turn.ensures in
    let turned : Turned d.course c.turn.new.self = record { after = t.after; opening = t.opening; steps = t.steps; code = t.code; made = t.made; writes = t.writes; ready = t.ready } in
    made-next d.course c.turn.new.self d.shaped.now d.case.now d.begin_at c.self.invariant turned g.0 g.1

pub returns-then-ended-clause-makes : goal.returns-then-ended-clause-makes
returns-then-ended-clause-makes c =
    let d = c.self.inside in
    let on : end_by_now c.args.self.now ≡ None = sym c.end.ensures.end ∙ is-none c.end.result (sym c.if-is_some.ensures) in
    let g = goes-on d.course d.shaped.now d.case.now d.begin_at c.self.invariant (ap end_by_now c.self.view_is ∙ on) in
    let t = c.turn.ensures in
    let turned : Turned d.course c.turn.new.self = record { after = t.after; opening = t.opening; steps = t.steps; code = t.code; made = t.made; writes = t.writes; ready = t.ready } in
    λ _. makes-one d.course c.turn.new.self d.shaped.now d.case.now d.begin_at c.self.invariant turned g.0 g.1 ∙ ap run_after_next c.self.view_is

pub returns-then-ended-clause-answers : goal.returns-then-ended-clause-answers
returns-then-ended-clause-answers c =
    let d = c.self.inside in
    let on : end_by_now c.args.self.now ≡ None = sym c.end.ensures.end ∙ is-none c.end.result (sym c.if-is_some.ensures) in
    let g = goes-on d.course d.shaped.now d.case.now d.begin_at c.self.invariant (ap end_by_now c.self.view_is ∙ on) in
    let t = c.turn.ensures in
    let turned : Turned d.course c.turn.new.self = record { after = t.after; opening = t.opening; steps = t.steps; code = t.code; made = t.made; writes = t.writes; ready = t.ready } in
    subst (λ (old : DeviceRun). HasNoEntry old (device_of d.shaped.now d.case.now d.begin_at c.turn.new.self)) c.self.view_is
    (has-no-entry d.course c.turn.new.self d.shaped.now d.case.now d.begin_at c.self.invariant turned g.0 g.1 (sym c.if-ended.ensures))

pub unwrap-requires : goal.unwrap-requires
unwrap-requires c =
    let d = c.self.inside in
    let on : end_by_now c.args.self.now ≡ None = sym c.end.ensures.end ∙ is-none c.end.result (sym c.if-is_some.ensures) in
    let g = goes-on d.course d.shaped.now d.case.now d.begin_at c.self.invariant (ap end_by_now c.self.view_is ∙ on) in
    let t = c.turn.ensures in
    let turned : Turned d.course c.turn.new.self = record { after = t.after; opening = t.opening; steps = t.steps; code = t.code; made = t.made; writes = t.writes; ready = t.ready } in
    subst IsSome (sym c.word_at.ensures) (has-word d.course c.turn.new.self d.shaped.now d.case.now d.begin_at c.self.invariant turned g.0 g.1 (is-none c.turn.new.self.bare.end (sym c.if-ended.ensures)))

pub invariant_of-self-2 : goal.invariant_of-self-2
invariant_of-self-2 c =
    let d = c.self.inside in
    let on : end_by_now c.args.self.now ≡ None = sym c.end.ensures.end ∙ is-none c.end.result (sym c.if-is_some.ensures) in
    let g = goes-on d.course d.shaped.now d.case.now d.begin_at c.self.invariant (ap end_by_now c.self.view_is ∙ on) in
    let t = c.turn.ensures in
    let turned : Turned d.course c.turn.new.self = record { after = t.after; opening = t.opening; steps = t.steps; code = t.code; made = t.made; writes = t.writes; ready = t.ready } in
    made-next d.course c.turn.new.self d.shaped.now d.case.now d.begin_at c.self.invariant turned g.0 g.1

pub returns-clause-answers : goal.returns-clause-answers
returns-clause-answers c =
    let d = c.self.inside in
    let on : end_by_now c.args.self.now ≡ None = sym c.end.ensures.end ∙ is-none c.end.result (sym c.if-is_some.ensures) in
    let g = goes-on d.course d.shaped.now d.case.now d.begin_at c.self.invariant (ap end_by_now c.self.view_is ∙ on) in
    let t = c.turn.ensures in
    let turned : Turned d.course c.turn.new.self = record { after = t.after; opening = t.opening; steps = t.steps; code = t.code; made = t.made; writes = t.writes; ready = t.ready } in
    subst (λ (old : DeviceRun). HasEntry old (device_of d.shaped.now d.case.now d.begin_at c.turn.new.self) (shown c.unwrap.result d.course c.turn.new.self)) c.self.view_is
    (has-entry d.course c.turn.new.self d.shaped.now d.case.now d.begin_at c.self.invariant turned g.0 g.1 (is-none c.turn.new.self.bare.end (sym c.if-ended.ensures)) (ap end_by_now c.self.view_is ∙ on) c.unwrap.result (sym c.word_at.ensures ∙ c.unwrap.ensures))
