use Rattle.std.proofs.Common.{◌≡◌, ◌+◌, ℕ, None, sym, ap, ◌∙◌, arith}
use Rattle.std.specs.Option.{is_some}
use Rattle.std.proofs.lemmas.Bool.{false≢true}
use Rattle.oat_journal.specs.{Case, Measured.dev, Measured.opening_of, Progress.Progress}
use Rattle.oat_journal.proofs.RunLaws.{bodies_tell_windows, no_violation_means_sound}
use Rattle.oat_device.specs.{DeviceRun.DeviceRun, Standing.turns_of}
use Rattle.oat_device.proofs.{Runs.Turned, Runs.all-made, Runs.end-is, Runs.is-none, Runs.made-next, device.Device.run.Goals.else-loop-test, device.Device.run.Goals.then-loop-test+then-is_some}
use Rattle.oat_device.proofs.device.Device.run.Goals as goal

pub turn-requires-clause-left : goal.turn-requires-clause-left
turn-requires-clause-left c =
    let made = c.loop.invariant.0.counted (is-none c.loop.self-inside.course.bare.end (sym c.if-is_some.ensures)) in
    let steps = c.loop.invariant.4 in
    let below = c.loop-test.true in
    omega (arith, made, steps, below)

pub loop-preserved : goal.loop-preserved
loop-preserved c =
    let now = c.loop.self-inside.course in
    let going = is-none now.bare.end (sym c.if-is_some.ensures) in
    let t = c.turn.ensures in
    let turned : Turned now c.turn.new.self = record { after = t.after; opening = t.opening; steps = t.steps; code = t.code; made = t.made; writes = t.writes; ready = t.ready } in
    let made = c.loop.invariant.0.counted going in
    let steps = c.loop.invariant.4 in
    let below = c.loop-test.true in (
      record {
        standing = made-next now c.turn.new.self c.loop.self-inside.shaped.now c.loop.self-inside.case.now c.loop.self-inside.begin_at c.loop.invariant.0.standing turned going (omega (arith, made, steps, below));
        counted = λ none. t.made ∙ ap (λ (n : ℕ). n + 1) made;
      },
      c.loop.invariant.1,
      c.loop.invariant.2,
      c.loop.invariant.3,
      t.steps ∙ c.loop.invariant.4,
    )

-- behind the loop the run has ended, or all steps are made
done : (c : goal.After-unwrap_or) → c.loop.self-inside.course.bare.end ≡ None → c.loop.self-inside.course.bare.made ≡ c.loop.self-inside.course.steps
done c =
    elim c.loop-test.branch [
      | else-loop-test w ↦ λ none.
          let made = c.loop.invariant.0.counted none in
          let steps = c.loop.invariant.4 in
          let past = w.loop-test.false in
          let within = c.loop.invariant.0.standing.within in
          omega (arith, made, steps, past, within)
      | then-loop-test+then-is_some w ↦ λ none. absurd (false≢true (sym (ap is_some none) ∙ sym w.if-is_some.ensures))
    ]

pub returns-clause-whole : goal.returns-clause-whole
returns-clause-whole c =
    let image = c.loop.invariant.1 ∙ ap (λ (d : DeviceRun). d.image) c.self.view_is in
    let case = c.loop.invariant.2 ∙ ap (λ (d : DeviceRun). d.case) c.self.view_is in
    let begin_at = c.loop.invariant.3 ∙ ap (λ (d : DeviceRun). d.begin_at) c.self.view_is in
    let steps = c.loop.invariant.0.standing.steps ∙ ap (λ (x : Case). x.steps) case in
    let turns = all-made c.loop.self-inside.course c.args.self.now.case.steps steps (done c) in
    λ i. record { image = image i; case = case i; begin_at = begin_at i; turns = turns i }

pub returns-clause-ended : goal.returns-clause-ended
returns-clause-ended c =
    let at = c.loop.self-inside in
    c.unwrap_or.ensures
    ∙ end-is at.course.bare.end (dev at.shaped.now (opening_of at.shaped.now at.case.now.session at.begin_at) at.case.now.inputs at.case.now.writes (turns_of at.course))
    (ap (λ (p : Progress). p.running.end) c.loop.invariant.0.standing.run)

pub returns-clause-bodies : goal.returns-clause-bodies
returns-clause-bodies c =
    let at = c.loop.self-inside in
    let o = opening_of at.shaped.now at.case.now.session at.begin_at in record {
      tells = λ s body has. bodies_tell_windows at.shaped.now o at.case.now.inputs at.case.now.writes (turns_of at.course) s body has;
      sound = λ s body has. no_violation_means_sound at.shaped.now o at.case.now.inputs at.case.now.writes (turns_of at.course) s body has;
    }
