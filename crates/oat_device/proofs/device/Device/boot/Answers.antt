use Rattle.std.proofs.Common.{◌≡◌, ◌≤◌, ◌*◌, ℕ, List, Some, length, refl, sym, ap, subst, ◌∙◌, inl, arith}
use Rattle.std.specs.{Prelude.nat_le, List.AllByRecursion}
use Rattle.std.proofs.lemmas.Bool.{and_parts, leb-true}
use Rattle.oat_journal.specs.{Write, IsInLimits, RisesFrom, Image, Body, State, booted, cells_of, byte_at, Run.poked, Run.start_memory, Measured.opening_of, Measured.start_cells, Opening}
use Rattle.oat_device.specs.{Standing.IsSpaced, Telling.unnumbered}
use Rattle.oat_device.proofs.{Bodies.calls-few, Runs.starts, Runs.first-run, Telling.windows-few, Spacing.bits_spaced, Spacing.targets_spaced}
use Rattle.oat_device.proofs.device.Device.boot.Goals as goal

pub invariant_of-result : goal.invariant_of-result
invariant_of-result c =
    let image = c.args.shaped.now in
    let case = c.args.case.now in
    let same = c.image-image.ensures.same in
    let code : c.as_slice-2.result.now ≡ image.code = c.as_slice-2.ensures ∙ ap (λ (i : Image). i.code) c.image-image.ensures.same in
    let few : case.steps ≤ 4194304 = leb-true case.steps 4194304 (and_parts (nat_le 1 case.steps) (nat_le case.steps 4194304) c.requires.well_formed.steps).1 in
    let room : case.steps ≤ 2 * c.div_ceil-room.result = let half = c.div_ceil-room.ensures in omega (arith, half) in
    let bits = c.in_ok-engine.ensures.bits_fit in
    let targets = c.in_ok-engine.ensures.targets_fit in
    let window = c.in_ok-engine.ensures.room in
    let len = c.in_ok-with_capacity.ensures.len in
    let capacity = c.in_ok-with_capacity.ensures.capacity in
    let o = opening_of image case.session c.opening-opening.result.begin_at in
    let first = c.in_ok-engine.ensures.state in
    let no_bits = ap (λ (s : State). length s.bits) first in
    let no_targets = ap (λ (s : State). length s.targets) first in
    let windows = windows-few c.in_ok-engine.engine.opening in
    let calls = ap (λ (q : Opening). q.calls) c.in_ok-engine.ensures.opening in
    let called = ap (λ (q : Opening). q.calls) c.opening-opening.ensures.is in
    let calls_few = calls-few case.session.calls c.requires.well_formed.calls in
    let none = ap (λ (bodies : List Body). length bodies) c.in_ok-shelf.ensures.empty in
    let bodies_fit = c.in_ok-shelf.ensures.bodies_fit in
    let shelf_bits_fit = c.in_ok-shelf.ensures.bits_fit in
    let shelf_targets_fit = c.in_ok-shelf.ensures.targets_fit in
    record {
      ready = record {
        measured = refl;
        bits_spaced = subst (λ (xs : List ℕ). IsSpaced xs 3) (sym code) (bits_spaced image c.image-image.ensures.well_formed c.image-image.ensures.shaped);
        targets_spaced = subst (λ (xs : List ℕ). IsSpaced xs 4) (sym code) (targets_spaced image c.image-image.ensures.well_formed c.image-image.ensures.shaped);
        few = few;
        writes_fit = subst (AllByRecursion IsInLimits) (sym c.as_slice-4.ensures) c.requires.well_formed.writes;
        writes_rise = subst (RisesFrom 0) (sym c.as_slice-4.ensures) c.requires.well_formed.order;
        outputs = omega (arith, len, capacity);
        bits = inl (omega (arith, room, bits));
        targets = inl (omega (arith, room, targets));
        window = omega (arith, room, window);
        shelf = record {
          bits = omega (arith, no_bits);
          targets = omega (arith, no_targets);
          bodies = omega (arith, windows, bodies_fit, calls);
          few = omega (arith, windows, none, calls, called, calls_few);
        };
        bits_to_shelve = inl (omega (arith, room, no_bits, shelf_bits_fit));
        targets_to_shelve = inl (omega (arith, room, no_targets, shelf_targets_fit));
      };
      code = c.as_slice-2.ensures ∙ ap (λ (i : Image). i.code) same;
      steps = refl;
      within = omega arith;
      measures = ap (λ (q : Opening). Some (unnumbered q)) (c.in_ok-engine.ensures.opening ∙ c.opening-opening.ensures.is);
      run =
          starts image o _ _ _ case.inputs _ _ c.start.ensures
          (ap byte_at c.memory.view_is ∙ c.in_ok-memory.ensures ∙ ap (λ (i : Image). start_memory i.words) same)
          c.as_slice-3.ensures c.in_ok-with_capacity.ensures.items
          (λ i. record {
            shelved = c.in_ok-shelf.ensures.empty i;
            state =
                (first
                ∙ ap (λ (xs : List ℕ). booted c.opening-opening.result.serial (cells_of xs)) c.as_slice.ensures.value
                ∙ ap (booted c.opening-opening.result.serial) c.in_ok-cells.ensures.words
                ∙ ap (λ (i : Image). booted c.opening-opening.result.serial (start_cells i)) same
                ∙ ap (λ (q : Opening). booted q.serial (start_cells image)) c.opening-opening.ensures.is)
                i;
          })
          ∙ first-run image case o;
      writes = λ k memory later. ap (λ (xs : List Write). poked xs k memory) c.as_slice-4.ensures;
    }

pub returns : goal.returns
returns c = record { image = refl; case = refl; begins = c.opening-opening.ensures.begins; none_made = refl }
