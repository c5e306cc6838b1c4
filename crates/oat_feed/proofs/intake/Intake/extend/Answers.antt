use Rattle.std.proofs.Common.{◌≡◌, ◌+◌, ◌*◌, ◌/◌, ◌<◌, ◌++◌, List, ℕ, length, take, suc, arith, sym, ap, subst, ◌∙◌}
use Rattle.std.specs.Prelude.{vec_capacity}
use Rattle.std.proofs.lemmas.Result.{on_err_weaker, on_ok_weaker}
use Rattle.oat_verify.specs.{Body, BeginsBlob, IsBlob}
use Rattle.oat_feed.specs.{declared.intake.State.State, declared.intake.State.TheVariants.Open, RecordPlaces.in_part, RecordPlaces.records_before, Standing.KeepsFront}
use Rattle.oat_feed.proofs.{RoomLeft.records_are, Extending.breaks, Extending.extends, Extending.has_room, Extending.starves}
use Rattle.oat_feed.proofs.intake.Intake.extend.Goals as goal

pub returns-in_err-extend_from_slice-clause-starved : goal.returns-in_err-extend_from_slice-clause-starved
returns-in_err-extend_from_slice-clause-starved c = λ came takes is_open.
    let keeps = subst (λ (state : State). KeepsFront state came c.args.self.now.front.items (vec_capacity c.args.self.now.front)) is_open takes.keeps in
    let room = has_room c.args.self.now.front.items c.args.chunk.now _ takes.begins keeps.1 c.requires in
    absurd (omega (arith, c.in_err-extend_from_slice.ensures.full, room, c.args.self.now.front.ok.0))

pub returns-then-begun-len-clause-taken : goal.returns-then-begun-len-clause-taken
returns-then-begun-len-clause-taken c = λ came takes is_open.
    let keeps = subst (λ (state : State). KeepsFront state came c.args.self.now.front.items (vec_capacity c.args.self.now.front)) is_open takes.keeps in
    let whole = c.extend_from_slice.new.self in
    let value = c.as_slice.ensures.value in
    let within : c.begun-begun.result < length whole.items = omega (arith, c.if-begun-len.true, c.len.ensures, whole.ok.0) in
    let begins = subst (λ (xs : List ℕ). BeginsBlob (take c.begun-begun.result xs)) value c.begun-begun.ensures.begins in
    let size : length c.as_slice.result.now ≡ length whole.items = ap length value in
    let stops : BeginsBlob (take (suc c.begun-begun.result) whole.items) → ⊥ =
    λ more. c.begun-begun.ensures.longest (omega (arith, within, size)) (subst (λ (xs : List ℕ). BeginsBlob (take (suc c.begun-begun.result) xs)) (sym value) more) in
    let is = breaks came c.args.self.now.front.items c.args.chunk.now whole.items c.truncate.new.self.items (vec_capacity c.truncate.new.self) c.begun-begun.result
    keeps.0 c.in_ok-extend_from_slice.ensures.items c.truncate.ensures.items within begins stops in
    record { begins = is.0; keeps = is.1 }

-- the whole of the longer front is looked at
looked_at : (c : goal.After-reserve) → c.begun-begun.result ≡ length c.extend_from_slice.new.self.items
looked_at c =
    let whole = c.extend_from_slice.new.self in
    let size : length c.as_slice.result.now ≡ length whole.items = ap length c.as_slice.ensures.value in
    omega (arith, c.begun-begun.ensures.within, size, c.if-begun-len.false, c.len.ensures, whole.ok.0)

begins : (c : goal.After-reserve) → BeginsBlob (take c.begun-begun.result c.extend_from_slice.new.self.items)
begins c = subst (λ (xs : List ℕ). BeginsBlob (take c.begun-begun.result xs)) c.as_slice.ensures.value c.begun-begun.ensures.begins

counted : (c : goal.After-reserve) → (body : Body) (mac rest : List ℕ) → IsBlob (c.extend_from_slice.new.self.items ++ rest) body mac
    → c.records_in-records.result ≡ records_before body (length c.extend_from_slice.new.self.items)
counted c body mac rest blob =
    let value = c.as_slice-2.ensures.value in
    let places = c.of.result in
    let are = c.of.ensures body mac rest (subst (λ (xs : List ℕ). IsBlob (xs ++ rest) body mac) (sym value) blob) in
    c.records_in-records.ensures
    ∙ (ap (λ n. in_part n places.bits_at ((places.bit_count + 7) / 8) + in_part n places.targets_at (places.target_count * 8)) (looked_at c ∙ sym (ap length value))
    ∙ (records_are places body (length c.as_slice-2.result.now) are ∙ ap (records_before body) (ap length value)))

pub returns-clause-taken : goal.returns-clause-taken
returns-clause-taken c = λ came takes is_open.
    let front = c.args.self.now.front in
    let whole = c.extend_from_slice.new.self in
    let room = c.reserve.new.self in
    let keeps = subst (λ (state : State). KeepsFront state came front.items (vec_capacity front)) is_open takes.keeps in
    let size = looked_at c in
    on_ok_weaker c.reserve.result
    (λ reserved.
    let is = extends came front.items c.args.chunk.now whole.items (vec_capacity room) c.begun-begun.result c.records_in-records.result
    keeps.0 c.in_ok-extend_from_slice.ensures.items (omega (arith, size)) (begins c) (counted c)
    (omega (arith, reserved, c.reserve.ensures.len, whole.ok.0, c.saturating_sub.ensures, size)) in
    record {
      begins = subst BeginsBlob (sym c.reserve.ensures.items) is.0;
      keeps = subst (λ (state : State). KeepsFront state (came ++ c.args.chunk.now) room.items (vec_capacity room)) (sym is_open)
          (subst (λ (xs : List ℕ). KeepsFront Open (came ++ c.args.chunk.now) xs (vec_capacity room)) (sym c.reserve.ensures.items) is.1);
    })
    c.reserve.ensures.ok

pub returns-clause-starved : goal.returns-clause-starved
returns-clause-starved c = λ came takes is_open.
    let front = c.args.self.now.front in
    let whole = c.extend_from_slice.new.self in
    let keeps = subst (λ (state : State). KeepsFront state came front.items (vec_capacity front)) is_open takes.keeps in
    let size = looked_at c in
    on_err_weaker c.reserve.result
    (λ short. starves came front.items c.args.chunk.now whole.items (vec_capacity front) (vec_capacity whole) c.begun-begun.result c.records_in-records.result
    keeps.0 c.in_ok-extend_from_slice.ensures.items keeps.1 c.extend_from_slice.ensures.capacity (omega (arith, size)) (begins c) (counted c)
    (omega (arith, short, whole.ok.0, c.saturating_sub.ensures, size)))
    c.reserve.ensures.full
