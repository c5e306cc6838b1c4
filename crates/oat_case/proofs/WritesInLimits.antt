-- The test of all writes, and what it says of each.
use Rattle.std.proofs.Common.{◌≡◌, ℕ, Bool, true, ◌&&◌, leb, List, [], ◌∷◌, Option, Some, None, length, refl, sym, ◌∙◌}
use Rattle.std.specs.{Prelude.IsTrue, Prelude.IfSome, Prelude.◌↔◌, Option.option_map_or, List.AllByRecursion}
use Rattle.std.proofs.lemmas.Bool.{and_parts, and_from}
use Rattle.oat_mem.specs.DataMemory.{fits}
use Rattle.oat_case.specs.{Limits.key_fits, Limits.operation_fits, Limits.steps_fit, Limits.calls_fit, Limits.write_fits, Limits.writes_fit, Limits.case_fits, Limits.IsInLimits, Limits.RisesFrom}
use Rattle.oat_case.specs.{Limits.IsWellFormedCase, declared.case.Write.Write, declared.case.Case.Case}

writes_pass : (least : ℕ) (writes : List Write) → writes_fit least writes ≡ true → AllByRecursion IsInLimits writes × RisesFrom least writes
writes_pass least [] e = (tt, tt)
writes_pass least (w ∷ ws) e =
    let a = and_parts (write_fits w && fits w.address (length w.bytes) && leb least w.before) (writes_fit w.before ws) e in
    let b = and_parts (write_fits w && fits w.address (length w.bytes)) (leb least w.before) a.0 in
    let d = and_parts (write_fits w) (fits w.address (length w.bytes)) b.0 in
    let rest = writes_pass w.before ws a.1 in
    (((d.0, d.1), rest.0), (b.1, rest.1))

writes_again : (least : ℕ) (writes : List Write) → AllByRecursion IsInLimits writes → RisesFrom least writes → writes_fit least writes ≡ true
writes_again least [] limits order = refl
writes_again least (w ∷ ws) limits order =
    and_from (write_fits w && fits w.address (length w.bytes) && leb least w.before) (writes_fit w.before ws)
    (and_from (write_fits w && fits w.address (length w.bytes)) (leb least w.before)
    (and_from (write_fits w) (fits w.address (length w.bytes)) limits.0.0 limits.0.1)
    order.0)
    (writes_again w.before ws limits.1 order.1)

calls_pass : (calls : Option ℕ) → option_map_or calls_fit calls true ≡ true → IfSome calls (λ count. IsTrue (calls_fit count))
calls_pass None e = tt
calls_pass (Some count) e = e

calls_again : (calls : Option ℕ) → IfSome calls (λ count. IsTrue (calls_fit count)) → option_map_or calls_fit calls true ≡ true
calls_again None fit = refl
calls_again (Some count) fit = fit

abbrev names_fit : Case → Bool
names_fit c = key_fits c.session.key && operation_fits c.session.op

pub well_formed_is : (c : Case) (b : Bool) → b ≡ case_fits c → IsTrue b ↔ IsWellFormedCase c
well_formed_is c b e = (fits, λ w. e ∙ again w)
  where
    fits : IsTrue b → IsWellFormedCase c
    fits h =
        let p = and_parts (names_fit c && option_map_or calls_fit c.session.calls true && steps_fit c.steps) (writes_fit 0 c.writes) (sym e ∙ h) in
        let q = and_parts (names_fit c && option_map_or calls_fit c.session.calls true) (steps_fit c.steps) p.0 in
        let o = and_parts (names_fit c) (option_map_or calls_fit c.session.calls true) q.0 in
        let r = and_parts (key_fits c.session.key) (operation_fits c.session.op) o.0 in
        let w = writes_pass 0 c.writes p.1 in
        record { key = r.0; operation = r.1; calls = calls_pass c.session.calls o.1; steps = q.1; writes = w.0; order = w.1 }

    again : IsWellFormedCase c → case_fits c ≡ true
    again w =
        and_from (names_fit c && option_map_or calls_fit c.session.calls true && steps_fit c.steps) (writes_fit 0 c.writes)
        (and_from (names_fit c && option_map_or calls_fit c.session.calls true) (steps_fit c.steps)
        (and_from (names_fit c) (option_map_or calls_fit c.session.calls true) (and_from (key_fits c.session.key) (operation_fits c.session.op) w.key w.operation) (calls_again c.session.calls w.calls))
        w.steps)
        (writes_again 0 c.writes w.writes w.order)
