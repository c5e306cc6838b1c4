-- What is known of a step that gave a value, and of a call that answered a fault.
use Rattle.std.proofs.Common.{◌≡◌, ◌≢◌, ℕ, Bool, true, false, Option, Some, None, Result, Ok, Err, refl, ap}
use Rattle.std.specs.{Prelude.if◌then◌else◌, Option.ok_or}
use Rattle.oat_lines.specs.{declared.fault.Fault.Fault, declared.fault.Fault.TheVariants.At, declared.fault.Fault.TheVariants.Memory, Reading.◌>>=◌, Reading.guard, Faults.at, Faults.Fails}
use Rattle.oat_lines.specs.{Faults.Gives}

-- ---- steps that gave a value

pub ok_is : {X E : Type 0} (x y : X) → Path (Result X E) (Ok x) (Ok y) → x ≡ y
ok_is x y e = cc

pub some_is : {X : Type 0} (x y : X) → Path (Option X) (Some x) (Some y) → x ≡ y
some_is x y e = cc

-- a value that a test let through
pub chosen : {X : Type 0} (b : Bool) (x y : X) → (if b then Some x else None) ≡ Some y → (b ≡ true) × (x ≡ y)
chosen true x y e = (refl, some_is x y e)
chosen false x y e = absurd cc

pub bind_ok : {X Y E : Type 0} (r : Result X E) (f : X → Result Y E) (y : Y) → (r >>= f) ≡ Ok y → (x : X) × (r ≡ Ok x) × (f x ≡ Ok y)
bind_ok (Ok x) f y e = (x, refl, e)
bind_ok (Err d) f y e = absurd cc

pub guard_ok : {E : Type 0} (b : Bool) (d : E) (u : Unit {0}) → guard b d ≡ Ok u → b ≡ true
guard_ok true d u e = refl
guard_ok false d u e = absurd cc

pub guarded_ok : {Y E : Type 0} (b : Bool) (d : E) (f : Unit {0} → Result Y E) (y : Y) → (guard b d >>= f) ≡ Ok y → (b ≡ true) × (f tt ≡ Ok y)
guarded_ok true d f y e = (refl, e)
guarded_ok false d f y e = absurd cc

pub or_ok : {X E : Type 0} (o : Option X) (d : E) (x : X) → ok_or o d ≡ Ok x → o ≡ Some x
or_ok None d x e = absurd cc
or_ok (Some y) d x e = ap Some (ok_is y x e)

pub at_ok : {X K : Type 0} (line : ℕ) (r : Result X K) (x : X) → at line r ≡ Ok x → r ≡ Ok x
at_ok line (Ok y) x e = ap Ok (ok_is y x e)
at_ok line (Err d) x e = absurd cc

-- ---- faults of calls

-- a fault other than want of memory is that of reading
pub is_fault : {X K : Type 0} (fault : Fault K) (read : Result X (Fault K)) → fault ≢ Memory → Fails fault read → read ≡ Err fault
is_fault Memory read other fails = absurd (other refl)
is_fault (At line kind) read other fails = fails

-- where each fault of one reading is one of another, a call's fault says the same of both
pub fails_as : {X Y K : Type 0} (fault : Fault K) (read : Result X (Fault K)) (total : Result Y (Fault K))
    → ((e : Fault K) → read ≡ Err e → total ≡ Err e) → Fails fault read → Fails fault total
fails_as Memory read total same fails = tt
fails_as (At line kind) read total same fails = same (At line kind) fails

-- what is answered is what reading gives
pub gives_same : {X K : Type 0} (answer read : Result X (Fault K)) → read ≡ answer → Gives (λ x. x) answer read
gives_same (Ok x) read e = e
gives_same (Err Memory) read e = tt
gives_same (Err (At line kind)) read e = e
