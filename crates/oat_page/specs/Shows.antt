-- How a call puts the outcome that it set out for, over outputs that may fail (docs/DEFINITIONS.md).
use Rattle.std.specs.Prelude.{◌≡◌, ℕ, List, Option, []}
use Rattle.oat_world.specs.Outside.{Adds, Rose}
use Rattle.oat_page.specs.{Outcome.Outcome, Outcome.IsPrefix, Texts.starved}

-- what a call did to a sink: what it held and holds, and the count of faults before and after
pub record Put : Type 0 where
  pub held : Option (List ℕ)
  pub holds : Option (List ℕ)
  pub before : ℕ
  pub after : ℕ

-- The sink's count of faults rose.
abbrev pub HasFailed : Put → Type 0
HasFailed put = Rose put.before put.after

-- The outcome, or want of memory: at once, or after a front of the outcome's text.
pub data OrStarved (ending : Outcome → Type 0) (o : Outcome) : Type 0 where
  ended : ending o → OrStarved ending o
  at_once : o ≡ starved → OrStarved ending o
  behind : (whole : Outcome) → ending whole → IsPrefix o.out whole.out → o.status ≡ 6 → o.err ≡ starved.err
      → OrStarved ending o

-- The status and what was put: the whole outcome, or what stood before a put failed.
pub data IsLeft (ending : Outcome → Type 0) (out_failed err_failed : Type 0) (status : ℕ) (out err : List ℕ) : Type 0 where
  whole : (o : Outcome) → ending o → status ≡ o.status → out ≡ o.out → err ≡ o.err
      → IsLeft ending out_failed err_failed status out err
  cut : (o : Outcome) → ending o → out_failed → status ≡ 5 → IsPrefix out o.out → err ≡ []
      → IsLeft ending out_failed err_failed status out err
  cut_said : (o : Outcome) → ending o → err_failed → status ≡ 5 → out ≡ o.out → IsPrefix err o.err
      → IsLeft ending out_failed err_failed status out err
  starved_said : (o : Outcome) → ending o → status ≡ 6 → out ≡ o.out → IsPrefix err o.err
      → IsLeft ending out_failed err_failed status out err

-- A call shows an ending: these bytes were added to each output, with this status.
pub record Shows (ending : Outcome → Type 0) (out err : Put) (status : ℕ) : Type 0 where
  pub put : List ℕ
  pub said : List ℕ
  pub out_added : Adds out.held put out.holds
  pub err_added : Adds err.held said err.holds
  pub stands : IsLeft (OrStarved ending) (HasFailed out) (HasFailed err) status put said

abbrev pub put_of : {S : Type 0} → (S → Option (List ℕ)) → (S → ℕ) → S → S → Put
put_of told faults old new = record { held = told old; holds = told new; before = faults old; after = faults new }
