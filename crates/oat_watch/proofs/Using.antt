-- What a use of a cell finds, by a table that holds the defined values.
use Rattle.std.proofs.Common.{◌≡◌, ◌<◌, ℕ, zero, suc, List, [], ◌∷◌, length, Option, Some, None, option_map, refl, ap, ◌∙◌, arith}
use Rattle.std.specs.Prelude.{slice_get}
use Rattle.oat_journal.proofs.RunLaws.{held_is}
use Rattle.oat_attest.specs.{Cells, CheckedUse, Held, define_of, defined_value, use_behind, MonitorCall}
use Rattle.oat_attest.specs.svc as svc

-- a cell of the table has a number below its length
pub is-cell : (words : List ℕ) (cell word : ℕ) → slice_get words cell ≡ Some word → cell < length words
is-cell [] cell word is = absurd (cc)
is-cell (w ∷ words) zero word is = omega arith
is-cell (w ∷ words) (suc cell) word is = let low = is-cell words cell word is in omega (arith, low)

-- a use by what its cell holds
abbrev pub used-as : ℕ → ℕ → ℕ → CheckedUse
used-as cell found defined = record { cell = cell; found = found; defined = defined }

pub is-used : (words : Cells) (before : List (Option MonitorCall)) (cells : Cells) (cell found : ℕ) → Held words before cells
    → option_map (used-as cell found) (cells cell) ≡ use_behind words before (Some (svc.Use cell found))
is-used words before cells cell found held =
    ap (option_map (used-as cell found)) (held_is words before cells held cell) ∙ twice (words cell) where
      twice : (o : Option ℕ) → option_map (used-as cell found) (option_map (λ (word : ℕ). defined_value word cell before) o)
          ≡ option_map (λ (word : ℕ). used-as cell found (defined_value word cell before)) o
      twice None = refl
      twice (Some word) = refl

-- a call other than a define defines nothing
pub no-define : (call : MonitorCall) → ((cell value : ℕ) → call ≡ svc.Define cell value → ⊥) → (j : ℕ) → define_of j (Some call) ≡ None
no-define (svc.Define cell value) not j = absurd (not cell value refl)
no-define (svc.Begin op at) not j = refl
no-define (svc.End op) not j = refl
no-define (svc.Bit value) not j = refl
no-define (svc.Target address) not j = refl
no-define (svc.Return address) not j = refl
no-define (svc.Use cell value) not j = refl
