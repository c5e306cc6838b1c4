-- What a command answers once its files are loaded. Its statuses are 0, 1, 2 and 7 by its form, and a refusal puts nothing on `out`.
use Rattle.std.specs.{Prelude.◌≡◌, Prelude.ℕ, Prelude.List, Prelude.◌++◌, Prelude.codes, Fmt.decimal}
use Rattle.oat_page.specs.{declared.page.Ended.Ended, declared.page.Ended.TheVariants.Done, declared.page.Ended.TheVariants.Rejected, declared.page.Ended.TheVariants.Unsealed, Outcome.Outcome}
use Rattle.oat_page.specs.{Outcome.says, Texts.refusal}

abbrev pub status_of : Ended → ℕ
status_of Done = 0
status_of Rejected = 1
status_of Unsealed = 7

-- The work was done and this is shown, or an input is refused by this line.
pub data Answer : Type 0 where
  shows : Ended → (out err : List ℕ) → Answer
  refuses : (text : List ℕ) → Answer

abbrev pub as_outcome : Answer → Outcome
as_outcome (shows ended out err) = record { status = status_of ended; out = out; err = err }
as_outcome (refuses text) = says 2 text

-- the outcome of work that was done
abbrev pub IsWorkOutcome : Ended → (out err : List ℕ) → Outcome → Type 0
IsWorkOutcome ended out err o = o ≡ as_outcome (shows ended out err)

abbrev pub refused : List ℕ → List ℕ → Answer
refused file reason = refuses (refusal file reason)

-- an outcome of one of these answers
pub record IsAnswered (Q : Answer → Type 0) (o : Outcome) : Type 0 where
  pub answer : Answer
  pub given : Q answer
  pub is : o ≡ as_outcome answer

abbrev pub no_operation : List ℕ → ℕ → Answer
no_operation file op = refused file (codes "NoOperation " ++ decimal op)
