-- How the outcomes of a command look once its files are loaded, and that those of one that only answers to its files do.
use Rattle.std.proofs.Common.{◌≡◌, ◌<◌, ◌≤◌, ◌⊎◌, ℕ, List, [], None, inl, ap, arith}
use Rattle.oat_world.specs.Outside.{Contents, Rose}
use Rattle.oat_page.specs.{declared.page.Ended.TheVariants.Done, declared.page.Ended.TheVariants.Rejected, declared.page.Ended.TheVariants.Unsealed, Outcome.Outcome, Texts.read_fault, Answer.Answer}
use Rattle.oat_page.specs.{Answer.shows, Answer.refuses, Answer.as_outcome, Answer.IsAnswered, Loads.Wanted, Loads.File}

-- a count that rose since a later moment rose since an earlier one
pub Rose-later : (before mid now : ℕ) → before ≤ mid → Rose mid now → Rose before now
Rose-later before mid now earlier rises = omega (arith, earlier, rises)

-- a file's read fault
abbrev pub TellsFault : Outcome → Type 0
TellsFault o = (name : List ℕ) × (o ≡ read_fault name)

-- A further file that isn't held decides.
pub record IsFurtherFault (contents : Contents) (Further : Wanted → Type 0) (o : Outcome) : Type 0 where
  pub wanted : Wanted
  pub further : Further wanted
  pub absent : contents wanted.name ≡ None
  pub is : o ≡ read_fault wanted.name

-- What each room shows of its command, whose files may name further ones.
pub record IsOrderly (Ending : Contents → (rose : Type 0) → List File → Outcome → Type 0) (Further : List File → Wanted → Type 0) : Type 1 where
  -- where a load may fail, it may where more counts rose
  pub grows : (contents : Contents) (rose more : Type 0) (files : List File) (o : Outcome) → (rose → more) → Ending contents rose files o → Ending contents more files o
  -- a count that rose gives a read fault, and nothing else that is not defined
  pub settles : (contents : Contents) (rose : Type 0) (files : List File) (o : Outcome) → Ending contents rose files o
      → Ending contents ⊥ files o ⊎ (rose × TellsFault o)
  -- nothing is put with the statuses from 2 to 4
  pub quiet : (contents : Contents) (files : List File) (o : Outcome) → Ending contents ⊥ files o → 1 < o.status → o.status < 5 → o.out ≡ []
  -- a defined read fault is that of a further file
  pub faults : (contents : Contents) (files : List File) (o : Outcome) → Ending contents ⊥ files o → o.status ≡ 4
      → IsFurtherFault contents (Further files) o

-- ---- a room that answers to its files

quiet_answer : (a : Answer) (o : Outcome) → o ≡ as_outcome a → 1 < o.status → o.status < 5 → o.out ≡ []
quiet_answer (shows Done out err) o is above below = absurd (omega (arith, above, ap (λ (x : Outcome). x.status) is))
quiet_answer (shows Rejected out err) o is above below = absurd (omega (arith, above, ap (λ (x : Outcome). x.status) is))
quiet_answer (shows Unsealed out err) o is above below = absurd (omega (arith, below, ap (λ (x : Outcome). x.status) is))
quiet_answer (refuses text) o is above below = ap (λ (x : Outcome). x.out) is

pub no_fault : (a : Answer) (o : Outcome) → o ≡ as_outcome a → o.status ≡ 4 → ⊥
no_fault (shows Done out err) o is four = omega (arith, four, ap (λ (x : Outcome). x.status) is)
no_fault (shows Rejected out err) o is four = omega (arith, four, ap (λ (x : Outcome). x.status) is)
no_fault (shows Unsealed out err) o is four = omega (arith, four, ap (λ (x : Outcome). x.status) is)
no_fault (refuses text) o is four = omega (arith, four, ap (λ (x : Outcome). x.status) is)

pub answers_are_orderly : (Q : List File → Answer → Type 0) (Further : List File → Wanted → Type 0) → IsOrderly (λ contents rose files. IsAnswered (Q files)) Further
answers_are_orderly Q Further = record {
  grows = λ contents rose more files o rises answers. answers;
  settles = λ contents rose files o answers. inl answers;
  quiet = λ contents files o answers above below. quiet_answer answers.answer o answers.is above below;
  faults = λ contents files o answers four. absurd (no_fault answers.answer o answers.is four);
}
