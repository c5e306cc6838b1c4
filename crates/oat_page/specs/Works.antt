-- What the work of a command, and the loads before it, end with (docs/DEFINITIONS.md).
use Rattle.std.specs.{Prelude.◌≡◌, Prelude.ℕ, Prelude.List, Prelude.Some, Prelude.None, Prelude.Result, Prelude.Ok, Prelude.Err, Prelude.MatchResult, Prelude.IfErr, declared.vec.Vec.Vec}
use Rattle.std.specs.{declared.alloc.Global.Global, declared.alloc.AllocError.AllocError}
use Rattle.oat_world.specs.Outside.{Contents, Rose}
use Rattle.oat_page.specs.{declared.page.Page.Page, declared.page.Stop.Stop, declared.page.Halt.Halt, Outcome.Outcome, Outcome.says, Answer.Answer, Answer.shows, Answer.refuses, Answer.refused}
use Rattle.oat_page.specs.{Answer.as_outcome, Loads.Wanted, Loads.File, Loads.IsLoaded, Loads.LoadFails, Loads.AreLoaded, Loads.LoadsFail, Loads.Read}
use Rattle.oat_page.specs.declared.page.Stop.TheVariants as stop
use Rattle.oat_page.specs.declared.page.Halt.TheVariants as halt

-- Work that stops early refuses an input so, or memory was wanting.
abbrev pub StopsWith : (Answer → Type 0) → Stop → Type 0
StopsWith Q (stop.Refused text) = Q (refuses text.items)
StopsWith Q stop.Starved = Unit {0}

-- Work ends with one of these answers, or for want of memory; its text is what its pieces make.
abbrev pub Works : {P : Type 0} → (P → List ℕ) → (Answer → Type 0) → Result (Page P) Stop → Type 0
Works text Q (Ok page) = Q (shows page.ended (text page.pieces) page.err.items)
Works text Q (Err stop) = StopsWith Q stop

-- the outcome that work stands for which stopped early
abbrev pub IsStopOutcome : Stop → Outcome → Type 0
IsStopOutcome (stop.Refused said) o = o ≡ says 2 said.items
IsStopOutcome stop.Starved o = ⊥

-- the outcome that finished work stands for
abbrev pub IsOutcomeOf : {P : Type 0} → (P → List ℕ) → Result (Page P) Stop → Outcome → Type 0
IsOutcomeOf text (Ok page) o = o ≡ as_outcome (shows page.ended (text page.pieces) page.err.items)
IsOutcomeOf text (Err stop) o = IsStopOutcome stop o

-- Loads that don't go through end so, or memory was wanting.
abbrev pub HaltsWith : (Outcome → Type 0) → Halt → Type 0
HaltsWith Q (halt.ReadFault text) = Q (says 4 text.items)
HaltsWith Q (halt.Refused text) = Q (says 2 text.items)
HaltsWith Q halt.Starved = Unit {0}

-- the outcome that loads stand for which didn't go through
abbrev pub IsHaltOutcome : Halt → Outcome → Type 0
IsHaltOutcome (halt.ReadFault text) o = o ≡ says 4 text.items
IsHaltOutcome (halt.Refused text) o = o ≡ says 2 text.items
IsHaltOutcome halt.Starved o = ⊥

-- the halt that a stop is
abbrev pub halt_of : Stop → Halt
halt_of (stop.Refused text) = halt.Refused text
halt_of stop.Starved = halt.Starved

abbrev pub IsReadFault : Halt → Type 0
IsReadFault (halt.ReadFault text) = Unit {0}
IsReadFault (halt.Refused text) = ⊥
IsReadFault halt.Starved = ⊥

-- Where contents are told, a load gives the file that was wanted, or ends as it may.
abbrev pub LoadsFile : Wanted → Read → Result File Halt → Type 0
LoadsFile wanted files result =
    (contents : Contents) → files.told ≡ Some contents
    → MatchResult result (IsLoaded contents wanted) (HaltsWith (LoadFails contents (Rose files.before files.after) wanted))

-- Where contents are told, loads give the files that were wanted, or end as the first that fails may.
abbrev pub LoadsFiles : List Wanted → Read → Result (Vec File Global) Halt → Type 0
LoadsFiles wanted files result =
    (contents : Contents) → files.told ≡ Some contents
    → MatchResult result (λ loaded. AreLoaded contents wanted loaded.items)
    (HaltsWith (LoadsFail contents (Rose files.before files.after) wanted))

-- Where nothing is told, a load fails as a read only where the count of faults rose.
abbrev pub FaultsRose : {X : Type 0} → Read → Result X Halt → Type 0
FaultsRose files result = files.told ≡ None → IfErr result (λ halt. IsReadFault halt → Rose files.before files.after)

-- the answer that a page stands for
abbrev pub answer_in : {P : Type 0} → (P → List ℕ) → Page P → Answer
answer_in text page = shows page.ended (text page.pieces) page.err.items

-- The stop refuses an input so, or memory was wanting.
abbrev pub RefusesWith : Answer → Result Stop AllocError → Type 0
RefusesWith a (Ok (stop.Refused text)) = a ≡ refuses text.items
RefusesWith a (Ok stop.Starved) = ⊥
RefusesWith a (Err starved) = Unit {0}

-- The stop refuses the file of this name for this reason.
abbrev pub IsRefusal : List ℕ → List ℕ → Result Stop AllocError → Type 0
IsRefusal file reason = RefusesWith (refused file reason)
