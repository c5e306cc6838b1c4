-- What finished work stands for is an answer of the command.
use Rattle.std.proofs.Common.{◌≡◌, ℕ, List, Result, Ok, Err, ap, subst}
use Rattle.oat_page.specs.{declared.page.Page.Page, declared.page.Stop.Stop, Outcome.Outcome, Answer.Answer, Answer.shows, Answer.refuses, Answer.refused, Answer.as_outcome, Answer.IsAnswered}
use Rattle.oat_page.specs.{Shows.Put, Shows.Shows, Works.StopsWith, Works.RefusesWith, Works.Works, Works.IsOutcomeOf, Works.IsStopOutcome}
use Rattle.oat_page.proofs.Showing.{Shows-more}
use Rattle.oat_page.specs.declared.page.Stop.TheVariants as stop

-- Work that stopped early answers a refusal.
pub stops_answer : (Q : Answer → Type 0) (s : Stop) (o : Outcome) → StopsWith Q s → IsStopOutcome s o → IsAnswered Q o
stops_answer Q (stop.Refused said) o stops is = record { answer = refuses said.items; given = stops; is = is }
stops_answer Q stop.Starved o stops is = absurd is

pub Works-answers : {P : Type 0} (text : P → List ℕ) (Q : Answer → Type 0) (work : Result (Page P) Stop) (o : Outcome)
    → Works text Q work → IsOutcomeOf text work o → IsAnswered Q o
Works-answers text Q (Ok page) o works is = record { answer = shows page.ended (text page.pieces) page.err.items; given = works; is = is }
Works-answers text Q (Err stop) o works is = stops_answer Q stop o works is

pub StopsWith-more : (P Q : Answer → Type 0) (s : Stop) → ((a : Answer) → P a → Q a) → StopsWith P s → StopsWith Q s
StopsWith-more P Q (stop.Refused text) more stops = more (refuses text.items) stops
StopsWith-more P Q stop.Starved more stops = tt

-- Work with weaker answers.
pub Works-more : {P : Type 0} (text : P → List ℕ) (Q R : Answer → Type 0) (work : Result (Page P) Stop) → ((a : Answer) → Q a → R a)
    → Works text Q work → Works text R work
Works-more text Q R (Ok page) more works = more (shows page.ended (text page.pieces) page.err.items) works
Works-more text Q R (Err stop) more works = StopsWith-more Q R stop more works

-- a status of work
abbrev pub IsDone : ℕ → Type 0
IsDone status = (status ≡ 2) → ⊥

-- A refusal of an input isn't work that was done.
pub refused_is_not_done : (a : Answer) (file reason : List ℕ) → a ≡ refused file reason → IsDone (as_outcome a).status → ⊥
refused_is_not_done a file reason told is_done = is_done (ap (λ (x : Answer). (as_outcome x).status) told)

-- A stop that refuses an input so stops the work so.
pub RefusesWith-stops : (Q : Answer → Type 0) (a : Answer) (s : Stop) → RefusesWith a (Ok s) → Q a → StopsWith Q s
RefusesWith-stops Q a (stop.Refused text) is given = subst Q is given
RefusesWith-stops Q a stop.Starved is given = tt

-- Finished work shows an answer of the command.
pub finished : {P : Type 0} (text : P → List ℕ) (Q : Answer → Type 0) (work : Result (Page P) Stop) (out err : Put) (status : ℕ)
    → Works text Q work → Shows (IsOutcomeOf text work) out err status → Shows (IsAnswered Q) out err status
finished text Q work out err status works shown =
    Shows-more (IsOutcomeOf text work) (IsAnswered Q) out err status (λ o is. Works-answers text Q work o works is) shown
