-- What a turn of a run does, and what so many of them come to, whatever is given and written (docs/DEFINITIONS.md, "Bare run").
use Rattle.std.specs.Prelude.{◌≡◌, ◌+◌, ◌≤◌, ◌<◌, ◌^◌, ℕ, ℤ, List, [], ◌++◌, Some, None, length}
use Rattle.oat_image.specs.declared.image.Image.{Image}
use Rattle.oat_case.specs.{declared.case.Case.Case, declared.case.Write.Write, Limits.IsWellFormedCase}
use Rattle.oat_measure.specs.{Inst, act, instruction_at, step, Body, declared.opening.Opening.Opening}
use Rattle.oat_journal.specs.{declared.end.DeviceEnd.DeviceEnd, Run.Running, Run.entry, Run.found, Run.journal, Run.journal_from, Run.makes, Run.turn, Run.turns, Measured.HasBody, Measured.dev}
use Rattle.oat_journal.specs.{Measured.window_of, Progress.Progress, Progress.after_turns, Progress.going_on, Progress.measured_turn}

-- ---- turns

-- While a run goes on, a turn of it makes the machine step, on the machine as the writes before it leave it.
abbrev pub TurnsMakeSteps : Type 0
TurnsMakeSteps = (code : List ℕ) (writes : List Write) (s : Running) → s.end ≡ None → turn code writes s ≡ makes s (step code (found writes s))

-- One turn: the run makes the instruction that stands at its PC, on the machine as the writes before it leave it; where that doesn't end the run, it has an entry.
pub record MakesOne (code : List ℕ) (writes : List Write) (s : Running) (i : Inst) : Type 0 where
  pub next : turn code writes s ≡ makes s (act i (found writes s))
  pub noted : (turn code writes s).end ≡ None → entry code writes s ≡ Some (record { inst = i; found = found writes s; left = (turn code writes s).machine.regs })

abbrev pub OneTurn : Type 0
OneTurn =
    (code : List ℕ) (writes : List Write) (s : Running) (i : Inst) → s.end ≡ None → instruction_at code s.machine.regs.pc ≡ Some i
    → MakesOne code writes s i

-- A run that ended stays as it is, and has no more entries.
pub record Rests (code : List ℕ) (writes : List Write) (n : ℕ) (s : Running) : Type 0 where
  pub same : turns code writes n s ≡ s
  pub no_more : journal_from code writes n s ≡ []

abbrev pub EndedRunsRest : Type 0
EndedRunsRest = (code : List ℕ) (writes : List Write) (n : ℕ) (s : Running) (why : DeviceEnd) → s.end ≡ Some why → Rests code writes n s

-- Turns behind turns: m + n of them are m and then n, and their entries stand one behind the other.
pub record AddsUp (code : List ℕ) (writes : List Write) (m n : ℕ) (s : Running) : Type 0 where
  pub run : turns code writes (m + n) s ≡ turns code writes n (turns code writes m s)
  pub journal : journal_from code writes (m + n) s ≡ journal_from code writes m s ++ journal_from code writes n (turns code writes m s)

abbrev pub TurnsAdd : Type 0
TurnsAdd = (code : List ℕ) (writes : List Write) (m n : ℕ) (s : Running) → AddsUp code writes m n s

-- ---- measured turns

-- n + 1 measured turns are n and then one, where the run goes on.
abbrev pub MeasuredTurnsFollow : Type 0
MeasuredTurnsFollow =
    (code : List ℕ) (writes : List Write) (o : Opening) (n : ℕ) (p : Progress)
    → let behind = after_turns code writes o n p in
    after_turns code writes o (n + 1) p ≡ going_on behind.running.end behind (measured_turn code writes o behind)

-- A measured run that ended is that of each greater number of turns.
abbrev pub MeasuredEndsStay : Type 0
MeasuredEndsStay =
    (code : List ℕ) (writes : List Write) (o : Opening) (n more : ℕ) (p : Progress) (why : DeviceEnd)
    → (after_turns code writes o n p).running.end ≡ Some why → after_turns code writes o (n + more) p ≡ after_turns code writes o n p

-- ---- lengths

-- A journal of n instructions has at most n entries.
abbrev pub JournalsAreShort : Type 0
JournalsAreShort = (image : Image) (inputs : List ℤ) (writes : List Write) (n : ℕ) → length (journal image inputs writes n) ≤ n

-- A window of a run of n instructions has at most n.
abbrev pub WindowsAreShort : Type 0
WindowsAreShort = (image : Image) (o : Opening) (inputs : List ℤ) (writes : List Write) (n s : ℕ) → length (window_of o s (dev image o inputs writes n)) ≤ n

-- A body of a run of n instructions has at most n branch bits and n indirect targets.
pub record HasFewRecords (body : Body) (n : ℕ) : Type 0 where
  pub bits : length body.bits ≤ n
  pub targets : length body.targets ≤ n

abbrev pub RecordsAreFew : Type 0
RecordsAreFew =
    (image : Image) (o : Opening) (inputs : List ℤ) (writes : List Write) (n s : ℕ) (body : Body)
    → HasBody o (dev image o inputs writes n) s body → HasFewRecords body n

-- The bits and targets of a body can be counted in 32 bits.
pub record CountsFit (body : Body) : Type 0 where
  pub bits : length body.bits < 2 ^ 32
  pub targets : length body.targets < 2 ^ 32

-- The run of a case records few enough of them for each of its blobs to be laid out.
abbrev pub CountsOfCasesFit : Type 0
CountsOfCasesFit =
    (image : Image) (o : Opening) (case : Case) (s : ℕ) (body : Body) → IsWellFormedCase case
    → HasBody o (dev image o case.inputs case.writes case.steps) s body → CountsFit body
