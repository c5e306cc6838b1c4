-- A run of n instructions has at most n entries, and so has each of its windows.
use Rattle.std.proofs.Common.{◌≤◌, ℕ, zero, suc, ℤ, Bool, true, false, cond, List, [], ◌∷◌, length, map, Option, None, Some, Result, Ok, Err, arith}
use Rattle.std.proofs.lemmas.List.{length-map}
use Rattle.oat_image.specs.declared.image.Image.{Image}
use Rattle.oat_case.specs.declared.case.Write.{Write}
use Rattle.oat_measure.specs.{declared.opening.Opening.Opening, declared.call.MonitorCall.MonitorCall, declared.stop.StopKind.StopKind, Monitor.opens, Shelving.Measurements, Shelving.Measured}
use Rattle.oat_measure.specs.{Shelving.at_start, Shelving.measured_on, Shelving.measures, Shelving.with_rest, beyond, inside, past, through}
use Rattle.oat_journal.specs.{Run.Running, Run.Entry, Run.started, Run.entry, Run.turn, Run.from_entry, Run.journal_from, Run.journal, Window.made_call, Window.opens_window, Window.seals_window}
use Rattle.oat_journal.specs.{Measured.dev, Measured.run_until, Measured.start_cells, TurnLaws.JournalsAreShort, TurnLaws.WindowsAreShort}

-- ---- a whole run

entry_few : (e : Option Entry) (others : List Entry) (n : ℕ) → length others ≤ n → length (from_entry e others) ≤ suc n
entry_few None others n low = omega arith
entry_few (Some first) others n low = omega (arith, low)

journal_few : (code : List ℕ) (writes : List Write) (n : ℕ) (s : Running) → length (journal_from code writes n s) ≤ n
unfolding journal_from
journal_few code writes zero s = omega arith
journal_few code writes (suc n) s =
    entry_few (entry code writes s) (journal_from code writes n (turn code writes s)) n (journal_few code writes n (turn code writes s))

-- ---- a journal and its window

pub journals_are_short : JournalsAreShort
journals_are_short image inputs writes n = journal_few image.code writes n (started image inputs)

through_if : {X : Type 0} (t : Bool) (x : X) (xs ys : List X) → length ys ≤ length xs → length (cond t (x ∷ []) (x ∷ ys)) ≤ suc (length xs)
through_if true x xs ys low = omega arith
through_if false x xs ys low = omega (arith, low)

through_short : {X : Type 0} (test : X → Bool) (xs : List X) → length (through test xs) ≤ length xs
through_short test [] = omega arith
through_short test (x ∷ xs) = through_if (test x) x xs (through test xs) (through_short test xs)

beyond_if : {X : Type 0} (t : Bool) (xs ys : List X) → length ys ≤ length xs → length (cond t xs ys) ≤ suc (length xs)
beyond_if true xs ys low = omega arith
beyond_if false xs ys low = omega (arith, low)

beyond_short : {X : Type 0} (test : X → Bool) (xs : List X) → length (beyond test xs) ≤ length xs
beyond_short test [] = omega arith
beyond_short test (x ∷ xs) = beyond_if (test x) xs (beyond test xs) (beyond_short test xs)

taken_joined : (m : Measurements) (result : Result Measurements StopKind) (rest : Measurements → Measured) (n : ℕ) → ((next : Measurements) → (rest next).taken ≤ n)
    → (with_rest m result rest).taken ≤ suc n
taken_joined m (Ok next) rest n low = let few = low next in omega (arith, few)
taken_joined m (Err stop) rest n low = omega arith

calls_taken : (o : Opening) (calls : List (Option MonitorCall)) (m : Measurements) → (measures o m calls).taken ≤ length calls
unfolding measures
calls_taken o [] m = omega arith
calls_taken o (call ∷ calls) m =
    taken_joined m (measured_on o m call) (λ (next : Measurements). measures o next calls) (length calls) (λ next. calls_taken o calls next)

-- a run takes up no more calls than it has entries
pub taken_few : (o : Opening) (es : List Entry) (m : Measurements) → (measures o m (map made_call es)).taken ≤ length es
taken_few o es m =
    let long = length-map es made_call in
    let taken = calls_taken o (map made_call es) m in
    omega (arith, long, taken)

until_short : (image : Image) (inputs : List ℤ) (writes : List Write) (n : ℕ) (made : Measured) (stop : Option StopKind) → made.taken ≤ n
    → length (run_until image inputs writes n made stop).journal ≤ n
until_short image inputs writes n made None low = journals_are_short image inputs writes n
until_short image inputs writes n made (Some stop) low = let short = journals_are_short image inputs writes made.taken in omega (arith, short, low)

run_short : (image : Image) (o : Opening) (inputs : List ℤ) (writes : List Write) (n : ℕ) → length (dev image o inputs writes n).journal ≤ n
run_short image o inputs writes n =
    let js = journal image inputs writes n in
    let made = measures o (at_start o (start_cells image)) (map made_call js) in
    let taken = taken_few o js (at_start o (start_cells image)) in
    let short = journals_are_short image inputs writes n in
    until_short image inputs writes n made made.stop (omega (arith, taken, short))

inside_short : {X : Type 0} (opens seals : X → Bool) (s : ℕ) (xs : List X) → length (inside opens seals s xs) ≤ length xs
inside_short opens seals zero xs =
    let from = beyond_short opens xs in
    let up = through_short seals (beyond opens xs) in
    omega (arith, from, up)
inside_short opens seals (suc s) xs =
    let first = beyond_short opens xs in
    let second = beyond_short seals (beyond opens xs) in
    let later = inside_short opens seals s (past opens seals xs) in
    omega (arith, first, second, later)

pub windows_are_short : WindowsAreShort
windows_are_short image o inputs writes n s =
    let run = dev image o inputs writes n in
    let whole = run_short image o inputs writes n in
    let part = inside_short (opens_window made_call o.op o.begin_at) (seals_window made_call o.op) s run.journal in
    omega (arith, whole, part)
