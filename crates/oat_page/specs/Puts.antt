-- How far a text was put on one output (docs/DEFINITIONS.md).
use Rattle.std.specs.Prelude.{◌≡◌, ℕ, List, Option, Result, Ok, Err}
use Rattle.oat_world.specs.{Outside.Adds, Outside.Rose, declared.sink.SinkFault.SinkFault}
use Rattle.oat_page.specs.{Outcome.IsPrefix, Shows.Put}
use Rattle.oat_world.specs.declared.sink.SinkFault.TheVariants as sink

-- A front of the text was put.
abbrev pub PutsFront : List ℕ → Option (List ℕ) → Option (List ℕ) → Type 0
PutsFront text old new = (front : List ℕ) × IsPrefix front text × Adds old front new

-- The whole text was put, or a front of it up to the put that failed or to where memory was wanting. The count of faults
-- rises where a put failed, and nowhere else.
abbrev pub PutsAll : List ℕ → Put → Result (Unit {0}) SinkFault → Type 0
PutsAll text put (Ok done) = (put.after ≡ put.before) × Adds put.held text put.holds
PutsAll text put (Err sink.Failed) = Rose put.before put.after × PutsFront text put.held put.holds
PutsAll text put (Err sink.Memory) = (put.after ≡ put.before) × PutsFront text put.held put.holds

-- The last text of a call was put, and its status is answered; or a put failed.
pub data SaysLast (text : List ℕ) (put : Put) (status result : ℕ) : Type 0 where
  said : result ≡ status → Adds put.held text put.holds → SaysLast text put status result
  failed : Rose put.before put.after → result ≡ 5 → PutsFront text put.held put.holds → SaysLast text put status result
  starved : result ≡ 6 → PutsFront text put.held put.holds → SaysLast text put status result
