-- What a feed settles of a blob's bytes, and what of it is put again: the walk of its records (docs/DEFINITIONS.md).
use Rattle.std.specs.Prelude.{◌≡◌, ℕ, List, ◌++◌, Result, Ok}
use Rattle.hex.specs.Hex.{decode_of}
use Rattle.oat_replay.specs.Replay.{IsWalked}
use Rattle.oat_feed.specs.{declared.verdict.Settled.Settled, Verdict.IsFeedVerdict, Verdict.AreRecordsOf, Verdict.RecordLists, Verdict.feed_verdict_of}
use Rattle.oat_shown.specs.{SinkFault, Edge, Map, Verdict, Accept, Subject, CarriesSerial, Answer, IsAnswered, PutsAll, Report.path_text, Report.report_text, Put, Shows}
use Rattle.oat_feed.specs.declared.verdict.FeedVerdict.TheVariants as feeds

pub record SettlesBlob (s : Subject) (bytes : List ℕ) (settled : Settled) : Type 0 where
  pub verdict : IsFeedVerdict s bytes settled.verdict
  pub kept : AreRecordsOf bytes settled.kept
  pub serial : CarriesSerial bytes settled.serial

-- this is the path of the walk with these records
abbrev pub IsPathOf : Map → ℕ → RecordLists → List Edge → Type 0
IsPathOf flow op kept = IsWalked flow op kept.bits kept.targets

-- after an acceptance there is one
abbrev pub HasPath : Map → ℕ → Settled → Type 0
HasPath flow op settled = settled.verdict ≡ feeds.Accept → (path : List Edge) × IsPathOf flow op settled.kept path

-- what was settled tells this verdict, and where it accepts, the records are those of its path
pub record TellsVerdict (flow : Map) (op : ℕ) (settled : Settled) (verdict : Verdict) : Type 0 where
  pub told : settled.verdict ≡ feed_verdict_of verdict
  pub walked : (path : List Edge) → verdict ≡ Accept path → IsPathOf flow op settled.kept path

-- whatever bytes these digits are of
abbrev pub OnDigits : List ℕ → (List ℕ → Type 0) → Type 0
OnDigits digits Claim = (bytes : List ℕ) → decode_of digits ≡ Ok bytes → Claim bytes

-- an answer on the bytes of these digits was shown
abbrev pub ShowsOnDigits : List ℕ → (List ℕ → Answer → Type 0) → (out err : Put) → ℕ → Type 0
ShowsOnDigits digits Q out err status = OnDigits digits (λ bytes. Shows (IsAnswered (Q bytes)) out err status)

-- the lines of the path of the walk with these records were put
abbrev pub PutsPath : Map → ℕ → RecordLists → Put → Result (Unit {0}) SinkFault → Type 0
PutsPath flow op kept put result = (path : List Edge) → IsPathOf flow op kept path → PutsAll (path_text flow path) put result

-- the report of the verdict that was settled was put, and this text behind it
abbrev pub PutsReport : Map → ℕ → Settled → List ℕ → Put → Result (Unit {0}) SinkFault → Type 0
PutsReport flow op settled behind put result =
    (verdict : Verdict) → TellsVerdict flow op settled verdict → PutsAll (report_text flow settled.serial verdict ++ behind) put result
