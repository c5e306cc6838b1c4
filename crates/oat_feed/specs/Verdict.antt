-- The verdict of a feed: that on the whole of the bytes that came, but for the path; and what is kept of the bytes.
use Rattle.std.specs.Prelude.{◌≡◌, ℕ, Bool, List, []}
use Rattle.oat_verify.specs.{Body, IsBlob, declared.verdict.Verdict.Verdict, Verdict.Subject, Verdict.IsVerdict}
use Rattle.oat_feed.specs.{declared.verdict.FeedVerdict.FeedVerdict, declared.verdict.FeedVerdict.TheVariants.Accept, declared.verdict.FeedVerdict.TheVariants.Refuse}
use Rattle.oat_verify.specs.declared.verdict.Verdict.TheVariants as verdicts

-- a verdict without its path
abbrev pub feed_verdict_of : Verdict → FeedVerdict
feed_verdict_of (verdicts.Accept path) = Accept
feed_verdict_of (verdicts.Refuse cause) = Refuse cause

-- one of these verdicts, without its path
pub record Tells (Q : Verdict → Type 0) (v : FeedVerdict) : Type 0 where
  pub verdict : Verdict
  pub right : Q verdict
  pub told : v ≡ feed_verdict_of verdict

-- the verdict on these bytes, without its path
abbrev pub IsFeedVerdict : Subject → List ℕ → FeedVerdict → Type 0
IsFeedVerdict s bytes = Tells (IsVerdict s bytes)

pub record RecordLists : Type 0 where
  pub bits : List Bool
  pub targets : List ℕ

-- these are the records of the blob that the bytes are; where they are no blob, there are none
pub data AreRecordsOf (bytes : List ℕ) (records : RecordLists) : Type 0 where
  of_blob : (body : Body) (mac : List ℕ) → IsBlob bytes body mac → records.bits ≡ body.bits → records.targets ≡ body.targets → AreRecordsOf bytes records
  of_none : ((body : Body) (mac : List ℕ) → IsBlob bytes body mac → ⊥) → records.bits ≡ [] → records.targets ≡ [] → AreRecordsOf bytes records
