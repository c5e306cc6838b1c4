-- For which bytes an intake and a feed stand while bytes come in piece by piece (docs/DEFINITIONS.md).
use Rattle.std.specs.Prelude.{◌≡◌, ℕ, suc, ◌+◌, ◌<◌, ◌≤◌, List, ◌++◌, length, take, vec_capacity}
use Rattle.oat_verify.specs.{Body, IsBlob, BeginsBlob, Verdict.Subject, Verdict.subject_of}
use Rattle.oat_feed.specs.{declared.intake.State.State, declared.intake.State.TheVariants.Open, declared.intake.State.TheVariants.Broken, declared.intake.State.TheVariants.Spent}
use Rattle.oat_feed.specs.{declared.intake.Intake.Intake, declared.feed.Feed.Feed, RecordPlaces.records_before}

-- the bytes of a blob that are no record bytes are at most 152, and at most 4096 are looked at together
abbrev pub feed_room : ℕ
feed_room = 4248

-- beside the record bytes of the front there is room for all other bytes of a blob, and for a chunk
abbrev pub KeepsRoom : List ℕ → ℕ → Type 0
KeepsRoom front capacity = (body : Body) (mac rest : List ℕ) → IsBlob (front ++ rest) body mac → records_before body (length front) + feed_room ≤ capacity

-- all bytes are in the front; or the next one is one that no blob has there
abbrev pub KeepsFront : State → (came front : List ℕ) (capacity : ℕ) → Type 0
KeepsFront Open came front capacity = (came ≡ front) × KeepsRoom front capacity
KeepsFront Broken came front capacity = (length front < length came) × (front ≡ take (length front) came) × (BeginsBlob (take (suc (length front)) came) → ⊥)
KeepsFront Spent came front capacity = ⊥

-- the bytes came in, and the front that is kept of them is the longest that begins a blob
pub record TakesIn (intake : Intake) (came : List ℕ) : Type 0 where
  pub begins : BeginsBlob intake.front.items
  pub keeps : KeepsFront intake.state came intake.front.items (vec_capacity intake.front)

-- memory was wanting before
abbrev pub IsSpent : Intake → Type 0
IsSpent intake = intake.state ≡ Spent

-- the bytes came to a feed that is to judge them in this matter
pub record HasBeenFed (feed : Feed) (s : Subject) (came : List ℕ) : Type 0 where
  pub about : s ≡ subject_of feed.shaped.now feed.session.now
  pub intake : TakesIn feed.intake came

abbrev pub IsSpentFeed : Feed → Type 0
IsSpentFeed feed = IsSpent feed.intake
