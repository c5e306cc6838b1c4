-- The theorem of `verify`: what status 0 says to its caller (docs/PROMISES.md).
use Rattle.std.specs.{Prelude.◌≡◌, Prelude.ℕ, Prelude.Option, Prelude.List, Prelude.Some, Prelude.map, String.string_bytes, declared.string.String.String, declared.alloc.Global.Global}
use Rattle.oat_attest.specs.Headline.{OfRuns, FollowedOrClashes}
use Rattle.oat_words.specs.{declared.command.Command.TheVariants.Verify, Commands.IsLine}
use Rattle.oat_room_attest.specs.{Contents, Image, Edge, Session, BeginsAt, Verdict, Accept, CarriesSerial, as_outcome, report_of, Put, Read}
use Rattle.oat_tool.specs.{CallLaws.ShowsJust, VerifyLaws.IsJudged}

-- A verdict was reached, and its report is what was shown, with the serial number of its blob.
pub record ShowsVerdict (words : List (List ℕ)) (contents : Contents) (verdict : Verdict) (out err : Put) (status : ℕ) : Type 0 where
  pub image : Image
  pub judged : IsJudged words contents image verdict
  pub serial : Option ℕ
  pub carried : CarriesSerial judged.bytes serial
  pub shown : ShowsJust (as_outcome (report_of image.map serial verdict)) out err status

-- The headline of one accepted blob: whatever was given and written, the device run whose blob the bytes are followed
-- the path, or its returns and the replay's clash.
abbrev pub HeadlineHolds : Image → Session → List ℕ → List Edge → Type 0
HeadlineHolds image session bytes path =
    (begin_at : ℕ) → BeginsAt image.map session.op begin_at
    → OfRuns image session begin_at bytes (FollowedOrClashes image session path)

-- An acceptance was shown, and the headline holds of it.
pub record ShowsAcceptance (words : List (List ℕ)) (contents : Contents) (out err : Put) (status : ℕ) : Type 0 where
  pub path : List Edge
  pub shows : ShowsVerdict words contents (Accept path) out err status
  pub headline : HeadlineHolds shows.image shows.judged.c.session shows.judged.bytes path

-- Status 0 of `verify`: an acceptance was shown, and the headline holds of it.
abbrev pub IsHeadlined : List (List ℕ) → Read → Put → Put → ℕ → Type 0
IsHeadlined words files out err status =
    (contents : Contents) → files.told ≡ Some contents → IsLine words Verify → status ≡ 0 → ShowsAcceptance words contents out err status

abbrev pub Headlined : List (String Global) → Read → Put → Put → ℕ → Type 0
Headlined words = IsHeadlined (map string_bytes words)
