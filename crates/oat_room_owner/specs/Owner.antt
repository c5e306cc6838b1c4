-- `owner SCRIPT`: the first refusal of the script or of a device's image, or the lines of the replies to the script's calls
-- (docs/FORMATS.md, "Owner scripts").
use Rattle.std.specs.{Prelude.◌≡◌, Prelude.ℕ, Prelude.List, Prelude.[], Prelude.◌∷◌, Prelude.◌++◌, Prelude.Option, Prelude.Some, Prelude.None, Prelude.Ok, Prelude.Err, Prelude.Contains, Prelude.map}
use Rattle.std.specs.{List.AllZip}
use Rattle.oat_owner.specs.{declared.device.Known.Known, declared.owner.Answer.TheVariants.Accepted, declared.call.OwnerCall.OwnerCall, declared.call.OwnerReply.OwnerReply, Ledger.Ledger}
use Rattle.oat_owner.specs.{Ledger.shaped_of, Exchanges.Exchange, Exchanges.behind, Exchanges.owner_behind, Exchanges.AreReplies}
use Rattle.oat_script.specs.{declared.script.Script.Script, declared.script.ScriptDevice.ScriptDevice, declared.fault.ScriptFaultKind.ScriptFaultKind, FaultText.script_fault_word, Reading.script_of}
use Rattle.oat_reply.specs.ReplyLine.{reply_text}
use Rattle.oat_inputs.specs.Refusals.{RefusesImage, RefusesShape}
use Rattle.oat_shown.specs.{Contents, First, Fault, fault_text, Edge, Image, IsImageText, IsShaped, Done, Outcome, line, starved, Answer, IsAnswered, IsWorkOutcome, refused, image_limit, Wanted, File}
use Rattle.oat_shown.specs.{IsLoaded, LoadFails, Report.path_text}
use Rattle.oat_owner.specs.declared.call.OwnerReply.TheVariants as replies

-- A script is refused for its first fault.
pub record RefusesScript (file : File) (a : Answer) : Type 0 where
  pub fault : Fault ScriptFaultKind
  pub first : script_of file.text ≡ Err fault
  pub told : a ≡ refused file.name (fault_text script_fault_word fault)

-- ---- the devices

-- the file that has a device's image
abbrev pub image_file : ScriptDevice → Wanted
image_file device = record { name = device.file; limit = image_limit }

-- A device is enrolled: its image's file is loaded, and holds an image with the shape.
pub record IsEnrolled (contents : Contents) (device : ScriptDevice) (known : Known) : Type 0 where
  pub file : File
  pub loaded : IsLoaded contents (image_file device) file
  pub read : IsImageText file.text known.shaped
  pub shaped : IsShaped known.shaped
  pub id : known.id ≡ device.id
  pub key : known.key ≡ device.key

-- A device isn't enrolled: its image's file isn't loaded, or holds no image, or one without the shape.
abbrev pub EnrolmentFails : Contents → (rose : Type 0) → ScriptDevice → Outcome → Type 0
EnrolmentFails contents rose device =
    First File Outcome (IsLoaded contents (image_file device)) (LoadFails contents rose (image_file device)) (λ file.
    First Image Outcome (IsImageText file.text) (IsAnswered (RefusesImage file)) (λ image.
    IsAnswered (RefusesShape file image)))

abbrev pub AreEnrolled : Contents → List ScriptDevice → List Known → Type 0
AreEnrolled contents devices known = AllZip (IsEnrolled contents) devices known

-- The first of these devices that isn't enrolled decides.
abbrev pub EnrolmentsFail : Contents → (rose : Type 0) → List ScriptDevice → Outcome → Type 0
EnrolmentsFail contents rose [] o = ⊥
EnrolmentsFail contents rose (device ∷ devices) o =
    First Known Outcome (IsEnrolled contents device) (EnrolmentFails contents rose device) (λ known. EnrolmentsFail contents rose devices) o

-- ---- the replies

-- the lines of a path, by the map of this image
abbrev pub path_by : Option Image → List Edge → List ℕ
path_by None path = []
path_by (Some image) path = path_text image.map path

-- the lines of an accepted path, by the image of the device to which the challenge was issued
abbrev pub accepted_path : Ledger → OwnerReply → List ℕ
accepted_path l (replies.Answer (Accepted number path)) = path_by (shaped_of l number) path
accepted_path l _ = []

-- the lines of a reply, by the owner behind it
abbrev pub reply_lines : Ledger → OwnerReply → List ℕ
reply_lines l reply = line (reply_text reply) ++ accepted_path l reply

-- the lines of replies, from an owner on
abbrev pub lines_from : Ledger → List Exchange → List ℕ
lines_from l [] = []
lines_from l (e ∷ exchanges) =
    reply_lines (behind l e.call e.reply) e.reply ++ lines_from (behind l e.call e.reply) exchanges

-- the lines of the replies of an owner of these devices
abbrev pub replies_text : List Known → List Exchange → List ℕ
replies_text known exchanges = lines_from (owner_behind known []) exchanges

-- the calls that were replied to
abbrev pub replied_calls : List Exchange → List OwnerCall
replied_calls exchanges = map (λ e. e.call) exchanges

-- All calls were replied to; or those before one for which memory was wanting.
pub data RepliesTo (known : List Known) (calls : List OwnerCall) (o : Outcome) : Type 0 where
  to_all : (exchanges : List Exchange) → AreReplies known exchanges → replied_calls exchanges ≡ calls
      → IsWorkOutcome Done (replies_text known exchanges) [] o → RepliesTo known calls o
  to_some : (exchanges : List Exchange) → AreReplies known exchanges → (later : List OwnerCall) → calls ≡ replied_calls exchanges ++ later
      → o ≡ record starved { out = replies_text known exchanges } → RepliesTo known calls o

-- The script is read, then its devices are enrolled, and then its calls are replied to.
abbrev pub ServesScript : Contents → (rose : Type 0) → File → Outcome → Type 0
ServesScript contents rose file =
    First Script Outcome (λ script. script_of file.text ≡ Ok script) (IsAnswered (RefusesScript file)) (λ script.
    First (List Known) Outcome (AreEnrolled contents script.devices) (EnrolmentsFail contents rose script.devices) (λ known.
    RepliesTo known script.calls))

abbrev pub Serves : Contents → (rose : Type 0) → List File → Outcome → Type 0
Serves contents rose (file ∷ []) o = ServesScript contents rose file o
Serves contents rose _ o = ⊥

-- The file is a script, and this one has the image of a device of it.
pub record NamesImageIn (file : File) (wanted : Wanted) : Type 0 where
  pub script : Script
  pub read : script_of file.text ≡ Ok script
  pub device : ScriptDevice
  pub among : Contains script.devices device
  pub is : wanted ≡ image_file device

abbrev pub NamesImage : List File → Wanted → Type 0
NamesImage (file ∷ []) wanted = NamesImageIn file wanted
NamesImage _ wanted = ⊥
