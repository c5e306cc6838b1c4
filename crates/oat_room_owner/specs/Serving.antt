-- How far the work of `owner` came: devices that were enrolled, an owner that was opened, replies that were put (docs/DEFINITIONS.md).
use Rattle.std.specs.{Prelude.◌≡◌, Prelude.◌<◌, Prelude.ℕ, Prelude.List, Prelude.[], Prelude.◌++◌, Prelude.length, Prelude.Some, Prelude.Ok, Prelude.Result, Prelude.MatchResult, Prelude.IfOk}
use Rattle.std.specs.{declared.vec.Vec.Vec, declared.alloc.Global.Global}
use Rattle.oat_owner.specs.{declared.device.Known.Known, declared.owner.Answer.TheVariants.Accepted, declared.call.OwnerCall.OwnerCall, declared.call.OwnerReply.OwnerReply, Ledger.Ledger}
use Rattle.oat_owner.specs.{Exchanges.Exchange, Exchanges.CallByCall, Exchanges.owner_behind}
use Rattle.oat_script.specs.{declared.script.Script.Script, declared.script.ScriptDevice.ScriptDevice, Reading.script_of}
use Rattle.oat_shown.specs.{Contents, Rose, SinkFault, Edge, Halt, File, Read, HaltsWith, Put, Shows, PutsAll}
use Rattle.oat_room_owner.specs.{declared.opening.Opened.Opened, Owner.IsEnrolled, Owner.EnrolmentFails, Owner.AreEnrolled, Owner.EnrolmentsFail, Owner.lines_from, Owner.replied_calls}
use Rattle.oat_room_owner.specs.{Owner.RepliesTo, Owner.ServesScript, Owner.Serves}
use Rattle.oat_owner.specs.declared.call.OwnerReply.TheVariants as replies

-- Where contents are told, a device is enrolled, or enrolment ends as it may.
abbrev pub Enrols : ScriptDevice → Read → Result Known Halt → Type 0
Enrols device files result =
    (contents : Contents) → files.told ≡ Some contents
    → MatchResult result (IsEnrolled contents device) (HaltsWith (EnrolmentFails contents (Rose files.before files.after) device))

-- Where contents are told, devices are enrolled, or end as the first that fails may.
abbrev pub EnrolsAll : List ScriptDevice → Read → Result (Vec Known Global) Halt → Type 0
EnrolsAll devices files result =
    (contents : Contents) → files.told ≡ Some contents
    → MatchResult result (λ known. AreEnrolled contents devices known.items)
    (HaltsWith (EnrolmentsFail contents (Rose files.before files.after) devices))

-- The file is a script whose devices are enrolled; the owner knows them and has issued nothing, and these are its calls.
pub record IsOpenedBy (contents : Contents) (file : File) (opened : Opened) : Type 0 where
  pub script : Script
  pub read : script_of file.text ≡ Ok script
  pub known : List Known
  pub enrolled : AreEnrolled contents script.devices known
  pub owner : opened.owner ≡ owner_behind known []
  pub calls : opened.calls ≡ script.calls

-- Where contents are told, a script is opened, or ends as it may.
abbrev pub Opens : File → Read → Result Opened Halt → Type 0
Opens file files result =
    (contents : Contents) → files.told ≡ Some contents
    → MatchResult result (IsOpenedBy contents file) (HaltsWith (ServesScript contents (Rose files.before files.after) file))

-- The number of an acceptance is that of an issued challenge.
abbrev pub IsOfIssued : Ledger → OwnerReply → Type 0
IsOfIssued l reply = (number : ℕ) (path : List Edge) → reply ≡ replies.Answer (Accepted number path) → number < length l.challenges

-- The lines of the replies to calls were put: to all, or to those before a put failed or memory was wanting.
pub record PutsReplies (l : Ledger) (calls : List OwnerCall) (put : Put) (result : Result (Unit {0}) SinkFault) : Type 0 where
  pub exchanges : List Exchange
  pub last : Ledger
  pub replied : CallByCall l exchanges last
  pub later : List OwnerCall
  pub parted : calls ≡ replied_calls exchanges ++ later
  pub all : IfOk result (λ done. later ≡ [])
  pub lines : PutsAll (lines_from l exchanges) put result

-- An owner that knows devices and has issued nothing shows its replies to the calls.
abbrev pub ShowsReplies : Opened → Put → Put → ℕ → Type 0
ShowsReplies opened out err status =
    (known : List Known) → opened.owner ≡ owner_behind known [] → Shows (RepliesTo known opened.calls) out err status

-- Where contents are told, serving the loaded script shows what it comes to.
abbrev pub ShowsServing : List File → Read → Put → Put → ℕ → Type 0
ShowsServing loaded files out err status =
    (contents : Contents) → files.told ≡ Some contents
    → Shows (Serves contents (Rose files.before files.after) loaded) out err status
