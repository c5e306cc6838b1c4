pub use Rattle.oat_owner.specs.Exchanges.{AreReplies, Exchange}
pub use Rattle.oat_owner.specs.Laws.{AcceptedByVerdict, AcceptedOnce, IsAcceptance}
pub use Rattle.oat_owner.specs.Ledger.{device_of}
pub use Rattle.oat_owner.specs.Replies.{challenge_session}
pub use Rattle.oat_owner.specs.declared.call.OwnerCall.{OwnerCall}
pub use Rattle.oat_owner.specs.declared.device.Known.{Known}
pub use Rattle.oat_owner.specs.declared.owner.Answer.TheVariants.{Accepted}
pub use Rattle.oat_script.specs.Reading.{script_of}
pub use Rattle.oat_script.specs.declared.script.Script.{Script}
pub use Rattle.oat_script.specs.declared.script.ScriptDevice.{ScriptDevice}
pub mod Owner
pub mod Serving
