use Rattle.oat_tool.proofs.Completing.{calls_are_complete, held_files_are_answered}
use Rattle.oat_tool.proofs.laws.calls_are_complete.Goals as goal

pub returns : goal.returns
returns c = record { held = held_files_are_answered; taken = calls_are_complete }
