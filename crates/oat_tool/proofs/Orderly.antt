-- What the laws of all commands rest on: the outcomes of each command are orderly.
use Rattle.std.proofs.Common.{ℕ, List}
use Rattle.oat_page.proofs.Orders.{IsOrderly, answers_are_orderly}
use Rattle.oat_words.specs.{declared.command.Command.Command, declared.command.Command.TheVariants.Run, declared.command.Command.TheVariants.Build, declared.command.Command.TheVariants.Verify}
use Rattle.oat_words.specs.{declared.command.Command.TheVariants.Device, declared.command.Command.TheVariants.Trace, declared.command.Command.TheVariants.Policy}
use Rattle.oat_words.specs.{declared.command.Command.TheVariants.Owner, declared.command.Command.TheVariants.Attest, declared.command.Command.TheVariants.AttestJson}
use Rattle.oat_words.specs.{declared.command.Command.TheVariants.Drill}
use Rattle.oat_room_verify.specs.{Verify.Verifies, Policy.Polices}
use Rattle.oat_room_device.specs.{Device.Runs, Trace.Traces}
use Rattle.oat_room_program.specs.{Interpret.Interprets, Build.Builds}
use Rattle.oat_room_attest.specs.{Attest.AttestsProgram, Json.AttestsInJson}
use Rattle.oat_room_drill.specs.Drill.{Drills}
use Rattle.oat_room_owner.proofs.Serving.{serving_is_orderly}
use Rattle.oat_tool.specs.Defined.{Does, NamesFile}

pub orderly : (command : Command) (numbers : List ℕ) → IsOrderly (Does command numbers) (NamesFile command)
orderly Run numbers = answers_are_orderly Interprets (NamesFile Run)
orderly Build numbers = answers_are_orderly Builds (NamesFile Build)
orderly Verify numbers = answers_are_orderly Verifies (NamesFile Verify)
orderly Device numbers = answers_are_orderly Runs (NamesFile Device)
orderly Trace numbers = answers_are_orderly Traces (NamesFile Trace)
orderly Policy numbers = answers_are_orderly Polices (NamesFile Policy)
orderly Owner numbers = serving_is_orderly
orderly Attest numbers = answers_are_orderly AttestsProgram (NamesFile Attest)
orderly AttestJson numbers = answers_are_orderly AttestsInJson (NamesFile AttestJson)
orderly Drill numbers = answers_are_orderly (λ files. Drills numbers) (NamesFile Drill)
