-- Which outcome is defined for a list of words, from what each file holds alone, and which one a call sets out for (docs/DEFINITIONS.md).
use Rattle.std.specs.Prelude.{◌≡◌, ℕ, List}
use Rattle.oat_words.specs.{declared.command.Command.Command, declared.command.Command.TheVariants.Run, declared.command.Command.TheVariants.Build, declared.command.Command.TheVariants.Verify}
use Rattle.oat_words.specs.{declared.command.Command.TheVariants.Device, declared.command.Command.TheVariants.Trace, declared.command.Command.TheVariants.Policy}
use Rattle.oat_words.specs.{declared.command.Command.TheVariants.Owner, declared.command.Command.TheVariants.Attest, declared.command.Command.TheVariants.AttestJson}
use Rattle.oat_words.specs.{declared.command.Command.TheVariants.Drill, Commands.usage, Commands.IsLine, Commands.numbers_of, Commands.files_of}
use Rattle.oat_room_verify.specs.{Verify.Verifies, Policy.Polices}
use Rattle.oat_room_device.specs.{Device.Runs, Trace.Traces}
use Rattle.oat_room_program.specs.{Interpret.Interprets, Build.Builds}
use Rattle.oat_room_attest.specs.{Contents, First, Outcome, IsAnswered, Wanted, File, AreLoaded, LoadsFail, Attest.AttestsProgram, Json.AttestsInJson}
use Rattle.oat_room_drill.specs.Drill.{Drills}
use Rattle.oat_room_owner.specs.Owner.{Serves, NamesImage}

-- What a command ends with behind the loads of its files: an answer to its numbers and to these. One that loads further files looks at
-- contents besides, and such a load may fail where the count of faults rose.
abbrev pub Does : Command → (numbers : List ℕ) → Contents → (rose : Type 0) → List File → Outcome → Type 0
Does Run numbers contents rose files = IsAnswered (Interprets files)
Does Build numbers contents rose files = IsAnswered (Builds files)
Does Verify numbers contents rose files = IsAnswered (Verifies files)
Does Device numbers contents rose files = IsAnswered (Runs files)
Does Trace numbers contents rose files = IsAnswered (Traces files)
Does Policy numbers contents rose files = IsAnswered (Polices files)
Does Owner numbers contents rose files = Serves contents rose files
Does Attest numbers contents rose files = IsAnswered (AttestsProgram files)
Does AttestJson numbers contents rose files = IsAnswered (AttestsInJson files)
Does Drill numbers contents rose files = IsAnswered (Drills numbers)

-- a further file that a command loads, which its files name
abbrev pub NamesFile : Command → List File → Wanted → Type 0
NamesFile Owner files wanted = NamesImage files wanted
NamesFile _ files wanted = ⊥

-- The first load that fails decides, and else the command; a load may fail where the count of faults rose.
abbrev pub Ends : List (List ℕ) → Command → Contents → (rose : Type 0) → Outcome → Type 0
Ends words command contents rose =
    First (List File) Outcome (AreLoaded contents (files_of words command)) (LoadsFail contents rose (files_of words command))
    (Does command (numbers_of words command) contents rose)

-- What a call sets out for: the end of the command that the words are of, or usage.
pub data SetsOut (words : List (List ℕ)) (contents : Contents) (rose : Type 0) (o : Outcome) : Type 0 where
  done : (command : Command) → IsLine words command → Ends words command contents rose o → SetsOut words contents rose o
  other : ((command : Command) → ¬ IsLine words command) → o ≡ usage → SetsOut words contents rose o

-- The defined outcome: no count rises.
abbrev pub Defined : List (List ℕ) → Contents → Outcome → Type 0
Defined words contents = SetsOut words contents ⊥
