-- What follows of the defined outcome, for all commands: single sentences (docs/PROMISES.md).
use Rattle.std.specs.Prelude.{◌≡◌, ◌⊎◌, ◌↔◌, ◌++◌, ℕ, List, length, Contains}
use Rattle.oat_words.specs.{declared.command.Command.Command, Commands.commands, Commands.fixed_of, Commands.bounds_of, Commands.limits_of, Commands.AreNumbers, Commands.IsLine, Commands.numbers_of}
use Rattle.oat_words.specs.{Commands.files_of}
use Rattle.oat_room_attest.specs.{Contents, IsOne, Outcome, File, AreLoaded}
use Rattle.oat_tool.specs.Defined.{Does, Defined}

-- The words of a command are those that it begins with, its numbers, and a name for each file that it loads.
pub record IsSpelled (words : List (List ℕ)) (command : Command) : Type 0 where
  pub numbers : List (List ℕ)
  pub names : List (List ℕ)
  pub bounded : AreNumbers (bounds_of command) numbers
  pub each_number : length numbers ≡ length (bounds_of command)
  pub each_file : length names ≡ length (limits_of command)
  pub is : words ≡ fixed_of command ++ (numbers ++ names)

abbrev pub LinesAreSpelled : Type 0
LinesAreSpelled = (words : List (List ℕ)) (command : Command) → Contains commands command → IsLine words command ↔ IsSpelled words command

-- Words are of one command at most.
abbrev pub OneCommand : Type 0
OneCommand = (words : List (List ℕ)) (c d : Command) → IsLine words c → IsLine words d → d ≡ c

-- Where the command that words are of ends in one way behind its files, words and contents have one defined outcome.
abbrev pub OneOutcome : Type 0
OneOutcome = (words : List (List ℕ)) (contents : Contents)
    → ((command : Command) → IsLine words command → (files : List File) → IsOne Outcome (Does command (numbers_of words command) contents ⊥ files))
    → IsOne Outcome (Defined words contents)

-- the statuses of work that was done
abbrev pub IsOfWork : ℕ → Type 0
IsOfWork status = (status ≡ 0) ⊎ ((status ≡ 1) ⊎ (status ≡ 7))

-- The outcome is what a command ends with behind the files that its words name.
pub record IsOfCommand (words : List (List ℕ)) (contents : Contents) (command : Command) (o : Outcome) : Type 0 where
  pub files : List File
  pub held : AreLoaded contents (files_of words command) files
  pub does : Does command (numbers_of words command) contents ⊥ files o

-- A defined outcome with a status of work is one of the command that was asked for.
abbrev pub WorkIsOfCommand : Type 0
WorkIsOfCommand = (words : List (List ℕ)) (contents : Contents) (command : Command) (o : Outcome)
    → IsLine words command → Defined words contents o → IsOfWork o.status → IsOfCommand words contents command o
