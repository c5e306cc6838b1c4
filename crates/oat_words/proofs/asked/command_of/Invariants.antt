use Rattle.std.proofs.Common.{◌≡◌, ◌<◌, ℕ, map, get_or}
use Rattle.std.specs.String.{string_bytes}
use Rattle.oat_words.specs.{declared.command.Command.Command, Commands.commands, Commands.IsLine}
use Rattle.oat_words.proofs.asked.command_of.Given as goal

abbrev pub invariant-loop-command : goal.invariant-loop-command
invariant-loop-command l =
    (k : ℕ) (command : Command) → k < l.command-index → get_or commands k command ≡ command → ¬ IsLine (map string_bytes l.words) command
