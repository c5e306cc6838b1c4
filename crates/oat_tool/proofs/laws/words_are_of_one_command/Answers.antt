use Rattle.oat_tool.proofs.{Apart.one_command, Naming.lines_are_spelled}
use Rattle.oat_tool.proofs.laws.words_are_of_one_command.Goals as goal

pub returns : goal.returns
returns c = record { spelled = lines_are_spelled; one = one_command }
