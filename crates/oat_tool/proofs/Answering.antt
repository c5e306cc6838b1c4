-- A defined outcome with a status of work is one of the command that was asked for.
use Rattle.std.proofs.Common.{refl, subst}
use Rattle.oat_words.specs.{declared.command.Command.Command, Commands.numbers_of, Commands.files_of}
use Rattle.oat_room_attest.specs.{fails, passes, AreLoaded}
use Rattle.oat_tool.specs.{Defined.Does, Defined.done, Defined.other, DefinedLaws.WorkIsOfCommand}
use Rattle.oat_tool.proofs.{Apart.one_command, Setting.failed_is_no_work}

pub work_is_of_command : WorkIsOfCommand
work_is_of_command words contents command o asked (other none is) work = absurd (none command asked)
work_is_of_command words contents command o asked (done given line (fails failed)) work =
    absurd (failed_is_no_work contents (files_of words given) o failed o.status refl work)
work_is_of_command words contents command o asked (done given line (passes files held does)) work =
    let same = one_command words command given asked line in
    record {
      files = files;
      held = subst (λ (c : Command). AreLoaded contents (files_of words c) files) same held;
      does = subst (λ (c : Command). Does c (numbers_of words c) contents ⊥ files o) same does;
    }
