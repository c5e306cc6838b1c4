use Rattle.std.proofs.Common.{◌∙◌, refl}
use Rattle.oat_page.proofs.{Orders.Rose-later, Putting.Adds-nothing, Showing.Shows-said, Showing.Shows-more}
use Rattle.oat_words.specs.Commands.{usage}
use Rattle.oat_room_attest.specs.{fails, passes, says, starved, ended, at_once}
use Rattle.oat_tool.specs.Defined.{done, other}
use Rattle.oat_tool.proofs.{Orderly.orderly, VerifySaying.calls_are_headlined, Attestations.calls_show_one_run}
use Rattle.oat_tool.proofs.top_call.run.Goals as goal

pub returns-in_default-clause-answer : goal.returns-in_default-clause-answer
returns-in_default-clause-answer g c = λ contents told.
    Shows-said _ usage _ _ _ (ended (other c.in_default.ensures refl)) (Adds-nothing _) c.say.ensures.says

pub returns-in_default-numbers_of-clause-answer : goal.returns-in_default-numbers_of-clause-answer
returns-in_default-numbers_of-clause-answer g c = λ contents told.
    Shows-said _ starved _ _ _ (at_once refl) (Adds-nothing _) c.say_starved.ensures.says

pub returns-in-Ok-load_all-clause-answer : goal.returns-in-Ok-load_all-clause-answer
returns-in-Ok-load_all-clause-answer g c = λ contents told.
    let loads = c.in-Ok-load_all.ensures in
    let held = rw (c.names_of-names.ensures.names, c.limits.ensures) at (loads.loads contents told) in
    Shows-more _ _ _ _ _
    (λ o does. done c.in-Some.command c.in-Some.ensures (passes c.in-Ok-load_all.loaded.items held
    ((orderly c.in-Some.command _).grows contents _ _ _ o (Rose-later _ _ _ loads.faults_stay) does)))
    (rw (c.as_slice.ensures.value, c.in-Ok.ensures, c.as_slice-in-Ok-load_all.ensures.value) at (c.work.ensures.shows contents (loads.same ∙ told)))

pub returns-in-Err-ReadFault-clause-answer : goal.returns-in-Err-ReadFault-clause-answer
returns-in-Err-ReadFault-clause-answer g c = λ contents told.
    let failed = rw (c.in-Err-ReadFault.field-0-is, c.names_of-names.ensures.names, c.limits.ensures) at (c.in-Err-ReadFault.ensures.loads contents told) in
    Shows-said _ (says 4 c.in-Err-ReadFault.line.items) _ _ _ (ended (done c.in-Some.command c.in-Some.ensures (fails failed))) (Adds-nothing _)
    (rw (c.as_slice-in-Err-ReadFault.ensures.value, c.in-Err-ReadFault.field-0-is) at c.say-in-Err-ReadFault.ensures.says)

pub returns-in-Err-Refused-clause-answer : goal.returns-in-Err-Refused-clause-answer
returns-in-Err-Refused-clause-answer g c = λ contents told.
    let failed = rw (c.in-Err-Refused.field-0-is, c.names_of-names.ensures.names, c.limits.ensures) at (c.in-Err-Refused.ensures.loads contents told) in
    Shows-said _ (says 2 c.in-Err-Refused.line.items) _ _ _ (ended (done c.in-Some.command c.in-Some.ensures (fails failed))) (Adds-nothing _)
    (rw (c.as_slice-in-Err-Refused.ensures.value, c.in-Err-Refused.field-0-is) at c.say-in-Err-Refused.ensures.says)

pub returns-clause-answer : goal.returns-clause-answer
returns-clause-answer g c = λ contents told.
    Shows-said _ starved _ _ _ (at_once refl) (Adds-nothing _) c.say_starved-in-Err-Starved.ensures.says

pub returns-in-Ok-load_all-clause-headline : goal.returns-in-Ok-load_all-clause-headline
returns-in-Ok-load_all-clause-headline g c = calls_are_headlined _ _ _ _ _ (returns-in-Ok-load_all-clause-answer g c)

pub returns-in_default-clause-one_run : goal.returns-in_default-clause-one_run
returns-in_default-clause-one_run g c = calls_show_one_run c.windows_are_judged.ensures c.runs_are_headlined.ensures _ _ _ _ _ (returns-in_default-clause-answer g c)

pub returns-in_default-numbers_of-clause-one_run : goal.returns-in_default-numbers_of-clause-one_run
returns-in_default-numbers_of-clause-one_run g c = calls_show_one_run c.windows_are_judged.ensures c.runs_are_headlined.ensures _ _ _ _ _ (returns-in_default-numbers_of-clause-answer g c)

pub returns-in-Ok-load_all-clause-one_run : goal.returns-in-Ok-load_all-clause-one_run
returns-in-Ok-load_all-clause-one_run g c = calls_show_one_run c.windows_are_judged.ensures c.runs_are_headlined.ensures _ _ _ _ _ (returns-in-Ok-load_all-clause-answer g c)

pub returns-in-Err-ReadFault-clause-one_run : goal.returns-in-Err-ReadFault-clause-one_run
returns-in-Err-ReadFault-clause-one_run g c = calls_show_one_run c.windows_are_judged.ensures c.runs_are_headlined.ensures _ _ _ _ _ (returns-in-Err-ReadFault-clause-answer g c)

pub returns-in-Err-Refused-clause-one_run : goal.returns-in-Err-Refused-clause-one_run
returns-in-Err-Refused-clause-one_run g c = calls_show_one_run c.windows_are_judged.ensures c.runs_are_headlined.ensures _ _ _ _ _ (returns-in-Err-Refused-clause-answer g c)

pub returns-clause-one_run : goal.returns-clause-one_run
returns-clause-one_run g c = calls_show_one_run c.windows_are_judged.ensures c.runs_are_headlined.ensures _ _ _ _ _ (returns-clause-answer g c)
