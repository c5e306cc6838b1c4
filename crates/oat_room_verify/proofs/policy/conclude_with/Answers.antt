use Rattle.std.proofs.Common.{◌∙◌, ◌++◌, [], ap, refl, Option}
use Rattle.oat_shape.proofs.Laid.{starts}
use Rattle.oat_policy.specs.declared.verdict.PolicyVerdict.{PolicyVerdict}
use Rattle.oat_page.proofs.{Putting.Adds-nothing, Showing.Shows-more, Showing.Shows-said}
use Rattle.oat_shown.specs.{subject_of, Ended, as_outcome, shows, Report.report_of, Report.report_text, at_once, starved}
use Rattle.oat_room_verify.specs.Policy.{said_of, said_text, with_policy}
use Rattle.oat_room_verify.proofs.Settling.{has_path, tells}
use Rattle.oat_room_verify.proofs.policy.conclude_with.Goals as goal

pub put_ruled-put-requires-clause-begun : goal.put_ruled-put-requires-clause-begun
put_ruled-put-requires-clause-begun g c = starts c.args.opened.now.admitted.shaped.map c.args.opened.now.admitted.case.session.op c.requires.operation

pub put_ruled-put-requires-clause-path : goal.put_ruled-put-requires-clause-path
put_ruled-put-requires-clause-path g c =
    let bytes = c.requires.digits in
    has_path (subject_of c.args.opened.now.admitted.shaped c.args.opened.now.admitted.case.session) bytes.0 c.in-Ok.ruled.settled (c.in-Ok.ensures bytes.0 bytes.1).settles

pub returns-in-Ok-clause-shows : goal.returns-in-Ok-clause-shows
returns-in-Ok-clause-shows g c = λ bytes decoded.
    let s = subject_of c.args.opened.now.admitted.shaped c.args.opened.now.admitted.case.session in
    let ruled = c.in-Ok.ensures bytes decoded in
    let settled = c.in-Ok.ruled.settled in
    let verdict = ruled.settles.verdict.verdict in
    let told = tells s bytes settled ruled.settles in
    let report = report_of s.map settled.serial verdict in
    Shows-more _ _ _ _ _
    (λ o is. record {
      answer = with_policy (said_of s.map c.args.opened.now.rules verdict) report;
      given = record {
        report = report;
        concluded = record { verdict = verdict; right = ruled.settles.verdict.right; serial = settled.serial; carried = ruled.settles.serial; reported = refl };
        is = refl;
      };
      is = is ∙ (ap (λ (e : Ended). as_outcome (shows e (report_text s.map settled.serial verdict ++ said_text c.in-Ok.ruled.said) [])) c.ended_by.ensures
          ∙ ap (λ (said : Option PolicyVerdict). as_outcome (with_policy said report)) ruled.is_said);
    })
    (c.close.ensures.shows _ _ (c.put_ruled-put.ensures verdict told))

pub returns-in-Ok-clause-write_fault : goal.returns-in-Ok-clause-write_fault
returns-in-Ok-clause-write_fault g c =
    let bytes = c.requires.digits in
    let ruled = c.in-Ok.ensures bytes.0 bytes.1 in
    c.close.ensures.write_fault _ _ (c.put_ruled-put.ensures ruled.settles.verdict.verdict
    (tells (subject_of c.args.opened.now.admitted.shaped c.args.opened.now.admitted.case.session) bytes.0 c.in-Ok.ruled.settled ruled.settles))

pub returns-in-Ok-clause-raised : goal.returns-in-Ok-clause-raised
returns-in-Ok-clause-raised g c =
    let bytes = c.requires.digits in
    let ruled = c.in-Ok.ensures bytes.0 bytes.1 in
    c.close.ensures.raised _ _ (c.put_ruled-put.ensures ruled.settles.verdict.verdict
    (tells (subject_of c.args.opened.now.admitted.shaped c.args.opened.now.admitted.case.session) bytes.0 c.in-Ok.ruled.settled ruled.settles))

pub returns-in-Err-clause-shows : goal.returns-in-Err-clause-shows
returns-in-Err-clause-shows g c = λ bytes decoded. Shows-said _ starved _ _ _ (at_once refl) (Adds-nothing _) c.say_starved.ensures.says
