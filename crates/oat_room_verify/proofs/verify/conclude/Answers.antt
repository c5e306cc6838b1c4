use Rattle.std.proofs.Common.{◌∙◌, [], ap, refl}
use Rattle.oat_shape.proofs.Laid.{starts}
use Rattle.oat_page.proofs.{Putting.Adds-nothing, Showing.Shows-more, Showing.Shows-said}
use Rattle.oat_shown.specs.{subject_of, Ended, as_outcome, shows, Report.report_of, Report.report_text, at_once, starved}
use Rattle.oat_room_verify.proofs.Settling.{has_path, tells}
use Rattle.oat_room_verify.proofs.verify.conclude.Goals as goal

pub put_report-put-requires-clause-begun : goal.put_report-put-requires-clause-begun
put_report-put-requires-clause-begun g c = starts c.args.shaped.now.map c.args.session.now.op c.requires.operation

pub put_report-put-requires-clause-path : goal.put_report-put-requires-clause-path
put_report-put-requires-clause-path g c =
    let bytes = c.requires.digits in
    has_path (subject_of c.args.shaped.now c.args.session.now) bytes.0 c.in-Ok.settled (c.in-Ok.ensures bytes.0 bytes.1)

pub returns-in-Ok-clause-shows : goal.returns-in-Ok-clause-shows
returns-in-Ok-clause-shows g c = λ bytes decoded.
    let s = subject_of c.args.shaped.now c.args.session.now in
    let settles = c.in-Ok.ensures bytes decoded in
    let verdict = settles.verdict.verdict in
    let told = tells s bytes c.in-Ok.settled settles in
    let ends = c.ended.ensures verdict told.told in
    Shows-more _ _ _ _ _
    (λ o is. record {
      answer = report_of s.map c.in-Ok.settled.serial verdict;
      given = record { verdict = verdict; right = settles.verdict.right; serial = c.in-Ok.settled.serial; carried = settles.serial; reported = refl };
      is = is ∙ ap (λ (e : Ended). as_outcome (shows e (report_text s.map c.in-Ok.settled.serial verdict) [])) ends;
    })
    (c.close.ensures.shows _ _ (c.put_report-put.ensures verdict told))

pub returns-in-Ok-clause-write_fault : goal.returns-in-Ok-clause-write_fault
returns-in-Ok-clause-write_fault g c =
    let bytes = c.requires.digits in
    let settles = c.in-Ok.ensures bytes.0 bytes.1 in
    c.close.ensures.write_fault _ _ (c.put_report-put.ensures settles.verdict.verdict (tells (subject_of c.args.shaped.now c.args.session.now) bytes.0 c.in-Ok.settled settles))

pub returns-in-Ok-clause-raised : goal.returns-in-Ok-clause-raised
returns-in-Ok-clause-raised g c =
    let bytes = c.requires.digits in
    let settles = c.in-Ok.ensures bytes.0 bytes.1 in
    c.close.ensures.raised _ _ (c.put_report-put.ensures settles.verdict.verdict (tells (subject_of c.args.shaped.now c.args.session.now) bytes.0 c.in-Ok.settled settles))

pub returns-in-Err-clause-shows : goal.returns-in-Err-clause-shows
returns-in-Err-clause-shows g c = λ bytes decoded. Shows-said _ starved _ _ _ (at_once refl) (Adds-nothing _) c.say_starved.ensures.says
