use Rattle.std.proofs.Common.{◌∙◌, ap, count_by}
use Rattle.oat_report.specs.Counting.{is_counted}
use Rattle.oat_report.proofs.Places.{count_by-counted}
use Rattle.oat_report.proofs.place.number_in_place.Goals as goal

pub returns : goal.returns
returns c =
    c.count_rows.ensures ∙ ap (λ rows. count_by (is_counted c.args.place c.args.address) rows) c.as_slice.ensures
    ∙ count_by-counted c.args.map.now c.args.place c.args.address c.requires
