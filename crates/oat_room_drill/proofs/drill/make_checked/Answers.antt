use Rattle.std.proofs.Common.{◌∙◌, sym, subst}
use Rattle.oat_build.specs.{IsChecked}
use Rattle.oat_room_drill.proofs.Making.{is_drawn, is_short, is_written}
use Rattle.oat_room_drill.proofs.drill.make_checked.Goals as goal

pub written_program-requires : goal.written_program-requires
written_program-requires c =
    let same = c.as_slice.ensures.value ∙ c.in_ok-text.ensures in
    record {
      short = is_short _ _ same (c.drill_texts_are_short.ensures c.args.number);
      written = is_written _ _ _ same (c.drills_are_written.ensures c.args.number);
    }

pub checked_program-requires : goal.checked_program-requires
checked_program-requires c =
    let same = c.as_slice.ensures.value ∙ c.in_ok-text.ensures in
    subst IsChecked (sym (is_drawn _ _ _ _ same (c.drills_are_written.ensures c.args.number) c.in_ok-program.ensures)) (c.drills_are_checked.ensures c.args.number)

pub returns : goal.returns
returns c =
    let same = c.as_slice.ensures.value ∙ c.in_ok-text.ensures in
    c.checked_program.ensures ∙ is_drawn _ _ _ _ same (c.drills_are_written.ensures c.args.number) c.in_ok-program.ensures
