use Rattle.oat_room_drill.proofs.Making.{has_first, is_first}
use Rattle.oat_room_drill.proofs.drill.page_of.Goals as goal

pub unreachable-requires : goal.unreachable-requires
unreachable-requires c =
    has_first _ _ _ c.as_slice.ensures (c.first_verdict.ensures c.args.number c.in_ok-attested.attested c.in_ok-attested.ensures).1 c.in_default.ensures.value

pub drill_page-requires : goal.drill_page-requires
drill_page-requires c = record {
  drilled = c.in_ok-attested.ensures;
  first = is_first _ _ _ c.as_slice.ensures c.in-Some.ensures.value;
}
