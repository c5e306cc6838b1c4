use Rattle.std.proofs.Common.{[], sym, subst}
use Rattle.oat_journal.proofs.RunLaws.{held_first}
use Rattle.oat_attest.specs.{Cells, start_cells, Held}
use Rattle.oat_watch.proofs.Collecting.{starts}
use Rattle.oat_watch.proofs.collection.Collection.at_start.Goals as goal

pub returns : goal.returns
returns c = λ o. record {
  cells = subst (λ (cells : Cells). Held (start_cells c.args.image.now) [] cells) (sym c.in_ok-at_start.ensures.words) (held_first (start_cells c.args.image.now));
  few = c.in_ok-at_start.ensures.few;
  closed = (starts c.args.image.now o c.new-2.result.items c.new.result c.new-2.ensures.items (λ before. c.new.ensures c.args.image.now o.op before)).0;
  stands = (starts c.args.image.now o c.new-2.result.items c.new.result c.new-2.ensures.items (λ before. c.new.ensures c.args.image.now o.op before)).1;
}
