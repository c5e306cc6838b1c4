use Rattle.std.proofs.Common.{◌++◌, ◌∷◌, ◌∙◌, [], length, map, sym, subst, arith}
use Rattle.std.proofs.lemmas.Bool.{false≢true}
use Rattle.oat_attest.specs.{start_cells, made_call, cells_of}
use Rattle.oat_watch.specs.{Collecting.AreClosedWindows, Collecting.RunStands, Shown.Holds}
use Rattle.oat_watch.proofs.{Collecting.Grows, Collecting.closed-more, Collecting.closes, Collecting.grows-by, Collecting.held-next, Collecting.in-more, Collecting.last-one, Collecting.out-more}
use Rattle.oat_watch.proofs.{Staging.turned}
use Rattle.oat_watch.proofs.collection.Collection.take.Goals as goal

pub returns-then-not-was_inside-clause-more : goal.returns-then-not-was_inside-clause-more
returns-then-not-was_inside-clause-more c = λ o m next js e shows op measured was is col.
    let image = c.args.image.now in
    let old = c.args.self.now in
    let words = start_cells image in
    let turn = turned o m next (made_call e) measured (last-one image o m js (length old.closed.items) old.present col.stands) in
    let fewer = c.note_call.ensures.few in
    let few = col.few in
    let held = held-next words (cells_of c.note_call.new.cells.words.items) js e c.call-call.result (c.call-call.ensures e shows) (c.note_call.ensures.held words (map made_call js) col.cells) in
    record {
      cells = held;
      few = omega (arith, fewer, few);
      closed = closed-more image o js e old.closed.items col.closed;
      stands = out-more image o m next js e old.closed.items old.present turn (λ at. absurd (false≢true (sym c.if-not-was_inside.true ∙ was.1 at))) col.closed col.stands;
    }

pub returns-then-is_inside-clause-more : goal.returns-then-is_inside-clause-more
returns-then-is_inside-clause-more c = λ o m next js e shows op measured was is col.
    let image = c.args.image.now in
    let old = c.args.self.now in
    let words = start_cells image in
    let turn = turned o m next (made_call e) measured (last-one image o m js (length old.closed.items) old.present col.stands) in
    let fewer = c.note_call-2.ensures.few in
    let few = col.few in
    let held = held-next words (cells_of c.note_call-2.new.cells.words.items) js e c.call-call.result (c.call-call.ensures e shows) (c.note_call-2.ensures.held words (map made_call js) col.cells) in
    let grows = grows-by image o c.args.op e (cells_of old.cells.words.items) old.present c.take.new.self op (λ before made. c.in_ok-take.ensures before made e shows) in
    let at = was.0 c.if-not-was_inside.false in
    record {
      cells = held;
      few = omega (arith, fewer, few);
      closed = closed-more image o js e old.closed.items col.closed;
      stands = in-more image o m next js e (cells_of old.cells.words.items) old.closed.items old.present c.take.new.self turn at (is.0 c.if-is_inside.true) col.cells grows col.closed col.stands;
    }

pub returns-clause-more : goal.returns-clause-more
returns-clause-more c = λ o m next js e shows op measured was is col.
    let image = c.args.image.now in
    let old = c.args.self.now in
    let words = start_cells image in
    let turn = turned o m next (made_call e) measured (last-one image o m js (length old.closed.items) old.present col.stands) in
    let fewer = c.note_call-2.ensures.few in
    let few = col.few in
    let held = held-next words (cells_of c.note_call-2.new.cells.words.items) js e c.call-call.result (c.call-call.ensures e shows) (c.note_call-2.ensures.held words (map made_call js) col.cells) in
    let grows = grows-by image o c.args.op e (cells_of old.cells.words.items) old.present c.take.new.self op (λ before made. c.in_ok-take.ensures before made e shows) in
    let at = was.0 c.if-not-was_inside.false in
    let closing = closes image o m next js e (cells_of old.cells.words.items) old.closed.items old.present c.replace-closed.result c.replace-closed.new.dest turn at
    (λ inside. absurd (false≢true (sym c.if-is_inside.false ∙ is.1 inside))) col.cells
    (subst (λ w. Grows image o e (cells_of old.cells.words.items) old.present w) (sym c.replace-closed.ensures.value) grows)
    (λ before. subst (Holds image o.op before []) (sym c.replace-closed.ensures.after) (c.new.ensures image o.op before)) col.closed col.stands in
    record {
      cells = held;
      few = omega (arith, fewer, few);
      closed = subst (λ ws. AreClosedWindows image o (js ++ e ∷ []) ws) (sym c.in_ok-push.ensures.items) closing.closed;
      stands = subst (λ ws. RunStands image o next (js ++ e ∷ []) (length ws) c.replace-closed.new.dest) (sym c.in_ok-push.ensures.items) closing.stands;
    }
