use Rattle.std.proofs.Common.{◌++◌, ◌∷◌, [], Some, refl, sym, subst}
use Rattle.oat_journal.proofs.RunLaws.{held_define, held_other}
use Rattle.oat_attest.specs.{Cells, Held, MonitorCall, cells_of}
use Rattle.oat_watch.proofs.Using.{no-define}
use Rattle.oat_attest.specs.svc as svc
use Rattle.oat_watch.proofs.collection.note_define.Goals as goal

pub returns-in-Define-clause-held : goal.returns-in-Define-clause-held
returns-in-Define-clause-held c = λ words before held.
    subst (λ (call : MonitorCall). Held words (before ++ Some call ∷ []) (cells_of c.define.new.self.words.items)) (sym c.in-Define.is)
    (subst (λ (cells : Cells). Held words (before ++ Some (svc.Define c.in-Define.cell c.in-Define.value) ∷ []) cells) (sym c.define.ensures.words) (held_define words before (cells_of c.args.cells.now.words.items) c.in-Define.cell c.in-Define.value held))

pub returns-in_default : goal.returns-in_default
returns-in_default c = record {
  held = λ words before held. held_other words before (cells_of c.args.cells.now.words.items) (Some c.args.call) (no-define c.args.call (λ cell value is. c.in_default.not-Define cell value is)) held;
  few = refl;
}
