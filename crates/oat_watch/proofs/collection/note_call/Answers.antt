use Rattle.std.proofs.Common.{◌++◌, ◌∷◌, [], Option, None, refl, sym, subst}
use Rattle.oat_journal.proofs.RunLaws.{held_other}
use Rattle.oat_attest.specs.{Held, MonitorCall, cells_of}
use Rattle.oat_watch.proofs.collection.note_call.Goals as goal

pub returns-in-None-clause-held : goal.returns-in-None-clause-held
returns-in-None-clause-held c = λ words before held.
    subst (λ (call : Option MonitorCall). Held words (before ++ call ∷ []) (cells_of c.args.cells.now.words.items)) (sym c.in-None.is)
    (held_other words before (cells_of c.args.cells.now.words.items) None (λ _. refl) held)
