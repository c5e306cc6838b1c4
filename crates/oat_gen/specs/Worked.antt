-- The code of a worked program: an operation that does nothing, and `main` that calls it.
use Rattle.std.specs.Prelude.{◌≡◌, pos, List, [], ◌∷◌}
use Rattle.oat_globals.specs.{AddImm, SubImm, SubsImm, Ldr, Str, OrrReg, BCond, Brk, Svc, Ret, Begin, End, Check, Item, Inst, Label, Mark, Note, idle_program}
use Rattle.oat_locals.specs.{Call}
use Rattle.oat_gen.specs.Code.{program_items}

-- main, with labels 1 and 3, and the operation, a leaf, with labels 0 and 2
abbrev pub idle_code : List Item
idle_code =
    Label 1 ∷ Inst (SubImm 31 31 16) ∷ Inst (Str 30 31 0) ∷ Inst (Str 31 31 1)
    ∷ Label 3 ∷ Inst (SubsImm 31 28 256) ∷ Note Check ∷ Inst (BCond 3 (pos 2)) ∷ Inst (Brk 4) ∷ Inst (AddImm 28 28 1)
    ∷ Mark (Call 0) ∷ Inst (SubImm 28 28 1) ∷ Inst (Str 0 31 1) ∷ Inst (Svc 0)
    ∷ Label 0 ∷ Inst (SubImm 31 31 16) ∷ Inst (Str 30 31 0) ∷ Inst (OrrReg 19 31 31) ∷ Mark (Begin 1)
    ∷ Label 2 ∷ Mark (End 1) ∷ Inst (OrrReg 0 31 19) ∷ Inst (Ldr 30 31 0) ∷ Inst (AddImm 31 31 16) ∷ Mark Ret ∷ []

abbrev pub IdleIsGenerated : Type 0
IdleIsGenerated = program_items idle_program ≡ idle_code
