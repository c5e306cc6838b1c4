-- The smallest image with each line on global data: main takes a reference, keeps it in a function scalar, writes and reads an element, and calls an operation that uses and defines cells of an array and of a scalar.
use Rattle.std.specs.Prelude.{true, false, not, ◌&&◌, ℕ, pos, nat_eq, if◌then◌else◌, List, [], ◌∷◌, ◌++◌, map, Some, None, codes}
use Rattle.oat_frames.specs.{Inst, AddImm, AddReg, BCond, Bl, Brk, Ldr, LdrReg, Movk, Movz, OrrReg, Ret, Str, StrReg, SubImm, SubsImm, SubsReg, Svc, word_of, Image, Map, I64, Fn, Running, started}
use Rattle.oat_frames.specs.{moves, monitors, Frames.World, Frames.IsAt, RunsTo}
use Rattle.oat_frames.specs.edges as edges
use Rattle.oat_frames.specs.rows as rows
use Rattle.oat_frames.specs.svc as svc

-- main, its lines one behind another: the start, a reference, a store and a load of the function scalar, a store and a load of an element, the call, and the halt
abbrev pub main_insts : List Inst
main_insts =
    SubImm 31 31 32 ∷ Str 30 31 0 ∷ Str 31 31 1 ∷ Str 31 31 2 ∷ Str 31 31 3
    ∷ Movz 9 0 0x17C ∷ Movk 9 1 0x1 ∷ Str 9 31 3
    ∷ Movz 11 0 0x0 ∷ Movk 11 1 0x4000 ∷ Ldr 9 31 3 ∷ Str 9 11 0
    ∷ Movz 11 0 0x0 ∷ Movk 11 1 0x4000 ∷ Ldr 9 11 0 ∷ Str 9 31 3
    ∷ Ldr 12 31 2 ∷ Movz 11 0 0x2 ∷ Movk 11 1 0x0 ∷ SubsReg 31 12 11 ∷ BCond 3 (pos 2) ∷ Brk 2 ∷ Movz 11 0 0x10 ∷ Movk 11 1 0x4000 ∷ AddReg 11 11 12 3 ∷ Ldr 9 31 2 ∷ Str 9 11 0
    ∷ Ldr 12 31 2 ∷ Movz 11 0 0x2 ∷ Movk 11 1 0x0 ∷ SubsReg 31 12 11 ∷ BCond 3 (pos 2) ∷ Brk 2 ∷ Movz 11 0 0x10 ∷ Movk 11 1 0x4000 ∷ AddReg 11 11 12 3 ∷ Ldr 9 11 0 ∷ Str 9 31 1
    ∷ SubsImm 31 28 256 ∷ BCond 3 (pos 2) ∷ Brk 4 ∷ AddImm 28 28 1 ∷ Ldr 0 31 1 ∷ Bl (pos 4) ∷ SubImm 28 28 1 ∷ Str 0 31 1
    ∷ Svc 0 ∷ []

-- the operation: the start with its begin, a load and a store of an element of the critical array, a load and a store of the critical scalar, and its end with the return
abbrev pub work_insts : List Inst
work_insts =
    SubImm 31 31 16 ∷ Str 30 31 0 ∷ OrrReg 19 31 0 ∷ Movz 9 0 1 ∷ Svc 1
    ∷ OrrReg 12 31 19 ∷ Movz 11 0 2 ∷ SubsReg 31 12 11 ∷ BCond 3 (pos 2) ∷ Brk 2 ∷ Movz 11 0 0x20 ∷ Movk 11 1 0x4000 ∷ LdrReg 10 11 12 ∷ Movz 9 0 1 ∷ AddReg 9 9 12 0 ∷ Svc 7 ∷ OrrReg 19 31 10
    ∷ OrrReg 12 31 19 ∷ OrrReg 10 31 19 ∷ Movz 11 0 2 ∷ SubsReg 31 12 11 ∷ BCond 3 (pos 2) ∷ Brk 2 ∷ Movz 11 0 0x20 ∷ Movk 11 1 0x4000 ∷ Movz 9 0 1 ∷ AddReg 9 9 12 0 ∷ StrReg 10 11 12 ∷ Svc 6
    ∷ Movz 11 0 0x8 ∷ Movk 11 1 0x4000 ∷ Ldr 10 11 0 ∷ Movz 9 0 0 ∷ Svc 7 ∷ OrrReg 19 31 10
    ∷ OrrReg 10 31 19 ∷ Movz 11 0 0x8 ∷ Movk 11 1 0x4000 ∷ Movz 9 0 0 ∷ Str 10 11 0 ∷ Svc 6
    ∷ Movz 9 0 1 ∷ Svc 2 ∷ OrrReg 0 31 19 ∷ Ldr 30 31 0 ∷ AddImm 31 31 16 ∷ Svc 5 ∷ Ret 30 ∷ []

-- a function that a reference names
abbrev pub none_insts : List Inst
none_insts = SubImm 31 31 16 ∷ Str 30 31 0 ∷ Svc 0 ∷ []

abbrev pub operation_map : Map
operation_map = record {
  functions = record { entry = 0x10000; name = codes "main"; params = 0; referenced = false } ∷ record { entry = 0x100BC; name = codes "work"; params = 1; referenced = false } ∷ record { entry = 0x1017C; name = codes "none"; params = 0; referenced = true } ∷ [];
  blocks = record { start = 0x10014; label = codes "b" } ∷ record { start = 0x100D0; label = codes "c" } ∷ record { start = 0x10184; label = codes "d" } ∷ [];
  rows = rows.Check 0x10050 ∷ rows.Check 0x1007C ∷ rows.Check 0x1009C ∷ rows.Call 0x100AC 0x100BC ∷ rows.Begin 0x100C8 1 ∷ rows.UseAt 0x100D4 1 2 ∷ rows.DefAt 0x10108 1 2
      ∷ rows.UseCell 0x10130 0 ∷ rows.DefCell 0x1014C 0 ∷ rows.End 0x10160 1 ∷ rows.Ret 0x10174 ∷ [];
}

-- word 0 is the function scalar, word 1 the critical one, which begins with 5, words 2 and 3 the array, and words 4 and 5 the critical one, whose first element begins with 1
abbrev pub operation_image : Image
operation_image = record {
  code = map word_of (main_insts ++ work_insts ++ none_insts);
  words = record { index = 1; value = 5 } ∷ record { index = 4; value = 1 } ∷ [];
  cells = 1 ∷ 4 ∷ 5 ∷ [];
  map = operation_map;
}

-- main is function 0 with the locals s, i, r; the operation is function 1, a leaf with the local n in X19; function 2 only halts
abbrev pub operation_world : World
operation_world = record {
  image = operation_image;
  label = λ l. if nat_eq l 0 then 0x10000 else (if nat_eq l 1 then 0x100BC else 0x1017C);
  may_name = λ f k. nat_eq f 2 && nat_eq k 0;
  locals = λ f. if nat_eq f 0 then 3 else (if nat_eq f 1 then 1 else 0);
  ty = λ f i. if nat_eq f 0 && nat_eq i 2 then Fn 0 else I64;
  is_leaf = λ f. not (nat_eq f 0);
  place = λ f b l.
      if nat_eq f 0 then (if nat_eq l 0 then 0x10014 else (if nat_eq l 1 then 0x10020 else (if nat_eq l 2 then 0x10030 else (if nat_eq l 3 then 0x10040 else (if nat_eq l 4 then 0x1006C else (if nat_eq l 5 then 0x10098 else 0x100B8))))))
      else (if nat_eq f 1 then (if nat_eq l 0 then 0x100D0 else (if nat_eq l 1 then 0x10100 else (if nat_eq l 2 then 0x10130 else (if nat_eq l 3 then 0x10148 else 0x10160)))) else 0x10184);
  result = λ f b l. if nat_eq f 0 && nat_eq l 5 then Some 0 else None;
  globals = 6;
  global_ty = λ i. if nat_eq i 0 then Fn 0 else I64;
}

-- the run comes to main's halt, with these events
abbrev pub OperationRuns : Type 0
OperationRuns =
    (locals globals : ℕ → ℕ) × (n : ℕ) × (k : Running)
    × RunsTo operation_image n (started operation_image []) k
    (moves (edges.Call 0x100AC 0x100BC) ∷ monitors (svc.Begin 1 0x100CC)
    ∷ monitors (svc.Use 1 1) ∷ monitors (svc.Define 2 1) ∷ monitors (svc.Use 0 5) ∷ monitors (svc.Define 0 5)
    ∷ monitors (svc.End 1) ∷ moves (edges.Ret 0x10174 0x100B0) ∷ [])
    × IsAt operation_world (record { func = 0; block = 0; line = 6; locals = locals }) [] globals k
