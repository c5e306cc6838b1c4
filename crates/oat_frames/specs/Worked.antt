-- The smallest image with a call: main calls a function with one argument, which gives it back.
use Rattle.std.specs.Prelude.{◌+◌, ℕ, false, not, nat_eq, if◌then◌else◌, [], ◌∷◌, Some, None, codes}
use Rattle.oat_asm.specs.{Image, Map}
use Rattle.oat_check.specs.{I64}
use Rattle.oat_follow.specs.{Running, started, Events.moves, Reaching.RunsTo}
use Rattle.oat_frames.specs.Frames.{World, IsAt}
use Rattle.oat_asm.specs.edges as edges
use Rattle.oat_follow.specs.rows as rows

abbrev pub one_call_map : Map
one_call_map = record {
  functions = record { entry = 0x10000; name = codes "main"; params = 0; referenced = false } ∷ record { entry = 0x10034; name = codes "same"; params = 1; referenced = false } ∷ [];
  blocks = record { start = 0x10010; label = codes "b" } ∷ record { start = 0x10040; label = codes "b" } ∷ [];
  rows = rows.Check 0x10014 ∷ rows.Call 0x10024 0x10034 ∷ rows.Ret 0x1004C ∷ [];
}

abbrev pub one_call : Image
one_call = record {
  code =
      0xD10083FF ∷ 0xF90003FE ∷ 0xF90007FF ∷ 0xF9000BFF
      ∷ 0xF104039F ∷ 0x54000043 ∷ 0xD4200080 ∷ 0x9100079C ∷ 0xF94007E0 ∷ 0x94000004 ∷ 0xD100079C ∷ 0xF9000BE0
      ∷ 0xD4000001
      ∷ 0xD10043FF ∷ 0xF90003FE ∷ 0xAA0003F3
      ∷ 0xAA1303E0 ∷ 0xF94003FE ∷ 0x910043FF ∷ 0xD40000A1 ∷ 0xD65F03C0 ∷ [];
  words = [];
  cells = [];
  map = one_call_map;
}

-- main is function 0 with the locals n and s, and its block is the call `s same n` and `halt`; same is function 1 with the local v, and its block is `ret v`: a leaf, whose local stands in X19
abbrev pub one_call_world : World
one_call_world = record {
  image = one_call;
  label = λ l. if nat_eq l 0 then 0x10000 else 0x10034;
  may_name = λ f k. false;
  locals = λ f. if nat_eq f 0 then 2 else 1;
  ty = λ f i. I64;
  is_leaf = λ f. not (nat_eq f 0);
  place = λ f b l. if nat_eq f 0 then (if nat_eq l 0 then 0x10010 else 0x10030) else 0x10040;
  result = λ f b l. if nat_eq f 0 then Some 1 else None;
  globals = 0;
  global_ty = λ i. I64;
}

-- the run comes to the halt behind the call, with its call and its return shown
abbrev pub OneCallReturns : Type 0
OneCallReturns =
    (locals : ℕ → ℕ) × (n : ℕ) × (k : Running)
    × RunsTo one_call n (started one_call []) k (moves (edges.Call 0x10024 0x10034) ∷ moves (edges.Ret 0x1004C 0x10028) ∷ [])
    × IsAt one_call_world (record { func = 0; block = 0; line = 1; locals = locals }) [] (λ i. 0) k
