-- What a run makes in the group of a row that uses or defines a cell, or that begins or ends an operation.
use Rattle.std.proofs.Common.{◌≡◌, ℕ, ◌+◌, ◌*◌, ◌^◌, ◌<◌, ◌≤◌, List, [], ◌∷◌, ◌++◌, map, Contains, Option, Some, None, refl, sym, ap, ap₂, subst, ◌∙◌, arith}
use Rattle.std.specs.List.{slice_get}
use Rattle.std.proofs.lemmas.Bool.{eq-eqb}
use Rattle.oat_journal.specs.{Inst, Movz, Ldr, Str, Svc, Regs, with_reg, shifted_left, wrap, word_in, global_address, Image, monitor_call, MonitorCall, Run.Entry, Window.made_call}
use Rattle.oat_journal.specs.{Window.executed_path}
use Rattle.oat_verify.specs.{Stands, IsLaid}
use Rattle.oat_attest.specs.{Headline.AllReadByLoad, Lockstep.Placed, Lockstep.placed_of, Lockstep.plain, Lockstep.calling}
use Rattle.oat_attest.proofs.{Lists.contains_get, Stretches.Runs, Stretches.last, Stretches.more, Stretches.moved_to, Stretches.entry_by, Stretches.inst_is, Stretches.none_read, Stretches.read_cons}
use Rattle.oat_attest.proofs.{Stretches.Crossed, Stretches.arrives, Stretches.crossed_cons, Crossings.lead, Crossings.next_at, Crossings.silent, Accesses.shifted_zero, Accesses.with_address}
use Rattle.oat_attest.proofs.{Accesses.moves_address, Accesses.loaded, Accesses.stored, Accesses.loads_use}
use Rattle.oat_map.specs.declared.edge.Edge.TheVariants as edges
use Rattle.oat_map.specs.declared.row.Row.TheVariants as rows
use Rattle.oat_journal.specs.svc as svc

-- ---- uses

based : (index : ℕ) → index ≤ 65535 → wrap (global_address index + 8 * 0) ≡ global_address index
based index low = omega arith

abbrev pub use_group : ℕ → ℕ → ℕ → List Placed
use_group at cell value = plain at ∷ plain (at + 4) ∷ plain (at + 8) ∷ plain (at + 12) ∷ calling (at + 16) (svc.Use cell value) ∷ []

pub record UsedCell (image : Image) (op cell at : ℕ) (es : List Entry) : Type 0 where
  pub value : ℕ
  pub crossed : Crossed image op es (use_group at cell value) [] (at + 20)

-- the load, the cell's number and the call
record Loaded (image : Image) (op cell at : ℕ) (es : List Entry) : Type 0 where
  value : ℕ
  crossed : Crossed image op es (plain (at + 8) ∷ plain (at + 12) ∷ calling (at + 16) (svc.Use cell value) ∷ []) [] (at + 20)

cross_load : (image : Image) (op at cell index : ℕ) → Contains image.map.rows (rows.UseCell at cell) → index ≤ 65535 → cell ≤ 65535 → at < 2 ^ 33 → slice_get image.cells cell ≡ Some index
    → Stands image.code (at + 8) (Ldr 10 11 0) → Stands image.code (at + 12) (Movz 9 0 cell) → Stands image.code (at + 16) (Svc 7)
    → (r : Regs) (es : List Entry) → Runs image.code op (moved_to (with_address r index) (at + 8)) es → Loaded image op cell at es
cross_load image op at cell index among low small short has load move call r es runs =
    let row = rows.UseCell at cell in
    let r0 = with_address r index in
    let a = lead image op (Ldr 10 11 0) r0 (at + 8) (at + 12) (λ m. with_reg r0 10 (word_in m (global_address index))) es load refl (λ o h. cc)
    (loaded r0 _ index (at + 8) (at + 12) (based index low) low (next_at (at + 8) (at + 12) (omega arith) (omega arith))) runs in
    let value = word_in a.memory (global_address index) in
    let r1 = with_reg r0 10 value in
    let r2 = with_reg r1 9 cell in
    let b = lead image op (Movz 9 0 cell) r1 (at + 12) (at + 16) (λ _. r2) a.rest move refl (λ o h. cc)
    (λ _. ap₂ (λ (v q : ℕ). moved_to (with_reg r1 9 v) q) (shifted_zero cell (omega arith)) (next_at (at + 12) (at + 16) (omega arith) (omega arith))) a.runs in
    let c = lead image op (Svc 7) r2 (at + 16) (at + 20) (λ _. r2) b.rest call refl (λ o h. cc)
    (λ _. ap (moved_to r2) (next_at (at + 16) (at + 20) (omega arith) (omega arith))) b.runs in
    let e1 = entry_by (Ldr 10 11 0) (moved_to r0 (at + 8)) a.memory in
    let e2 = entry_by (Movz 9 0 cell) (moved_to r1 (at + 12)) b.memory in
    let e3 = entry_by (Svc 7) (moved_to r2 (at + 16)) c.memory in
    let tail : a.rest ≡ e2 ∷ e3 ∷ c.rest = b.whole ∙ ap (λ (x : List Entry). e2 ∷ x) c.whole in
    let whole : es ≡ e1 ∷ e2 ∷ e3 ∷ c.rest = a.whole ∙ ap (λ (x : List Entry). e1 ∷ x) tail in
    let apart : at + 8 + 8 ≡ at + 16 = omega arith in
    record {
      value = value;
      crossed = record {
        stretch = e1 ∷ e2 ∷ e3 ∷ [];
        rest = c.rest;
        whole = whole;
        regs = r2;
        runs = c.runs;
        places = refl;
        shows = refl;
        loads = λ all. subst (AllReadByLoad image) (sym whole)
            (loads_use image row e1 (e2 ∷ []) e3 c.rest cell value index among (refl, refl, (refl, refl, tt)) refl has refl refl (refl, refl, refl) apart refl all);
      };
    }

pub cross_use : (image : Image) → IsLaid image → (op at cell : ℕ) → Contains image.map.rows (rows.UseCell at cell) → (r : Regs) (es : List Entry)
    → Runs image.code op (moved_to r at) es → UsedCell image op cell at es
cross_use image laid op at cell has r es runs =
    let (index, cell_is, (moves, load, move, call)) = laid.group (rows.UseCell at cell) has in
    let (fits_row, short, closes) = laid.low (rows.UseCell at cell) has in
    let low = laid.cell index (contains_get image.cells cell index cell_is) in
    let a = moves_address image op at (at + 4) (at + 8) index refl refl (omega arith) low moves.0 moves.1 r es runs in
    let used = cross_load image op at cell index has low fits_row.1 (omega arith) cell_is load move call r a.1.rest a.1.runs in
    record {
      value = used.value;
      crossed = silent image op a.0 _ _ refl refl (silent image op a.1 _ _ refl refl used.crossed);
    }

-- ---- defines

abbrev pub define_group : ℕ → ℕ → ℕ → List Placed
define_group at cell value = plain at ∷ plain (at + 4) ∷ plain (at + 8) ∷ plain (at + 12) ∷ calling (at + 16) (svc.Define cell value) ∷ []

pub record DefinedCell (image : Image) (op cell at : ℕ) (es : List Entry) : Type 0 where
  pub value : ℕ
  pub crossed : Crossed image op es (define_group at cell value) [] (at + 20)

pub cross_define : (image : Image) → IsLaid image → (op at cell : ℕ) → Contains image.map.rows (rows.DefCell at cell) → (r : Regs) (es : List Entry)
    → Runs image.code op (moved_to r at) es → DefinedCell image op cell at es
cross_define image laid op at cell has r es runs =
    let (index, cell_is, (moves, move, store, call)) = laid.group (rows.DefCell at cell) has in
    let (fits_row, short, closes) = laid.low (rows.DefCell at cell) has in
    let low = laid.cell index (contains_get image.cells cell index cell_is) in
    let small = fits_row.1 in
    let r1 = with_address r index in
    let r2 = with_reg r1 9 cell in
    let a = moves_address image op at (at + 4) (at + 8) index refl refl (omega arith) low moves.0 moves.1 r es runs in
    let b = lead image op (Movz 9 0 cell) r1 (at + 8) (at + 12) (λ _. r2) a.1.rest move refl (λ o h. cc)
    (λ _. ap₂ (λ (v q : ℕ). moved_to (with_reg r1 9 v) q) (shifted_zero cell (omega arith)) (next_at (at + 8) (at + 12) (omega arith) (omega arith))) a.1.runs in
    let c = lead image op (Str 10 11 0) r2 (at + 12) (at + 16) (λ _. r2) b.rest store refl (λ o h. cc)
    (stored r2 _ index (at + 12) (at + 16) (based index low) low (next_at (at + 12) (at + 16) (omega arith) (omega arith))) b.runs in
    let d = lead image op (Svc 6) r2 (at + 16) (at + 20) (λ _. r2) c.rest call refl (λ o h. cc)
    (λ _. ap (moved_to r2) (next_at (at + 16) (at + 20) (omega arith) (omega arith))) c.runs in
    record {
      value = r.x 10;
      crossed =
          silent image op a.0 _ _ refl refl (silent image op a.1 _ _ refl refl (silent image op b _ _ refl refl (silent image op c _ _ refl refl
          (crossed_cons image op (Svc 6) (moved_to r2 (at + 16)) d.memory d.rest c.rest [] None [] (at + 20) d.whole refl (λ x v u. cc)
          (arrives image op r2 d.rest (at + 20) (at + 20) refl d.runs)))));
    }

-- ---- ends and begins

-- the last instructions of a run, in the group of an End row
pub record EndedBy (image : Image) (op at ended : ℕ) (es : List Entry) : Type 0 where
  pub own : ended ≡ op
  pub places : map placed_of es ≡ plain at ∷ calling (at + 4) (svc.End op) ∷ []
  pub shows : executed_path image.map op es ≡ edges.End op ∷ []
  pub loads : AllReadByLoad image es

-- the SVC that ends the run
record EndsThere (image : Image) (op p : ℕ) (r : Regs) (es : List Entry) : Type 0 where
  nine : r.x 9 ≡ op
  places : map placed_of es ≡ calling p (svc.End op) ∷ []
  shows : executed_path image.map op es ≡ edges.End op ∷ []
  loads : AllReadByLoad image es

ends_there : (image : Image) (op p : ℕ) (r : Regs) (es : List Entry) → Stands image.code p (Svc 2) → Runs image.code op (moved_to r p) es → EndsThere image op p r es
ends_there image op p r es stands (last r' e made at seals) =
    let same : e.inst ≡ Svc 2 = inst_is image.code (Svc 2) (moved_to r p) e stands made at in
    let both : Some (svc.End (e.found.regs.x 9)) ≡ Some (svc.End op) = sym (ap (λ (i : Inst). monitor_call i e.found.regs) same) ∙ seals in
    let nine : e.found.regs.x 9 ≡ op = cc in
    record {
      nine = sym (ap (λ (q : Regs). q.x 9) at) ∙ nine;
      places = ap₂ (λ (pc : ℕ) (call : Option MonitorCall). record { at = pc; call = call } ∷ []) (ap (λ (q : Regs). q.pc) at) seals;
      shows = rw (same, nine, eq-eqb op op refl) refl;
      loads = read_cons image e [] (λ c v u. let both : Some (svc.End op) ≡ Some (svc.Use c v) = sym seals ∙ u in cc) (none_read image);
    }
ends_there image op p r es stands (more r' e rest made at quiet runs) =
    let same : e.inst ≡ Svc 2 = inst_is image.code (Svc 2) (moved_to r p) e stands made at in
    absurd (quiet (e.found.regs.x 9) (ap (λ (i : Inst). monitor_call i e.found.regs) same))

pub cross_end : (image : Image) → IsLaid image → (op at ended : ℕ) → Contains image.map.rows (rows.End at ended) → (r : Regs) (es : List Entry)
    → Runs image.code op (moved_to r at) es → EndedBy image op at ended es
cross_end image laid op at ended has r es runs =
    let (move, call) = laid.group (rows.End at ended) has in
    let (fits_row, short, closes) = laid.low (rows.End at ended) has in
    let r1 = with_reg r 9 (shifted_left ended (16 * 0)) in
    let a = lead image op (Movz 9 0 ended) r at (at + 4) (λ _. r1) es move refl (λ o h. cc) (λ _. ap (moved_to r1) (next_at at (at + 4) refl (omega arith))) runs in
    let e = ends_there image op (at + 4) r1 a.rest call a.runs in
    let low : ended < 2 ^ 64 = (let f = fits_row.1 in omega arith) in
    record {
      own = sym (shifted_zero ended low) ∙ e.nine;
      places = ap (map placed_of) a.whole ∙ ap (λ (x : List Placed). plain at ∷ x) e.places;
      shows = ap (executed_path image.map op) a.whole ∙ e.shows;
      loads = subst (AllReadByLoad image) (sym a.whole) (read_cons image (entry_by (Movz 9 0 ended) (moved_to r at) a.memory) a.rest (λ c v u. cc) e.loads);
    }

-- an instruction of a run that begins an operation
pub record BegunBy (es : List Entry) : Type 0 where
  pub before : List Entry
  pub e : Entry
  pub others : List Entry
  pub whole : es ≡ before ++ e ∷ others
  pub op : ℕ
  pub at : ℕ
  pub called : made_call e ≡ Some (svc.Begin op at)

pub cross_begin : (image : Image) → IsLaid image → (op at other : ℕ) → Contains image.map.rows (rows.Begin at other) → (r : Regs) (es : List Entry)
    → Runs image.code op (moved_to r at) es → BegunBy es
cross_begin image laid op at other has r es runs =
    let (move, call) = laid.group (rows.Begin at other) has in
    let (fits_row, short, closes) = laid.low (rows.Begin at other) has in
    let r1 = with_reg r 9 (shifted_left other (16 * 0)) in
    let a = lead image op (Movz 9 0 other) r at (at + 4) (λ _. r1) es move refl (λ o h. cc) (λ _. ap (moved_to r1) (next_at at (at + 4) refl (omega arith))) runs in
    let b = lead image op (Svc 1) r1 (at + 4) (at + 8) (λ _. r1) a.rest call refl (λ o h. cc) (λ _. ap (moved_to r1) (next_at (at + 4) (at + 8) (omega arith) (omega arith))) a.runs in
    let first = entry_by (Movz 9 0 other) (moved_to r at) a.memory in
    record {
      before = first ∷ [];
      e = entry_by (Svc 1) (moved_to r1 (at + 4)) b.memory;
      others = b.rest;
      whole = a.whole ∙ ap (λ (xs : List Entry). first ∷ xs) b.whole;
      op = shifted_left other (16 * 0);
      at = at + 4;
      called = refl;
    }
