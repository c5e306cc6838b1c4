-- What a run makes in the group of a row that uses or defines an element of an array.
use Rattle.std.proofs.Common.{◌≡◌, ℕ, pos, ◌+◌, ◌*◌, ◌^◌, ◌<◌, ◌≤◌, true, false, not, leb, List, [], ◌∷◌, ◌++◌, map, Contains, Some, None, refl, sym, ap, ap₂, subst, ◌∙◌, inl, inr, arith}
use Rattle.std.proofs.lemmas.Bool.{cases_lt, le-leb}
use Rattle.oat_shape.proofs.Laid.{elements_have_cells}
use Rattle.oat_journal.specs.{AddReg, SubsReg, Movz, Movk, BCond, LdrReg, StrReg, Svc, Regs, holds, branch_target, next_pc, with_reg, with_flags, difference, shifted_left, wrap, word_in}
use Rattle.oat_journal.specs.{global_address, Row, row_over, Image, MonitorCall, Run.Entry, Window.edge_over}
use Rattle.oat_verify.specs.{Stands, MovesAddress, TestsElement, IsLaid, IsElement}
use Rattle.oat_attest.specs.{Headline.AllReadByLoad, Lockstep.Placed, Lockstep.plain, Lockstep.calling, Lockstep.element_places}
use Rattle.oat_attest.proofs.{Lists.contains_get, Stretches.Runs, Stretches.moved_to, Stretches.entry_by, Stretches.Crossed, Stretches.arrives, Stretches.crossed_cons, Crossings.Led, Crossings.lead}
use Rattle.oat_attest.proofs.{Crossings.next_at, Crossings.edge_is, Crossings.silent, Crossings.skips, Crossings.if_leads, Accesses.shifted_zero, Accesses.with_address, Accesses.second_move}
use Rattle.oat_attest.proofs.{Accesses.moves_address, Accesses.loaded, Accesses.stored, Accesses.loads_use}
use Rattle.oat_map.specs.declared.row.Row.TheVariants as rows
use Rattle.oat_journal.specs.svc as svc

-- ---- the test of an element's number, and the two moves

-- where the flags of a comparison say lower
lower : (len v : ℕ) → not (leb len v) ≡ true → v < len
lower len v holds_lower =
    elim (cases_lt v len) [
      | inl less ↦ less
      | inr past ↦
          let both : false ≡ true = ap not (sym (le-leb len v past)) ∙ holds_lower in
          absurd (cc)
    ]

-- In the group of an array's row a run comes to the instructions behind the address only with an element's number in X12; X11 has the address of the first cell's word.
pub record Tested (image : Image) (op at len index : ℕ) (es : List Entry) : Type 0 where
  pub rest : List Entry
  pub regs : Regs
  pub runs : Runs image.code op (moved_to regs (at + 24)) rest
  pub below : regs.x 12 < len
  pub address : regs.x 11 ≡ global_address index
  -- what is made behind them is made behind the whole
  pub joins : (group : List Placed) (to : ℕ) → Crossed image op rest group [] to
      → Crossed image op es (plain at ∷ plain (at + 4) ∷ plain (at + 8) ∷ plain (at + 16) ∷ plain (at + 20) ∷ group) [] to

cross_test : (image : Image) (op at len index : ℕ) (row : Row) → at < 2 ^ 33 → len ≤ 65535 → index ≤ 65535
    → TestsElement image.code at len → MovesAddress image.code (at + 16) (global_address index)
    → row_over image.map.rows (at + 8) ≡ Some row → ((pc next : ℕ) → edge_over image.map (Some row) pc next ≡ None)
    → (r : Regs) (es : List Entry) → Runs image.code op (moved_to r at) es → Tested image op at len index es
cross_test image op at len index row short few low (length_is, test, skip, trap) (first, second) over shows_none r es runs =
    let v = r.x 12 in
    let r1 = with_reg r 11 len in
    let r2 = with_reg (with_flags r1 v len) 31 (difference v len) in
    let behind : at + 16 + 4 ≡ at + 20 = omega arith in
    let a = lead image op (Movz 11 0 len) r at (at + 4) (λ _. r1) es length_is refl (λ o h. cc)
    (λ _. ap₂ (λ (n q : ℕ). moved_to (with_reg r 11 n) q) (shifted_zero len (omega arith)) (next_at at (at + 4) refl (omega arith))) runs in
    let b = lead image op (SubsReg 31 12 11) r1 (at + 4) (at + 8) (λ _. r2) a.rest test refl (λ o h. cc)
    (λ _. ap (moved_to r2) (next_at (at + 4) (at + 8) (omega arith) (omega arith))) a.runs in
    let c = skips image op (at + 8) (at + 12) (at + 16) 2 (omega arith) (omega arith) (omega arith) r2 b.rest (BCond 3 (pos 2)) skip trap refl refl (holds 3 (moved_to r2 (at + 8)))
    (λ memory. if_leads (holds 3 (moved_to r2 (at + 8))) _ _ r2 (branch_target (at + 8) (pos 2)) (next_pc (at + 8)) refl refl) b.runs in
    let d = moves_address image op (at + 16) (at + 20) (at + 24) index (omega arith) (omega arith) (omega arith) low first
    (subst (λ (p : ℕ). Stands image.code p (Movk 11 1 (second_move index))) behind second) r2 c.1.rest c.1.runs in
    record {
      rest = d.1.rest;
      regs = with_address r2 index;
      runs = d.1.runs;
      below = lower len v c.0;
      address = refl;
      joins = λ group to crossed.
          silent image op a _ to refl refl (silent image op b _ to refl refl (silent image op c.1 _ to (edge_is image.map _ _ (at + 8) _ _ None over refl (shows_none (at + 8) _)) refl
          (silent image op d.0 _ to refl refl (silent image op d.1 _ to refl refl crossed))));
    }

-- ---- an element

element_address : (x index v : ℕ) → x ≡ global_address index → index + v ≤ 65535 → wrap (x + 8 * v) ≡ global_address (index + v)
element_address x index v is low = omega arith

element_cell : (cell v : ℕ) → cell ≤ 65535 → v ≤ 4096 → wrap (cell + shifted_left v 0) ≡ cell + v
element_cell cell v low few = omega arith

-- two instructions that put the number of an element's cell into X9
abbrev with_cell : Regs → ℕ → Regs
with_cell r cell = with_reg (with_reg r 9 cell) 9 (cell + r.x 12)

names_element : (image : Image) (op p q to cell : ℕ) → q ≡ p + 4 → to ≡ p + 8 → to < 2 ^ 64 → Stands image.code p (Movz 9 0 cell) → Stands image.code q (AddReg 9 9 12 0)
    → (r : Regs) (es : List Entry) → cell ≤ 65535 → r.x 12 ≤ 4096 → Runs image.code op (moved_to r p) es
    → (a : Led image op (Movz 9 0 cell) r p q (λ _. with_reg r 9 cell) es) × Led image op (AddReg 9 9 12 0) (with_reg r 9 cell) q to (λ _. with_cell r cell) a.rest
names_element image op p q to cell q_is to_is small move add r es low few runs =
    let r1 = with_reg r 9 cell in
    let a = lead image op (Movz 9 0 cell) r p q (λ _. r1) es move refl (λ o h. cc)
    (λ _. ap₂ (λ (v to : ℕ). moved_to (with_reg r 9 v) to) (shifted_zero cell (omega arith)) (next_at p q q_is (omega arith))) runs in (
      a,
      lead image op (AddReg 9 9 12 0) r1 q to (λ _. with_cell r cell) a.rest add refl (λ o h. cc)
          (λ _. ap₂ (λ (v to : ℕ). moved_to (with_reg r1 9 v) to) (element_cell cell (r.x 12) low few) (next_at q to (omega arith) small)) a.runs,
    )

-- what a run makes in the whole group, with the monitor call for a cell and a value
pub record CrossedElement (image : Image) (op at cell len : ℕ) (call : ℕ → ℕ → MonitorCall) (es : List Entry) : Type 0 where
  pub element : ℕ
  pub below : element < len
  pub value : ℕ
  pub crossed : Crossed image op es (map plain (element_places at) ++ calling (at + 36) (call (cell + element) value) ∷ []) [] (at + 40)

-- the last four instructions of the group
abbrev last_four : ℕ → MonitorCall → List Placed
last_four at call = plain (at + 24) ∷ plain (at + 28) ∷ plain (at + 32) ∷ calling (at + 36) call ∷ []

-- ---- uses

-- the load, the number of the cell and the call
read_element : (image : Image) (op at cell len index : ℕ) (r : Regs) (es : List Entry) → Contains image.map.rows (rows.UseAt at cell len) → at < 2 ^ 33 → cell ≤ 65535 → r.x 12 ≤ 4096
    → r.x 12 < len → IsElement image.cells cell index (r.x 12) → r.x 11 ≡ global_address index
    → Stands image.code (at + 24) (LdrReg 10 11 12) → Stands image.code (at + 28) (Movz 9 0 cell) → Stands image.code (at + 32) (AddReg 9 9 12 0) → Stands image.code (at + 36) (Svc 7)
    → Runs image.code op (moved_to r (at + 24)) es → (value : ℕ) × Crossed image op es (last_four at (svc.Use (cell + r.x 12) value)) [] (at + 40)
read_element image op at cell len index r es among short small few below element address load move add call runs =
    let v = r.x 12 in
    let place = index + v in
    let a = lead image op (LdrReg 10 11 12) r (at + 24) (at + 28) (λ m. with_reg r 10 (word_in m (global_address place))) es load refl (λ o h. cc)
    (loaded r _ place (at + 24) (at + 28) (element_address (r.x 11) index v address element.within) element.within (next_at (at + 24) (at + 28) (omega arith) (omega arith))) runs in
    let value = word_in a.memory (global_address place) in
    let r1 = with_reg r 10 value in
    let r2 = with_cell r1 cell in
    let b = names_element image op (at + 28) (at + 32) (at + 36) cell (omega arith) (omega arith) (omega arith) move add r1 a.rest small few a.runs in
    let c = lead image op (Svc 7) r2 (at + 36) (at + 40) (λ _. r2) b.1.rest call refl (λ o h. cc)
    (λ _. ap (moved_to r2) (next_at (at + 36) (at + 40) (omega arith) (omega arith))) b.1.runs in
    let e1 = entry_by (LdrReg 10 11 12) (moved_to r (at + 24)) a.memory in
    let e2 = entry_by (Movz 9 0 cell) (moved_to r1 (at + 28)) b.0.memory in
    let e3 = entry_by (AddReg 9 9 12 0) (moved_to (with_reg r1 9 cell) (at + 32)) b.1.memory in
    let e4 = entry_by (Svc 7) (moved_to r2 (at + 36)) c.memory in
    let tail : a.rest ≡ e2 ∷ e3 ∷ e4 ∷ c.rest = b.0.whole ∙ ap (λ (x : List Entry). e2 ∷ x) (b.1.whole ∙ ap (λ (x : List Entry). e3 ∷ x) c.whole) in
    let whole : es ≡ e1 ∷ e2 ∷ e3 ∷ e4 ∷ c.rest = a.whole ∙ ap (λ (x : List Entry). e1 ∷ x) tail in
    let apart : at + 24 + 12 ≡ at + 36 = omega arith in (
      value,
      record {
        stretch = e1 ∷ e2 ∷ e3 ∷ e4 ∷ [];
        rest = c.rest;
        whole = whole;
        regs = r2;
        runs = c.runs;
        places = refl;
        shows = refl;
        loads = λ all. subst (AllReadByLoad image) (sym whole)
            (loads_use image (rows.UseAt at cell len) e1 (e2 ∷ e3 ∷ []) e4 c.rest (cell + v) value place among (refl, refl, (refl, refl, (refl, refl, tt))) refl element.own (v, below, refl) refl
            (refl, refl, ap (λ (base : ℕ). base + 8 * v) address ∙ sym element.behind) apart refl all);
      },
    )

pub cross_use_at : (image : Image) → IsLaid image → (op at cell len : ℕ) → Contains image.map.rows (rows.UseAt at cell len) → (r : Regs) (es : List Entry)
    → Runs image.code op (moved_to r at) es → CrossedElement image op at cell len svc.Use es
cross_use_at image laid op at cell len has r es runs =
    let row = rows.UseAt at cell len in
    let (index, elements, (tests, moves, load, move, add, call)) = laid.group row has in
    let (fits_row, short, closes) = laid.low row has in
    let few : len ≤ 4096 = fits_row.2.1 in
    let t = cross_test image op at len index row (omega arith) (omega arith) (laid.cell index (contains_get image.cells cell index elements.first)) tests moves
    (laid.over row (at + 8) has (omega arith, omega arith)) (λ pc next. refl) r es runs in
    let v = t.regs.x 12 in
    let below : v < len = t.below in
    let u = read_element image op at cell len index t.regs t.rest has (omega arith) fits_row.1 (omega arith) below (elements_have_cells image cell len index v laid elements below) t.address load move add call t.runs in
    record { element = v; below = below; value = u.0; crossed = t.joins (last_four at (svc.Use (cell + v) u.0)) (at + 40) u.1 }

-- ---- defines

-- the number of the cell, the store and the call
write_element : (image : Image) (op at cell index : ℕ) (r : Regs) (es : List Entry) → at < 2 ^ 33 → cell ≤ 65535 → r.x 12 ≤ 4096
    → IsElement image.cells cell index (r.x 12) → r.x 11 ≡ global_address index
    → Stands image.code (at + 24) (Movz 9 0 cell) → Stands image.code (at + 28) (AddReg 9 9 12 0) → Stands image.code (at + 32) (StrReg 10 11 12) → Stands image.code (at + 36) (Svc 6)
    → Runs image.code op (moved_to r (at + 24)) es → Crossed image op es (last_four at (svc.Define (cell + r.x 12) (r.x 10))) [] (at + 40)
write_element image op at cell index r es short small few element address move add store call runs =
    let v = r.x 12 in
    let r1 = with_cell r cell in
    let a = names_element image op (at + 24) (at + 28) (at + 32) cell (omega arith) (omega arith) (omega arith) move add r es small few runs in
    let b = lead image op (StrReg 10 11 12) r1 (at + 32) (at + 36) (λ _. r1) a.1.rest store refl (λ o h. cc)
    (stored r1 _ (index + v) (at + 32) (at + 36) (element_address (r.x 11) index v address element.within) element.within (next_at (at + 32) (at + 36) (omega arith) (omega arith))) a.1.runs in
    let c = lead image op (Svc 6) r1 (at + 36) (at + 40) (λ _. r1) b.rest call refl (λ o h. cc)
    (λ _. ap (moved_to r1) (next_at (at + 36) (at + 40) (omega arith) (omega arith))) b.runs in
    silent image op a.0 _ _ refl refl (silent image op a.1 _ _ refl refl (silent image op b _ _ refl refl
    (crossed_cons image op (Svc 6) (moved_to r1 (at + 36)) c.memory c.rest b.rest [] None [] (at + 40) c.whole refl (λ x u h. cc)
    (arrives image op r1 c.rest (at + 40) (at + 40) refl c.runs))))

pub cross_define_at : (image : Image) → IsLaid image → (op at cell len : ℕ) → Contains image.map.rows (rows.DefAt at cell len) → (r : Regs) (es : List Entry)
    → Runs image.code op (moved_to r at) es → CrossedElement image op at cell len svc.Define es
cross_define_at image laid op at cell len has r es runs =
    let row = rows.DefAt at cell len in
    let (index, elements, (tests, moves, move, add, store, call)) = laid.group row has in
    let (fits_row, short, closes) = laid.low row has in
    let few : len ≤ 4096 = fits_row.2.1 in
    let t = cross_test image op at len index row (omega arith) (omega arith) (laid.cell index (contains_get image.cells cell index elements.first)) tests moves
    (laid.over row (at + 8) has (omega arith, omega arith)) (λ pc next. refl) r es runs in
    let v = t.regs.x 12 in
    let below : v < len = t.below in
    let d = write_element image op at cell index t.regs t.rest (omega arith) fits_row.1 (omega arith) (elements_have_cells image cell len index v laid elements below) t.address move add store call t.runs in
    record { element = v; below = below; value = t.regs.x 10; crossed = t.joins (last_four at (svc.Define (cell + v) (t.regs.x 10))) (at + 40) d }
