-- From a clear address, a run makes its quiet way to the next row; where no row is ahead, it never comes to the end that seals.
use Rattle.std.proofs.Common.{◌≡◌, ℕ, zero, suc, Contains, ◌+◌, ◌*◌, ◌%◌, ◌^◌, ◌<◌, ◌≤◌, ◌⊎◌, Bool, true, false, not, cond, ◌&&◌, ◌||◌, leb, List, [], ◌∷◌, Some, None, refl, sym, ap, ap₂, subst, ◌∙◌}
use Rattle.std.proofs.Common.{inl, inr, arith, mod-eq_of_lt}
use Rattle.std.specs.List.{slice_get, find}
use Rattle.std.proofs.lemmas.Bool.{cases_lt, cases_Bool, or_parts, le-leb, leb-false, ne_eqb}
use Rattle.oat_journal.specs.{Inst, B, Bl, BCond, Cbz, Cbnz, Blr, Ret, Ldr, Str, LdrReg, StrReg, Svc, Brk, Regs, Machine, Effect, act, next_pc, wrap, reg, reg_or_sp, instruction_at, can_access, Row}
use Rattle.oat_journal.specs.{Jump, Branch, Call, ICall, Begin, End, UseCell, DefCell, UseAt, DefAt, Check, address_of, next, Image, monitor_call, call_numbered, Run.Entry, Run.pc_of, Journal.IsMade}
use Rattle.oat_journal.specs.{Journal.takes_input, is_measured, is_transfer, Window.made_call}
use Rattle.oat_verify.specs.{Stands, IsGroup, IsLaid, IsNext, CutsNoGroup}
use Rattle.oat_attest.proofs.{Lists.get_contains, Stretches.Runs, Stretches.no_runs, Stretches.head_of, Stretches.moved_to, Stretches.moved_itself, Stretches.read_cons, Stretches.Skipped}
use Rattle.oat_map.specs.declared.row.Row.TheVariants as rows
use Rattle.oat_journal.specs.svc as svc

-- ---- an instruction that is neither a transfer nor measured

unmeasured_number : (n : ℕ) → (leb 1 n && leb n 7) ≡ false → (n ≡ 0) ⊎ (8 ≤ n)
unmeasured_number n h =
    elim (cases_lt n 8) [
      | inr past ↦ inr past
      | inl low ↦
          elim (cases_lt 0 n) [
            | inr none ↦ inl (omega arith)
            | inl some ↦
                let one = le-leb 1 n (omega arith) in
                let two = le-leb n 7 (omega arith) in
                let both : (leb 1 n && leb n 7) ≡ true = ap₂ (λ (a b : Bool). a && b) one two in
                absurd (cc)
          ]
    ]

unmeasured_svc : (n : ℕ) (r : Regs) → ((k : ℕ) → 1 ≤ k → k ≤ 7 → n ≡ k → ⊥) → call_numbered n r ≡ None
unmeasured_svc n r none =
    let e = λ (k : ℕ) (a : 1 ≤ k) (b : k ≤ 7). ne_eqb n k (none k a b) in
    rw (e 1 (omega arith) (omega arith), e 2 (omega arith) (omega arith), e 3 (omega arith) (omega arith), e 4 (omega arith) (omega arith), e 5 (omega arith) (omega arith), e 6 (omega arith) (omega arith), e 7 (omega arith) (omega arith)) refl

pub plain_call : (i : Inst) (r : Regs) → is_measured i ≡ false → monitor_call i r ≡ None
plain_call (Svc n) r h =
    elim (unmeasured_number n h) [
      | inl zero_is ↦ unmeasured_svc n r (λ k a b q. omega arith)
      | inr high ↦ unmeasured_svc n r (λ k a b q. omega arith)
    ]
plain_call _ r h = refl

abbrev Stays : ℕ → ℕ → Type 0
Stays q p = (q ≡ p) ⊎ (q ≡ next_pc p)

stays_cond : (t : Bool) (a b : Effect) (p : ℕ) → Stays a.machine.regs.pc p → Stays b.machine.regs.pc p → Stays (cond t a b).machine.regs.pc p
stays_cond true a b p x y = x
stays_cond false a b p x y = y

-- it goes on to the next instruction, or it has no effect
plain_pc : (i : Inst) (m : Machine) → is_transfer i ≡ false → Stays (act i m).machine.regs.pc m.regs.pc
plain_pc (B z) m h = absurd (cc)
plain_pc (Bl z) m h = absurd (cc)
plain_pc (BCond c z) m h = absurd (cc)
plain_pc (Cbz rt z) m h = absurd (cc)
plain_pc (Cbnz rt z) m h = absurd (cc)
plain_pc (Blr rn) m h = absurd (cc)
plain_pc (Ret rn) m h = absurd (cc)
plain_pc (Ldr rt rn imm) m h = stays_cond (can_access (wrap (reg_or_sp m.regs rn + 8 * imm))) _ _ _ (inr refl) (inl refl)
plain_pc (Str rt rn imm) m h = stays_cond (can_access (wrap (reg_or_sp m.regs rn + 8 * imm))) _ _ _ (inr refl) (inl refl)
plain_pc (LdrReg rt rn rm) m h = stays_cond (can_access (wrap (reg_or_sp m.regs rn + 8 * reg m.regs rm))) _ _ _ (inr refl) (inl refl)
plain_pc (StrReg rt rn rm) m h = stays_cond (can_access (wrap (reg_or_sp m.regs rn + 8 * reg m.regs rm))) _ _ _ (inr refl) (inl refl)
plain_pc (Svc n) m h = stays_cond (leb n 9) _ _ _ (inr refl) (inl refl)
plain_pc (Brk n) m h = stays_cond (leb 1 n && leb n 4) _ _ _ (inl refl) (inl refl)
plain_pc _ m h = inr refl

pub left_pc : (code : List ℕ) (e : Entry) → IsMade code e → is_transfer e.inst ≡ false → Stays e.left.pc (pc_of e)
left_pc code e made plain =
    elim (cases_Bool (takes_input e.inst)) [
      | inl takes ↦
          let input = made.takes takes in
          subst (λ (r : Regs). Stays r.pc (pc_of e)) (sym input.1) (plain_pc e.inst e.found plain)
      | inr dry ↦ subst (λ (r : Regs). Stays r.pc (pc_of e)) (sym (made.steps (ap not dry))) (plain_pc e.inst e.found plain)
    ]

-- ---- the way to the next row

-- no group lies over an address between a clear one and the next row
uncovered : (image : Image) → IsLaid image → (t p : ℕ) (row : Row) → CutsNoGroup image.map.rows t → IsNext image.map.rows t row
    → t ≤ p → p < address_of row → (i : Inst) → Stands image.code p i → (is_transfer i || is_measured i) ≡ false
uncovered image laid t p row clear is above below i stands =
    elim (cases_Bool (is_transfer i || is_measured i)) [
      | inr plain ↦ plain
      | inl special ↦
          let over = laid.covered p i stands special in
          let first = over.2.0 in
          let inside = over.2.1 in
          elim (cases_lt (address_of over.0) t) [
            | inl lower ↦ let past = clear over.0 over.1 lower in absurd (omega arith)
            | inr higher ↦ let least = is.lowest over.0 over.1 higher in absurd (omega arith)
          ]
    ]

-- a way that is no way
at_once : (image : Image) (op : ℕ) (r : Regs) (es : List Entry) (p q : ℕ) → p ≡ q → Runs image.code op (moved_to r p) es → Skipped image op es q
at_once image op r es p q same runs = record {
  way = [];
  rest = es;
  whole = refl;
  regs = r;
  runs = subst (λ (x : ℕ). Runs image.code op (moved_to r x) es) same runs;
  quiet = tt;
  loads = λ all. all;
}

goes_past : (image : Image) (op : ℕ) (e : Entry) (es : List Entry) (q : ℕ) → is_transfer e.inst ≡ false → made_call e ≡ None
    → Skipped image op es q → Skipped image op (e ∷ es) q
goes_past image op e es q plain none skipped = record {
  way = e ∷ skipped.way;
  rest = skipped.rest;
  whole = ap (λ (x : List Entry). e ∷ x) skipped.whole;
  regs = skipped.regs;
  runs = skipped.runs;
  quiet = (plain, none, skipped.quiet);
  loads = λ all. read_cons image e es (λ cell value used. let both : None ≡ Some (svc.Use cell value) = sym none ∙ used in cc) (skipped.loads all);
}

skip_from : (image : Image) → IsLaid image → (op t : ℕ) (row : Row) → CutsNoGroup image.map.rows t → IsNext image.map.rows t row
    → address_of row % 4 ≡ 0 → address_of row < 2 ^ 32
    → (es : List Entry) (r : Regs) (p : ℕ) → t ≤ p → p ≤ address_of row → Runs image.code op (moved_to r p) es → Skipped image op es (address_of row)
skip_from image laid op t row clear is aligned low [] r p above below runs = absurd (no_runs image.code op (moved_to r p) runs)
skip_from image laid op t row clear is aligned low (e ∷ es) r p above below runs =
    elim (cases_lt p (address_of row)) [
      | inr there ↦ at_once image op r (e ∷ es) p (address_of row) (omega arith) runs
      | inl before ↦
          let first = head_of image.code op (moved_to r p) e es runs in
          let stands : Stands image.code p e.inst = ap (λ (q : Regs). instruction_at image.code q.pc) (sym first.at) ∙ first.made.fetched in
          let parts = or_parts (is_transfer e.inst) (is_measured e.inst) (uncovered image laid t p row clear is above before e.inst stands) in
          let none : made_call e ≡ None = plain_call e.inst e.found.regs parts.1 in
          let code = laid.coded p e.inst stands in
          let small : p + 4 < 2 ^ 64 = (let c = code.1 in omega arith) in
          let four : next_pc p ≡ p + 4 = mod-eq_of_lt small in
          let here : pc_of e ≡ p = ap (λ (q : Regs). q.pc) first.at in
          let goes = left_pc image.code e first.made parts.0 in
          let rest = first.rest (λ op' ended. let both : None ≡ Some (svc.End op') = sym none ∙ ended in cc) in
          goes_past image op e es (address_of row) parts.0 none
          (elim goes [
            | inl stays ↦
                skip_from image laid op t row clear is aligned low es e.left p above below
                (subst (λ (q : Regs). Runs image.code op q es) (moved_itself e.left p (stays ∙ here)) rest)
            | inr on ↦
                let after_it : e.left.pc ≡ p + 4 = on ∙ ap next_pc here ∙ four in
                skip_from image laid op t row clear is aligned low es e.left (p + 4) (omega arith) (let c = code.0 in omega arith)
                (subst (λ (q : Regs). Runs image.code op q es) (moved_itself e.left (p + 4) after_it) rest)
          ])
    ]

-- a group begins with an instruction
group_coded : (image : Image) → IsLaid image → (row : Row) → IsGroup image.code image.cells row → (address_of row % 4 ≡ 0) × (address_of row < 2 ^ 32)
group_coded image laid (Jump at to) g = laid.coded at _ g.1
group_coded image laid (Branch at taken other) g = laid.coded at _ g.0
group_coded image laid (Call at to) g = laid.coded at _ g.1
group_coded image laid (ICall at params) g = laid.coded at _ g.0
group_coded image laid (rows.Ret at) g = laid.coded at _ g.0
group_coded image laid (Begin at op) g = laid.coded at _ g.0
group_coded image laid (End at op) g = laid.coded at _ g.0
group_coded image laid (UseCell at cell) g = laid.coded at _ g.2.0.0
group_coded image laid (DefCell at cell) g = laid.coded at _ g.2.0.0
group_coded image laid (UseAt at cell len) g = laid.coded at _ g.2.0.0
group_coded image laid (DefAt at cell len) g = laid.coded at _ g.2.0.0
group_coded image laid (Check at) (inl s, b) = laid.coded at _ s.1
group_coded image laid (Check at) (inr s, b) = laid.coded at _ s.1

-- From a clear address the run leads to the next row.
pub skip : (image : Image) → IsLaid image → (op t : ℕ) (row : Row) → CutsNoGroup image.map.rows t → next image.map.rows t ≡ Some row
    → (es : List Entry) (r : Regs) → Runs image.code op (moved_to r t) es → Skipped image op es (address_of row)
skip image laid op t row clear found es r runs =
    let is = laid.next_is t row found in
    let coded = group_coded image laid row (laid.group row is.has) in
    skip_from image laid op t row clear is coded.0 coded.1 es r t (omega arith) is.above runs

-- ---- no row ahead

find_none : {X : Type 0} (test : X → Bool) (xs : List X) (k : ℕ) (x : X) → find test xs ≡ None → slice_get xs k ≡ Some x → test x ≡ false
find_none test [] k x none at = absurd (cc)
find_none test (y ∷ ys) zero x none at =
    let same : y ≡ x = cc in
    elim (cases_Bool (test y)) [
      | inl hit ↦ let found : Some y ≡ None = rw hit at none in absurd (cc)
      | inr fails ↦ ap test (sym same) ∙ fails
    ]
find_none test (y ∷ ys) (suc k) x none at =
    elim (cases_Bool (test y)) [
      | inl hit ↦ let found : Some y ≡ None = rw hit at none in absurd (cc)
      | inr fails ↦ find_none test ys k x (rw fails at none) at
    ]

all_below : (rows : List Row) (t : ℕ) → next rows t ≡ None → (row : Row) → Contains rows row → address_of row < t
all_below rows t none row has =
    leb-false t (address_of row) (find_none (λ (r : Row). leb t (address_of r)) rows has.0 row none (get_contains rows row has))

uncovered_past : (image : Image) → IsLaid image → (t p : ℕ) → CutsNoGroup image.map.rows t → next image.map.rows t ≡ None
    → t ≤ p → (i : Inst) → Stands image.code p i → (is_transfer i || is_measured i) ≡ false
uncovered_past image laid t p clear none above i stands =
    elim (cases_Bool (is_transfer i || is_measured i)) [
      | inr plain ↦ plain
      | inl special ↦
          let over = laid.covered p i stands special in
          let inside = over.2.1 in
          let past = clear over.0 over.1 (all_below image.map.rows t none over.0 over.1) in
          absurd (omega arith)
    ]

-- Where no row is at or above a clear address, no run leads from there to the end that seals.
pub skip_none : (image : Image) → IsLaid image → (op t : ℕ) → CutsNoGroup image.map.rows t → next image.map.rows t ≡ None
    → (es : List Entry) (r : Regs) (p : ℕ) → t ≤ p → Runs image.code op (moved_to r p) es → ⊥
skip_none image laid op t clear none [] r p above runs = no_runs image.code op (moved_to r p) runs
skip_none image laid op t clear none (e ∷ es) r p above runs =
    let first = head_of image.code op (moved_to r p) e es runs in
    let stands : Stands image.code p e.inst = ap (λ (q : Regs). instruction_at image.code q.pc) (sym first.at) ∙ first.made.fetched in
    let parts = or_parts (is_transfer e.inst) (is_measured e.inst) (uncovered_past image laid t p clear none above e.inst stands) in
    let no_call : made_call e ≡ None = plain_call e.inst e.found.regs parts.1 in
    let code = laid.coded p e.inst stands in
    let small : p + 4 < 2 ^ 64 = (let c = code.1 in omega arith) in
    let four : next_pc p ≡ p + 4 = mod-eq_of_lt small in
    let here : pc_of e ≡ p = ap (λ (q : Regs). q.pc) first.at in
    let rest = first.rest (λ op' ended. let both : None ≡ Some (svc.End op') = sym no_call ∙ ended in cc) in
    elim (left_pc image.code e first.made parts.0) [
      | inl stays ↦
          skip_none image laid op t clear none es e.left p above
          (subst (λ (q : Regs). Runs image.code op q es) (moved_itself e.left p (stays ∙ here)) rest)
      | inr on ↦
          let after_it : e.left.pc ≡ p + 4 = on ∙ ap next_pc here ∙ four in
          skip_none image laid op t clear none es e.left (p + 4) (omega arith)
          (subst (λ (q : Regs). Runs image.code op q es) (moved_itself e.left (p + 4) after_it) rest)
    ]
