-- Where a fault says that a rule is broken, one is.
use Rattle.std.proofs.Common.{◌≡◌, ◌+◌, ◌<◌, ℕ, suc, Bool, true, false, not, cond, ltb, eqb, List, [], ◌∷◌, length, inl, inr, Option, option_map, Some, None, refl, sym, ap, subst, ◌∙◌, arith}
use Rattle.std.specs.{Prelude.slice_get, Prelude.◌⊎◌, Option.option_or, List.list_any, List.sum_by}
use Rattle.std.proofs.lemmas.Bool.{ltb-true}
use Rattle.oat_ir.specs.{declared.program.Program.Program, declared.func.Func.Func, declared.func.BlockIr.BlockIr, declared.instr.Instr.Instr}
use Rattle.oat_check.specs.{declared.fault.CheckKind.CheckKind, declared.fault.CheckKind.TheVariants.NoMain, declared.fault.CheckKind.TheVariants.GlobalWords}
use Rattle.oat_check.specs.{declared.fault.CheckKind.TheVariants.Locals, declared.fault.CheckKind.TheVariants.NoEnd, declared.fault.CheckFault.CheckFault, declared.fault.CheckFault.TheVariants.At}
use Rattle.oat_check.specs.{Globals.size_in_words, Lines.CodeLine, Lines.instruction, Lines.line_in, Lines.terminator, RuleLaws.BreaksAt, RuleLaws.BreaksInLine, RuleLaws.FaultsStand}
use Rattle.oat_check.specs.{RuleLaws.IsAllowed, RuleLaws.LinesAreAllowed, Rules.broken_by, Rules.fault_at, Rules.fault_in_block, Rules.fault_in_func, Rules.fault_in_line, Rules.first_in}
use Rattle.oat_check.specs.{Rules.is_main, Rules.never_ends}
use Rattle.oat_check.proofs.{Checking.instr_allowed, Checking.term_allowed, Frames.instr_is, Frames.term_is}

-- ---- faults

pub record Same (k : CheckKind) (a b c : ℕ) (rule : CheckKind) (func block place : ℕ) : Type 0 where
  pub kind_is : k ≡ rule
  pub func_is : a ≡ func
  pub block_is : b ≡ block
  pub place_is : c ≡ place

same_fault : (k rule : CheckKind) (a b c func block place : ℕ) → Some (At k a b c) ≡ Some (At rule func block place) → Same k a b c rule func block place
same_fault k rule a b c func block place h = record { kind_is = cc; func_is = cc; block_is = cc; place_is = cc }

-- ---- items

-- what is found in a list is found at an item
pub record FoundAt {X A : Type 0} (find : ℕ → X → Option A) (n : ℕ) (xs : List X) (c : A) : Type 0 where
  pub at : ℕ
  pub item : X
  pub is : slice_get xs at ≡ Some item
  pub found : find (n + at) item ≡ Some c

found_from : {X A : Type 0} (find : ℕ → X → Option A) (n : ℕ) (xs : List X) (c : A) → first_in find n xs ≡ Some c → FoundAt find n xs c
found_from find n [] c h = absurd (cc)
found_from {X} {A} find n (x ∷ xs) c h = by (find n x) refl h (found_from find (suc n) xs c) where
  by : (o : Option A) → find n x ≡ o → option_or o (first_in find (suc n) xs) ≡ Some c → (first_in find (suc n) xs ≡ Some c → FoundAt find (suc n) xs c) → FoundAt find n (x ∷ xs) c
  by None e k rest = let r = rest k in record { at = suc r.at; item = r.item; is = r.is; found = subst (λ (m : ℕ). find m r.item ≡ Some c) (omega arith) r.found }
  by (Some y) e k rest = record { at = 0; item = x; is = refl; found = subst (λ (m : ℕ). find m x ≡ Some c) (omega arith) (e ∙ k) }

-- the items are numbered from 0
pub record FoundItem {X A : Type 0} (find : ℕ → X → Option A) (xs : List X) (c : A) : Type 0 where
  pub at : ℕ
  pub item : X
  pub is : slice_get xs at ≡ Some item
  pub found : find at item ≡ Some c

found_in : {X A : Type 0} (find : ℕ → X → Option A) (xs : List X) (c : A) → first_in find 0 xs ≡ Some c → FoundItem find xs c
found_in find xs c h = let r = found_from find 0 xs c h in record { at = r.at; item = r.item; is = r.is; found = subst (λ (m : ℕ). find m r.item ≡ Some c) (omega arith) r.found }

-- ---- lines

mapped : (p : Program) (f : Func) (line : CodeLine) (func block place : ℕ) (rule : CheckKind) (a b c : ℕ) → fault_in_line p f func block place line ≡ Some (At rule a b c)
    → (broken_by p f line ≡ Some rule) × Same rule func block place rule a b c
mapped p f line func block place rule a b c h = by (broken_by p f line) h where
  by : (o : Option CheckKind) → option_map (fault_at func block place) o ≡ Some (At rule a b c) → (o ≡ Some rule) × Same rule func block place rule a b c
  by None k = absurd (cc)
  by (Some kind) k =
      let s = same_fault kind rule func block place a b c k in
      (ap Some s.kind_is, record { kind_is = refl; func_is = s.func_is; block_is = s.block_is; place_is = s.place_is })

-- a line that breaks the rule, in a block that stands where the fault says
pub record LineFault (p : Program) (f : Func) (bl : BlockIr) (rule : CheckKind) (func block a b c : ℕ) : Type 0 where
  pub line : CodeLine
  pub func_is : func ≡ a
  pub block_is : block ≡ b
  pub there : line_in bl c ≡ Some line
  pub broken : broken_by p f line ≡ Some rule

block_fault : (p : Program) (f : Func) (bl : BlockIr) (rule : CheckKind) (func block a b c : ℕ) → fault_in_block p f func block bl ≡ Some (At rule a b c) → LineFault p f bl rule func block a b c
block_fault p f bl rule func block a b c h = by (first_in in_instr 0 bl.instrs) refl h where
  in_instr : ℕ → Instr → Option CheckFault
  in_instr place i = fault_in_line p f func block place (instruction i)

  by : (o : Option CheckFault) → first_in in_instr 0 bl.instrs ≡ o → option_or o (fault_in_line p f func block (length bl.instrs) (terminator bl.term)) ≡ Some (At rule a b c)
      → LineFault p f bl rule func block a b c
  by None e k =
      let m = mapped p f (terminator bl.term) func block (length bl.instrs) rule a b c k in
      record { line = terminator bl.term; func_is = m.1.func_is; block_is = m.1.block_is; there = term_is bl c (sym m.1.place_is); broken = m.0 }
  by (Some y) e k =
      let r = found_in in_instr bl.instrs (At rule a b c) (e ∙ k) in
      let m = mapped p f (instruction r.item) func block r.at rule a b c r.found in
      record {
        line = instruction r.item;
        func_is = m.1.func_is;
        block_is = m.1.block_is;
        there = instr_is bl c r.item (ap (slice_get bl.instrs) (sym m.1.place_is) ∙ r.is);
        broken = m.0;
      }

-- ---- functions

func_fault : (p : Program) (func : ℕ) (f : Func) (rule : CheckKind) (a b c : ℕ) → fault_in_func p func f ≡ Some (At rule a b c)
    → (func ≡ a) × (((rule ≡ Locals) × (255 < length f.locals)) ⊎ (((rule ≡ NoEnd) × (never_ends f ≡ true)) ⊎ BreaksInLine p f rule b c))
func_fault p func f rule a b c h = by (ltb 255 (length f.locals)) refl h where
  end : (t : Bool) → never_ends f ≡ t → cond t (Some (fault_at func 0 0 NoEnd)) None ≡ Some (At rule a b c) → (func ≡ a) × (((rule ≡ NoEnd) × (never_ends f ≡ true)))
  end true e k = let s = same_fault NoEnd rule func 0 0 a b c k in (s.func_is, (sym s.kind_is, e))
  end false e k = absurd (cc)

  lines : (o : Option CheckFault) → first_in (fault_in_block p f func) 0 f.blocks ≡ o → option_or o (cond (never_ends f) (Some (fault_at func 0 0 NoEnd)) None) ≡ Some (At rule a b c)
      → (func ≡ a) × (((rule ≡ Locals) × (255 < length f.locals)) ⊎ (((rule ≡ NoEnd) × (never_ends f ≡ true)) ⊎ BreaksInLine p f rule b c))
  lines None e k = let r = end (never_ends f) refl k in (r.0, inr (inl r.1))
  lines (Some y) e k =
      let r = found_in (fault_in_block p f func) f.blocks (At rule a b c) (e ∙ k) in
      let l = block_fault p f r.item rule func r.at a b c r.found in
      (l.func_is, inr (inr (record { b = r.item; line = l.line; is = ap (slice_get f.blocks) (sym l.block_is) ∙ r.is; there = l.there; broken = l.broken })))

  by : (t : Bool) → ltb 255 (length f.locals) ≡ t
      → cond t (Some (fault_at func 0 0 Locals)) (option_or (first_in (fault_in_block p f func) 0 f.blocks) (cond (never_ends f) (Some (fault_at func 0 0 NoEnd)) None)) ≡ Some (At rule a b c)
      → (func ≡ a) × (((rule ≡ Locals) × (255 < length f.locals)) ⊎ (((rule ≡ NoEnd) × (never_ends f ≡ true)) ⊎ BreaksInLine p f rule b c))
  by true e k = let s = same_fault Locals rule func 0 0 a b c k in (s.func_is, inl (sym s.kind_is, ltb-true 255 (length f.locals) e))
  by false e k = lines (first_in (fault_in_block p f func) 0 f.blocks) refl k

pub faults_stand : FaultsStand
faults_stand p rule func block place h = by (list_any is_main p.funcs) refl h where
  words : (t : Bool) → ltb 65536 (sum_by size_in_words p.globals) ≡ t → cond t (Some (fault_at 0 0 0 GlobalWords)) (first_in (fault_in_func p) 0 p.funcs) ≡ Some (At rule func block place) → BreaksAt p rule func block place
  words true e k = let s = same_fault GlobalWords rule 0 0 0 func block place k in inr (inl (sym s.kind_is, ltb-true 65536 (sum_by size_in_words p.globals) e))
  words false e k =
      let r = found_in (fault_in_func p) p.funcs (At rule func block place) k in
      let q = func_fault p r.at r.item rule func block place r.found in
      inr (inr (record { f = r.item; is = ap (slice_get p.funcs) (sym q.0) ∙ r.is; how = q.1 }))

  by : (t : Bool) → list_any is_main p.funcs ≡ t
      → cond (not t) (Some (fault_at 0 0 0 NoMain)) (cond (ltb 65536 (sum_by size_in_words p.globals)) (Some (fault_at 0 0 0 GlobalWords)) (first_in (fault_in_func p) 0 p.funcs)) ≡ Some (At rule func block place)
      → BreaksAt p rule func block place
  by false e k = let s = same_fault NoMain rule 0 0 0 func block place k in inl (sym s.kind_is, e)
  by true e k = words (ltb 65536 (sum_by size_in_words p.globals)) refl k

-- ---- each line

pub lines_are_allowed : LinesAreAllowed
lines_are_allowed p ok g b n f block line is there at = by (ltb n (length block.instrs)) at where
  instr : (o : Option Instr) → slice_get block.instrs n ≡ o → option_map instruction o ≡ Some line → IsAllowed p f line
  instr None e h = absurd (cc)
  instr (Some i) e h = let same : instruction i ≡ line = cc in subst (IsAllowed p f) same (instr_allowed p ok g f is b block there n i e)

  term : (t : Bool) → cond t (Some (terminator block.term)) None ≡ Some line → IsAllowed p f line
  term true h = let same : terminator block.term ≡ line = cc in subst (IsAllowed p f) same (term_allowed p ok g f is b block there)
  term false h = absurd (cc)

  by : (t : Bool) → cond t (option_map instruction (slice_get block.instrs n)) (cond (eqb n (length block.instrs)) (Some (terminator block.term)) None) ≡ Some line → IsAllowed p f line
  by true h = instr (slice_get block.instrs n) refl h
  by false h = term (eqb n (length block.instrs)) h
