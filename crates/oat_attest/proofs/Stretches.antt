-- Runs of instructions up to the end that seals, and the stretches of them that a row's group makes.
use Rattle.std.proofs.Common.{◌≡◌, ℕ, zero, suc, true, false, not, List, [], ◌∷◌, ◌++◌, map, Option, Some, refl, sym, ap, ap₂, subst, ◌∙◌, arith}
use Rattle.std.specs.List.{cons_option}
use Rattle.oat_journal.specs.{Inst, Regs, Machine, act, instruction_at, Edge, Image, monitor_call, MonitorCall, Run.Entry, Journal.IsMade, Journal.takes_input, Window.made_call, Window.shown_edge}
use Rattle.oat_journal.specs.{Window.executed_path}
use Rattle.oat_verify.specs.{Stands}
use Rattle.oat_attest.specs.{Headline.ReadByLoad, Headline.AllReadByLoad, Lockstep.Placed, Lockstep.placed_of, Lockstep.AreQuiet, Lockstep.StandsAt}
use Rattle.oat_journal.specs.svc as svc

-- ---- runs

abbrev pub machine : Regs → (ℕ → ℕ) → Machine
machine r memory = record { regs = r; memory = memory }

-- registers with another PC
abbrev pub moved_to : Regs → ℕ → Regs
moved_to r p = record r { pc = p }

pub moved_itself : (r : Regs) (p : ℕ) → r.pc ≡ p → r ≡ moved_to r p
moved_itself r p h = ap (λ (q : ℕ). moved_to r q) h

-- no operation ends
abbrev pub GoesOn : Option MonitorCall → Type 0
GoesOn call = (op : ℕ) → call ≡ Some (svc.End op) → ⊥

-- instructions one behind the other, from these registers on, of which the last alone ends an operation: this one
pub data Runs (code : List ℕ) (op : ℕ) : Regs → List Entry → Type 0 where
  last : (r : Regs) (e : Entry) → IsMade code e → e.found.regs ≡ r → made_call e ≡ Some (svc.End op) → Runs code op r (e ∷ [])
  more : (r : Regs) (e : Entry) (es : List Entry) → IsMade code e → e.found.regs ≡ r → GoesOn (made_call e)
      → Runs code op e.left es → Runs code op r (e ∷ es)

pub no_runs : (code : List ℕ) (op : ℕ) (r : Regs) → Runs code op r [] → ⊥
no_runs code op r runs = elim runs [ ]

-- the first entry of a run, and what follows where no operation ends there
pub record Head (code : List ℕ) (op : ℕ) (r : Regs) (e : Entry) (es : List Entry) : Type 0 where
  pub made : IsMade code e
  pub at : e.found.regs ≡ r
  pub rest : GoesOn (made_call e) → Runs code op e.left es

pub head_of : (code : List ℕ) (op : ℕ) (r : Regs) (e : Entry) (es : List Entry) → Runs code op r (e ∷ es) → Head code op r e es
head_of code op r e es (last r' e' made at seals) = record { made = made; at = at; rest = λ goes_on. absurd (goes_on op seals) }
head_of code op r e es (more r' e' es' made at quiet runs) = record { made = made; at = at; rest = λ goes_on. runs }

pub runs_stand : (code : List ℕ) (op : ℕ) (r : Regs) (p : ℕ) (es : List Entry) → Runs code op (moved_to r p) es → StandsAt p es
runs_stand code op r p [] runs = absurd (no_runs code op (moved_to r p) runs)
runs_stand code op r p (e ∷ es) runs = (e, refl, ap (λ (q : Regs). q.pc) (head_of code op (moved_to r p) e es runs).at)

-- the entry that an instruction makes
abbrev pub entry_by : Inst → Regs → (ℕ → ℕ) → Entry
entry_by i r memory = record { inst = i; found = machine r memory; left = (act i (machine r memory)).machine.regs }

-- the first instruction of a run, which goes on
pub record Popped (code : List ℕ) (op : ℕ) (i : Inst) (r : Regs) (es : List Entry) : Type 0 where
  pub memory : ℕ → ℕ
  pub rest : List Entry
  pub whole : es ≡ entry_by i r memory ∷ rest
  pub runs : Runs code op (act i (machine r memory)).machine.regs rest

some_one : {A : Type 0} (a b : A) → Some a ≡ Some b → a ≡ b
some_one a b h = cc

pub inst_is : (code : List ℕ) (i : Inst) (r : Regs) (e : Entry) → Stands code r.pc i → IsMade code e → e.found.regs ≡ r → e.inst ≡ i
inst_is code i r e stands made at =
    some_one e.inst i (sym made.fetched ∙ ap (λ (q : Regs). instruction_at code q.pc) at ∙ stands)

entry_is : (i : Inst) (r : Regs) (e : Entry) → e.inst ≡ i → e.found.regs ≡ r → e.left ≡ (act e.inst e.found).machine.regs → e ≡ entry_by i r e.found.memory
entry_is i r e same at left =
    let one : e ≡ entry_by e.inst e.found.regs e.found.memory = ap (λ (l : Regs). record e { left = l }) left in
    one ∙ ap₂ (λ (j : Inst) (q : Regs). entry_by j q e.found.memory) same at

dry_is : (i j : Inst) → i ≡ j → takes_input j ≡ false → not (takes_input i) ≡ true
dry_is i j same dry = ap (λ (k : Inst). not (takes_input k)) same ∙ ap not dry

pub pop : (code : List ℕ) (op : ℕ) (i : Inst) (r : Regs) (es : List Entry) → Stands code r.pc i → takes_input i ≡ false
    → GoesOn (monitor_call i r) → Runs code op r es → Popped code op i r es
pop code op i r es stands dry goes_on (last r' e made at seals) =
    absurd (goes_on op (sym (ap₂ monitor_call (inst_is code i r e stands made at) at) ∙ seals))
pop code op i r es stands dry goes_on (more r' e rest made at quiet runs) =
    let same = inst_is code i r e stands made at in
    let whole = entry_is i r e same at (made.steps (dry_is e.inst i same dry)) in
    record { memory = e.found.memory; rest = rest; whole = ap (λ (x : Entry). x ∷ rest) whole; runs = subst (λ (x : Entry). Runs code op x.left rest) whole runs }

-- ---- uses that were read by their loads

-- no call uses a cell
abbrev pub IsNoUse : Option MonitorCall → Type 0
IsNoUse call = (cell value : ℕ) → call ≡ Some (svc.Use cell value) → ⊥

pub none_read : (image : Image) → AllReadByLoad image []
none_read image k cell value index e stands used has = absurd (cc)

-- an instruction in front
pub read_behind : (image : Image) (e : Entry) (es : List Entry) (k : ℕ) (call : Entry) (cell index value : ℕ) → ReadByLoad image es k call cell index value
    → ReadByLoad image (e ∷ es) (suc k) call cell index value
read_behind image e es k call cell index value r = record {
  row = r.row;
  among = r.among;
  names = r.names;
  called = r.called;
  load = r.load;
  loaded = r.loaded;
  read = r.read;
  before = suc r.before;
  stands = r.stands;
  words = r.words;
  apart = r.apart;
  behind = (let b = r.behind in omega arith);
}

-- an instruction in front that is no use
pub read_cons : (image : Image) (e : Entry) (es : List Entry) → IsNoUse (made_call e) → AllReadByLoad image es → AllReadByLoad image (e ∷ es)
read_cons image e es none all zero cell value index f at used has =
    let same : e ≡ f = cc in
    absurd (none cell value (ap made_call same ∙ used))
read_cons image e es none all (suc k) cell value index f at used has = read_behind image e es k f cell index value (all k cell value index f at used has)

-- ---- a stretch of a run

-- From these instructions on a stretch is made: in the group of a row, at these places and with these calls, and showing these edges; behind it the run goes on at an address.
pub record Crossed (image : Image) (op : ℕ) (es : List Entry) (group : List Placed) (shown : List Edge) (to : ℕ) : Type 0 where
  pub stretch : List Entry
  pub rest : List Entry
  pub whole : es ≡ stretch ++ rest
  pub regs : Regs
  pub runs : Runs image.code op (moved_to regs to) rest
  pub places : map placed_of stretch ≡ group
  pub shows : executed_path image.map op stretch ≡ shown
  pub loads : AllReadByLoad image rest → AllReadByLoad image es

-- the same on the way to a row
pub record Skipped (image : Image) (op : ℕ) (es : List Entry) (to : ℕ) : Type 0 where
  pub way : List Entry
  pub rest : List Entry
  pub whole : es ≡ way ++ rest
  pub regs : Regs
  pub runs : Runs image.code op (moved_to regs to) rest
  pub quiet : AreQuiet way
  pub loads : AllReadByLoad image rest → AllReadByLoad image es

pub arrives : (image : Image) (op : ℕ) (r : Regs) (es : List Entry) (p q : ℕ) → p ≡ q → Runs image.code op (moved_to r p) es → Crossed image op es [] [] q
arrives image op r es p q same runs = record {
  stretch = [];
  rest = es;
  whole = refl;
  regs = r;
  runs = subst (λ (x : ℕ). Runs image.code op (moved_to r x) es) same runs;
  places = refl;
  shows = refl;
  loads = λ all. all;
}

-- one more instruction in front
pub crossed_cons : (image : Image) (op : ℕ) (i : Inst) (r : Regs) (memory : ℕ → ℕ) (rest es : List Entry) (group : List Placed) (first : Option Edge) (shown : List Edge) (to : ℕ)
    → es ≡ entry_by i r memory ∷ rest → shown_edge image.map op (entry_by i r memory) ≡ first → IsNoUse (monitor_call i r)
    → Crossed image op rest group shown to → Crossed image op es (record { at = r.pc; call = monitor_call i r } ∷ group) (cons_option first shown) to
crossed_cons image op i r memory rest es group first shown to whole shows none c =
    let e = entry_by i r memory in
    record {
      stretch = e ∷ c.stretch;
      rest = c.rest;
      whole = whole ∙ ap (λ (x : List Entry). e ∷ x) c.whole;
      regs = c.regs;
      runs = c.runs;
      places = ap (λ (x : List Placed). record { at = r.pc; call = monitor_call i r } ∷ x) c.places;
      shows = ap₂ cons_option shows c.shows;
      loads = λ all. subst (AllReadByLoad image) (sym whole) (read_cons image e rest none (c.loads all));
    }
