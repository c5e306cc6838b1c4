-- A word stands in a register, and is stored into the home of a local: the end of each line that assigns. And what a line begins with.
use Rattle.std.proofs.Common.{◌≡◌, ◌+◌, ◌*◌, ◌^◌, ◌<◌, ◌≤◌, ℕ, ℤ, true, List, [], None, sym, ap, subst, ◌∙◌, arith}
use Rattle.std.proofs.lemmas.List.{append-nil}
use Rattle.oat_asm.specs.{reg, Image, word_in, Stands}
use Rattle.oat_check.specs.{Ty, I64, Steps.Frame}
use Rattle.oat_follow.specs.{Running, Events.MachineEvent, Reaching.RunsTo}
use Rattle.oat_frames.specs.{Frames.World, Frames.IsWorld, Frames.Represents, Frames.HoldsState, Frames.IsAt, Frames.home_word, Frames.home_in, Frames.line_address, Code.load_inst, Code.store_inst}
use Rattle.oat_frames.specs.{Comes.ComesTo, Comes.with_result, Lines.IsNumberLocal, Phases.HasSlots, Readied.IsReadied, Readied.KeepsHomes, Moments.next_moment}
use Rattle.oat_frames.proofs.{Reaching.thence, Registers.with_x, Homes.SameEight, Homes.keeps-eight, Homes.held-on, Homes.HomeWritten, Homes.writes-home, Homes.reads-home, Holding.value-small}
use Rattle.oat_frames.proofs.{Holding.opens, Holding.scratched, Holding.puts-home}

-- a front that changes registers alone
pub by-registers : (image : Image) (count bytes : ℕ) (es : List MachineEvent) (m k : Running) → RunsTo image count m k es → m.end ≡ None
    → k ≡ record m { machine = record m.machine { regs = k.machine.regs }; made = k.made }
    → k.machine.regs.sp ≡ m.machine.regs.sp → k.machine.regs.x 28 ≡ m.machine.regs.x 28 → SameEight m.machine.regs.x k.machine.regs.x → k.machine.regs.pc ≡ m.machine.regs.pc + bytes → IsReadied image count bytes es m.inputs m k
by-registers image count bytes es m k runs going regs sp depth eight pc = record {
  runs = runs;
  going = ap (λ (r : Running). r.end) regs ∙ going;
  inputs = ap (λ (r : Running). r.inputs) regs;
  outputs = ap (λ (r : Running). r.outputs) regs;
  memory = ap (λ (r : Running). r.machine.memory) regs;
  sp = sp;
  depth = depth;
  homes = keeps-eight m.machine.regs.x k.machine.regs.x eight;
  pc = pc;
}

-- behind a front the same holds
pub readied-holds : (w : World) (func : ℕ) (locals : ℕ → ℕ) (callers : List Frame) (globals : ℕ → ℕ) (count bytes : ℕ) (es : List MachineEvent) (asked : List ℤ) (m k : Running) → IsReadied w.image count bytes es asked m k
    → HoldsState w func locals callers globals m.machine.regs.x m.machine.regs.sp m.machine.memory → HoldsState w func locals callers globals k.machine.regs.x k.machine.regs.sp k.machine.memory
readied-holds w func locals callers globals count bytes es asked m k ready h =
    subst (λ (s : ℕ). HoldsState w func locals callers globals k.machine.regs.x s k.machine.memory) (sym ready.sp)
    (subst (λ (memory : ℕ → ℕ). HoldsState w func locals callers globals k.machine.regs.x m.machine.regs.sp memory) (sym ready.memory)
    (scratched w func locals callers globals m.machine.regs.x k.machine.regs.x m.machine.regs.sp m.machine.memory h ready.depth ready.homes))

module _ (w : World) (ok : IsWorld w) (f : Frame) (callers : List Frame) (globals : ℕ → ℕ) (m : Running) (r : IsAt w f callers globals m) where
  pub here-opens : HasSlots m.machine.regs.sp (w.locals f.func + 1)
  here-opens = opens w ok f.func f.locals callers globals m.machine.regs.x m.machine.regs.sp m.machine.memory r.holds

  -- the word of a local
  pub local-word : (x : ℕ) → x < w.locals f.func → Represents w (w.ty f.func x) (f.locals x) (home_word m.machine.regs.x m.machine.memory m.machine.regs.sp (home_in w f x))
  local-word x inside = r.holds.frame x inside

  -- behind a front the same holds
  pub held-behind : (count bytes : ℕ) (es : List MachineEvent) (asked : List ℤ) (k : Running) → IsReadied w.image count bytes es asked m k → HoldsState w f.func f.locals callers globals k.machine.regs.x k.machine.regs.sp k.machine.memory
  held-behind count bytes es asked k ready = readied-holds w f.func f.locals callers globals count bytes es asked m k ready r.holds

  -- a word that stands in a register is stored into the home of a local: so each line with a result ends
  pub assigns : (count bytes rt x v : ℕ) (es : List MachineEvent) (asked : List ℤ) (k : Running) → IsReadied w.image count bytes es asked m k → Stands w.image.code (line_address w f + bytes) (store_inst rt (home_in w f x))
      → w.place f.func f.block (f.line + 1) ≡ line_address w f + bytes + 4 → x < w.locals f.func → Represents w (w.ty f.func x) v (reg k.machine.regs rt)
      → ComesTo w (count + 1) (with_result f x v) callers globals es asked m.outputs m
  assigns count bytes rt x v es asked k ready code next inside value =
      let at : k.machine.regs.pc ≡ line_address w f + bytes = ready.pc ∙ ap (λ (p : ℕ). p + bytes) r.pc in
      let here : Stands w.image.code k.machine.regs.pc (store_inst rt (home_in w f x)) = subst (λ (p : ℕ). Stands w.image.code p (store_inst rt (home_in w f x))) (sym at) code in
      let stored = writes-home w.image ok.low (w.is_leaf f.func) k rt x (w.locals f.func + 1) ready.going here (subst (λ (s : ℕ). HasSlots s (w.locals f.func + 1)) (sym ready.sp) here-opens) (omega arith)
      (value-small w ok (w.ty f.func x) v (reg k.machine.regs rt) value) in
      let to : Running = stored.0 in
      let put : HomeWritten w.image (w.is_leaf f.func) x (reg k.machine.regs rt) k to = stored.1 in
      record {
        to = to;
        count = count + 1;
        some = omega arith;
        few = omega arith;
        runs = subst (λ (shown : List MachineEvent). RunsTo w.image (count + 1) m to shown) (append-nil es) (thence w.image count 1 m k to es [] ready.runs put.runs);
        inputs = put.kept.inputs ∙ ready.inputs;
        outputs = put.kept.outputs ∙ ready.outputs;
        is_at = record {
          going = put.kept.going;
          pc = put.pc ∙ ap (λ (p : ℕ). p + 4) at ∙ sym next;
          holds = puts-home w ok f.func f.locals callers globals x v (reg k.machine.regs rt) k to (held-behind count bytes es asked k ready) put inside value;
        };
      }

  -- a local that is a number
  pub number-of : (y : ℕ) → IsNumberLocal w f y → Represents w I64 (f.locals y) (home_word m.machine.regs.x m.machine.memory m.machine.regs.sp (home_in w f y))
  number-of y is =
      subst (λ (ty : Ty). Represents w ty (f.locals y) (home_word m.machine.regs.x m.machine.memory m.machine.regs.sp (home_in w f y))) is.ty (local-word y is.local)

  pub number-small : (y : ℕ) → IsNumberLocal w f y → f.locals y < 2 ^ 64
  number-small y is = (number-of y is).known

  -- a local is loaded from its home; k is a moment with the same homes
  pub loads-local : (k : Running) (rt y : ℕ) → k.end ≡ None → k.machine.memory ≡ m.machine.memory → k.machine.regs.sp ≡ m.machine.regs.sp → KeepsHomes m.machine.regs.x k.machine.regs.x
      → Stands w.image.code k.machine.regs.pc (load_inst rt (home_in w f y)) → y < w.locals f.func
      → RunsTo w.image 1 k (next_moment k (with_x k.machine rt (home_word m.machine.regs.x m.machine.memory m.machine.regs.sp (home_in w f y)))) []
  loads-local k rt y going memory sp homes at inside =
      let same : home_word k.machine.regs.x k.machine.memory k.machine.regs.sp (home_in w f y) ≡ home_word m.machine.regs.x m.machine.memory m.machine.regs.sp (home_in w f y) =
      ap (λ (s : ℕ). home_word k.machine.regs.x k.machine.memory s (home_in w f y)) sp
      ∙ held-on (w.is_leaf f.func) m.machine.regs.x k.machine.regs.x m.machine.memory k.machine.memory m.machine.regs.sp y homes (λ a l. ap (λ (bytes : ℕ → ℕ). word_in bytes a) memory) in
      reads-home w.image ok.low (w.is_leaf f.func) k rt y (w.locals f.func + 1) (home_word m.machine.regs.x m.machine.memory m.machine.regs.sp (home_in w f y)) going at
      (subst (λ (s : ℕ). HasSlots s (w.locals f.func + 1)) (sym sp) here-opens) (omega arith) same

  -- a number is its own word
  pub loads-number : (k : Running) (rt y : ℕ) → k.end ≡ None → k.machine.memory ≡ m.machine.memory → k.machine.regs.sp ≡ m.machine.regs.sp → SameEight m.machine.regs.x k.machine.regs.x
      → Stands w.image.code k.machine.regs.pc (load_inst rt (home_in w f y)) → IsNumberLocal w f y
      → RunsTo w.image 1 k (next_moment k (with_x k.machine rt (f.locals y))) []
  loads-number k rt y going memory sp eight at is =
      subst (λ (v : ℕ). RunsTo w.image 1 k (next_moment k (with_x k.machine rt v)) []) (number-of y is).is
      (loads-local k rt y going memory sp (keeps-eight m.machine.regs.x k.machine.regs.x eight) at is.local)

-- ---- at most so many

pub comes-within : (w : World) (a b : ℕ) (f : Frame) (callers : List Frame) (globals : ℕ → ℕ) (es : List MachineEvent) (asked put : List ℤ) (m : Running) → a ≤ b → ComesTo w a f callers globals es asked put m → ComesTo w b f callers globals es asked put m
comes-within w a b f callers globals es asked put m h c = record {
  to = c.to;
  count = c.count;
  some = c.some;
  few = omega (arith, c.few);
  runs = c.runs;
  inputs = c.inputs;
  outputs = c.outputs;
  is_at = c.is_at;
}
