-- One word of global data, whose address stands in register 11, is read or written: for scalars and for elements. So each line on global data ends.
use Rattle.std.proofs.Common.{◌≡◌, ◌+◌, ◌*◌, ◌%◌, ◌/◌, ◌^◌, ◌<◌, ◌≤◌, ℕ, List, [], ◌∷◌, ◌++◌, None, refl, sym, ap, subst, ◌∙◌, arith}
use Rattle.oat_frames.specs.{Movz, Movk, Ldr, Str, reg, Image, word_in, with_word, global_address, Stands, Ty, I64, Frame, assigned, Running, MachineEvent, Frames.World, Frames.IsWorld}
use Rattle.oat_frames.specs.{Frames.Represents, Frames.HoldsState, Frames.IsAt, Frames.home_word, Frames.home_in, Frames.line_address, Code.CodeStands, Code.store_inst, Code.home_load}
use Rattle.oat_frames.specs.{Code.home_store, Comes.StepsTo, Comes.with_result, Lines.on_next_line, Readied.IsReadied, Readied.KeepsHomes, RunsTo, Moments.next_moment}
use Rattle.oat_frames.proofs.{Kit.thence, Kit.set-other, Kit.with_x, Kit.with_slot, Kit.ldr-at, Kit.str-at, Kit.moves-number, FrameLaws.puts-global, FrameLaws.global-opens, FrameLaws.by-registers}
use Rattle.oat_frames.proofs.{FrameLaws.assigns, FrameLaws.local-word, FrameLaws.loads-local}
use Rattle.oat_globals.specs.Scalars.{IsScalarPair}
use Rattle.oat_asm.specs.declared.item.Item.TheVariants as item

-- ---- the address of a word

abbrev pub addressed : Running → ℕ → Running
addressed m g = next_moment (next_moment m m.machine) (with_x (next_moment m m.machine).machine 11 (global_address g))

pub twice : (p : ℕ) → p + 4 + 4 ≡ p + 8
twice p = omega arith

pub small_word : (g n : ℕ) → g < n → n ≤ 65536 → g < 65536
small_word g n l few = omega arith

no_more : (a b : ℕ) → a ≡ b → a + 8 * 0 ≡ b
no_more a b h = omega arith

-- what a store into a word leaves, with what follows it: so many instructions, which show so much
pub record IsStored (image : Image) (count g word : ℕ) (shown : List MachineEvent) (k l : Running) : Type 0 where
  pub runs : RunsTo image count k l shown
  pub going : l.end ≡ None
  pub inputs : l.inputs ≡ k.inputs
  pub outputs : l.outputs ≡ k.outputs
  pub memory : l.machine.memory ≡ with_word k.machine.memory (global_address g) word
  pub sp : l.machine.regs.sp ≡ k.machine.regs.sp
  pub depth : l.machine.regs.x 28 ≡ k.machine.regs.x 28
  pub homes : KeepsHomes k.machine.regs.x l.machine.regs.x
  pub pc : l.machine.regs.pc ≡ k.machine.regs.pc + 4 * count

pub stored_by : (image : Image) (g word : ℕ) (k : Running) → k.end ≡ None → RunsTo image 1 k (next_moment k (with_slot k.machine (global_address g) word)) []
    → IsStored image 1 g word [] k (next_moment k (with_slot k.machine (global_address g) word))
stored_by image g word k going runs = record { runs = runs; going = going; inputs = refl; outputs = refl; memory = refl; sp = refl; depth = refl; homes = λ i h. refl; pc = refl }

-- one more instruction, which gives a scratch register a number
further : (image : Image) (count bytes rt v : ℕ) (m k : Running) → IsReadied image count bytes [] m.inputs m k → rt < 19 → RunsTo image 1 k (next_moment k (with_x k.machine rt v)) []
    → IsReadied image (count + 1) (bytes + 4) [] m.inputs m (next_moment k (with_x k.machine rt v))
further image count bytes rt v m k ready low one = record {
  runs = thence image count 1 m k (next_moment k (with_x k.machine rt v)) [] [] ready.runs one;
  going = ready.going;
  inputs = ready.inputs;
  outputs = ready.outputs;
  memory = ready.memory;
  sp = ready.sp;
  depth = set-other k.machine.regs.x rt v 28 (λ e. absurd (omega arith)) ∙ ready.depth;
  homes = λ i h. set-other k.machine.regs.x rt v (19 + i) (λ e. absurd (omega arith)) ∙ ready.homes i h;
  pc = ap (λ (p : ℕ). p + 4) ready.pc ∙ plus m.machine.regs.pc bytes;
} where
  plus : (p b : ℕ) → p + b + 4 ≡ p + (b + 4)
  plus p b = omega arith

-- a monitor call behind the store
pub shown_behind : (image : Image) (g word : ℕ) (k l : Running) (es : List MachineEvent) → IsStored image 1 g word [] k l → RunsTo image 1 l (next_moment l l.machine) es → IsStored image 2 g word es k (next_moment l l.machine)
shown_behind image g word k l es stored shows = record {
  runs = thence image 1 1 k l (next_moment l l.machine) [] es stored.runs shows;
  going = stored.going;
  inputs = stored.inputs;
  outputs = stored.outputs;
  memory = stored.memory;
  sp = stored.sp;
  depth = stored.depth;
  homes = stored.homes;
  pc = ap (λ (p : ℕ). p + 4) stored.pc ∙ two k.machine.regs.pc;
} where
  two : (p : ℕ) → p + 4 * 1 + 4 ≡ p + 4 * 2
  two p = omega arith

module _ (w : World) (ok : IsWorld w) where
  pub addresses : (m : Running) (g : ℕ) → m.end ≡ None → g < w.globals → Stands w.image.code m.machine.regs.pc (Movz 11 0 (global_address g % 2 ^ 16)) → Stands w.image.code (m.machine.regs.pc + 4) (Movk 11 1 (global_address g / 2 ^ 16))
      → IsReadied w.image 2 8 [] m.inputs m (addressed m g)
  addresses m g going inside one two =
      let small : g < 65536 = small_word g w.globals inside ok.globals in
      by-registers w.image 2 8 [] m (addressed m g) (moves-number w.image ok.low m 11 (global_address g) (omega arith) going (omega arith) one two) going refl refl refl (refl, refl, refl, refl, refl, refl, refl, refl) (twice m.machine.regs.pc)

  -- the word goes into a register
  pub fetches : (k : Running) (rt g : ℕ) → k.end ≡ None → g < w.globals → k.machine.regs.x 11 ≡ global_address g → Stands w.image.code k.machine.regs.pc (Ldr rt 11 0)
      → RunsTo w.image 1 k (next_moment k (with_x k.machine rt (word_in k.machine.memory (global_address g)))) []
  fetches k rt g going inside address at =
      let small : g < 65536 = small_word g w.globals inside ok.globals in
      ldr-at w.image ok.low k rt 11 0 (global_address g) going at (no_more (k.machine.regs.x 11) (global_address g) address) (omega arith) (global-opens g small)

  -- a register goes into the word
  pub puts_word : (k : Running) (rt g : ℕ) → k.end ≡ None → g < w.globals → k.machine.regs.x 11 ≡ global_address g → Stands w.image.code k.machine.regs.pc (Str rt 11 0)
      → IsStored w.image 1 g (reg k.machine.regs rt) [] k (next_moment k (with_slot k.machine (global_address g) (reg k.machine.regs rt)))
  puts_word k rt g going inside address at =
      let small : g < 65536 = small_word g w.globals inside ok.globals in
      stored_by w.image g (reg k.machine.regs rt) k going
      (str-at w.image ok.low k rt 11 0 (global_address g) going at (no_more (k.machine.regs.x 11) (global_address g) address) (omega arith) (global-opens g small))

module _ (w : World) (ok : IsWorld w) (f : Frame) (callers : List Frame) (globals : ℕ → ℕ) (m : Running) (r : IsAt w f callers globals m) where
  -- ---- what words stand for

  -- a word that is a number is its value
  pub number_word : (g : ℕ) → g < w.globals → w.global_ty g ≡ I64 → Represents w I64 (globals g) (word_in m.machine.memory (global_address g))
  number_word g inside ty = subst (λ (t : Ty). Represents w t (globals g) (word_in m.machine.memory (global_address g))) ty (r.holds.words g inside)

  -- ---- how lines end

  -- in a store of a register into a home
  pub ends_in_home : (count bytes rt x v : ℕ) (es : List MachineEvent) (k : Running) → IsReadied w.image count bytes es m.inputs m k → x < w.locals f.func → w.place f.func f.block (f.line + 1) ≡ line_address w f + bytes + 4
      → Stands w.image.code k.machine.regs.pc (store_inst rt (home_in w f x)) → Represents w (w.ty f.func x) v (reg k.machine.regs rt) → StepsTo w (count + 1) (with_result f x v) callers globals es m
  ends_in_home count bytes rt x v es k ready inside next at value =
      assigns w ok f callers globals m r count bytes rt x v es m.inputs k ready
      (subst (λ (p : ℕ). Stands w.image.code p (store_inst rt (home_in w f x))) (ready.pc ∙ ap (λ (p : ℕ). p + bytes) r.pc) at) next inside value

  -- in a store into a word, and what follows it
  pub ends_in_word : (count bytes more g v word : ℕ) (es shown : List MachineEvent) (k l : Running) → IsReadied w.image count bytes es m.inputs m k → IsStored w.image more g word shown k l → 1 ≤ more
      → g < w.globals → w.place f.func f.block (f.line + 1) ≡ line_address w f + bytes + 4 * more → Represents w (w.global_ty g) v word
      → StepsTo w (count + more) (on_next_line f) callers (assigned globals g v) (es ++ shown) m
  ends_in_word count bytes more g v word es shown k l ready stored some inside next value = record {
    to = l;
    count = count + more;
    some = omega (arith, some);
    few = omega arith;
    runs = thence w.image count more m k l es shown ready.runs stored.runs;
    inputs = stored.inputs ∙ ready.inputs;
    outputs = stored.outputs ∙ ready.outputs;
    is_at = record {
      going = stored.going;
      pc = stored.pc ∙ ap (λ (p : ℕ). p + 4 * more) (ready.pc ∙ ap (λ (p : ℕ). p + bytes) r.pc) ∙ sym next;
      holds = there;
    };
  } where
    memory_is : l.machine.memory ≡ with_word m.machine.memory (global_address g) word
    memory_is = stored.memory ∙ ap (λ (old : ℕ → ℕ). with_word old (global_address g) word) ready.memory

    here : HoldsState w f.func f.locals callers (assigned globals g v) l.machine.regs.x m.machine.regs.sp (with_word m.machine.memory (global_address g) word)
    here = puts-global w ok f.func f.locals callers globals m.machine.regs.x l.machine.regs.x m.machine.regs.sp m.machine.memory r.holds (stored.depth ∙ ready.depth) (λ i h. stored.homes i h ∙ ready.homes i h) g v word inside value

    there : HoldsState w f.func f.locals callers (assigned globals g v) l.machine.regs.x l.machine.regs.sp l.machine.memory
    there =
        subst (λ (s : ℕ). HoldsState w f.func f.locals callers (assigned globals g v) l.machine.regs.x s l.machine.memory) (sym (stored.sp ∙ ready.sp))
        (subst (λ (new : ℕ → ℕ). HoldsState w f.func f.locals callers (assigned globals g v) l.machine.regs.x m.machine.regs.sp new) (sym memory_is) here)

  -- ---- the two lines on one word, for either address

  pub loads_word : (count bytes x g : ℕ) (k : Running) → IsReadied w.image count bytes [] m.inputs m k → k.machine.regs.x 11 ≡ global_address g → IsScalarPair w f g x
      → CodeStands w k.machine.regs.pc (item.Inst (Ldr 9 11 0) ∷ home_store 9 (home_in w f x) ∷ []) → w.place f.func f.block (f.line + 1) ≡ line_address w f + bytes + 8
      → StepsTo w (count + 1 + 1) (with_result f x (globals g)) callers globals [] m
  loads_word count bytes x g k ready address this at next =
      let word : ℕ = word_in k.machine.memory (global_address g) in
      let same : word_in m.machine.memory (global_address g) ≡ word = ap (λ (old : ℕ → ℕ). word_in old (global_address g)) (sym ready.memory) in
      let value : Represents w (w.ty f.func x) (globals g) word =
      subst (λ (u : ℕ). Represents w (w.ty f.func x) (globals g) u) same (subst (λ (t : Ty). Represents w t (globals g) (word_in m.machine.memory (global_address g))) (sym this.types) (r.holds.words g this.global)) in
      let l : Running = next_moment k (with_x k.machine 9 word) in
      let one : RunsTo w.image 1 k l [] = fetches w ok k 9 g ready.going this.global address at.0 in
      ends_in_home (count + 1) (bytes + 4) 9 x (globals g) [] l
      (further w.image count bytes 9 word m k ready (omega arith) one)
      this.local (next ∙ plus (line_address w f) bytes) at.1.0 value where
        plus : (p b : ℕ) → p + b + 8 ≡ p + (b + 4) + 4
        plus p b = omega arith

  pub stores_word : (count bytes g x : ℕ) (k : Running) → IsReadied w.image count bytes [] m.inputs m k → k.machine.regs.x 11 ≡ global_address g → IsScalarPair w f g x
      → CodeStands w k.machine.regs.pc (home_load 9 (home_in w f x) ∷ item.Inst (Str 9 11 0) ∷ []) → w.place f.func f.block (f.line + 1) ≡ line_address w f + bytes + 8
      → StepsTo w (count + 1 + 1) (on_next_line f) callers (assigned globals g (f.locals x)) [] m
  stores_word count bytes g x k ready address this at next =
      let word : ℕ = home_word m.machine.regs.x m.machine.memory m.machine.regs.sp (home_in w f x) in
      let value : Represents w (w.global_ty g) (f.locals x) word = subst (λ (t : Ty). Represents w t (f.locals x) word) this.types (local-word w ok f callers globals m r x this.local) in
      let l : Running = next_moment k (with_x k.machine 9 word) in
      let one : RunsTo w.image 1 k l [] = loads-local w ok f callers globals m r k 9 x ready.going ready.memory ready.sp ready.homes at.0 this.local in
      ends_in_word (count + 1) (bytes + 4) 1 g (f.locals x) word [] [] l (next_moment l (with_slot l.machine (global_address g) word))
      (further w.image count bytes 9 word m k ready (omega arith) one)
      (puts_word w ok l 9 g ready.going this.global address at.1.0) (omega arith) this.global (next ∙ plus (line_address w f) bytes) value where
        plus : (p b : ℕ) → p + b + 8 ≡ p + (b + 4) + 4 * 1
        plus p b = omega arith
