-- Loads and stores of words of global data: what they leave, and the uses that were read by them.
use Rattle.std.proofs.Common.{◌≡◌, ℕ, zero, suc, ◌+◌, ◌*◌, ◌/◌, ◌%◌, ◌^◌, ◌<◌, ◌≤◌, ◌⊎◌, Bool, true, cond, List, [], ◌∷◌, ◌++◌, length, Contains, Some, None, refl, sym, ap, ap₂, subst, ◌∙◌, inl, inr}
use Rattle.std.proofs.Common.{arith}
use Rattle.std.specs.List.{slice_get}
use Rattle.std.proofs.lemmas.Bool.{eq-eqb, le-leb, and_from, or_left}
use Rattle.oat_journal.specs.{Movz, Movk, Regs, Effect, next_pc, with_reg, with_bits, shifted_left, can_access, fits, word_in, global_base, global_size, global_address, Row, Image, Run.Entry}
use Rattle.oat_journal.specs.{Run.pc_of, Window.made_call}
use Rattle.oat_verify.specs.{loads as loads_from, stores as stores_to, Stands}
use Rattle.oat_attest.specs.{Headline.NamesCell, Headline.IsUseOf, Headline.IsLoadOf, Headline.ReadByLoad, Headline.AllReadByLoad, Lockstep.AreQuiet}
use Rattle.oat_attest.proofs.{Stretches.Runs, Stretches.machine, Stretches.moved_to, Stretches.read_behind, Crossings.Led, Crossings.lead, Crossings.next_at}
use Rattle.oat_journal.specs.svc as svc

-- ---- addresses of words

access : (index : ℕ) → index ≤ 65535 → can_access (global_address index) ≡ true
unfolding can_access fits
access index low =
    let aligned = eq-eqb (global_address index % 8) 0 (omega arith) in
    let begins = le-leb global_base (global_address index) (omega arith) in
    let closes = le-leb (global_address index + 8) (global_base + global_size) (omega arith) in
    and_from _ _ aligned (or_left _ _ (and_from _ _ begins closes))

moved_address : (a : ℕ) → a < 2 ^ 32 → with_bits (shifted_left (a % 2 ^ 16) (16 * 0)) (16 * 1) (a / 2 ^ 16) ≡ a
moved_address a low = omega arith

pub shifted_zero : (v : ℕ) → v < 2 ^ 64 → shifted_left v (16 * 0) ≡ v
shifted_zero v low = omega arith

-- ---- two moves that put an address into X11

-- the registers behind the first move, and behind both
abbrev pub with_half : Regs → ℕ → Regs
with_half r index = with_reg r 11 (shifted_left (global_address index % 2 ^ 16) (16 * 0))

abbrev pub with_address : Regs → ℕ → Regs
with_address r index = with_reg (with_half r index) 11 (global_address index)

abbrev pub first_move : ℕ → ℕ
first_move index = global_address index % 2 ^ 16

abbrev pub second_move : ℕ → ℕ
second_move index = global_address index / 2 ^ 16

pub moves_address : (image : Image) (op p q to index : ℕ) → q ≡ p + 4 → to ≡ p + 8 → to < 2 ^ 64 → index ≤ 65535
    → Stands image.code p (Movz 11 0 (first_move index)) → Stands image.code q (Movk 11 1 (second_move index)) → (r : Regs) (es : List Entry) → Runs image.code op (moved_to r p) es
    → (a : Led image op (Movz 11 0 (first_move index)) r p q (λ _. with_half r index) es) × Led image op (Movk 11 1 (second_move index)) (with_half r index) q to (λ _. with_address r index) a.rest
moves_address image op p q to index q_is to_is small low first second r es runs =
    let r1 = with_half r index in
    let a = lead image op (Movz 11 0 (first_move index)) r p q (λ _. r1) es first refl (λ o h. cc) (λ _. ap (moved_to r1) (next_at p q q_is (omega arith))) runs in (
      a,
      lead image op (Movk 11 1 (second_move index)) r1 q to (λ _. with_address r index) a.rest second refl (λ o h. cc)
          (λ _. ap₂ (λ (v to : ℕ). moved_to (with_reg r1 11 v) to) (moved_address (global_address index) (omega arith)) (next_at q to (omega arith) small)) a.runs,
    )

-- ---- registers that loads and stores leave

chosen : (t : Bool) (a b : Effect) → t ≡ true → (cond t a b).machine.regs ≡ a.machine.regs
chosen t a b is = ap (λ (x : Bool). (cond x a b).machine.regs) is

pub loaded : (r : Regs) (a index p q : ℕ) → a ≡ global_address index → index ≤ 65535 → next_pc p ≡ q → (memory : ℕ → ℕ)
    → (loads_from (machine (moved_to r p) memory) 10 a).machine.regs ≡ moved_to (with_reg r 10 (word_in memory (global_address index))) q
loaded r a index p q is low on memory =
    ap (λ (a : ℕ). (loads_from (machine (moved_to r p) memory) 10 a).machine.regs) is
    ∙ chosen (can_access (global_address index)) _ _ (access index low)
    ∙ ap (moved_to (with_reg r 10 (word_in memory (global_address index)))) on

pub stored : (r : Regs) (a index p q : ℕ) → a ≡ global_address index → index ≤ 65535 → next_pc p ≡ q → (memory : ℕ → ℕ)
    → (stores_to (machine (moved_to r p) memory) 10 a).machine.regs ≡ moved_to r q
stored r a index p q is low on memory =
    ap (λ (a : ℕ). (stores_to (machine (moved_to r p) memory) 10 a).machine.regs) is
    ∙ chosen (can_access (global_address index)) _ _ (access index low)
    ∙ ap (moved_to r) on

-- ---- uses

-- where quiet instructions stand before a call, a use of the whole is that call, or it was read by its load
at_call : (image : Image) (way : List Entry) (call : Entry) (rest : List Entry) → AreQuiet way → AllReadByLoad image rest
    → (k cell value index : ℕ) (e : Entry) → slice_get (way ++ call ∷ rest) k ≡ Some e → made_call e ≡ Some (svc.Use cell value) → slice_get image.cells cell ≡ Some index
    → ((k ≡ length way) × (call ≡ e)) ⊎ ReadByLoad image (way ++ call ∷ rest) k e cell index value
at_call image [] call rest quiet all zero cell value index e stands used has = inl (refl, (let same : call ≡ e = cc in same))
at_call image [] call rest quiet all (suc k) cell value index e stands used has = inr (read_behind image call rest k e cell index value (all k cell value index e stands used has))
at_call image (first ∷ way) call rest quiet all zero cell value index e stands used has =
    let same : first ≡ e = cc in
    let both : None ≡ Some (svc.Use cell value) = sym quiet.1 ∙ ap made_call same ∙ used in
    absurd (cc)
at_call image (first ∷ way) call rest quiet all (suc k) cell value index e stands used has =
    elim (at_call image way call rest quiet.2 all k cell value index e stands used has) [
      | inl (place, same) ↦ inl (ap suc place, same)
      | inr read ↦ inr (read_behind image first (way ++ call ∷ rest) k e cell index value read)
    ]

-- a use whose value was loaded some instructions before
pub loads_use : (image : Image) (row : Row) (load : Entry) (way : List Entry) (call : Entry) (rest : List Entry) (cell value index : ℕ) → Contains image.map.rows row
    → AreQuiet (load ∷ way) → made_call call ≡ Some (svc.Use cell value) → slice_get image.cells cell ≡ Some index
    → NamesCell row cell → IsUseOf row call → IsLoadOf row load (global_address index) → pc_of load + 4 * suc (length way) ≡ pc_of call → value ≡ word_in load.found.memory (global_address index)
    → AllReadByLoad image rest → AllReadByLoad image (load ∷ way ++ call ∷ rest)
loads_use image row load way call rest cell value index among quiet used has named is_use is_load apart read all k cell' value' index' e stands used' has' =
    elim (at_call image (load ∷ way) call rest quiet all k cell' value' index' e stands used' has') [
      | inr by ↦ by
      | inl (place, same) ↦
          let both : Some (svc.Use cell value) ≡ Some (svc.Use cell' value') = sym used ∙ ap made_call same ∙ used' in
          let one : cell ≡ cell' = cc in
          let two : value ≡ value' = cc in
          let there : Some index ≡ Some index' = sym has ∙ ap (slice_get image.cells) one ∙ has' in
          let three : index ≡ index' = cc in
          record {
            row = row;
            among = among;
            names = subst (NamesCell row) one named;
            called = subst (IsUseOf row) same is_use;
            load = load;
            loaded = subst (λ (i : ℕ). IsLoadOf row load (global_address i)) three is_load;
            read = sym two ∙ read ∙ ap (λ i. word_in load.found.memory (global_address i)) three;
            before = 0;
            stands = refl;
            words = suc (length way);
            apart = apart ∙ ap (λ (x : Entry). x.found.regs.pc) same;
            behind = (let last : k ≡ suc (length way) = place in omega arith);
          }
    ]
