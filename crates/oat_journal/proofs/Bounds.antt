-- Registers keep 64 bits and memory keeps bytes, whatever is given and written.
use Rattle.std.proofs.Common.{◌≡◌, ◌+◌, ◌^◌, ◌<◌, ◌==◌, ◌&&◌, ℕ, zero, suc, ℤ, pos, negsuc, Bool, true, false, cond, eqb, ltb, List, [], ◌∷◌, slice_get, slice_index, Option, Some, None, refl, sym}
use Rattle.std.proofs.Common.{subst, ◌∙◌, arith, lit<, FitsSigned}
use Rattle.std.specs.{Int.w64, List.filter, List.fold, List.All}
use Rattle.oat_mem.proofs.Words.{memory_stays_bytes}
use Rattle.oat_a64.proofs.StepBounds.{step_keeps_bounds}
use Rattle.oat_image.specs.{declared.image.Image.Image, declared.image.InitWord.InitWord}
use Rattle.oat_case.specs.declared.case.Write.{Write}
use Rattle.oat_measure.specs.{with_bytes, with_word, IsBytes, global_address, Event, Regs, Machine, IsBounded, set, unsigned, step}
use Rattle.oat_journal.specs.{declared.end.DeviceEnd.DeviceEnd, Run.Running, Run.Entry, Run.IsWrite, Run.start_memory, Run.started, Run.poked, Run.found, Run.told, Run.with_input, Run.makes, Run.turn}
use Rattle.oat_journal.specs.{Run.unless_ended, Run.entry, Run.from_entry, Run.journal_from, Journal.IsEntryBounded, Journal.JournalIsBounded}
use Rattle.oat_journal.proofs.Turns.{EntryIs, entry-is}
use Rattle.oat_a64.specs.declared.event.Event.TheVariants as event

-- ---- lists

all-rest : {A : Type 0} (P : A → Type 0) (x : A) (xs : List A) → All P (x ∷ xs) → All P xs
all-rest P x xs h = λ k d lt. h (suc k) d (omega arith)

all-first : {A : Type 0} (P : A → Type 0) (x : A) (xs : List A) → All P (x ∷ xs) → P x
all-first P x xs h = h 0 x (omega arith)

are-bytes : (bytes : List ℕ) → All (λ byte. byte < 256) bytes → IsBytes (slice_index bytes)
are-bytes [] h k = lit< tt
are-bytes (x ∷ xs) h zero = all-first (λ (byte : ℕ). byte < 256) x xs h
are-bytes (x ∷ xs) h (suc k) = are-bytes xs (all-rest (λ (byte : ℕ). byte < 256) x xs h) k

-- ---- memory

words-put : (words : List InitWord) (memory : ℕ → ℕ) → IsBytes memory → IsBytes (fold (λ (old : ℕ → ℕ) (word : InitWord). with_word old (global_address word.index) word.value) memory words)
words-put [] memory h = h
words-put (w ∷ ws) memory h =
    words-put ws (with_word memory (global_address w.index) w.value) ((memory_stays_bytes memory (global_address w.index) h).1 w.value)

start-bytes : (words : List InitWord) → IsBytes (start_memory words)
start-bytes words = words-put words (λ _. 0) (λ _. lit< tt)

poked-bytes : (writes : List Write) → All IsWrite writes → (k : ℕ) (memory : ℕ → ℕ) → IsBytes memory → IsBytes (poked writes k memory)
poked-bytes [] given k memory h = h
poked-bytes (w ∷ ws) given k memory h =
    let rest = all-rest IsWrite w ws given in
    let put = (memory_stays_bytes memory w.address h).0 w.bytes (are-bytes w.bytes (all-first IsWrite w ws given).bytes) in
    elim (w.before == k) as (λ (due : Bool). IsBytes (fold (λ (old : ℕ → ℕ) (write : Write). with_bytes old write.address write.bytes) memory (cond due (w ∷ filter (λ (write : Write). write.before == k) ws) (filter (λ (write : Write). write.before == k) ws)))) [
      | true ↦ poked-bytes ws rest k (with_bytes memory w.address w.bytes) put
      | false ↦ poked-bytes ws rest k memory h
    ]

-- ---- a turn

input-lt : (z : ℤ) → FitsSigned w64 z → unsigned z < 2 ^ 64
input-lt (pos n) h = omega (arith, h.sfits)
input-lt (negsuc n) h = omega arith

set-lt : (x : ℕ → ℕ) (n v : ℕ) → ((k : ℕ) → x k < 2 ^ 64) → v < 2 ^ 64 → (k : ℕ) → set x n v k < 2 ^ 64
set-lt x n v h l k =
    elim (eqb k n && ltb n 31) as (λ (t : Bool). cond t v (x k) < 2 ^ 64) [ true ↦ l | false ↦ h k ]

-- what keeps a run within its bounds
pub record Within (s : Running) : Type 0 where
  pub machine : IsBounded s.machine
  pub inputs : All (FitsSigned w64) s.inputs

within-if : (t : Bool) (a b : Running) → Within a → Within b → Within (cond t a b)
within-if true a b p q = p
within-if false a b p q = q

within-takes : (s : Running) (m : Machine) → IsBounded m → (inputs : List ℤ) → All (FitsSigned w64) inputs → All (FitsSigned w64) s.inputs → Within (with_input s m inputs)
within-takes s m b [] h g = record { machine = b; inputs = g }
within-takes s m b (z ∷ zs) h g = record {
  machine = record { x = set-lt m.regs.x 0 (unsigned z) b.x (input-lt z (all-first (FitsSigned w64) z zs h)); sp = b.sp; pc = b.pc; bytes = b.bytes };
  inputs = all-rest (FitsSigned w64) z zs h;
}

within-told : (s : Running) (m : Machine) → IsBounded m → All (FitsSigned w64) s.inputs → (e : Event) → Within (told s m e)
within-told s m b h event.Next = record { machine = b; inputs = h }
within-told s m b h (event.Svc number) =
    let keeps : Within (record s { machine = m; made = s.made + 1 }) = record { machine = b; inputs = h } in
    within-if (eqb number 0) _ _ (record { machine = b; inputs = h })
    (within-if (eqb number 8) _ _ (within-takes s m b s.inputs h h)
    (within-if (eqb number 9) _ _ (record { machine = b; inputs = h }) keeps))
within-told s m b h (event.Brk number) = record { machine = b; inputs = h }
within-told s m b h (event.Fault kind) = record { machine = b; inputs = h }

found-bounded : (writes : List Write) → All IsWrite writes → (s : Running) → IsBounded s.machine → IsBounded (found writes s)
found-bounded writes given s b =
    record { x = b.x; sp = b.sp; pc = b.pc; bytes = poked-bytes writes given s.made s.machine.memory b.bytes }

within-unless_ended : (end : Option DeviceEnd) (s next : Running) → Within s → Within next → Within (unless_ended end s next)
within-unless_ended None s next p q = q
within-unless_ended (Some why) s next p q = p

within-turn : (code : List ℕ) (writes : List Write) → All IsWrite writes → (s : Running) → Within s → Within (turn code writes s)
unfolding turn
within-turn code writes given s w =
    let o = step code (found writes s) in
    within-unless_ended s.end s (makes s o) w
    (within-told s o.machine (step_keeps_bounds code (found writes s) (found-bounded writes given s w.machine)) w.inputs o.event)

-- ---- the journal

abbrev BoundedIn : List Entry → Type 0
BoundedIn js = (k : ℕ) (e : Entry) → slice_get js k ≡ Some e → IsEntryBounded e

entry-bounded : (code : List ℕ) (writes : List Write) → All IsWrite writes → (s : Running) → Within s → (e : Entry) → EntryIs code writes s e → IsEntryBounded e
entry-bounded code writes given s w e is =
    let before : IsBounded e.found = subst IsBounded (sym is.found) (found-bounded writes given s w.machine) in
    let next = (within-turn code writes given s w).machine in
    let behind : IsBounded (record (turn code writes s).machine { memory = e.found.memory }) = record { x = next.x; sp = next.sp; pc = next.pc; bytes = before.bytes } in
    record {
      found = before;
      left = subst (λ (r : Regs). IsBounded (record e.found { regs = r })) (sym is.left) behind;
    }

bounded-from : (code : List ℕ) (writes : List Write) → All IsWrite writes → (s : Running) → Within s → (others : List Entry) (o : Option Entry) → entry code writes s ≡ o → BoundedIn others → BoundedIn (from_entry o others)
bounded-from code writes given s w others None was rest k e h = absurd (cc)
bounded-from code writes given s w others (Some first) was rest zero e h = entry-bounded code writes given s w e (entry-is code writes s e (was ∙ h))
bounded-from code writes given s w others (Some first) was rest (suc k) e h = rest k e h

bounded : (code : List ℕ) (writes : List Write) → All IsWrite writes → (n : ℕ) (s : Running) → Within s → BoundedIn (journal_from code writes n s)
unfolding journal_from
bounded code writes given zero s w k e h = absurd (cc)
bounded code writes given (suc n) s w k e h =
    bounded-from code writes given s w (journal_from code writes n (turn code writes s)) (entry code writes s) refl
    (bounded code writes given n (turn code writes s) (within-turn code writes given s w)) k e h

started-within : (image : Image) (inputs : List ℤ) → All (FitsSigned w64) inputs → Within (started image inputs)
started-within image inputs h =
    record { machine = record { x = λ _. lit< tt; sp = lit< tt; pc = lit< tt; bytes = start-bytes image.words }; inputs = h }

pub journal_is_bounded : JournalIsBounded
journal_is_bounded image inputs writes n k e given h =
    bounded image.code writes given.writes_fit n (started image inputs) (started-within image inputs given.inputs_fit) k e h
