-- In an image with the shape no branch bit directly follows another, nor an indirect target another: each has its transfer behind it.
use Rattle.std.proofs.Common.{◌≡◌, ℕ, ◌+◌, ◌*◌, ◌%◌, ◌^◌, ◌<◌, ◌≤◌, ◌&&◌, ◌||◌, Bool, true, leb, ltb, List, [], ◌∷◌, length, Some, refl, sym, ap, ◌∙◌, inl, inr, arith, mod-eq_of_lt}
use Rattle.std.specs.Prelude.{IsTrue}
use Rattle.std.proofs.lemmas.Bool.{cases_lt, and_parts, or_cases, ltb-true}
use Rattle.oat_shape.specs.{Ret, Groups.Stands, Groups.IsGroup, Shape.IsShaped, Shape.Covers}
use Rattle.oat_shape.proofs.Laid.{laid}
use Rattle.oat_journal.specs.{Inst, Svc, instruction_at, next_pc, Row, Jump, Branch, Call, ICall, Begin, End, UseCell, DefCell, UseAt, DefAt, Check, address_of, Image, IsWellFormedImage}
use Rattle.oat_device.specs.Standing.{IsSpaced}

-- ---- monitor calls in a group

-- the instruction at a place of a group is the group's
own : (code : List ℕ) (pc q : ℕ) (i j : Inst) → Stands code pc i → pc ≡ q → Stands code q j → i ≡ j
own code pc q i j here e there = let both : Some i ≡ Some j = sym here ∙ ap (instruction_at code) e ∙ there in cc

-- a monitor call of number 3 or 4 at some place, and another one behind it
record Twice (code : List ℕ) (pc number : ℕ) : Type 0 where
  here : Stands code pc (Svc number)
  next : Stands code (next_pc pc) (Svc number)
  least : 3 ≤ number
  most : number ≤ 4
  aligned : pc % 4 ≡ 0
  low : pc < 2 ^ 32

-- no monitor call of number 3 or 4
abbrev is_other : Inst → Bool
is_other (Svc number) = ltb number 3 || ltb 4 number
is_other _ = true

-- of each two neighbours one is none, and so is the last one
abbrev are_apart : List Inst → Bool
are_apart [] = true
are_apart (i ∷ []) = is_other i
are_apart (i ∷ j ∷ is) = (is_other i || is_other j) && are_apart (j ∷ is)

other : (code : List ℕ) (pc number : ℕ) (i : Inst) → Twice code pc number → Svc number ≡ i → is_other i ≡ true → ⊥
other code pc number i t same apart =
    let least = t.least in
    let most = t.most in
    let is : (ltb number 3 || ltb 4 number) ≡ true = ap is_other same ∙ apart in
    elim (or_cases (ltb number 3) (ltb 4 number) is) [ inl low ↦ absurd (let l = ltb-true number 3 low in omega arith) | inr high ↦ absurd (let h = ltb-true 4 number high in omega arith) ]

-- instructions that stand one behind the other, so many bytes behind an address
abbrev AllStand : List ℕ → ℕ → ℕ → List Inst → Type 0
AllStand code at bytes [] = Unit {0}
AllStand code at bytes (i ∷ is) = Stands code (at + bytes) i × AllStand code at (bytes + 4) is

module _ (code : List ℕ) (pc number : ℕ) (t : Twice code pc number) (at : ℕ) (aligned : at % 4 ≡ 0) where
  here-is : (bytes : ℕ) → bytes % 4 ≡ 0 → at + bytes ≤ pc → pc < at + bytes + 4 → pc ≡ at + bytes
  here-is bytes words above below = let place = t.aligned in omega arith

  behind-is : (bytes : ℕ) → pc ≡ at + bytes → next_pc pc ≡ at + (bytes + 4)
  behind-is bytes e =
      let low = t.low in
      let next : next_pc pc ≡ pc + 4 = mod-eq_of_lt (omega arith) in
      omega arith

  not-among : (bytes : ℕ) (is : List Inst) → bytes % 4 ≡ 0 → AllStand code at bytes is → are_apart is ≡ true → at + bytes ≤ pc → pc < at + bytes + 4 * length is → ⊥
  not-among bytes [] words stand apart above below = absurd (omega arith)
  not-among bytes (i ∷ []) words stand apart above below =
      let e = here-is bytes words above (omega arith) in
      other code pc number i t (own code pc (at + bytes) (Svc number) i t.here e stand.0) apart
  not-among bytes (i ∷ j ∷ is) words stand apart above below =
      let parts = and_parts (is_other i || is_other j) (are_apart (j ∷ is)) apart in
      elim (cases_lt pc (at + bytes + 4)) [
        | inl front ↦
            let e = here-is bytes words above front in
            elim (or_cases (is_other i) (is_other j) parts.0) [
              | inl first ↦ other code pc number i t (own code pc (at + bytes) (Svc number) i t.here e stand.0) first
              | inr second ↦ other code pc number j t (own code (next_pc pc) (at + (bytes + 4)) (Svc number) j t.next (behind-is bytes e) stand.1.0) second
            ]
        | inr rest ↦ not-among (bytes + 4) (j ∷ is) (omega arith) stand.1 parts.1 (omega arith) (omega arith)
      ]

  not-in-group : (i : Inst) (is : List Inst) → Stands code at i → AllStand code at 4 is → are_apart (i ∷ is) ≡ true → at ≤ pc → pc < at + 4 * length (i ∷ is) → ⊥
  not-in-group i is first rest apart above below =
      let zero : at + 0 ≡ at = omega arith in
      not-among 0 (i ∷ is) refl (rw zero first, rest) apart (omega arith) (omega arith)

-- the group's first word
at-first : (code cells : List ℕ) (row : Row) → ((p : ℕ) (i : Inst) → Stands code p i → (p % 4 ≡ 0) × (p < 2 ^ 32)) → IsGroup code cells row → address_of row % 4 ≡ 0
at-first code cells (Jump at to) coded g = (coded at _ g.1).0
at-first code cells (Branch at taken other) coded g = (coded at _ g.0).0
at-first code cells (Call at to) coded g = (coded at _ g.1).0
at-first code cells (ICall at params) coded g = (coded at _ g.0).0
at-first code cells (Ret at) coded g = (coded at _ g.0).0
at-first code cells (Begin at op) coded g = (coded at _ g.0).0
at-first code cells (End at op) coded g = (coded at _ g.0).0
at-first code cells (UseCell at cell) coded g = (coded at _ g.2.0.0).0
at-first code cells (DefCell at cell) coded g = (coded at _ g.2.0.0).0
at-first code cells (UseAt at cell len) coded g = (coded at _ g.2.0.0).0
at-first code cells (DefAt at cell len) coded g = (coded at _ g.2.0.0).0
at-first code cells (Check at) coded g = elim g.0 [ inl test ↦ (coded at _ test.1).0 | inr test ↦ (coded at _ test.1).0 ]

apart-from : (code cells : List ℕ) (row : Row) (pc number : ℕ) → address_of row % 4 ≡ 0 → IsGroup code cells row → Covers row pc → Twice code pc number → ⊥
apart-from code cells (Jump at to) pc number a g c t = not-in-group code pc number t at a _ [] g.1 tt refl c.0 c.1
apart-from code cells (Call at to) pc number a g c t = not-in-group code pc number t at a _ [] g.1 tt refl c.0 c.1
apart-from code cells (Branch at taken others) pc number a g c t =
    not-in-group code pc number t at a (Svc 3) (_ ∷ _ ∷ []) g.0 (g.1.1, (g.2.1, tt)) refl c.0 c.1
apart-from code cells (ICall at params) pc number a g c t = not-in-group code pc number t at a (Svc 4) (_ ∷ []) g.0 (g.1, tt) refl c.0 c.1
apart-from code cells (Ret at) pc number a g c t = not-in-group code pc number t at a (Svc 5) (_ ∷ []) g.0 (g.1, tt) refl c.0 c.1
apart-from code cells (Begin at op) pc number a g c t = not-in-group code pc number t at a _ (Svc 1 ∷ []) g.0 (g.1, tt) refl c.0 c.1
apart-from code cells (End at op) pc number a g c t = not-in-group code pc number t at a _ (Svc 2 ∷ []) g.0 (g.1, tt) refl c.0 c.1
apart-from code cells (UseCell at cell) pc number a g c t =
    not-in-group code pc number t at a _ (_ ∷ _ ∷ _ ∷ Svc 7 ∷ []) g.2.0.0 (g.2.0.1, (g.2.1, (g.2.2, (g.2.3, tt)))) refl c.0 c.1
apart-from code cells (DefCell at cell) pc number a g c t =
    not-in-group code pc number t at a _ (_ ∷ _ ∷ _ ∷ Svc 6 ∷ []) g.2.0.0 (g.2.0.1, (g.2.1, (g.2.2, (g.2.3, tt)))) refl c.0 c.1
apart-from code cells (UseAt at cell len) pc number a g c t =
    let test = g.2.0 in
    let moves = g.2.1 in
    let twenty : at + 16 + 4 ≡ at + 20 = omega arith in
    not-in-group code pc number t at a _ (_ ∷ _ ∷ _ ∷ _ ∷ _ ∷ _ ∷ _ ∷ _ ∷ Svc 7 ∷ []) test.0
    (test.1, (test.2, (test.3, (moves.0, (rw twenty at moves.1, (g.2.2, (g.2.3, (g.2.4, (g.2.5, tt))))))))) refl c.0 c.1
apart-from code cells (DefAt at cell len) pc number a g c t =
    let test = g.2.0 in
    let moves = g.2.1 in
    let twenty : at + 16 + 4 ≡ at + 20 = omega arith in
    not-in-group code pc number t at a _ (_ ∷ _ ∷ _ ∷ _ ∷ _ ∷ _ ∷ _ ∷ _ ∷ Svc 6 ∷ []) test.0
    (test.1, (test.2, (test.3, (moves.0, (rw twenty at moves.1, (g.2.2, (g.2.3, (g.2.4, (g.2.5, tt))))))))) refl c.0 c.1
apart-from code cells (Check at) pc number a g c t =
    elim g.0 [
      | inl test ↦ not-in-group code pc number t at a _ (_ ∷ []) test.1 (g.1.1, tt) refl c.0 c.1
      | inr test ↦ not-in-group code pc number t at a _ (_ ∷ []) test.1 (g.1.1, tt) refl c.0 c.1
    ]

spaced : (image : Image) (number : ℕ) → IsWellFormedImage image → IsShaped image → 3 ≤ number → number ≤ 4
    → IsTrue (leb 1 number && leb number 7) → IsSpaced image.code number
spaced image number fit shaped least most seen pc here next =
    let coded = (laid image fit shaped).coded in
    let place = coded pc (Svc number) here in
    let row = (shaped.grouped pc).transfers (Svc number) here seen in
    let group = (shaped.grouped (address_of row.0)).groups row.0 row.1 refl in
    apart-from image.code image.cells row.0 pc number (at-first image.code image.cells row.0 coded group) group row.2
    (record { here = here; next = next; least = least; most = most; aligned = place.0; low = place.1 })

pub bits_spaced : (image : Image) → IsWellFormedImage image → IsShaped image → IsSpaced image.code 3
bits_spaced image fit shaped = spaced image 3 fit shaped (omega arith) (omega arith) refl

pub targets_spaced : (image : Image) → IsWellFormedImage image → IsShaped image → IsSpaced image.code 4
targets_spaced image fit shaped = spaced image 4 fit shaped (omega arith) (omega arith) refl
