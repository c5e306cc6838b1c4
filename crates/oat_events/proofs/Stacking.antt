-- Events whose calls stack: the path of each call goes back as it called, and the calls that have completed are the first ones.
use Rattle.std.proofs.Common.{◌≡◌, ◌+◌, ℕ, zero, suc, Bool, true, false, cond, eqb, ltb, List, [], ◌∷◌, ◌++◌, Option, Some, None, refl, sym, ap, subst, ◌∙◌, inl, inr, arith}
use Rattle.std.specs.List.{filter_map, list_any, count_by}
use Rattle.std.proofs.lemmas.{Bool.cases_Bool, Bool.cases_lt, Bool.eqb-true, Bool.eqb-false, Bool.eq-eqb, Bool.lt-ltb, Bool.le-ltb, List.Sums.sum_by-cons}
use Rattle.oat_map.specs.Turns.{GoesBack, Turn, Turned, pops, pushes, stays, strays}
use Rattle.oat_events.specs.{Cells.Cells, Cells.defined, Events.Active, Events.Passes, Events.SourceEvent, Events.Stacks, Events.enters, Events.is_entered, Events.is_left, Events.leaves, Events.loads}
use Rattle.oat_events.specs.{Events.outputs, Events.stores, Events.takes, Source.edge_taken, Source.stretch, Windows.beyond, Windows.is_closed, Windows.through}
use Rattle.oat_events.proofs.Windowing.{beyond_none, closed_none, first_closed}

abbrev active : {P : Type 0} → ℕ → List P → Option (Active P)
active op calls = Some (record { op = op; calls = calls })

none : (k : ℕ) → 0 + k ≡ k
none k = omega arith

turned-on : {P : Type 0} (calls : List P) (turn : Turn P) (One Other : List P → Type 0) → ((later : List P) → One later → Other later) → Turned calls turn One → Turned calls turn Other
turned-on calls (pushes back) One Other on t = on (calls ++ back ∷ []) t
turned-on calls (pops back) One Other on (others, is, t) = (others, is, on others t)
turned-on calls stays One Other on t = on calls t
turned-on calls strays One Other on t = absurd t

-- whatever an edge does, the rest goes on with some calls
turn-some : {P : Type 0} (calls : List P) (turn : Turn P) (Rest : List P → Type 0) → Turned calls turn Rest → (later : List P) × Rest later
turn-some calls (pushes back) Rest t = (calls ++ back ∷ [], t)
turn-some calls (pops back) Rest (others, is, t) = (others, t)
turn-some calls stays Rest t = (calls, t)
turn-some calls strays Rest t = absurd t

-- ---- up to where the operation is entered

entered : {E P : Type 0} (turn : E → Turn P) (op : ℕ) (es : List (SourceEvent E)) (now later : Option (Active P)) → Stacks turn now es later
    → list_any (is_left op) (beyond (is_entered op) es) ≡ true → Stacks turn (active op []) (beyond (is_entered op) es) later
entered turn op [] now later st closed = absurd (cc)
entered turn op (takes e ∷ es) None later st closed = entered turn op es None later st closed
entered turn op (takes e ∷ es) (Some a) later st closed =
    let on = turn-some a.calls (turn e) (λ calls. Stacks turn (active a.op calls) es later) st in
    entered turn op es (active a.op on.0) later on.1 closed
entered turn op (enters other ∷ es) now later st closed =
    elim (cases_Bool (eqb other op)) [
      | inl hit ↦ rw hit (subst (λ (o : ℕ). Stacks turn (active o []) es later) (eqb-true other op hit) st.1)
      | inr off ↦ rw off (entered turn op es (active other []) later st.1 (rw off at closed))
    ]
entered turn op (leaves other ∷ es) now later st closed = entered turn op es None later st.1 closed
entered turn op (loads cell value ∷ es) now later st closed = entered turn op es now later st closed
entered turn op (stores cell value ∷ es) now later st closed = entered turn op es now later st closed
entered turn op (outputs value ∷ es) now later st closed = entered turn op es now later st closed

-- ---- up to where it is left

some-same : {X : Type 0} (a b : X) → Some a ≡ Some b → a ≡ b
some-same a b h = cc

same-op : {P : Type 0} (op other : ℕ) (calls others : List P) → active op calls ≡ active other others → (op ≡ other) × (calls ≡ others)
same-op {P} op other calls others h =
    let same : record { op = op; calls = calls } ≡ record { op = other; calls = others } = some-same _ _ h in
    (ap (λ (a : Active P). a.op) same, ap (λ (a : Active P). a.calls) same)

left-behind : {E P : Type 0} (turn : E → Turn P) (op : ℕ) (calls : List P) (es : List (SourceEvent E)) (later : Option (Active P))
    → Stacks turn (active op calls) es later → list_any (is_left op) es ≡ true → Stacks turn None (beyond (is_left op) es) later
left-behind turn op calls [] later st closed = absurd (cc)
left-behind turn op calls (takes e ∷ es) later st closed =
    let on = turn-some calls (turn e) (λ next. Stacks turn (active op next) es later) st in
    left-behind turn op on.0 es later on.1 closed
left-behind turn op calls (enters other ∷ es) later st closed = let no : active op calls ≡ None = st.0 in absurd (cc)
left-behind turn op calls (leaves other ∷ es) later st closed =
    let same = same-op op other calls [] st.0 in
    rw (eq-eqb other op (sym same.0)) st.1
left-behind turn op calls (loads cell value ∷ es) later st closed = left-behind turn op calls es later st closed
left-behind turn op calls (stores cell value ∷ es) later st closed = left-behind turn op calls es later st closed
left-behind turn op calls (outputs value ∷ es) later st closed = left-behind turn op calls es later st closed

left-path : {E P : Type 0} (turn : E → Turn P) (finish : ℕ → E) → ((op : ℕ) → turn (finish op) ≡ stays) → (op : ℕ) (calls : List P) (es : List (SourceEvent E)) (later : Option (Active P))
    → Stacks turn (active op calls) es later → list_any (is_left op) es ≡ true → GoesBack turn calls (filter_map (edge_taken finish op) (through (is_left op) es))
left-path turn finish end op calls [] later st closed = absurd (cc)
left-path turn finish end op calls (takes e ∷ es) later st closed =
    turned-on calls (turn e) (λ next. Stacks turn (active op next) es later) (λ next. GoesBack turn next (filter_map (edge_taken finish op) (through (is_left op) es)))
    (λ next rest. left-path turn finish end op next es later rest closed) st
left-path turn finish end op calls (enters other ∷ es) later st closed = let no : active op calls ≡ None = st.0 in absurd (cc)
left-path {E} turn finish end op calls (leaves other ∷ es) later st closed =
    let same = same-op op other calls [] st.0 in
    let hit = eq-eqb other op (sym same.0) in
    let path : filter_map (edge_taken finish op) (through (is_left op) (leaves other ∷ es)) ≡ finish op ∷ [] = rw (hit, hit) refl in
    subst (GoesBack turn calls) (sym path) (subst (λ (t : Turn _). Turned calls t (λ rest. GoesBack turn rest [])) (sym (end op)) same.1)
left-path turn finish end op calls (loads cell value ∷ es) later st closed = left-path turn finish end op calls es later st closed
left-path turn finish end op calls (stores cell value ∷ es) later st closed = left-path turn finish end op calls es later st closed
left-path turn finish end op calls (outputs value ∷ es) later st closed = left-path turn finish end op calls es later st closed

-- ---- call s

pub goes_back_in : {E P : Type 0} (turn : E → Turn P) (finish : ℕ → E) → ((op : ℕ) → turn (finish op) ≡ stays) → (es : List (SourceEvent E)) (later : Option (Active P)) → Stacks turn None es later
    → (op s : ℕ) → is_closed (is_entered op) (is_left op) s es ≡ true → GoesBack turn [] (filter_map (edge_taken finish op) (stretch op s es))
goes_back_in turn finish end es later st op zero closed =
    left-path turn finish end op [] (beyond (is_entered op) es) later (entered turn op es None later st closed) closed
goes_back_in turn finish end es later st op (suc s) closed =
    let first = first_closed (is_entered op) (is_left op) s es closed in
    goes_back_in turn finish end (beyond (is_left op) (beyond (is_entered op) es)) later
    (left-behind turn op [] (beyond (is_entered op) es) later (entered turn op es None later st first) first) op s closed

-- ---- how many calls have completed

count-cons : {X : Type 0} (t : X → Bool) (x : X) (xs : List X) → count_by t (x ∷ xs) ≡ cond (t x) 1 0 + count_by t xs
count-cons t x xs = sum_by-cons (λ x. cond (t x) 1 0) x xs

count-skip : {X : Type 0} (t : X → Bool) (x : X) (xs : List X) → t x ≡ false → count_by t (x ∷ xs) ≡ count_by t xs
count-skip t x xs off = count-cons t x xs ∙ ap (λ (b : Bool). cond b 1 0 + count_by t xs) off ∙ none (count_by t xs)

count-hit : {X : Type 0} (t : X → Bool) (x : X) (xs : List X) → t x ≡ true → count_by t (x ∷ xs) ≡ suc (count_by t xs)
count-hit t x xs on = count-cons t x xs ∙ ap (λ (b : Bool). cond b 1 0 + count_by t xs) on ∙ one (count_by t xs) where
  one : (n : ℕ) → 1 + n ≡ suc n
  one n = omega arith

any-counts : {X : Type 0} (t : X → Bool) (xs : List X) → list_any t xs ≡ true → count_by t xs ≡ suc (count_by t (beyond t xs))
any-counts t [] h = absurd (cc)
any-counts t (x ∷ xs) h = elim (cases_Bool (t x)) [
  | inl hit ↦ count-hit t x xs hit ∙ sym (ap (λ (b : Bool). suc (count_by t (cond b xs (beyond t xs)))) hit)
  | inr off ↦ count-skip t x xs off ∙ any-counts t xs (rw off at h) ∙ sym (ap (λ (b : Bool). suc (count_by t (cond b xs (beyond t xs)))) off)
]

none-counts : {X : Type 0} (t : X → Bool) (xs : List X) → list_any t xs ≡ false → count_by t xs ≡ 0
none-counts t [] h = refl
none-counts t (x ∷ xs) h = elim (cases_Bool (t x)) [
  | inl hit ↦ let no : true ≡ false = rw hit at h in absurd (cc)
  | inr off ↦ count-skip t x xs off ∙ none-counts t xs (rw off at h)
]

-- the operation isn't the active one
IsIdle : {P : Type 0} → ℕ → Option (Active P) → Type 0
IsIdle {P} op now = (calls : List P) → now ≡ active op calls → ⊥

idle-none : (P : Type 0) (op : ℕ) → IsIdle {P = P} op None
unfolding IsIdle
idle-none P op calls h = cc

idle-apart : {P : Type 0} (op other : ℕ) (calls : List P) → (other ≡ op → ⊥) → IsIdle op (active other calls)
unfolding IsIdle
idle-apart op other calls apart others h = apart (same-op other op calls others h).0

idle-on : {P : Type 0} (op : ℕ) (a : Active P) (later : List P) → IsIdle op (Some a) → IsIdle op (active a.op later)
unfolding IsIdle
idle-on {P} op a later idle others h =
    let e : a.op ≡ op = (same-op a.op op later others h).0 in
    idle a.calls (ap (λ (o : ℕ). active o a.calls) e)

idle-no : {P : Type 0} (op : ℕ) (now : Option (Active P)) (calls : List P) → IsIdle op now → now ≡ active op calls → ⊥
unfolding IsIdle
idle-no op now calls idle h = idle calls h

-- before it is entered, it isn't left
idle-counts : {E P : Type 0} (turn : E → Turn P) (op : ℕ) (es : List (SourceEvent E)) (now later : Option (Active P)) → Stacks turn now es later → IsIdle op now
    → count_by (is_left op) es ≡ count_by (is_left op) (beyond (is_entered op) es)
idle-counts turn op [] now later st idle = refl
idle-counts turn op (takes e ∷ es) None later st idle = count-skip (is_left op) (takes e) es refl ∙ idle-counts turn op es None later st idle
idle-counts turn op (takes e ∷ es) (Some a) later st idle =
    let on = turn-some a.calls (turn e) (λ calls. Stacks turn (active a.op calls) es later) st in
    count-skip (is_left op) (takes e) es refl ∙ idle-counts turn op es (active a.op on.0) later on.1 (idle-on op a on.0 idle)
idle-counts {E} turn op (enters other ∷ es) now later st idle = elim (cases_Bool (eqb other op)) [
  | inl hit ↦ count-skip (is_left op) (enters other) es refl ∙ sym (ap (λ (b : Bool). count_by (is_left op) (cond b es (beyond (is_entered op) es))) hit)
  | inr off ↦
      count-skip (is_left op) (enters other) es refl ∙ idle-counts turn op es (active other []) later st.1 (idle-apart op other [] (eqb-false other op off))
      ∙ sym (ap (λ (b : Bool). count_by (is_left op) (cond b es (beyond (is_entered op) es))) off)
]
idle-counts turn op (leaves other ∷ es) now later st idle = elim (cases_Bool (eqb other op)) [
  | inl hit ↦ absurd (idle-no op now [] idle (st.0 ∙ ap (λ (o : ℕ). active o []) (eqb-true other op hit)))
  | inr off ↦ count-skip (is_left op) (leaves other) es off ∙ idle-counts turn op es None later st.1 (idle-none _ op)
]
idle-counts turn op (loads cell value ∷ es) now later st idle = count-skip (is_left op) (loads cell value) es refl ∙ idle-counts turn op es now later st idle
idle-counts turn op (stores cell value ∷ es) now later st idle = count-skip (is_left op) (stores cell value) es refl ∙ idle-counts turn op es now later st idle
idle-counts turn op (outputs value ∷ es) now later st idle = count-skip (is_left op) (outputs value) es refl ∙ idle-counts turn op es now later st idle

any-is : {X : Type 0} (t : X → Bool) (xs : List X) → list_any t xs ≡ ltb 0 (count_by t xs)
any-is t xs = elim (cases_Bool (list_any t xs)) [
  | inl any ↦ any ∙ sym (lt-ltb 0 (count_by t xs) (let e : count_by t xs ≡ suc (count_by t (beyond t xs)) = any-counts t xs any in omega arith))
  | inr none ↦ none ∙ sym (le-ltb 0 (count_by t xs) (let e : count_by t xs ≡ 0 = none-counts t xs none in omega arith))
]

pub calls_counted : {E P : Type 0} (turn : E → Turn P) (es : List (SourceEvent E)) (later : Option (Active P)) → Stacks turn None es later
    → (op s : ℕ) → is_closed (is_entered op) (is_left op) s es ≡ ltb s (count_by (is_left op) es)
calls_counted turn es later st op zero = any-is (is_left op) (beyond (is_entered op) es) ∙ sym (ap (ltb 0) (idle-counts turn op es None later st (idle-none _ op)))
calls_counted turn es later st op (suc s) = elim (cases_Bool (list_any (is_left op) (beyond (is_entered op) es))) [
  | inl any ↦
      let rest = left-behind turn op [] (beyond (is_entered op) es) later (entered turn op es None later st any) any in
      let e : count_by (is_left op) es ≡ suc (count_by (is_left op) (beyond (is_left op) (beyond (is_entered op) es))) =
      idle-counts turn op es None later st (idle-none _ op) ∙ any-counts (is_left op) (beyond (is_entered op) es) any in
      calls_counted turn (beyond (is_left op) (beyond (is_entered op) es)) later rest op s ∙ next s _ _ e
  | inr none ↦
      let e : count_by (is_left op) es ≡ 0 = idle-counts turn op es None later st (idle-none _ op) ∙ none-counts (is_left op) (beyond (is_entered op) es) none in
      ap (is_closed (is_entered op) (is_left op) s) (beyond_none (is_left op) (beyond (is_entered op) es) none) ∙ closed_none (is_entered op) (is_left op) s
      ∙ sym (le-ltb (suc s) (count_by (is_left op) es) (omega arith))
] where
  next : (s m n : ℕ) → n ≡ suc m → ltb s m ≡ ltb (suc s) n
  next s m n e = elim (cases_lt s m) [
    | inl less ↦ lt-ltb s m less ∙ sym (lt-ltb (suc s) n (omega arith))
    | inr more ↦ le-ltb s m more ∙ sym (le-ltb (suc s) n (omega arith))
  ]

-- ---- one behind the other

pub stacks_join : {E P : Type 0} (turn : E → Turn P) (front rest : List (SourceEvent E)) (now middle later : Option (Active P)) → Stacks turn now front middle → Stacks turn middle rest later → Stacks turn now (front ++ rest) later
stacks_join {E} {P} turn [] rest now middle later one two = subst (λ (a : Option (Active P)). Stacks turn a rest later) (sym one) two
stacks_join turn (takes e ∷ es) rest None middle later one two = stacks_join turn es rest None middle later one two
stacks_join turn (takes e ∷ es) rest (Some a) middle later one two =
    turned-on a.calls (turn e) (λ next. Stacks turn (active a.op next) es middle) (λ next. Stacks turn (active a.op next) (es ++ rest) later)
    (λ next on. stacks_join turn es rest (active a.op next) middle later on two) one
stacks_join turn (enters op ∷ es) rest now middle later one two = (one.0, stacks_join turn es rest (active op []) middle later one.1 two)
stacks_join turn (leaves op ∷ es) rest now middle later one two = (one.0, stacks_join turn es rest None middle later one.1 two)
stacks_join turn (loads cell value ∷ es) rest now middle later one two = stacks_join turn es rest now middle later one two
stacks_join turn (stores cell value ∷ es) rest now middle later one two = stacks_join turn es rest now middle later one two
stacks_join turn (outputs value ∷ es) rest now middle later one two = stacks_join turn es rest now middle later one two

pub passes_join : {E : Type 0} (front rest : List (SourceEvent E)) (a b c : Option ℕ) (x y z : Cells) → Passes a x front b y → Passes b y rest c z → Passes a x (front ++ rest) c z
passes_join [] rest a b c x y z one two =
    subst (λ (o : Option ℕ). Passes o x rest c z) (sym one.0) (subst (λ (w : Cells). Passes b w rest c z) (sym one.1) two)
passes_join (takes e ∷ es) rest a b c x y z one two = passes_join es rest a b c x y z one two
passes_join (enters op ∷ es) rest a b c x y z one two = (one.0, passes_join es rest (Some op) b c x y z one.1 two)
passes_join (leaves op ∷ es) rest a b c x y z one two = (one.0, passes_join es rest None b c x y z one.1 two)
passes_join (loads cell value ∷ es) rest a b c x y z one two = (one.0, passes_join es rest a b c x y z one.1 two)
passes_join (stores cell value ∷ es) rest a b c x y z one two = passes_join es rest a b c (defined x cell value) y z one two
passes_join (outputs value ∷ es) rest a b c x y z one two = passes_join es rest a b c x y z one two

pub passes_part : {E : Type 0} (front rest : List (SourceEvent E)) (now later : Option ℕ) (cells behind : Cells) → Passes now cells (front ++ rest) later behind
    → (middle : Option ℕ) × (between : Cells) × Passes now cells front middle between × Passes middle between rest later behind
passes_part [] rest now later cells behind h = (now, cells, (refl, refl), h)
passes_part (takes edge ∷ es) rest now later cells behind h = let w = passes_part es rest now later cells behind h in (w.0, w.1, w.2, w.3)
passes_part (enters op ∷ es) rest now later cells behind h = let w = passes_part es rest (Some op) later cells behind h.1 in (w.0, w.1, (h.0, w.2), w.3)
passes_part (leaves op ∷ es) rest now later cells behind h = let w = passes_part es rest None later cells behind h.1 in (w.0, w.1, (h.0, w.2), w.3)
passes_part (loads cell value ∷ es) rest now later cells behind h = let w = passes_part es rest now later cells behind h.1 in (w.0, w.1, (h.0, w.2), w.3)
passes_part (stores cell value ∷ es) rest now later cells behind h = let w = passes_part es rest now later (defined cells cell value) behind h in (w.0, w.1, w.2, w.3)
passes_part (outputs value ∷ es) rest now later cells behind h = let w = passes_part es rest now later cells behind h in (w.0, w.1, w.2, w.3)
