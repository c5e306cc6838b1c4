-- Locals and globals have values of their types, also where one is assigned.
use Rattle.std.proofs.Common.{◌≡◌, ◌<◌, ◌≤◌, ℕ, zero, suc, Bool, true, false, cond, ◌&&◌, List, [], ◌∷◌, length, map, get_or, take, inl, inr, Option, option_map, Some, None, refl, sym, ap, subst, ◌∙◌}
use Rattle.std.proofs.Common.{arith, eqb, lit<, length-take-le, ltb, ◌-◌}
use Rattle.std.specs.Prelude.{slice_get}
use Rattle.std.proofs.lemmas.{Bool.and_from, Bool.eq-eqb, Bool.and_parts, Bool.eqb-true, Bool.cases_lt, List.get_or_past, List.length-map}
use Rattle.oat_ir.specs.{declared.program.Program.Program, declared.program.GlobalItem.GlobalItem, declared.program.GlobalItem.TheVariants.Scalar, declared.program.GlobalItem.TheVariants.FnScalar}
use Rattle.oat_ir.specs.{declared.program.GlobalItem.TheVariants.Array, declared.program.GlobalItem.TheVariants.CriticalArray, declared.func.Func.Func, declared.func.Local.Local, declared.func.Ty.Ty}
use Rattle.oat_ir.specs.{declared.func.Ty.TheVariants.I64, declared.func.Ty.TheVariants.Fn}
use Rattle.oat_check.specs.{Globals.Values, Globals.first_values, Globals.of_global, Globals.put, Globals.size_in_words, Globals.start_of, Globals.word_values, Keeping.AreGlobals, Keeping.AreLocals}
use Rattle.oat_check.specs.{Keeping.IsValue, Keeping.ReferencesAreKnown, Keeping.WordsAreTyped, Keeping.item_ty, Keeping.word_ty, Rules.are_alike, Rules.are_as, Rules.hold_numbers, Rules.local_ty}
use Rattle.oat_check.specs.{Rules.parameters, Rules.passes, Rules.scalar_ty, Rules.takes_numbers, Steps.assigned}
use Rattle.oat_check.proofs.{Checking.same_ty, Checking.has_ty, Bounds.number_small}

pub zero_value : (p : Program) (ty : Ty) → IsValue p ty 0
zero_value p I64 = lit< tt
zero_value p (Fn k) = inl refl

-- ---- one is assigned

pub locals_assigned : (p : Program) (f : Func) (locals : ℕ → ℕ) (x value : ℕ) (ty : Ty) → AreLocals p f locals → local_ty f x ≡ Some ty → IsValue p ty value → AreLocals p f (assigned locals x value)
locals_assigned p f locals x value ty held is good i t at = by (eqb i x) refl where
  by : (b : Bool) → eqb i x ≡ b → IsValue p t (cond b value (locals i))
  by true same =
      let e : i ≡ x = eqb-true i x same in
      let g : local_ty f i ≡ Some ty = ap (local_ty f) e ∙ is in
      let h : ty ≡ t = cc in
      subst (λ (u : Ty). IsValue p u value) h good
  by false other = held i t at

pub globals_put : (p : Program) (values : Values) (g i value : ℕ) (item : GlobalItem) → AreGlobals p values → slice_get p.globals g ≡ Some item → IsValue p (item_ty item) value → AreGlobals p (put values g i value)
globals_put p values g i value item held is good h x at j = by (eqb h g) refl where
  here : h ≡ g → IsValue p (item_ty x) value
  here e =
      let k : slice_get p.globals h ≡ Some item = ap (slice_get p.globals) e ∙ is in
      let same : item ≡ x = cc in
      subst (λ (y : GlobalItem). IsValue p (item_ty y) value) same good

  by : (b : Bool) → eqb h g ≡ b → IsValue p (item_ty x) (cond (b && eqb j i) value (values h j))
  by false other = held h x at j
  by true same = inner (eqb j i) where
    inner : (c : Bool) → IsValue p (item_ty x) (cond c value (values h j))
    inner true = here (eqb-true h g same)
    inner false = held h x at j

pub first_globals : (p : Program) → AreGlobals p (first_values p)
first_globals p g item is i = subst (λ (o : Option GlobalItem). IsValue p (item_ty item) (of_global start_of o)) (sym is) (by item) where
  by : (x : GlobalItem) → IsValue p (item_ty x) (start_of x)
  by (Scalar name start critical) = number_small start
  by (FnScalar name params) = inl refl
  by (Array name len) = lit< tt
  by (CriticalArray name len) = lit< tt

-- a scalar's type is that of what it holds
pub scalar_item : (item : GlobalItem) (ty : Ty) → scalar_ty item ≡ Some ty → item_ty item ≡ ty
scalar_item (Scalar name start critical) ty h = cc
scalar_item (FnScalar name params) ty h = cc
scalar_item (Array name len) ty h = absurd (cc)
scalar_item (CriticalArray name len) ty h = absurd (cc)

-- ---- arguments

slice_get-take : {X : Type 0} (n : ℕ) (xs : List X) (i : ℕ) → i < n → slice_get (take n xs) i ≡ slice_get xs i
slice_get-take zero xs i l = absurd (omega arith)
slice_get-take (suc n) [] i l = refl
slice_get-take (suc n) (x ∷ xs) zero l = refl
slice_get-take (suc n) (x ∷ xs) (suc i) l = slice_get-take n xs i (omega arith)

args_fit : (p : Program) (f : Func) (locals : ℕ → ℕ) → AreLocals p f locals → (args : List ℕ) (params : List Local) → are_as f args params ≡ true → length args ≡ length params
    → (i : ℕ) (param : Local) → slice_get params i ≡ Some param → IsValue p param.ty (get_or (map locals args) i 0)
args_fit p f locals held args [] h same i param is = absurd (cc)
args_fit p f locals held [] (q ∷ params) h same i param is = absurd (omega arith)
args_fit p f locals held (x ∷ args) (q ∷ params) h same zero param is =
    let e : q ≡ param = cc in
    subst (λ (l : Local). IsValue p l.ty (locals x)) e (held x q.ty (has_ty (local_ty f x) q.ty (and_parts _ _ h).0))
args_fit p f locals held (x ∷ args) (q ∷ params) h same (suc i) param is =
    args_fit p f locals held args params (and_parts _ _ h).1 (let e : suc (length args) ≡ suc (length params) = same in omega arith) i param is

-- a function that starts with its arguments
pub locals_entered : (p : Program) (f callee : Func) (locals : ℕ → ℕ) (args : List ℕ) → AreLocals p f locals → are_as f args (parameters callee) ≡ true → callee.params ≤ length callee.locals → length args ≡ callee.params
    → AreLocals p callee (λ i. get_or (map locals args) i 0)
locals_entered p f callee locals args held typed room count i ty at = elim (cases_lt i callee.params) as (λ _. IsValue p ty (get_or (map locals args) i 0)) [
  | inl low ↦ given (slice_get callee.locals i) refl at low
  | inr high ↦ subst (IsValue p ty) (sym (get_or_past (map locals args) i 0 (let e : length (map locals args) ≡ length args = length-map args locals in omega arith))) (zero_value p ty)
] where
  given : (o : Option Local) → slice_get callee.locals i ≡ o → option_map (λ l. l.ty) o ≡ Some ty → i < callee.params → IsValue p ty (get_or (map locals args) i 0)
  given None is h low = absurd (cc)
  given (Some l) is h low =
      let e : l.ty ≡ ty = cc in
      subst (λ (t : Ty). IsValue p t (get_or (map locals args) i 0)) e
      (args_fit p f locals held args (parameters callee) typed (count ∙ sym (length-take-le callee.params callee.locals room)) i l (slice_get-take callee.params callee.locals i low ∙ is))

-- numbers are arguments of a function that takes numbers
pub numbers_as : (f : Func) (args : List ℕ) (params : List Local) → hold_numbers f args ≡ true → takes_numbers params ≡ true → are_as f args params ≡ true
numbers_as f [] params h k = refl
numbers_as f (x ∷ xs) [] h k = refl
numbers_as f (x ∷ xs) (param ∷ params) h k =
    let a = and_parts _ _ h in
    let b = and_parts _ _ k in
    subst (λ (t : Ty). (are_alike (local_ty f x) (Some t) && are_as f xs params) ≡ true) (sym (same_ty param.ty I64 b.0))
    (subst (λ (c : Bool). (c && are_as f xs params) ≡ true) (sym a.0) (numbers_as f xs params a.1 b.1))

-- ---- as a compiler asks

pub references_are_known : ReferencesAreKnown
references_are_known p k value (inl null) = inl null
references_are_known p k value (inr t) = inr (and_from _ _ (ap (passes (λ f. eqb f.params k)) t.is ∙ eq-eqb t.callee.params k t.params) t.referenced)

typed_in : (p : Program) (items : List GlobalItem) (values : Values) → ((g : ℕ) (item : GlobalItem) → slice_get items g ≡ Some item → (i : ℕ) → IsValue p (item_ty item) (values g i))
    → (n value : ℕ) → word_values items values n ≡ Some value → (ty : Ty) × (word_ty items n ≡ Some ty) × IsValue p ty value
typed_in p [] values held n value is = absurd (cc)
typed_in p (x ∷ xs) values held n value is = by (ltb n (size_in_words x)) (λ k. typed_in p xs (λ g. values (suc g)) (λ g item at i. held (suc g) item at i) (n - size_in_words x) value k) is where
  by : (t : Bool) → (word_values xs (λ g. values (suc g)) (n - size_in_words x) ≡ Some value → (ty : Ty) × (word_ty xs (n - size_in_words x) ≡ Some ty) × IsValue p ty value)
      → cond t (Some (values 0 n)) (word_values xs (λ g. values (suc g)) (n - size_in_words x)) ≡ Some value
      → (ty : Ty) × (cond t (Some (item_ty x)) (word_ty xs (n - size_in_words x)) ≡ Some ty) × IsValue p ty value
  by true rest h = let e : values 0 n ≡ value = cc in (item_ty x, refl, subst (IsValue p (item_ty x)) e (held 0 x refl n))
  by false rest h = rest h

pub words_are_typed : WordsAreTyped
words_are_typed p values held n value is = typed_in p p.globals values held n value is
