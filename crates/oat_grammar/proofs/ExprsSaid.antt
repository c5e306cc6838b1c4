-- A token in an expression leads to a place that says what the tokens up to it are.
use Rattle.std.proofs.Common.{◌≡◌, ℕ, zero, nat_eq, zero-add, lit≤, suc, ◌+◌, ◌≤◌, ◌<◌, Bool, true, false, List, [], ◌∷◌, ◌++◌, length, length-append, Option, Some, None, refl, sym, ◌∙◌, ap, subst, arith}
use Rattle.oat_tree.specs.Levels.{level}
use Rattle.std.specs.Prelude.{nat_le, nat_lt, if◌then◌else◌}
use Rattle.std.specs.Option.{option_map, option_and_then}
use Rattle.std.proofs.lemmas.List.{append_assoc}
use Rattle.std.proofs.lemmas.Bool.{leb-true, eqb-true}
use Rattle.std.proofs.lemmas.Bool.Decides.{nat_tests}
use Rattle.oat_grammar.specs.declared.token.Mark.{Mark}
use Rattle.oat_grammar.specs.declared.token.Mark.TheVariants as mark
use Rattle.oat_tree.specs.declared.operator.Operator.{Operator}
use Rattle.oat_tree.specs.declared.operator.Operator.TheVariants.{Equal, Unequal, Less, AtMost, Greater, AtLeast, BitOr, BitXor, BitAnd, ShiftLeft, ShiftRight, Plus, Minus, Times, Quotient, Remainder}
use Rattle.oat_grammar.specs.declared.token.Token.{Token}
use Rattle.oat_grammar.specs.declared.token.Token.TheVariants.{Named, Number, Fixed, Sign}
use Rattle.oat_tree.specs.Syntax.{Word, Expr, negative, binary, Exprs, exprs_of_list}
use Rattle.oat_grammar.specs.Grammar.{IsUnary, negated, IsJoined, alone, joined, IsExpr, IsArguments, some, IsListed, last, more}
use Rattle.oat_grammar.specs.Machine.{Pending, bottom, minus_before, left_of, in_brackets, index_of, argument_of, Use, Place, mark_number, is_fixed, wants, wants_name, wants_number, settled, argument_next}
use Rattle.oat_grammar.proofs.ExprsRead.{one_more, exprs_of_more, unbound}
use Rattle.oat_grammar.proofs.Said.{ArgumentsBefore, need, Opened, Settled}

-- ---- what a step gave

pub none_some : {X : Type 0} {x : X} → None ≡ Some x → ⊥
none_some h = cc

pub some_is : {X : Type 0} {x y : X} → Some x ≡ Some y → x ≡ y
some_is h = cc

pub map_some : {A B : Type 0} (x : Option A) (f : A → B) (y : B) → option_map f x ≡ Some y → (a : A) × (x ≡ Some a) × (f a ≡ y)
map_some (Some a) f y h = (a, refl, some_is h)
map_some None f y h = absurd (none_some h)

pub then_some : {A B : Type 0} (x : Option A) (f : A → Option B) (y : B) → option_and_then f x ≡ Some y → (a : A) × (x ≡ Some a) × (f a ≡ Some y)
then_some (Some a) f y h = (a, refl, h)
then_some None f y h = absurd (none_some h)

pub giving : {X : Type 0} (P : X → Type 0) {x y : X} → Some x ≡ Some y → P x → P y
giving P h p = subst P (some_is h) p

abbrev mark_at : ℕ → Mark
mark_at n = if nat_eq n 0 then mark.Global else (if nat_eq n 1 then mark.Critical else (if nat_eq n 2 then mark.Array else (if nat_eq n 3 then mark.Fn else (if nat_eq n 4 then mark.Operation else (if nat_eq n 5 then mark.Main else (if nat_eq n 6 then mark.Var else (if nat_eq n 7 then mark.If else (if nat_eq n 8 then mark.Else else (if nat_eq n 9 then mark.While else (if nat_eq n 10 then mark.Out else (if nat_eq n 11 then mark.Return else (if nat_eq n 12 then mark.Halt else (if nat_eq n 13 then mark.In else (if nat_eq n 14 then mark.Assign else (if nat_eq n 15 then mark.Semicolon else (if nat_eq n 16 then mark.Comma else (if nat_eq n 17 then mark.OpenRound else (if nat_eq n 18 then mark.CloseRound else (if nat_eq n 19 then mark.OpenSquare else (if nat_eq n 20 then mark.CloseSquare else (if nat_eq n 21 then mark.OpenBrace else (mark.CloseBrace))))))))))))))))))))))

mark_again : (m : Mark) → mark_at (mark_number m) ≡ m
mark_again mark.Global = refl
mark_again mark.Critical = refl
mark_again mark.Array = refl
mark_again mark.Fn = refl
mark_again mark.Operation = refl
mark_again mark.Main = refl
mark_again mark.Var = refl
mark_again mark.If = refl
mark_again mark.Else = refl
mark_again mark.While = refl
mark_again mark.Out = refl
mark_again mark.Return = refl
mark_again mark.Halt = refl
mark_again mark.In = refl
mark_again mark.Assign = refl
mark_again mark.Semicolon = refl
mark_again mark.Comma = refl
mark_again mark.OpenRound = refl
mark_again mark.CloseRound = refl
mark_again mark.OpenSquare = refl
mark_again mark.CloseSquare = refl
mark_again mark.OpenBrace = refl
mark_again mark.CloseBrace = refl

same_mark : (m n : Mark) → mark_number m ≡ mark_number n → m ≡ n
same_mark m n h = sym (mark_again m) ∙ ap (λ (k : ℕ). mark_at k) h ∙ mark_again n

fixed_is : (m : Mark) (t : Token) → is_fixed m t ≡ true → t ≡ Fixed m
fixed_is m (Named x) h = cc
fixed_is m (Number n) h = cc
fixed_is m (Sign o) h = cc
fixed_is m (Fixed n) h = ap Fixed (same_mark n m (sym (eqb-true (mark_number m) (mark_number n) h)))

pub chosen_some : {X : Type 0} (b : Bool) (x y : X) → (if b then Some x else None) ≡ Some y → (b ≡ true) × (x ≡ y)
chosen_some true x y h = (refl, some_is h)
chosen_some false x y h = absurd (none_some h)

pub wanting : (m : Mark) (t : Token) (p q : Place) (P : Token → Place → Type 0) → wants m t p ≡ Some q → P (Fixed m) p → P t q
wanting m t p q P h r =
    let c = chosen_some (is_fixed m t) p q h in
    subst (λ u. P u q) (sym (fixed_is m t c.0)) (subst (λ x. P (Fixed m) x) c.1 r)

pub naming : (t : Token) (p : Word → Place) (q : Place) (P : Token → Place → Type 0) → wants_name t p ≡ Some q → ((x : Word) → P (Named x) (p x)) → P t q
naming (Named x) p q P h r = giving (P (Named x)) h (r x)
naming (Number n) p q P h r = absurd (none_some h)
naming (Fixed m) p q P h r = absurd (none_some h)
naming (Sign o) p q P h r = absurd (none_some h)

pub numbering : (t : Token) (p : ℕ → Place) (q : Place) (P : Token → Place → Type 0) → wants_number t p ≡ Some q → ((n : ℕ) → P (Number n) (p n)) → P t q
numbering (Number n) p q P h r = giving (P (Number n)) h (r n)
numbering (Named x) p q P h r = absurd (none_some h)
numbering (Fixed m) p q P h r = absurd (none_some h)
numbering (Sign o) p q P h r = absurd (none_some h)

-- ---- levels

pub level_low : (o : Operator) → level o ≤ 6
level_low Equal = lit≤ tt
level_low Unequal = lit≤ tt
level_low Less = lit≤ tt
level_low AtMost = lit≤ tt
level_low Greater = lit≤ tt
level_low AtLeast = lit≤ tt
level_low BitOr = lit≤ tt
level_low BitXor = lit≤ tt
level_low BitAnd = lit≤ tt
level_low ShiftLeft = lit≤ tt
level_low ShiftRight = lit≤ tt
level_low Plus = lit≤ tt
level_low Minus = lit≤ tt
level_low Times = lit≤ tt
level_low Quotient = lit≤ tt
level_low Remainder = lit≤ tt

pub looser : {l : ℕ} {ts : List Token} {e : Expr} → IsJoined l ts e → (k : ℕ) → k ≤ l → IsJoined k ts e
looser (alone d) k le = alone d
looser (joined {l} o up da db) k le = joined o (omega arith) da db

pub unary_of : {l : ℕ} {ts : List Token} {e : Expr} → IsJoined l ts e → 7 ≤ l → IsUnary ts e
unary_of (alone d) le = d
unary_of (joined {l} o up da db) le = absurd (let low : level o ≤ 6 = level_low o in omega arith)

-- ---- lists of tokens

pub snoc : {ts : List Token} (us vs : List Token) (t : Token) → ts ≡ us ++ vs → ts ++ t ∷ [] ≡ us ++ (vs ++ t ∷ [])
snoc us vs t h = ap (λ xs. xs ++ t ∷ []) h ∙ append_assoc us vs (t ∷ [])

pub inner : {ts ws : List Token} (us vs xs : List Token) → ts ≡ ws ++ xs → ws ≡ us ++ vs → ts ≡ us ++ (vs ++ xs)
inner us vs xs h i = h ∙ ap (λ ys. ys ++ xs) i ∙ append_assoc us vs xs

-- ---- operands that settle

settles_left : (b : Bool) (u : Use) (l : ℕ) (op : Operator) (a : Expr) (p : Pending) (e : Expr) (us vs ts : List Token)
    → nat_le l (level op) ≡ b
    → Opened u (left_of op a p) us → IsJoined (suc (level op)) vs e → IsJoined l vs e → ts ≡ us ++ vs
    → (l ≤ level op → Settled u l (settled l p (binary op a e)) ts)
    → Settled u l (if b then settled l p (binary op a e) else unbound e (left_of op a p)) ts
settles_left true u l op a p e us vs ts is o d tight cut deeper = deeper (leb-true l (level op) is)
settles_left false u l op a p e us vs ts is o d tight cut deeper = record {
  before = us;
  own = vs;
  opened = o;
  fits = d;
  tight = tight;
  needs = grind (arith, nat_tests);
  cut = cut;
}

pub settles : (u : Use) (l : ℕ) (p : Pending) (e : Expr) (us vs ts : List Token) → Opened u p us → IsJoined (need p) vs e → IsJoined l vs e → l ≤ 6 → ts ≡ us ++ vs → Settled u l (settled l p e) ts
settles u l bottom e us vs ts o d tight le cut = record { before = us; own = vs; opened = o; fits = d; tight = tight; needs = omega arith; cut = cut }
settles u l (in_brackets p) e us vs ts o d tight le cut = record { before = us; own = vs; opened = o; fits = d; tight = tight; needs = omega arith; cut = cut }
settles u l (index_of x p) e us vs ts o d tight le cut = record { before = us; own = vs; opened = o; fits = d; tight = tight; needs = omega arith; cut = cut }
settles u l (argument_of f es p) e us vs ts o d tight le cut = record { before = us; own = vs; opened = o; fits = d; tight = tight; needs = omega arith; cut = cut }
settles u l (minus_before p) e us vs ts o d tight le cut =
    let n : IsUnary (Sign Minus ∷ vs) (negative e) = negated (unary_of d (omega arith)) in
    settles u l p (negative e) o.0 (Sign Minus ∷ vs) ts o.1 (alone n) (alone n) le (inner o.0 (Sign Minus ∷ []) vs cut o.2)
settles u l (left_of op a p) e us vs ts o d tight le cut =
    settles_left (nat_le l (level op)) u l op a p e us vs ts refl o d tight cut (λ low.
    settles u l p (binary op a e) o.0 (o.1 ++ Sign op ∷ vs) ts o.2 (joined op o.4 o.3 d) (joined op low o.3 d) le
    (inner o.0 (o.1 ++ Sign op ∷ []) vs cut o.5 ∙ ap (λ xs. o.0 ++ xs) (append_assoc o.1 (Sign op ∷ []) vs)))

-- ---- arguments

widen : {n : ℕ} {ts : List Token} {es : Exprs} → IsListed n ts es → (m : ℕ) → n ≤ m → IsListed m ts es
widen (last {n} d) zero le = absurd (omega arith)
widen (last {n} d) (suc m) le = last d
widen (more {n} d ds) zero le = absurd (omega arith)
widen (more {n} d ds) (suc m) le = more d (widen ds m (omega arith))

pub no_arguments_before : ArgumentsBefore [] []
no_arguments_before = record { few = omega arith; empty = λ h. refl; extends = λ {n} {us} {fs} d. subst (λ k. IsListed k us fs) (sym (zero-add n)) d }

never_empty : (es : List Expr) (e : Expr) → es ++ e ∷ [] ≡ [] → ⊥
never_empty [] e h = cc
never_empty (d ∷ es) e h = cc

counts : (es : List Expr) (e : Expr) (n : ℕ) → length es + suc n ≡ length (es ++ e ∷ []) + n
counts es e n = omega (arith, length-append es (e ∷ []))

relist : {m n : ℕ} {us vs : List Token} {es fs : Exprs} → m ≡ n → us ≡ vs → es ≡ fs → IsListed m us es → IsListed n vs fs
relist {m} {n} {us} {vs} {es} {fs} h i j d = subst (λ k. IsListed k vs fs) h (subst (λ xs. IsListed m xs fs) i (subst (λ gs. IsListed m us gs) j d))

pub argument_more : (es : List Expr) (us : List Token) (e : Expr) (vs : List Token) → ArgumentsBefore es us → IsExpr vs e → length es < 3 → ArgumentsBefore (es ++ e ∷ []) (us ++ (vs ++ Fixed mark.Comma ∷ []))
argument_more es us e vs a d h = record {
  few = omega (arith, length-append es (e ∷ []));
  empty = λ i. absurd (never_empty es e i);
  extends = λ {n} {us = ws} {fs} ds. relist (counts es e n)
      (sym (append_assoc us (vs ++ Fixed mark.Comma ∷ []) ws ∙ ap (λ xs. us ++ xs) (append_assoc vs (Fixed mark.Comma ∷ []) ws)))
      (sym (one_more es e fs)) (a.extends (more d ds));
}

pub arguments_whole : (es : List Expr) (us : List Token) (e : Expr) (vs : List Token) → ArgumentsBefore es us → IsExpr vs e → IsArguments (us ++ vs) (exprs_of_list (es ++ e ∷ []))
arguments_whole es us e vs a d = some (widen (relist refl refl (sym (exprs_of_more es e)) (a.extends (last {n = 0} d))) 4 (omega (arith, a.few)))

few_is : (n : ℕ) → nat_lt n 3 ≡ true → n < 3
few_is n h = grind (arith, nat_tests)

pub arguing : (es : List Expr) (onward closed : List Expr → Place) (e : Expr) (t : Token) (q : Place) (P : Token → Place → Type 0) → argument_next es onward closed e t ≡ Some q
    → (length es < 3 → P (Fixed mark.Comma) (onward (es ++ e ∷ []))) → P (Fixed mark.CloseRound) (closed (es ++ e ∷ [])) → P t q
arguing es onward closed e (Fixed mark.Comma) q P h r s =
    let c = chosen_some (nat_lt (length es) 3) (onward (es ++ e ∷ [])) q h in
    subst (λ x. P (Fixed mark.Comma) x) c.1 (r (few_is (length es) c.0))
arguing es onward closed e (Fixed mark.CloseRound) q P h r s = giving (P (Fixed mark.CloseRound)) h s
arguing es onward closed e _ q P h r s = absurd (none_some h)
