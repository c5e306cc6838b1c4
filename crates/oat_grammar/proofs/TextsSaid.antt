-- The tokens up to a place are what the place says. So where the machine ends between items, they are a text of the grammar with these items.
use Rattle.std.proofs.Common.{◌≡◌, ℕ, ◌<◌, Bool, true, false, List, [], ◌∷◌, ◌++◌, length, length-append, Some, refl, sym, ap, subst, arith}
use Rattle.std.specs.Prelude.{nat_lt, pos, ◌-ℤ◌}
use Rattle.std.specs.Option.{option_map}
use Rattle.std.proofs.lemmas.List.{append_assoc, append-nil}
use Rattle.std.proofs.lemmas.Bool.Decides.{nat_tests}
use Rattle.oat_ir.specs.declared.func.Role.{Role}
use Rattle.oat_ir.specs.declared.func.Role.TheVariants.{Plain, Operation}
use Rattle.oat_ir.specs.declared.program.GlobalItem.{GlobalItem}
use Rattle.oat_grammar.specs.declared.token.Mark.TheVariants as mark
use Rattle.oat_tree.specs.declared.operator.Operator.TheVariants.{Minus}
use Rattle.oat_grammar.specs.declared.token.Token.{Token}
use Rattle.oat_grammar.specs.declared.token.Token.TheVariants.{Named, Number, Fixed, Sign}
use Rattle.oat_tree.specs.Syntax.{Word, Item, global, function}
use Rattle.oat_grammar.specs.Grammar.{names, names_behind, plain, minus, IsItem, scalar, array, critical_array, plain_function, operation, main, IsText, nothing}
use Rattle.oat_grammar.specs.Machine.{Heading, at_global, at_array, at_critical, at_equals, at_square, at_either, at_start, at_minus, at_length, at_closing, at_last, at_id, at_function, at_open, at_first, at_comma, at_param, at_body, Place, between, heading, inside, item_begins, either_next, start_next, first_next, comma_next, heading_next, scalar_item, array_item, next, goes}
use Rattle.oat_grammar.proofs.Said.{IsHead, Begins, Header, Said, array_word}
use Rattle.oat_grammar.proofs.ExprsSaid.{then_some, chosen_some, none_some, some_is, giving, wanting, naming, numbering, snoc}
use Rattle.oat_grammar.proofs.StmtsSaid.{text_more, body_opens, inside_said}

-- ---- heads

head_tokens : (us xs vs : List Token) → (us ++ (xs ++ Fixed mark.CloseRound ∷ [])) ++ vs ≡ us ++ (xs ++ Fixed mark.CloseRound ∷ vs)
head_tokens us xs vs = simp append_assoc

plain_begins : (x : Word) → Begins Plain x (Fixed mark.Fn ∷ Named x ∷ Fixed mark.OpenRound ∷ [])
plain_begins x xs few us b d = subst (λ (ys : List Token). IsItem ys (function (record { name = x; role = Plain; params = xs; body = b }))) (sym (head_tokens (Fixed mark.Fn ∷ Named x ∷ Fixed mark.OpenRound ∷ []) (names xs) us)) (plain_function x xs few d)

operation_begins : (n : ℕ) (x : Word) → Begins (Operation n) x (Fixed mark.Operation ∷ Number n ∷ Named x ∷ Fixed mark.OpenRound ∷ [])
operation_begins n x xs few us b d = subst (λ (ys : List Token). IsItem ys (function (record { name = x; role = Operation n; params = xs; body = b }))) (sym (head_tokens (Fixed mark.Operation ∷ Number n ∷ Named x ∷ Fixed mark.OpenRound ∷ []) (names xs) us)) (operation n x xs few d)

array_ends : (c : Bool) (x : Word) (n : ℕ) → IsItem (array_word c ∷ Named x ∷ Fixed mark.OpenSquare ∷ Number n ∷ Fixed mark.CloseSquare ∷ Fixed mark.Semicolon ∷ []) (global (array_item c x n))
array_ends true x n = critical_array x n
array_ends false x n = array x n

names_more : (xs : List Word) (y : Word) → 0 < length xs → names (xs ++ y ∷ []) ≡ names xs ++ Fixed mark.Comma ∷ Named y ∷ []
names_more [] y h = absurd (omega arith)
names_more (x ∷ xs) y h = ap (λ (ts : List Token). Named x ∷ ts) (behind xs)
  where
    behind : (xs : List Word) → names_behind (xs ++ y ∷ []) ≡ names_behind xs ++ Fixed mark.Comma ∷ Named y ∷ []
    behind [] = refl
    behind (x ∷ xs) = ap (λ (ts : List Token). Fixed mark.Comma ∷ Named x ∷ ts) (behind xs)

few_is : (n : ℕ) → nat_lt n 4 ≡ true → n < 4
few_is n h = grind (arith, nat_tests)

item_as : {us vs : List Token} {i : GlobalItem} → vs ≡ us → IsItem us (global i) → IsItem vs (global i)
item_as {i} h d = subst (λ (ys : List Token). IsItem ys (global i)) (sym h) d

-- one token more
more : {vs ws : List Token} (t : Token) → vs ≡ ws → vs ++ t ∷ [] ≡ ws ++ t ∷ []
more t h = ap (λ (xs : List Token). xs ++ t ∷ []) h

-- ---- headings

either_said : (is : List Item) (x : Word) (t : Token) (q : Place) (us vs : List Token) → IsText us is → Header (at_either x) vs → either_next is x t ≡ Some q → Said q (us ++ (vs ++ t ∷ []))
either_said is x (Fixed mark.Assign) q us vs d l h = giving (λ k. Said k (us ++ (vs ++ Fixed mark.Assign ∷ []))) h (us, vs ++ Fixed mark.Assign ∷ [], d, more (Fixed mark.Assign) l, refl)
either_said is x (Fixed mark.OpenSquare) q us vs d l h = giving (λ k. Said k (us ++ (vs ++ Fixed mark.OpenSquare ∷ []))) h (us, vs ++ Fixed mark.OpenSquare ∷ [], d, more (Fixed mark.OpenSquare) l, refl)
either_said is x _ q us vs d l h = absurd (none_some h)

start_said : (is : List Item) (c : Bool) (x : Word) (t : Token) (q : Place) (us vs : List Token) → IsText us is → Header (at_start c x) vs → start_next is c x t ≡ Some q → Said q (us ++ (vs ++ t ∷ []))
start_said is c x (Number n) q us vs d l h = giving (λ k. Said k (us ++ (vs ++ Number n ∷ []))) h
    (us, vs ++ Number n ∷ [], d, item_as (more (Fixed mark.Semicolon) (more (Number n) l)) (scalar c x (plain n)), refl)
start_said is c x (Sign Minus) q us vs d l h = giving (λ k. Said k (us ++ (vs ++ Sign Minus ∷ []))) h (us, vs ++ Sign Minus ∷ [], d, more (Sign Minus) l, refl)
start_said is c x _ q us vs d l h = absurd (none_some h)

first_said : (is : List Item) (r : Role) (x : Word) (t : Token) (q : Place) (us vs : List Token) → IsText us is → Header (at_first r x) vs → first_next is r x t ≡ Some q → Said q (us ++ (vs ++ t ∷ []))
first_said is r x (Named y) q us vs d l h = giving (λ k. Said k (us ++ (vs ++ Named y ∷ []))) h (us, vs ++ Named y ∷ [], d, (vs, l, omega arith, omega arith, refl), refl)
first_said is r x (Fixed mark.CloseRound) q us vs d l h = giving (λ k. Said k (us ++ (vs ++ Fixed mark.CloseRound ∷ []))) h (us, vs ++ Fixed mark.CloseRound ∷ [], d, l [] (omega arith), refl)
first_said is r x _ q us vs d l h = absurd (none_some h)

comma_said : (is : List Item) (r : Role) (x : Word) (xs : List Word) (t : Token) (q : Place) (us vs : List Token) → IsText us is → Header (at_comma r x xs) vs → comma_next is r x xs t ≡ Some q → Said q (us ++ (vs ++ t ∷ []))
comma_said is r x xs (Fixed mark.Comma) q us vs d l h =
    let c = chosen_some (nat_lt (length xs) 4) (heading is (at_param r x xs)) q h in
    subst (λ k. Said k (us ++ (vs ++ Fixed mark.Comma ∷ []))) c.1
    (us, vs ++ Fixed mark.Comma ∷ [], d, (l.0, l.1, l.2, few_is (length xs) c.0, snoc l.0 (names xs) (Fixed mark.Comma) l.4), refl)
comma_said is r x xs (Fixed mark.CloseRound) q us vs d l h = giving (λ k. Said k (us ++ (vs ++ Fixed mark.CloseRound ∷ []))) h
    (us, vs ++ Fixed mark.CloseRound ∷ [], d, subst (λ (ys : List Token). IsHead r x xs ys) (sym (snoc l.0 (names xs) (Fixed mark.CloseRound) l.4)) (l.1 xs l.3), refl)
comma_said is r x xs _ q us vs d l h = absurd (none_some h)

param_tokens : {vs : List Token} (us : List Token) (xs : List Word) (y : Word) → 0 < length xs → vs ≡ us ++ (names xs ++ Fixed mark.Comma ∷ []) → vs ++ Named y ∷ [] ≡ us ++ names (xs ++ y ∷ [])
param_tokens us xs y h i = rw (names_more xs y h, i) (simp append_assoc)

heading_said : (is : List Item) (i : Heading) (t : Token) (q : Place) (us vs : List Token) → IsText us is → Header i vs → heading_next is i t ≡ Some q → Said q (us ++ (vs ++ t ∷ []))
heading_said is at_global t q us vs d l h = naming t (λ x. heading is (at_equals x)) q (λ y k. Said k (us ++ (vs ++ y ∷ []))) h (λ x. (us, vs ++ Named x ∷ [], d, more (Named x) l, refl))
heading_said is at_array t q us vs d l h = naming t (λ x. heading is (at_square x)) q (λ y k. Said k (us ++ (vs ++ y ∷ []))) h (λ x. (us, vs ++ Named x ∷ [], d, more (Named x) l, refl))
heading_said is at_critical t q us vs d l h = naming t (λ x. heading is (at_either x)) q (λ y k. Said k (us ++ (vs ++ y ∷ []))) h (λ x. (us, vs ++ Named x ∷ [], d, more (Named x) l, refl))
heading_said is (at_equals x) t q us vs d l h = wanting mark.Assign t _ q (λ y k. Said k (us ++ (vs ++ y ∷ []))) h (us, vs ++ Fixed mark.Assign ∷ [], d, more (Fixed mark.Assign) l, refl)
heading_said is (at_square x) t q us vs d l h = wanting mark.OpenSquare t _ q (λ y k. Said k (us ++ (vs ++ y ∷ []))) h (us, vs ++ Fixed mark.OpenSquare ∷ [], d, more (Fixed mark.OpenSquare) l, refl)
heading_said is (at_either x) t q us vs d l h = either_said is x t q us vs d l h
heading_said is (at_start c x) t q us vs d l h = start_said is c x t q us vs d l h
heading_said is (at_minus c x) t q us vs d l h =
    numbering t (λ n. heading is (at_last (scalar_item c x (pos 0 -ℤ pos n)))) q (λ y k. Said k (us ++ (vs ++ y ∷ []))) h
    (λ n. (us, vs ++ Number n ∷ [], d, item_as (more (Fixed mark.Semicolon) (more (Number n) l)) (scalar c x (minus n)), refl))
heading_said is (at_length c x) t q us vs d l h = numbering t (λ n. heading is (at_closing c x n)) q (λ y k. Said k (us ++ (vs ++ y ∷ []))) h (λ n. (us, vs ++ Number n ∷ [], d, more (Number n) l, refl))
heading_said is (at_closing c x n) t q us vs d l h =
    wanting mark.CloseSquare t _ q (λ y k. Said k (us ++ (vs ++ y ∷ []))) h
    (us, vs ++ Fixed mark.CloseSquare ∷ [], d, item_as (more (Fixed mark.Semicolon) (more (Fixed mark.CloseSquare) l)) (array_ends c x n), refl)
heading_said is (at_last i) t q us vs d l h = wanting mark.Semicolon t _ q (λ y k. Said k (us ++ (vs ++ y ∷ []))) h (text_more d l)
heading_said is at_id t q us vs d l h =
    numbering t (λ n. heading is (at_function (Operation n))) q (λ y k. Said k (us ++ (vs ++ y ∷ []))) h
    (λ n. (us, vs ++ Number n ∷ [], d, (λ x. subst (λ (ys : List Token). Begins (Operation n) x ys) (sym (ap (λ (ys : List Token). (ys ++ Number n ∷ []) ++ Named x ∷ Fixed mark.OpenRound ∷ []) l)) (operation_begins n x)), refl))
heading_said is (at_function r) t q us vs d l h =
    naming t (λ x. heading is (at_open r x)) q (λ y k. Said k (us ++ (vs ++ y ∷ []))) h
    (λ x. (us, vs ++ Named x ∷ [], d, subst (λ (ys : List Token). Begins r x ys) (sym (append_assoc vs (Named x ∷ []) (Fixed mark.OpenRound ∷ []))) (l x), refl))
heading_said is (at_open r x) t q us vs d l h = wanting mark.OpenRound t _ q (λ y k. Said k (us ++ (vs ++ y ∷ []))) h (us, vs ++ Fixed mark.OpenRound ∷ [], d, l, refl)
heading_said is (at_first r x) t q us vs d l h = first_said is r x t q us vs d l h
heading_said is (at_comma r x xs) t q us vs d l h = comma_said is r x xs t q us vs d l h
heading_said is (at_param r x xs) t q us vs d l h =
    naming t (λ y. heading is (at_comma r x (xs ++ y ∷ []))) q (λ y k. Said k (us ++ (vs ++ y ∷ []))) h
    (λ y. (us, vs ++ Named y ∷ [], d, (l.0, l.1, omega (arith, length-append xs (y ∷ [])), omega (arith, length-append xs (y ∷ []), l.3), param_tokens l.0 xs y l.2 l.4), refl))
heading_said is (at_body r x xs) t q us vs d l h = wanting mark.OpenBrace t _ q (λ y k. Said k (us ++ (vs ++ y ∷ []))) h (body_opens (us, vs, d, l, refl))

between_said : (is : List Item) (t : Token) (q : Place) (us : List Token) → IsText us is → option_map (heading is) (item_begins t) ≡ Some q → Said q (us ++ t ∷ [])
between_said is (Fixed mark.Global) q us d h = giving (λ k. Said k (us ++ Fixed mark.Global ∷ [])) h (us, Fixed mark.Global ∷ [], d, refl, refl)
between_said is (Fixed mark.Critical) q us d h = giving (λ k. Said k (us ++ Fixed mark.Critical ∷ [])) h (us, Fixed mark.Critical ∷ [], d, refl, refl)
between_said is (Fixed mark.Array) q us d h = giving (λ k. Said k (us ++ Fixed mark.Array ∷ [])) h (us, Fixed mark.Array ∷ [], d, refl, refl)
between_said is (Fixed mark.Fn) q us d h = giving (λ k. Said k (us ++ Fixed mark.Fn ∷ [])) h (us, Fixed mark.Fn ∷ [], d, plain_begins, refl)
between_said is (Fixed mark.Operation) q us d h = giving (λ k. Said k (us ++ Fixed mark.Operation ∷ [])) h (us, Fixed mark.Operation ∷ [], d, refl, refl)
between_said is (Fixed mark.Main) q us d h = giving (λ k. Said k (us ++ Fixed mark.Main ∷ [])) h (us, Fixed mark.Main ∷ [], d, (λ vs b c. main c), refl)
between_said is _ q us d h = absurd (none_some h)

-- ---- the machine

pub next_said : (p : Place) (t : Token) (q : Place) (ts : List Token) → Said p ts → next p t ≡ Some q → Said q (ts ++ t ∷ [])
next_said (between is) t q ts s h = between_said is t q ts s h
next_said (heading is i) t q ts s h = subst (λ (xs : List Token). Said q xs) (sym (snoc s.0 s.1 t s.4)) (heading_said is i t q s.0 s.1 s.2 s.3 h)
next_said (inside is ss o i) t q ts s h = subst (λ (xs : List Token). Said q xs) (sym (snoc s.0 s.1 t s.4)) (inside_said is ss o i t q s.0 s.1 s.2 s.3 h)

pub goes_said : (ts : List Token) (p q : Place) (us : List Token) → Said p us → goes ts p ≡ Some q → Said q (us ++ ts)
goes_said [] p q us s h = subst (λ (xs : List Token). Said q xs) (sym (append-nil us)) (subst (λ k. Said k us) (some_is h) s)
goes_said (t ∷ ts) p q us s h =
    let c = then_some (next p t) (goes ts) q h in
    subst (λ (xs : List Token). Said q xs) (append_assoc us (t ∷ []) ts) (goes_said ts c.0 q (us ++ t ∷ []) (next_said p t c.0 us s c.1) c.2)

-- what is read is a text of the grammar
pub is_text : (ts : List Token) (is : List Item) → goes ts (between []) ≡ Some (between is) → IsText ts is
is_text ts is h = goes_said ts (between []) (between is) [] nothing h
