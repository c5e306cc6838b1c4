-- A text of the grammar is read: behind its tokens the machine is between items, and has those of its tree. So a list of tokens has one tree.
use Rattle.std.proofs.Common.{◌≡◌, ℕ, ◌+◌, ◌<◌, ◌≤◌, Bool, true, false, List, [], ◌∷◌, ◌++◌, length, length-append, Some, refl, sym, ◌∙◌, ap, arith}
use Rattle.std.specs.Prelude.{nat_lt, ℤ, codes}
use Rattle.std.proofs.lemmas.List.{append_assoc, append-nil}
use Rattle.std.proofs.lemmas.Bool.Decides.{nat_tests}
use Rattle.oat_ir.specs.declared.func.Role.{Role}
use Rattle.oat_ir.specs.declared.func.Role.TheVariants.{Plain, Operation, Main}
use Rattle.oat_grammar.specs.declared.token.Mark.TheVariants as mark
use Rattle.oat_grammar.specs.declared.token.Token.{Token}
use Rattle.oat_grammar.specs.declared.token.Token.TheVariants.{Fixed}
use Rattle.oat_tree.specs.Syntax.{Word, Body, Item, global, function}
use Rattle.oat_grammar.specs.Grammar.{IsStart, plain, minus, names_behind, names, IsBody, IsItem, scalar, array, critical_array, plain_function, operation, main, IsText, nothing, next}
use Rattle.oat_grammar.specs.Machine.{in_function, at_first, at_comma, at_body, at_start, scalar_item, between, heading, goes}
use Rattle.oat_grammar.proofs.ExprsRead.{regroup}
use Rattle.oat_grammar.proofs.StmtsRead.{body, body_again}

few : (n : ℕ) → n < 4 → nat_lt n 4 ≡ true
few n h = grind (arith, nat_tests)

counts : (xs : List Word) (x : Word) → length (xs ++ x ∷ []) ≡ length xs + 1
counts xs x = length-append xs (x ∷ [])

adds : (ys : List Word) → length ys + 0 ≤ 4 → length ys ≤ 4
adds ys h = omega arith

-- names with commas up to the bracket
params_behind : (is : List Item) (r : Role) (x : Word) (before xs : List Word) (rest : List Token) → length before + length xs ≤ 4
    → goes (names_behind xs ++ Fixed mark.CloseRound ∷ rest) (heading is (at_comma r x before)) ≡ goes rest (heading is (at_body r x (before ++ xs)))
params_behind is r x before [] rest h = ap (λ (ys : List Word). goes rest (heading is (at_body r x ys))) (sym (append-nil before))
params_behind is r x before (y ∷ xs) rest h =
    rw (few (length before) (omega arith)) (
    params_behind is r x (before ++ y ∷ []) xs rest (omega (arith, counts before y))
    ∙ ap (λ (ys : List Word). goes rest (heading is (at_body r x ys))) (append_assoc before (y ∷ []) xs))

params : (is : List Item) (r : Role) (x : Word) (xs : List Word) (rest : List Token) → length xs ≤ 4
    → goes (names xs ++ Fixed mark.CloseRound ∷ rest) (heading is (at_first r x)) ≡ goes rest (heading is (at_body r x xs))
params is r x [] rest h = refl
params is r x (y ∷ xs) rest h = params_behind is r x (y ∷ []) xs rest (omega arith)

-- the start of a scalar, and the end of its item
start : {ts : List Token} {value : ℤ} → IsStart ts value → (is : List Item) (c : Bool) (x : Word) (rest : List Token)
    → goes (ts ++ Fixed mark.Semicolon ∷ [] ++ rest) (heading is (at_start c x)) ≡ goes rest (between (is ++ global (scalar_item c x value) ∷ []))
start (plain n) is c x rest = refl
start (minus n) is c x rest = refl

function_body : {ts : List Token} {b : Body} → IsBody ts b → (is : List Item) (r : Role) (x : Word) (xs : List Word) (rest : List Token)
    → goes (ts ++ rest) (heading is (at_body r x xs)) ≡ goes rest (between (is ++ function (record { name = x; role = r; params = xs; body = b }) ∷ []))
function_body {ts} {b} d is r x xs rest =
    body d is (in_function r x xs) rest (heading is (at_body r x xs)) refl
    ∙ ap (λ (a : Body). goes rest (between (is ++ function (record { name = x; role = r; params = xs; body = a }) ∷ []))) (body_again b)

function_read : {ts : List Token} {b : Body} → IsBody ts b → (is : List Item) (r : Role) (x : Word) (xs : List Word) (rest : List Token) → length xs ≤ 4
    → goes (names xs ++ Fixed mark.CloseRound ∷ ts ++ rest) (heading is (at_first r x)) ≡ goes rest (between (is ++ function (record { name = x; role = r; params = xs; body = b }) ∷ []))
function_read {ts} {b} d is r x xs rest h =
    regroup (names xs) (Fixed mark.CloseRound ∷ ts) rest (heading is (at_first r x))
    ∙ params is r x xs (ts ++ rest) h
    ∙ function_body d is r x xs rest

item : {ts : List Token} {i : Item} → IsItem ts i → (is : List Item) (rest : List Token) → goes (ts ++ rest) (between is) ≡ goes rest (between (is ++ i ∷ []))
item (scalar true x d) is rest = start d is true x rest
item (scalar false x d) is rest = start d is false x rest
item (array x n) is rest = refl
item (critical_array x n) is rest = refl
item (plain_function x xs h d) is rest = function_read d is Plain x xs rest h
item (operation n x xs h d) is rest = function_read d is (Operation n) x xs rest h
item (main d) is rest = function_body d is Main (codes "main") [] rest

pub text : {ts : List Token} {js : List Item} → IsText ts js → (is : List Item) (rest : List Token) → goes (ts ++ rest) (between is) ≡ goes rest (between (is ++ js))
text nothing is rest = ap (λ (ks : List Item). goes rest (between ks)) (sym (append-nil is))
text (next {us} {i} {vs} {is = js} d ds) is rest =
    regroup us vs rest (between is)
    ∙ item d is (vs ++ rest)
    ∙ text ds (is ++ i ∷ []) rest
    ∙ ap (λ (ks : List Item). goes rest (between ks)) (append_assoc is (i ∷ []) js)

-- every text of the grammar is read
pub text_read : {ts : List Token} {js : List Item} → IsText ts js → goes ts (between []) ≡ Some (between js)
text_read {ts} {js} d = ap (λ xs. goes xs (between [])) (sym (append-nil ts)) ∙ text d [] []

same_place : (a b : List Item) → Some (between a) ≡ Some (between b) → a ≡ b
same_place a b e = cc

-- and it has one tree
pub one_tree : {ts : List Token} {a b : List Item} → IsText ts a → IsText ts b → a ≡ b
one_tree {ts} {a} {b} d e = same_place a b (sym (text_read d) ∙ text_read e)
