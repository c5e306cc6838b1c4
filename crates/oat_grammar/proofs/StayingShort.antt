-- A text whose statements have at most 255 nodes each never counts above 255 by its tokens.
use Rattle.std.proofs.Common.{◌≡◌, ℕ, ◌+◌, ◌≤◌, true, false, List, [], ◌∷◌, ◌++◌, length, refl, sym, subst, arith}
use Rattle.oat_tree.specs.Sizes.{expr_size, exprs_size}
use Rattle.std.proofs.lemmas.List.{append_assoc}
use Rattle.oat_ir.specs.declared.func.Role.TheVariants.{Main}
use Rattle.oat_grammar.specs.declared.token.Mark.TheVariants as mark
use Rattle.oat_grammar.specs.declared.token.Token.{Token}
use Rattle.oat_grammar.specs.declared.token.Token.TheVariants.{Fixed, Sign}
use Rattle.oat_tree.specs.Syntax.{Word, Expr, Exprs, Stmt, Body, Item}
use Rattle.oat_grammar.specs.Grammar.{IsUnary, numbered, named, indexed, called, taken, negated, bracketed, IsJoined, alone, joined, IsArguments, none, some, IsListed, last, more, IsStmt, declares, assigns, stores, chooses, chooses_else, repeats, puts, returns, halts, calls, IsStmts, empty, first, IsBody, braced, IsStart, plain, minus, names, names_behind, IsItem, scalar, array, critical_array, plain_function, operation, main, IsText, nothing, next}
use Rattle.oat_grammar.proofs.Rooms.{IsShort, AreShort, are_short}
use Rattle.oat_grammar.specs.Nodes.{IsShortItem, AllShort, Part, fresh, behind_var, behind_name, counted, nodes_in, part_next, StayShort}

-- the tokens in two groups
regrouped : (c : Part) (ts us vs : List Token) → StayShort c (ts ++ (us ++ vs)) → StayShort c ((ts ++ us) ++ vs)
regrouped c ts us vs h = subst (λ (xs : List Token). StayShort c xs) (sym (append_assoc ts us vs)) h

at_count : {m k : ℕ} (rest : List Token) → m ≡ k → StayShort (counted m) rest → StayShort (counted k) rest
at_count rest e h = subst (λ (x : ℕ). StayShort (counted x) rest) e h

mutual
  unary_stays : {ts : List Token} {e : Expr} → IsUnary ts e → (n : ℕ) (rest : List Token) → n + expr_size e ≤ 255 → StayShort (counted (n + expr_size e)) rest → StayShort (counted n) (ts ++ rest)
  unary_stays (numbered k) n rest few s = (few, s)
  unary_stays (named x) n rest few s = (few, s)
  unary_stays taken n rest few s = (few, s)
  unary_stays (indexed x {ts} {e} d) n rest few s = (
    omega arith,
    (
      omega arith,
      regrouped (counted (n + 1 + 0)) ts (Fixed mark.CloseSquare ∷ []) rest
          (joined_stays d (n + 1 + 0) (Fixed mark.CloseSquare ∷ rest) (omega arith) (omega arith, at_count _ (omega arith) s)),
    ),
  )
  unary_stays (called f {ts} {es} d) n rest few s = (
    omega arith,
    (
      omega arith,
      regrouped (counted (n + 1 + 0)) ts (Fixed mark.CloseRound ∷ []) rest
          (arguments_stay d (n + 1 + 0) (Fixed mark.CloseRound ∷ rest) (omega arith) (omega arith, at_count _ (omega arith) s)),
    ),
  )
  unary_stays (negated d) n rest few s = (omega arith, unary_stays d (n + 1) rest (omega arith) (at_count _ (omega arith) s))
  unary_stays (bracketed {ts} {e} d) n rest few s = (
    omega arith,
    regrouped (counted (n + 0)) ts (Fixed mark.CloseRound ∷ []) rest
        (joined_stays d (n + 0) (Fixed mark.CloseRound ∷ rest) (omega arith) (omega arith, at_count _ (omega arith) s)),
  )

  joined_stays : {k : ℕ} {ts : List Token} {e : Expr} → IsJoined k ts e → (n : ℕ) (rest : List Token) → n + expr_size e ≤ 255 → StayShort (counted (n + expr_size e)) rest → StayShort (counted n) (ts ++ rest)
  joined_stays (alone d) n rest few s = unary_stays d n rest few s
  joined_stays (joined op {us} {a} {vs} {b} up da db) n rest few s =
      regrouped (counted n) us (Sign op ∷ vs) rest
      (joined_stays da n (Sign op ∷ vs ++ rest) (omega arith) (omega arith, joined_stays db (n + expr_size a + 1) rest (omega arith) (at_count _ (omega arith) s)))

  arguments_stay : {ts : List Token} {es : Exprs} → IsArguments ts es → (n : ℕ) (rest : List Token) → n + exprs_size es ≤ 255 → StayShort (counted (n + exprs_size es)) rest → StayShort (counted n) (ts ++ rest)
  arguments_stay none n rest few s = at_count _ (omega arith) s
  arguments_stay (some d) n rest few s = listed_stay d n rest few s

  listed_stay : {k : ℕ} {ts : List Token} {es : Exprs} → IsListed k ts es → (n : ℕ) (rest : List Token) → n + exprs_size es ≤ 255 → StayShort (counted (n + exprs_size es)) rest → StayShort (counted n) (ts ++ rest)
  listed_stay (last d) n rest few s = joined_stays d n rest (omega arith) (at_count _ (omega arith) s)
  listed_stay (more {us} {e} {vs} {es} d ds) n rest few s =
      regrouped (counted n) us (Fixed mark.Comma ∷ vs) rest
      (joined_stays d n (Fixed mark.Comma ∷ vs ++ rest) (omega arith) (omega arith, listed_stay ds (n + expr_size e + 0) rest (omega arith) (at_count _ (omega arith) s)))

-- ---- statements

expr_stays : {ts : List Token} {e : Expr} → IsJoined 0 ts e → (n : ℕ) (us rest : List Token) → n + expr_size e ≤ 255 → StayShort (counted (n + expr_size e)) (us ++ rest) → StayShort (counted n) ((ts ++ us) ++ rest)
expr_stays {ts} d n us rest few s = regrouped (counted n) ts us rest (joined_stays d n (us ++ rest) few s)

mutual
  stmt_stays : {ts : List Token} {s : Stmt} → IsStmt ts s → (rest : List Token) → IsShort s → StayShort fresh rest → StayShort fresh (ts ++ rest)
  stmt_stays (declares x d) rest few s = (omega arith, (omega arith, (omega arith, expr_stays d (0 + 0) (Fixed mark.Semicolon ∷ []) rest (omega (arith, few)) (omega arith, s))))
  stmt_stays (assigns x d) rest few s = (omega arith, (omega arith, expr_stays d (0 + 0) (Fixed mark.Semicolon ∷ []) rest (omega (arith, few)) (omega arith, s)))
  stmt_stays (stores x {us} {e} {vs} {f} d c) rest few s = (
    omega arith,
    (
      omega arith,
      regrouped (counted (0 + 0)) (us ++ Fixed mark.CloseSquare ∷ Fixed mark.Assign ∷ vs) (Fixed mark.Semicolon ∷ []) rest
          (expr_stays d (0 + 0) (Fixed mark.CloseSquare ∷ Fixed mark.Assign ∷ vs) (Fixed mark.Semicolon ∷ rest) (omega (arith, few))
          (omega (arith, few), (omega (arith, few), joined_stays c (0 + 0 + expr_size e + 0 + 0) (Fixed mark.Semicolon ∷ rest) (omega (arith, few)) (omega arith, s)))),
    ),
  )
  stmt_stays (chooses {ts} d (braced {ts = ws} ds)) rest few s = (
    omega arith,
    expr_stays d (0 + 0) (Fixed mark.OpenBrace ∷ ws ++ Fixed mark.CloseBrace ∷ []) rest (omega (arith, few.0))
        (omega arith, regrouped fresh ws (Fixed mark.CloseBrace ∷ []) rest (stmts_stay ds (Fixed mark.CloseBrace ∷ rest) few.1 (omega arith, s))),
  )
  stmt_stays (chooses_else {ts} d (braced {ts = ws} ds) (braced {ts = xs} fs)) rest few s = (
    omega arith,
    regrouped (counted (0 + 0)) (ts ++ (Fixed mark.OpenBrace ∷ ws ++ Fixed mark.CloseBrace ∷ [])) (Fixed mark.Else ∷ Fixed mark.OpenBrace ∷ xs ++ Fixed mark.CloseBrace ∷ []) rest
        (expr_stays d (0 + 0) (Fixed mark.OpenBrace ∷ ws ++ Fixed mark.CloseBrace ∷ []) (Fixed mark.Else ∷ Fixed mark.OpenBrace ∷ xs ++ Fixed mark.CloseBrace ∷ [] ++ rest) (omega (arith, few.0)) (
          omega arith,
          regrouped fresh ws (Fixed mark.CloseBrace ∷ []) (Fixed mark.Else ∷ Fixed mark.OpenBrace ∷ xs ++ Fixed mark.CloseBrace ∷ [] ++ rest)
              (stmts_stay ds (Fixed mark.CloseBrace ∷ Fixed mark.Else ∷ Fixed mark.OpenBrace ∷ xs ++ Fixed mark.CloseBrace ∷ [] ++ rest) few.1
              (omega arith, (omega arith, (omega arith, regrouped fresh xs (Fixed mark.CloseBrace ∷ []) rest (stmts_stay fs (Fixed mark.CloseBrace ∷ rest) few.2 (omega arith, s)))))),
        )),
  )
  stmt_stays (repeats {ts} d (braced {ts = ws} ds)) rest few s = (
    omega arith,
    expr_stays d (0 + 0) (Fixed mark.OpenBrace ∷ ws ++ Fixed mark.CloseBrace ∷ []) rest (omega (arith, few.0))
        (omega arith, regrouped fresh ws (Fixed mark.CloseBrace ∷ []) rest (stmts_stay ds (Fixed mark.CloseBrace ∷ rest) few.1 (omega arith, s))),
  )
  stmt_stays (puts d) rest few s = (omega arith, expr_stays d (0 + 0) (Fixed mark.Semicolon ∷ []) rest (omega (arith, few)) (omega arith, s))
  stmt_stays (returns d) rest few s = (omega arith, expr_stays d (0 + 0) (Fixed mark.Semicolon ∷ []) rest (omega (arith, few)) (omega arith, s))
  stmt_stays halts rest few s = (omega arith, (omega arith, s))
  stmt_stays (calls f {ts} d) rest few s = (
    omega arith,
    (
      omega arith,
      regrouped (counted 1) ts (Fixed mark.CloseRound ∷ Fixed mark.Semicolon ∷ []) rest
          (arguments_stay d 1 (Fixed mark.CloseRound ∷ Fixed mark.Semicolon ∷ rest) few (omega (arith, few), (omega arith, s))),
    ),
  )

  stmts_stay : {ts : List Token} {b : Body} → IsStmts ts b → (rest : List Token) → AreShort b → StayShort fresh rest → StayShort fresh (ts ++ rest)
  stmts_stay empty rest few s = s
  stmts_stay (first {us} {vs = vs} d ds) rest few t = regrouped fresh us vs rest (stmt_stays d (vs ++ rest) few.0 (stmts_stay ds rest few.1 t))

-- ---- items

body_stays : {us : List Token} {b : Body} → IsBody us b → (n : ℕ) (rest : List Token) → AreShort b → StayShort fresh rest → StayShort (counted n) (us ++ rest)
body_stays (braced {ts = ws} ds) n rest few s = (omega arith, regrouped fresh ws (Fixed mark.CloseBrace ∷ []) rest (stmts_stay ds (Fixed mark.CloseBrace ∷ rest) few (omega arith, s)))

names_behind_stay : (xs : List Word) (n : ℕ) (rest : List Token) → n + length xs ≤ 255 → StayShort (counted (n + length xs)) rest → StayShort (counted n) (names_behind xs ++ rest)
names_behind_stay [] n rest few s = at_count _ (omega arith) s
names_behind_stay (x ∷ xs) n rest few s = (omega arith, (omega arith, names_behind_stay xs (n + 0 + 1) rest (omega arith) (at_count _ (omega arith) s)))

names_stay : (xs : List Word) (n : ℕ) (rest : List Token) → n + length xs ≤ 255 → StayShort (counted (n + length xs)) rest → StayShort (counted n) (names xs ++ rest)
names_stay [] n rest few s = at_count _ (omega arith) s
names_stay (x ∷ xs) n rest few s = (omega arith, names_behind_stay xs (n + 1) rest (omega arith) (at_count _ (omega arith) s))

start_stays : {ts : List Token} {value : _} → IsStart ts value → (rest : List Token) → StayShort fresh rest → StayShort (counted 1) (ts ++ Fixed mark.Semicolon ∷ [] ++ rest)
start_stays (plain n) rest s = (omega arith, (omega arith, s))
start_stays (minus n) rest s = (omega arith, (omega arith, (omega arith, s)))

function_stays : {us : List Token} {b : Body} → IsBody us b → (xs : List Word) (n : ℕ) (rest : List Token) → n + length xs ≤ 255 → AreShort b → StayShort fresh rest
    → StayShort (counted n) ((names xs ++ Fixed mark.CloseRound ∷ us) ++ rest)
function_stays {us} d xs n rest le few s =
    regrouped (counted n) (names xs) (Fixed mark.CloseRound ∷ us) rest
    (names_stay xs n (Fixed mark.CloseRound ∷ us ++ rest) le (omega arith, body_stays d (n + length xs + 0) rest few s))

item_stays : {ts : List Token} {i : Item} → IsItem ts i → (rest : List Token) → IsShortItem i → StayShort fresh rest → StayShort fresh (ts ++ rest)
item_stays (scalar true x d) rest few s = (omega arith, (omega arith, (omega arith, start_stays d rest s)))
item_stays (scalar false x d) rest few s = (omega arith, (omega arith, (omega arith, start_stays d rest s)))
item_stays (array x n) rest few s = (omega arith, (omega arith, (omega arith, (omega arith, (omega arith, (omega arith, s))))))
item_stays (critical_array x n) rest few s = (omega arith, (omega arith, (omega arith, (omega arith, (omega arith, (omega arith, s))))))
item_stays (plain_function x xs {b = b} le d) rest few s = (omega arith, (omega arith, (omega arith, function_stays d xs (0 + 0 + 1 + 0) rest (omega arith) (are_short b few) s)))
item_stays (operation n x xs {b = b} le d) rest few s = (omega arith, (omega arith, (omega arith, (omega arith, function_stays d xs (0 + 0 + 1 + 1 + 0) rest (omega arith) (are_short b few) s))))
item_stays (main {b = b} d) rest few s = (omega arith, body_stays d (0 + 0) rest (are_short b few) s)

pub text_stays : {ts : List Token} {is : List Item} → IsText ts is → AllShort is → StayShort fresh ts
text_stays nothing h = tt
text_stays (next {us} {i} {vs} {is} d ds) h = item_stays d vs h.0 (text_stays ds h.1)
