-- A text whose tokens never count above 255 nodes has no statement with more.
use Rattle.std.proofs.Common.{◌≡◌, ℕ, ◌+◌, ◌≤◌, true, false, List, [], ◌∷◌, ◌++◌, refl, sym, subst, arith}
use Rattle.oat_tree.specs.Sizes.{expr_size, exprs_size, body_room}
use Rattle.std.proofs.lemmas.List.{append_assoc}
use Rattle.oat_grammar.specs.declared.token.Mark.TheVariants as mark
use Rattle.oat_grammar.specs.declared.token.Token.{Token}
use Rattle.oat_grammar.specs.declared.token.Token.TheVariants.{Fixed, Sign}
use Rattle.oat_tree.specs.Syntax.{Expr, Exprs, Stmt, Body, Item}
use Rattle.oat_grammar.specs.Grammar.{IsUnary, numbered, named, indexed, called, taken, negated, bracketed, IsJoined, alone, joined, IsArguments, none, some, IsListed, last, more, IsStmt, declares, assigns, stores, chooses, chooses_else, repeats, puts, returns, halts, calls, IsStmts, empty, first, IsBody, braced, IsStart, plain, minus, names, IsItem, scalar, array, critical_array, plain_function, operation, main, IsText, nothing, next}
use Rattle.oat_grammar.proofs.Rooms.{IsShort, AreShort, has_room}
use Rattle.oat_grammar.specs.Nodes.{IsShortItem, AllShort, Part, fresh, behind_var, behind_name, counted, part_next, StayShort}

regroup : (c : Part) (ts us vs : List Token) → StayShort c (ts ++ us ++ vs) → StayShort c (ts ++ (us ++ vs))
regroup c ts us vs h = subst (λ (xs : List Token). StayShort c xs) (append_assoc ts us vs) h

-- what the tokens of an expression with so many nodes leave
pub record Left (n k : ℕ) (rest : List Token) : Type 0 where
  pub few : n + k ≤ 255
  pub then : StayShort (counted (n + k)) rest

as_many : {n k m : ℕ} {rest : List Token} → n + k ≡ m → StayShort (counted m) rest → m ≤ 255 → Left n k rest
as_many {rest} h s le = record { few = omega arith; then = subst (λ (x : ℕ). StayShort (counted x) rest) (sym h) s }

mutual
  pub unary_left : {ts : List Token} {e : Expr} → IsUnary ts e → (n : ℕ) (rest : List Token) → StayShort (counted n) (ts ++ rest) → Left n (expr_size e) rest
  unary_left (numbered k) n rest h = record { few = h.0; then = h.1 }
  unary_left (named x) n rest h = record { few = h.0; then = h.1 }
  unary_left taken n rest h = record { few = h.0; then = h.1 }
  unary_left (indexed x {ts} {e} d) n rest h =
      let l = joined_left d (n + 1 + 0) (Fixed mark.CloseSquare ∷ rest) (regroup (counted (n + 1 + 0)) ts (Fixed mark.CloseSquare ∷ []) rest h.1.1) in
      as_many (omega arith) l.then.1 l.then.0
  unary_left (called f {ts} {es} d) n rest h =
      let l = arguments_left d (n + 1 + 0) (Fixed mark.CloseRound ∷ rest) h.1.0 (regroup (counted (n + 1 + 0)) ts (Fixed mark.CloseRound ∷ []) rest h.1.1) in
      as_many (omega arith) l.then.1 l.then.0
  unary_left (negated d) n rest h =
      let l = unary_left d (n + 1) rest h.1 in
      as_many (omega arith) l.then l.few
  unary_left (bracketed {ts} {e} d) n rest h =
      let l = joined_left d (n + 0) (Fixed mark.CloseRound ∷ rest) (regroup (counted (n + 0)) ts (Fixed mark.CloseRound ∷ []) rest h.1) in
      as_many (omega arith) l.then.1 l.then.0

  pub joined_left : {k : ℕ} {ts : List Token} {e : Expr} → IsJoined k ts e → (n : ℕ) (rest : List Token) → StayShort (counted n) (ts ++ rest) → Left n (expr_size e) rest
  joined_left (alone d) n rest h = unary_left d n rest h
  joined_left (joined op {us} {a} {vs} {b} up da db) n rest h =
      let l = joined_left da n (Sign op ∷ vs ++ rest) (regroup (counted n) us (Sign op ∷ vs) rest h) in
      let m = joined_left db (n + expr_size a + 1) rest l.then.1 in
      as_many (omega arith) m.then m.few

  pub arguments_left : {ts : List Token} {es : Exprs} → IsArguments ts es → (n : ℕ) (rest : List Token) → n ≤ 255 → StayShort (counted n) (ts ++ rest) → Left n (exprs_size es) rest
  arguments_left none n rest le h = as_many (omega arith) h le
  arguments_left (some d) n rest le h = listed_left d n rest h

  pub listed_left : {k : ℕ} {ts : List Token} {es : Exprs} → IsListed k ts es → (n : ℕ) (rest : List Token) → StayShort (counted n) (ts ++ rest) → Left n (exprs_size es) rest
  listed_left (last d) n rest h =
      let l = joined_left d n rest h in
      as_many (omega arith) l.then l.few
  listed_left (more {us} {e} {vs} {es} d ds) n rest h =
      let l = joined_left d n (Fixed mark.Comma ∷ vs ++ rest) (regroup (counted n) us (Fixed mark.Comma ∷ vs) rest h) in
      let m = listed_left ds (n + expr_size e + 0) rest l.then.1 in
      as_many (omega arith) m.then m.few

-- ---- statements

-- from a fresh statement on
pub record Leaves (P : Type 0) (rest : List Token) : Type 0 where
  pub short : P
  pub then : StayShort fresh rest

expr_left : {ts : List Token} {e : Expr} → IsJoined 0 ts e → (n : ℕ) (us rest : List Token) → StayShort (counted n) ((ts ++ us) ++ rest) → Left n (expr_size e) (us ++ rest)
expr_left {ts} d n us rest h = joined_left d n (us ++ rest) (regroup (counted n) ts us rest h)

mutual
  pub stmt_short : {ts : List Token} {s : Stmt} → IsStmt ts s → (rest : List Token) → StayShort fresh (ts ++ rest) → Leaves (IsShort s) rest
  stmt_short (declares x d) rest h =
      let l = expr_left d (0 + 0) (Fixed mark.Semicolon ∷ []) rest h.1.1.1 in
      record { short = omega (arith, l.few); then = l.then.1 }
  stmt_short (assigns x d) rest h =
      let l = expr_left d (0 + 0) (Fixed mark.Semicolon ∷ []) rest h.1.1 in
      record { short = omega (arith, l.few); then = l.then.1 }
  stmt_short (stores x {us} {e} {vs} {f} d c) rest h =
      let l = expr_left d (0 + 0) (Fixed mark.CloseSquare ∷ Fixed mark.Assign ∷ vs) (Fixed mark.Semicolon ∷ rest)
      (regroup (counted (0 + 0)) (us ++ Fixed mark.CloseSquare ∷ Fixed mark.Assign ∷ vs) (Fixed mark.Semicolon ∷ []) rest h.1.1) in
      let m = joined_left c (0 + 0 + expr_size e + 0 + 0) (Fixed mark.Semicolon ∷ rest) l.then.1.1 in
      record { short = omega (arith, m.few); then = m.then.1 }
  stmt_short (chooses {ts} d (braced {ts = ws} ds)) rest h =
      let l = expr_left d (0 + 0) (Fixed mark.OpenBrace ∷ ws ++ Fixed mark.CloseBrace ∷ []) rest h.1 in
      let m = stmts_short ds (Fixed mark.CloseBrace ∷ rest) (regroup fresh ws (Fixed mark.CloseBrace ∷ []) rest l.then.1) in
      record { short = (omega (arith, l.few), m.short, tt); then = m.then.1 }
  stmt_short (chooses_else {ts} d (braced {ts = ws} ds) (braced {ts = xs} fs)) rest h =
      let l = expr_left d (0 + 0) (Fixed mark.OpenBrace ∷ ws ++ Fixed mark.CloseBrace ∷ []) (Fixed mark.Else ∷ Fixed mark.OpenBrace ∷ xs ++ Fixed mark.CloseBrace ∷ [] ++ rest)
      (regroup (counted (0 + 0)) (ts ++ (Fixed mark.OpenBrace ∷ ws ++ Fixed mark.CloseBrace ∷ [])) (Fixed mark.Else ∷ Fixed mark.OpenBrace ∷ xs ++ Fixed mark.CloseBrace ∷ []) rest h.1) in
      let m = stmts_short ds (Fixed mark.CloseBrace ∷ Fixed mark.Else ∷ Fixed mark.OpenBrace ∷ xs ++ Fixed mark.CloseBrace ∷ [] ++ rest)
      (regroup fresh ws (Fixed mark.CloseBrace ∷ []) (Fixed mark.Else ∷ Fixed mark.OpenBrace ∷ xs ++ Fixed mark.CloseBrace ∷ [] ++ rest) l.then.1) in
      let k = stmts_short fs (Fixed mark.CloseBrace ∷ rest) (regroup fresh xs (Fixed mark.CloseBrace ∷ []) rest m.then.1.1.1) in
      record { short = (omega (arith, l.few), m.short, k.short); then = k.then.1 }
  stmt_short (repeats {ts} d (braced {ts = ws} ds)) rest h =
      let l = expr_left d (0 + 0) (Fixed mark.OpenBrace ∷ ws ++ Fixed mark.CloseBrace ∷ []) rest h.1 in
      let m = stmts_short ds (Fixed mark.CloseBrace ∷ rest) (regroup fresh ws (Fixed mark.CloseBrace ∷ []) rest l.then.1) in
      record { short = (omega (arith, l.few), m.short); then = m.then.1 }
  stmt_short (puts d) rest h =
      let l = expr_left d (0 + 0) (Fixed mark.Semicolon ∷ []) rest h.1 in
      record { short = omega (arith, l.few); then = l.then.1 }
  stmt_short (returns d) rest h =
      let l = expr_left d (0 + 0) (Fixed mark.Semicolon ∷ []) rest h.1 in
      record { short = omega (arith, l.few); then = l.then.1 }
  stmt_short halts rest h = record { short = tt; then = h.1.1 }
  stmt_short (calls f {ts} d) rest h =
      let l = arguments_left d 1 (Fixed mark.CloseRound ∷ Fixed mark.Semicolon ∷ rest) (omega arith) (regroup (counted 1) ts (Fixed mark.CloseRound ∷ Fixed mark.Semicolon ∷ []) rest h.1.1) in
      record { short = omega (arith, l.few); then = l.then.1.1 }

  pub stmts_short : {ts : List Token} {b : Body} → IsStmts ts b → (rest : List Token) → StayShort fresh (ts ++ rest) → Leaves (AreShort b) rest
  stmts_short empty rest h = record { short = tt; then = h }
  stmts_short (first {us} {s} {vs} {b} d ds) rest h =
      let l = stmt_short d (vs ++ rest) (regroup fresh us vs rest h) in
      let m = stmts_short ds rest l.then in
      record { short = (l.short, m.short); then = m.then }

-- ---- items

opens_fresh : (c : Part) → part_next c (Fixed mark.OpenBrace) ≡ fresh
opens_fresh fresh = refl
opens_fresh behind_var = refl
opens_fresh behind_name = refl
opens_fresh (counted n) = refl

-- whatever stands before a brace
opens : (ts : List Token) (c : Part) (rest : List Token) → StayShort c (ts ++ Fixed mark.OpenBrace ∷ rest) → StayShort fresh rest
opens [] c rest h = subst (λ (x : Part). StayShort x rest) (opens_fresh c) h.1
opens (t ∷ ts) c rest h = opens ts (part_next c t) rest h.1

body_short : {us : List Token} {b : Body} → IsBody us b → (ts : List Token) (c : Part) (rest : List Token) → StayShort c ((ts ++ us) ++ rest) → Leaves (AreShort b) rest
body_short (braced {ts = ws} ds) ts c rest h =
    let l = stmts_short ds (Fixed mark.CloseBrace ∷ rest) (regroup fresh ws (Fixed mark.CloseBrace ∷ []) rest (opens ts c (ws ++ Fixed mark.CloseBrace ∷ [] ++ rest) (regroup c ts (Fixed mark.OpenBrace ∷ ws ++ Fixed mark.CloseBrace ∷ []) rest h))) in
    record { short = l.short; then = l.then.1 }

start_fresh : {ts : List Token} {value : _} → IsStart ts value → (rest : List Token) → StayShort (counted 1) (ts ++ Fixed mark.Semicolon ∷ [] ++ rest) → StayShort fresh rest
start_fresh (plain n) rest h = h.1.1
start_fresh (minus n) rest h = h.1.1.1

function_short : {us : List Token} {b : Body} → IsBody us b → (ts : List Token) (c : Part) (rest : List Token) → StayShort c ((ts ++ Fixed mark.CloseRound ∷ us) ++ rest) → Leaves (AreShort b) rest
function_short {us} d ts c rest h = body_short d (ts ++ Fixed mark.CloseRound ∷ []) c rest (subst (λ (xs : List Token). StayShort c (xs ++ rest)) (sym (append_assoc ts (Fixed mark.CloseRound ∷ []) us)) h)

roomy : (b : Body) {rest : List Token} → Leaves (AreShort b) rest → Leaves (body_room b ≤ 255) rest
roomy b l = record { short = has_room b l.short; then = l.then }

pub item_short : {ts : List Token} {i : Item} → IsItem ts i → (rest : List Token) → StayShort fresh (ts ++ rest) → Leaves (IsShortItem i) rest
item_short (scalar true x d) rest h = record { short = tt; then = start_fresh d rest h.1.1.1 }
item_short (scalar false x d) rest h = record { short = tt; then = start_fresh d rest h.1.1.1 }
item_short (array x n) rest h = record { short = tt; then = h.1.1.1.1.1.1 }
item_short (critical_array x n) rest h = record { short = tt; then = h.1.1.1.1.1.1 }
item_short (plain_function x xs {b = b} few d) rest h = roomy b (function_short d (names xs) _ rest h.1.1.1)
item_short (operation n x xs {b = b} few d) rest h = roomy b (function_short d (names xs) _ rest h.1.1.1.1)
item_short (main {b = b} d) rest h = roomy b (body_short d [] _ rest h.1)

pub text_short : {ts : List Token} {is : List Item} → IsText ts is → StayShort fresh ts → AllShort is
text_short nothing h = tt
text_short (next {us} {i} {vs} {is} d ds) h =
    let l = item_short d vs h in
    (l.short, text_short ds l.then)
