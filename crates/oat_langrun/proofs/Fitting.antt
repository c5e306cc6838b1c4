-- The steps of a lawful text keep what each step has to keep.
use Rattle.std.proofs.Common.{◌≡◌, ◌+◌, ◌<◌, ◌≤◌, inl, inr, ℕ, zero, suc, Bool, true, false, cond, ◌||◌, List, [], ◌∷◌, ◌++◌, length, Some, refl, ap, subst, arith}
use Rattle.std.specs.Prelude.{slice_get}
use Rattle.std.specs.Str.{bytes_eq}
use Rattle.std.specs.List.{list_any}
use Rattle.oat_ir.specs.declared.func.Role.{Role}
use Rattle.oat_ir.specs.declared.func.Role.TheVariants.{Plain, Operation, Main}
use Rattle.oat_check.specs.Rules.{is_main_role}
use Rattle.oat_tree.specs.Rules.{NamesNumber, ExprKeeps, ExprsKeep, StmtKeeps, BodyKeeps}
use Rattle.oat_tree.specs.Scopes.{Scope, is_in, number_of, scope_of, function_locals}
use Rattle.oat_tree.specs.Sizes.{exprs_count, expr_size, exprs_size, stmt_room, body_room}
use Rattle.oat_tree.specs.Syntax.{Word, Expr, number, name, element, call, input, negative, binary, Exprs, no_exprs, expr, Stmt, declare, assign, assign_element, choose, repeat, put, return, halt, call_only, Body, no_stmts, stmt, Function, Tree}
use Rattle.oat_langrun.specs.Fitting.{ActKeeps, UseKeeps, is_node, NodeFirst, BeginGoes, ActGoes, StepKeeps, StepsKeep}
use Rattle.oat_langrun.specs.Steps.{step, reads, sets, begun, entry, stmt_size, body_size, expr_steps, exprs_steps, stmt_steps, body_steps, function_steps, end_use}
use Rattle.oat_langrun.specs.declared.step.Act.{Act}
use Rattle.oat_langrun.specs.declared.step.Act.TheVariants.{Begins, Decides, ReachesEnd, Literal, ReadsLocal, ReadsScalar, ReadsElement, Calls, TakesInput, Negates, Operates}
use Rattle.oat_langrun.specs.declared.step.Step.{Step}
use Rattle.oat_langrun.specs.declared.step.Use.{Use}
use Rattle.oat_langrun.specs.declared.step.Use.TheVariants.{Keeps, Drops, Assigns, StoresScalar, StoresElement, Puts, Chooses, Returns, Halts}
use Rattle.oat_langrun.proofs.StepSizes.{expr_length, exprs_length, stmt_length, body_length}

number_low : (xs : List Word) (x : Word) → is_in xs x ≡ true → number_of xs x < length xs
number_low [] x h = absurd (cc)
number_low (y ∷ ys) x h = by (bytes_eq x y) h (number_low ys x) where
  by : (b : Bool) → (b || list_any (bytes_eq x) ys) ≡ true → (list_any (bytes_eq x) ys ≡ true → number_of ys x < length ys) → cond b 0 (suc (number_of ys x)) < suc (length ys)
  by true g rest = omega arith
  by false g rest = let r = rest g in omega (arith, r)

one_or_more : (e : Expr) → 1 ≤ expr_size e
one_or_more (number value) = omega arith
one_or_more (name x) = omega arith
one_or_more (element a e) = omega arith
one_or_more (call f es) = omega arith
one_or_more input = omega arith
one_or_more (negative e) = omega arith
one_or_more (binary op a b) = omega arith

counted : (es : Exprs) → exprs_count es ≤ exprs_size es
counted no_exprs = omega arith
counted (expr e es) = let one = one_or_more e in let rest = counted es in omega (arith, one, rest)

-- ---- the first step of an expression is a node

node_more : (xs ys : List Step) → NodeFirst xs → NodeFirst (xs ++ ys)
node_more [] ys h = absurd h
node_more (x ∷ xs) ys h = h

node_read : (scope : Scope) (x : Word) → is_node (reads scope x) ≡ true
node_read scope x = by (is_in scope.locals x) where
  by : (b : Bool) → is_node (cond b (ReadsLocal (number_of scope.locals x)) (ReadsScalar (number_of scope.globals x))) ≡ true
  by true = refl
  by false = refl

mutual
  node_first : (e : Expr) (scope : Scope) (below : ℕ) (u : Use) → NodeFirst (expr_steps e scope below u)
  node_first (number value) scope below u = refl
  node_first (name x) scope below u = node_read scope x
  node_first (element a e) scope below u = node_more (expr_steps e scope below Keeps) _ (node_first e scope below Keeps)
  node_first (call f es) scope below u = node_args es scope below (step (Calls (number_of scope.funcs f) (exprs_count es)) below u) refl
  node_first input scope below u = refl
  node_first (negative e) scope below u = node_more (expr_steps e scope below Keeps) _ (node_first e scope below Keeps)
  node_first (binary op a b) scope below u = node_more (expr_steps a scope below Keeps) _ (node_first a scope below Keeps)

  node_args : (es : Exprs) (scope : Scope) (below : ℕ) (st : Step) → is_node st.act ≡ true → NodeFirst (exprs_steps es scope below ++ st ∷ [])
  node_args no_exprs scope below st h = h
  node_args (expr e es) scope below st h =
      node_more (expr_steps e scope below Keeps ++ exprs_steps es scope (below + 1)) (st ∷ [])
      (node_more (expr_steps e scope below Keeps) (exprs_steps es scope (below + 1)) (node_first e scope below Keeps))

module _ (tree : Tree) (f : Function) (room total : ℕ) where
  abbrev scope : Scope
  scope = scope_of tree f

  abbrev All : ℕ → List Step → Type 0
  All place sts = StepsKeep tree f room total place sts

  -- ---- lists behind one another

  begin_more : (u : Use) (rest ys : List Step) → BeginGoes u rest → BeginGoes u (rest ++ ys)
  begin_more Keeps rest ys h = node_more rest ys h
  begin_more (Drops to) rest ys h = h
  begin_more (Assigns x to) rest ys h = h
  begin_more (StoresScalar g to) rest ys h = h
  begin_more (StoresElement g to) rest ys h = h
  begin_more (Puts to) rest ys h = h
  begin_more (Chooses first second) rest ys h = h
  begin_more Returns rest ys h = h
  begin_more Halts rest ys h = h

  goes_more : (u : Use) (rest ys : List Step) (a : Act) → ActGoes u rest a → ActGoes u (rest ++ ys) a
  goes_more u rest ys Begins h = begin_more u rest ys h
  goes_more u rest ys Decides h = h
  goes_more u rest ys ReachesEnd h = h
  goes_more u rest ys (Literal value) h = h
  goes_more u rest ys (ReadsLocal x) h = h
  goes_more u rest ys (ReadsScalar g) h = h
  goes_more u rest ys (ReadsElement g) h = h
  goes_more u rest ys (Calls g count) h = h
  goes_more u rest ys TakesInput h = h
  goes_more u rest ys Negates h = h
  goes_more u rest ys (Operates op) h = h

  all_append : (xs ys : List Step) (place : ℕ) → All place xs → All (place + length xs) ys → All place (xs ++ ys)
  all_append [] ys place one two = subst (λ (k : ℕ). All k ys) (omega arith) two
  all_append (x ∷ xs) ys place one two = (
    record { act = one.0.act; use_of = one.0.use_of; goes = goes_more x.use_of xs ys x.act one.0.goes },
    all_append xs ys (suc place) one.1 (subst (λ (k : ℕ). All k ys) (omega arith) two),
  )

  -- ---- expressions, at any place

  node_keeps : (place below : ℕ) (a : Act) (u : Use) (rest : List Step) → ActKeeps tree f room below a → UseKeeps tree f total place u → is_node a ≡ true → StepKeeps tree f room total place (step a below u) rest
  node_keeps place below a u rest h k node = record { act = h; use_of = k; goes = by a node } where
    by : (b : Act) → is_node b ≡ true → ActGoes u rest b
    by Begins e = absurd (cc)
    by Decides e = absurd (cc)
    by ReachesEnd e = absurd (cc)
    by (Literal value) e = tt
    by (ReadsLocal x) e = tt
    by (ReadsScalar g) e = tt
    by (ReadsElement g) e = tt
    by (Calls g count) e = tt
    by TakesInput e = tt
    by Negates e = tt
    by (Operates op) e = tt

  read_keeps : (below : ℕ) (x : Word) → NamesNumber tree f x → below < room → ActKeeps tree f room below (reads scope x)
  read_keeps below x h low = by (is_in (function_locals f) x) refl h where
    by : (b : Bool) → is_in (function_locals f) x ≡ b → NamesNumber tree f x → ActKeeps tree f room below (cond b (ReadsLocal (number_of (function_locals f) x)) (ReadsScalar (number_of (scope_of tree f).globals x)))
    by true e k = (low, number_low (function_locals f) x e)
    by false e (inl k) = absurd (cc)
    by false e (inr k) = (low, record { item = k.item; is = k.is; kind = k.kind })

  set_keeps : (place : ℕ) (x : Word) (to : ℕ) → NamesNumber tree f x → to < total → UseKeeps tree f total place (sets scope x to)
  set_keeps place x to h low = by (is_in (function_locals f) x) refl h where
    by : (b : Bool) → is_in (function_locals f) x ≡ b → NamesNumber tree f x → UseKeeps tree f total place (cond b (Assigns (number_of (function_locals f) x) to) (StoresScalar (number_of (scope_of tree f).globals x) to))
    by true e k = (number_low (function_locals f) x e, low)
    by false e (inl k) = absurd (cc)
    by false e (inr k) = (record { item = k.item; is = k.is; kind = k.kind }, low)

  mutual
    -- the last step's use may depend on its place
    expr_keeps : (e : Expr) (place below : ℕ) (u : Use) → ExprKeeps e tree f → ((last : ℕ) → suc last ≡ place + expr_size e → UseKeeps tree f total last u) → below + expr_size e ≤ room → place + expr_size e ≤ total
        → All place (expr_steps e scope below u)
    expr_keeps (number value) place below u h k low within = (node_keeps place below (Literal value) u [] (omega arith, h) (k place (omega arith)) refl, tt)
    expr_keeps (name x) place below u h k low within = (node_keeps place below (reads scope x) u [] (read_keeps below x h (omega arith)) (k place (omega arith)) (node_read scope x), tt)
    expr_keeps (element a e) place below u h k low within =
        let some = one_or_more e in
        let g = h.0 in
        let len = expr_length e scope below Keeps in
        all_append (expr_steps e scope below Keeps) _ place (expr_keeps e place below Keeps h.1 (λ last at. omega arith) (omega (arith, some)) (omega arith))
        (node_keeps _ below (ReadsElement (number_of scope.globals a)) u [] (omega (arith, some), record { item = g.item; is = g.is; kind = g.kind }) (k _ (omega (arith, len))) refl, tt)
    expr_keeps (call g es) place below u h k low within =
        let c = h.0 in
        let few = counted es in
        let len = exprs_length es scope below in
        all_append (exprs_steps es scope below) _ place (exprs_keep es place below h.1 (omega arith) (omega arith)) (
          node_keeps _ below (Calls (number_of scope.funcs g) (exprs_count es)) u []
              (omega arith, omega (arith, few), record { callee = c.callee; is = c.is; no_main = c.no_main; plain = c.plain; arity = c.arity }) (k _ (omega (arith, len))) refl,
          tt,
        )
    expr_keeps input place below u h k low within = (node_keeps place below TakesInput u [] (omega arith) (k place (omega arith)) refl, tt)
    expr_keeps (negative e) place below u h k low within =
        let some = one_or_more e in
        let len = expr_length e scope below Keeps in
        all_append (expr_steps e scope below Keeps) _ place (expr_keeps e place below Keeps h (λ last at. omega arith) (omega (arith, some)) (omega arith))
        (node_keeps _ below Negates u [] (omega (arith, some)) (k _ (omega (arith, len))) refl, tt)
    expr_keeps (binary op a b) place below u h k low within =
        let one = one_or_more a in
        let two = one_or_more b in
        let len = expr_length a scope below Keeps in
        let len_b = expr_length b scope (below + 1) Keeps in
        all_append (expr_steps a scope below Keeps) _ place (expr_keeps a place below Keeps h.0 (λ last at. omega (arith, two)) (omega (arith, two)) (omega arith))
        (all_append (expr_steps b scope (below + 1) Keeps) _ _
        (expr_keeps b (place + length (expr_steps a scope below Keeps)) (below + 1) Keeps h.1 (λ last at. omega (arith, len)) (omega (arith, one)) (omega (arith, len)))
        (node_keeps _ below (Operates op) u [] (omega (arith, one, two)) (k _ (omega (arith, len, len_b))) refl, tt))

    exprs_keep : (es : Exprs) (place below : ℕ) → ExprsKeep es tree f → below + exprs_size es ≤ room → place + exprs_size es < total → All place (exprs_steps es scope below)
    exprs_keep no_exprs place below h low within = tt
    exprs_keep (expr e es) place below h low within =
        let one = one_or_more e in
        let len = expr_length e scope below Keeps in
        all_append (expr_steps e scope below Keeps) (exprs_steps es scope (below + 1)) place
        (expr_keeps e place below Keeps h.0 (λ last at. omega arith) (omega arith) (omega arith))
        (exprs_keep es (place + length (expr_steps e scope below Keeps)) (below + 1) h.1 (omega (arith, one)) (omega (arith, len)))

  -- ---- statements, at their own places

  begun_keeps : (place : ℕ) (rest : List Step) → NodeFirst rest → suc place < total → StepKeeps tree f room total place begun rest
  begun_keeps place rest node low = record { act = tt; use_of = low; goes = node }

  entry_low : (b : Body) (at exit : ℕ) → at < total → exit < total → entry b at exit < total
  entry_low no_stmts at exit one two = two
  entry_low (stmt s b) at exit one two = one

  begun_expr : (e : Expr) (place : ℕ) (u : Use) → ExprKeeps e tree f → ((last : ℕ) → UseKeeps tree f total last u) → expr_size e ≤ room → place + 1 + expr_size e < total → All place (begun ∷ expr_steps e scope 0 u)
  begun_expr e place u h k low within =
      let some = one_or_more e in
      (begun_keeps place _ (node_first e scope 0 u) (omega (arith, some)), expr_keeps e (suc place) 0 u h (λ last at. k last) (omega arith) (omega arith))

  mutual
    stmt_keeps : (s : Stmt) (place at exit : ℕ) → place ≡ at → StmtKeeps s tree f → stmt_room s ≤ room → at + stmt_size s < total → exit < total → All place (stmt_steps s scope at exit)
    stmt_keeps (declare x e) place at exit here h low within out = begun_expr e place (sets scope x exit) h.1 (λ last. set_keeps last x exit h.0 out) low (omega arith)
    stmt_keeps (assign x e) place at exit here h low within out = begun_expr e place (sets scope x exit) h.1 (λ last. set_keeps last x exit h.0 out) low (omega arith)
    stmt_keeps (assign_element a e v) place at exit here h low within out =
        let one = one_or_more e in
        let two = one_or_more v in
        let g = h.0 in
        let len = expr_length e scope 0 Keeps in
        let w = StoresElement (number_of scope.globals a) exit in (
          begun_keeps place _ (node_more (expr_steps e scope 0 Keeps) _ (node_first e scope 0 Keeps)) (omega (arith, one)),
          all_append (expr_steps e scope 0 Keeps) (expr_steps v scope 1 w) (suc place)
              (expr_keeps e (suc place) 0 Keeps h.1 (λ last there. omega (arith, two)) (omega (arith, two)) (omega arith))
              (expr_keeps v (suc place + length (expr_steps e scope 0 Keeps)) 1 w h.2 (λ last there. (record { item = g.item; is = g.is; kind = g.kind }, out)) (omega (arith, one)) (omega (arith, len))),
        )
    stmt_keeps (choose e a b) place at exit here h low within out =
        let one = one_or_more e in
        let p = at + 1 + expr_size e in
        let q = at + 1 + expr_size e + body_size a in
        let u = Chooses (entry a p exit) (entry b q exit) in
        let len = expr_length e scope 0 u in
        let len_a = body_length a scope p exit in (
          begun_keeps place _ (node_more (expr_steps e scope 0 u) _ (node_first e scope 0 u)) (omega (arith, one)),
          all_append (expr_steps e scope 0 u) (body_steps a scope p exit ++ body_steps b scope q exit) (suc place)
              (expr_keeps e (suc place) 0 u h.0 (λ last there. (entry_low a p exit (omega arith) out, entry_low b q exit (omega arith) out)) (omega arith) (omega arith))
              (all_append (body_steps a scope p exit) (body_steps b scope q exit) _
              (body_keeps a _ p exit (omega (arith, len)) h.1 (omega arith) (omega arith) out)
              (body_keeps b _ q exit (omega (arith, len, len_a)) h.2 (omega arith) (omega arith) out)),
        )
    stmt_keeps (repeat e a) place at exit here h low within out =
        let one = one_or_more e in
        let p = at + 1 + expr_size e + 1 in
        let d = step Decides 0 (Chooses (entry a p (at + 1)) exit) in
        let len = expr_length e scope 0 Keeps in (
          begun_keeps place _ (node_more (expr_steps e scope 0 Keeps) _ (node_first e scope 0 Keeps)) (omega (arith, one)),
          all_append (expr_steps e scope 0 Keeps) (d ∷ body_steps a scope p (at + 1)) (suc place)
              (expr_keeps e (suc place) 0 Keeps h.0 (λ last there. omega arith) (omega arith) (omega arith)) (
                record { act = omega (arith, one); use_of = (entry_low a p (at + 1) (omega arith) (omega arith), out); goes = tt },
                body_keeps a _ p (at + 1) (omega (arith, len)) h.1 (omega arith) (omega arith) (omega arith),
              ),
        )
    stmt_keeps (put e) place at exit here h low within out = begun_expr e place (Puts exit) h (λ last. out) low (omega arith)
    stmt_keeps (return e) place at exit here h low within out = begun_expr e place Returns h.1 (λ last. h.0) low (omega arith)
    stmt_keeps halt place at exit here h low within out = (record { act = tt; use_of = tt; goes = tt }, tt)
    stmt_keeps (call_only g es) place at exit here h low within out =
        let c = h.0 in
        let few = counted es in
        let st = step (Calls (number_of scope.funcs g) (exprs_count es)) 0 (Drops exit) in (
          begun_keeps place _ (node_args es scope 0 st refl) (omega arith),
          all_append (exprs_steps es scope 0) (st ∷ []) (suc place)
              (exprs_keep es (suc place) 0 h.1 (omega arith) (omega arith)) (
                node_keeps _ 0 (Calls (number_of scope.funcs g) (exprs_count es)) (Drops exit) []
                    (omega arith, omega (arith, few), record { callee = c.callee; is = c.is; no_main = c.no_main; plain = c.plain; arity = c.arity }) out refl,
                tt,
              ),
        )

    body_keeps : (b : Body) (place at exit : ℕ) → place ≡ at → BodyKeeps b tree f → body_room b ≤ room → at + body_size b < total → exit < total → All place (body_steps b scope at exit)
    body_keeps no_stmts place at exit here h low within out = tt
    body_keeps (stmt s b) place at exit here h low within out =
        let x = entry b (at + stmt_size s) exit in
        let len = stmt_length s scope at x in
        all_append (stmt_steps s scope at x) (body_steps b scope (at + stmt_size s) exit) place
        (stmt_keeps s place at x here h.0 (omega arith) (omega arith) (entry_low b (at + stmt_size s) exit (omega arith) out))
        (body_keeps b _ (at + stmt_size s) exit (omega (arith, len)) h.1 (omega arith) (omega arith) out)

-- ---- functions

end_keeps : (tree : Tree) (f : Function) (role : Role) (total place : ℕ) → f.role ≡ role → UseKeeps tree f total place (end_use role)
end_keeps tree f Main total place is = tt
end_keeps tree f Plain total place is = ap is_main_role is
end_keeps tree f (Operation op) total place is = ap is_main_role is

end_goes : (role : Role) (rest : List Step) → ActGoes (end_use role) rest ReachesEnd
end_goes Main rest = tt
end_goes Plain rest = tt
end_goes (Operation op) rest = tt

pub function_keeps : (tree : Tree) (f : Function) → BodyKeeps f.body tree f → StepsKeep tree f (body_room f.body) (body_size f.body + 1) 0 (function_steps (scope_of tree f) f.role f.body)
function_keeps tree f h =
    all_append tree f (body_room f.body) (body_size f.body + 1) (body_steps f.body (scope_of tree f) 0 (body_size f.body)) (step ReachesEnd 0 (end_use f.role) ∷ []) 0
    (body_keeps tree f (body_room f.body) (body_size f.body + 1) f.body 0 0 (body_size f.body) refl h (omega arith) (omega arith) (omega arith))
    (record { act = tt; use_of = end_keeps tree f f.role (body_size f.body + 1) _ refl; goes = end_goes f.role [] }, tt)

-- ---- a step of a list, with what is behind it

pub record KeepsAt (tree : Tree) (f : Function) (room total place : ℕ) (sts : List Step) (i : ℕ) (st : Step) : Type 0 where
  pub rest : List Step
  pub kept : StepKeeps tree f room total (place + i) st rest
  pub behind : slice_get rest 0 ≡ slice_get sts (suc i)

pub keeps_at : (tree : Tree) (f : Function) (room total place : ℕ) (sts : List Step) (i : ℕ) (st : Step) → StepsKeep tree f room total place sts → slice_get sts i ≡ Some st → KeepsAt tree f room total place sts i st
keeps_at tree f room total place [] i st h is = absurd (cc)
keeps_at tree f room total place (x ∷ xs) zero st h is =
    let same : x ≡ st = cc in
    record { rest = xs; kept = subst (λ (y : Step). StepKeeps tree f room total (place + 0) y xs) same (subst (λ (k : ℕ). StepKeeps tree f room total k x xs) (omega arith) h.0); behind = refl }
keeps_at tree f room total place (x ∷ xs) (suc i) st h is =
    let w = keeps_at tree f room total (suc place) xs i st h.1 is in
    record { rest = w.rest; kept = subst (λ (k : ℕ). StepKeeps tree f room total k st w.rest) (omega arith) w.kept; behind = w.behind }
