-- Paths that go back: those whose returns match their calls, and those of walks.
use Rattle.std.proofs.Common.{◌≡◌, ℕ, suc, ◌<◌, List, [], ◌∷◌, ◌++◌, length, map, Contains, true, false, refl, sym, ap, subst, ◌∙◌, inl, inr, arith, append_assoc, append-nil}
use Rattle.std.proofs.lemmas.List.{map-append}
use Rattle.oat_map.specs.{declared.edge.Edge.Edge, declared.map.Map.Map, declared.row.Row.Row, Walk.Step, Walk.passed, Walk.moved, Walk.path_of, Walk.depth, Walk.Returns, Walk.RowGoes, Walk.Leads}
use Rattle.oat_map.specs.{Stack.IsStack, StackLaws.ReturnsGoToTheTop, StackLaws.StacksFollow, Turns.Turned, Turns.GoesBack, Turns.turn_of, TurnLaws.WalksGoBack, TurnLaws.MatchedPathsGoBack}
use Rattle.oat_map.proofs.StackLemmas.{IsStack-empty, IsStack-quiet, IsStack-passed, IsStack-jump, IsStack-branch, IsStack-call, IsStack-icall, IsStack-return, Returns-top, Returns-only_top, depth-is}
use Rattle.oat_map.specs.declared.row.Row.TheVariants as rows
use Rattle.oat_map.specs.declared.edge.Edge.TheVariants as edges

-- ---- lists

contains-rest : {A : Type 0} (y : A) (xs : List A) (x : A) → Contains xs x → Contains (y ∷ xs) x
contains-rest y xs x c = (suc c.0, (let h = c.1 in omega arith), c.2)

contains-first : {A : Type 0} (x : A) (xs : List A) → Contains (x ∷ xs) x
contains-first x xs = (0, omega arith, refl)

-- ---- stacks

pub returns_go_to_the_top : ReturnsGoToTheTop
returns_go_to_the_top steps stack back to holds =
    (Returns-only_top steps stack back holds to, λ same. subst (Returns steps) (sym same) (Returns-top steps stack back holds))

turns : (steps : List Step) (stack : List ℕ) (holds : IsStack steps stack) (edge : Edge) (later : List ℕ) → Turned stack (turn_of edge) (λ calls. calls ≡ later)
    → IsStack (steps ++ moved edge ∷ []) later
turns steps stack holds (edges.Jump from to) later t = subst (IsStack (steps ++ moved (edges.Jump from to) ∷ [])) t (IsStack-jump steps stack holds from to)
turns steps stack holds (edges.Branch from bit to) later t = subst (IsStack (steps ++ moved (edges.Branch from bit to) ∷ [])) t (IsStack-branch steps stack holds from bit to)
turns steps stack holds (edges.Call from to) later t = subst (IsStack (steps ++ moved (edges.Call from to) ∷ [])) t (IsStack-call steps stack holds from to)
turns steps stack holds (edges.ICall from to) later t = subst (IsStack (steps ++ moved (edges.ICall from to) ∷ [])) t (IsStack-icall steps stack holds from 0 to)
turns steps stack holds (edges.Ret from to) later (others, is, t) =
    subst (IsStack (steps ++ moved (edges.Ret from to) ∷ [])) t (IsStack-return steps others to (subst (IsStack steps) is holds) from to)
turns steps stack holds (edges.End op) later t = subst (IsStack (steps ++ moved (edges.End op) ∷ [])) t (IsStack-quiet steps stack (moved (edges.End op)) refl refl refl holds)
turns steps stack holds (edges.Stray from to) later t = absurd t

pub stacks_follow : StacksFollow
stacks_follow steps stack holds = (IsStack-passed steps stack holds, turns steps stack holds)

-- ---- matched paths

-- what is left of a path, behind the edges before
record MatchesBehind (before path : List Edge) : Type 0 where
  stray : (from to : ℕ) → Contains path (edges.Stray from to) → ⊥
  returns : (front : List Edge) (from to : ℕ) (rest : List Edge) → path ≡ front ++ edges.Ret from to ∷ rest → Returns (map moved (before ++ front)) to
  closed : depth (map moved (before ++ path)) ≡ 0

matches-rest : (before : List Edge) (edge : Edge) (path : List Edge) → MatchesBehind before (edge ∷ path) → MatchesBehind (before ++ edge ∷ []) path
matches-rest before edge path m = record {
  stray = λ from to has. m.stray from to (contains-rest edge path (edges.Stray from to) has);
  returns = λ front from to rest is.
      subst (λ (es : List Edge). Returns (map moved es) to) (sym (append_assoc before (edge ∷ []) front))
      (m.returns (edge ∷ front) from to rest (ap (λ (es : List Edge). edge ∷ es) is));
  closed = ap (λ (es : List Edge). depth (map moved es)) (append_assoc before (edge ∷ []) path) ∙ m.closed;
}

-- a list that is not empty has a last element
last-of : (xs : List ℕ) → 0 < length xs → (others : List ℕ) × (last : ℕ) × (xs ≡ others ++ last ∷ [])
last-of [] some = absurd (omega arith)
last-of (x ∷ []) some = ([], x, refl)
last-of (x ∷ y ∷ xs) some =
    let rest = last-of (y ∷ xs) (omega arith) in
    (x ∷ rest.0, rest.1, ap (λ (ys : List ℕ). x ∷ ys) rest.2)

empty-of : (xs : List ℕ) → length xs ≡ 0 → xs ≡ []
empty-of [] none = refl
empty-of (x ∷ xs) none = absurd (omega arith)

-- where a return closes its matching call, that is the last open one
split-stack : (before : List Step) (calls : List ℕ) (to : ℕ) → IsStack before calls → Returns before to → (others : List ℕ) × (calls ≡ others ++ to ∷ [])
split-stack before calls to stack returns =
    let some : 0 < length calls = omega (arith, returns.open_calls, depth-is before calls stack) in
    let (others, last, is) = last-of calls some in
    let top : to ≡ last = Returns-only_top before others last (subst (IsStack before) is stack) to returns in
    (others, is ∙ ap (λ (x : ℕ). others ++ x ∷ []) (sym top))

pushed : (before : List Edge) (edge : Edge) (calls : List ℕ) → IsStack (map moved before ++ moved edge ∷ []) calls → IsStack (map moved (before ++ edge ∷ [])) calls
pushed before edge calls s = subst (λ (steps : List Step). IsStack steps calls) (sym (map-append moved before (edge ∷ []))) s

matched : (path before : List Edge) (calls : List ℕ) → IsStack (map moved before) calls → MatchesBehind before path → GoesBack turn_of calls path
matched [] before calls stack m =
    let same : before ++ [] ≡ before = append-nil before in
    empty-of calls (sym (depth-is (map moved before) calls stack) ∙ ap (λ (es : List Edge). depth (map moved es)) (sym same) ∙ m.closed)
matched (edges.Jump from to ∷ path) before calls stack m =
    matched path (before ++ edges.Jump from to ∷ []) calls (pushed before (edges.Jump from to) calls (IsStack-jump (map moved before) calls stack from to)) (matches-rest before (edges.Jump from to) path m)
matched (edges.Branch from bit to ∷ path) before calls stack m =
    matched path (before ++ edges.Branch from bit to ∷ []) calls (pushed before (edges.Branch from bit to) calls (IsStack-branch (map moved before) calls stack from bit to)) (matches-rest before (edges.Branch from bit to) path m)
matched (edges.Call from to ∷ path) before calls stack m =
    matched path (before ++ edges.Call from to ∷ []) _ (pushed before (edges.Call from to) _ (IsStack-call (map moved before) calls stack from to)) (matches-rest before (edges.Call from to) path m)
matched (edges.ICall from to ∷ path) before calls stack m =
    matched path (before ++ edges.ICall from to ∷ []) _ (pushed before (edges.ICall from to) _ (IsStack-icall (map moved before) calls stack from 0 to)) (matches-rest before (edges.ICall from to) path m)
matched (edges.Ret from to ∷ path) before calls stack m =
    let same : before ++ [] ≡ before = append-nil before in
    let returns = subst (λ (es : List Edge). Returns (map moved es) to) same (m.returns [] from to path refl) in
    let back = split-stack (map moved before) calls to stack returns in
    let there : IsStack (map moved before) (back.0 ++ to ∷ []) = subst (IsStack (map moved before)) back.1 stack in (
      back.0,
      back.1,
      matched path (before ++ edges.Ret from to ∷ []) back.0 (pushed before (edges.Ret from to) back.0 (IsStack-return (map moved before) back.0 to there from to)) (matches-rest before (edges.Ret from to) path m),
    )
matched (edges.End op ∷ path) before calls stack m =
    matched path (before ++ edges.End op ∷ []) calls (pushed before (edges.End op) calls (IsStack-quiet (map moved before) calls (moved (edges.End op)) refl refl refl stack)) (matches-rest before (edges.End op) path m)
matched (edges.Stray from to ∷ path) before calls stack m = absurd (m.stray from to (contains-first (edges.Stray from to) path))

pub matched_paths_go_back : MatchedPathsGoBack
matched_paths_go_back path m = matched path [] [] IsStack-empty (record { stray = m.stray; returns = m.returns; closed = m.closed })

-- ---- walks

-- behind these steps and with these calls open, what is left of a walk goes back
abbrev Rest : Map → ℕ → ℕ → List Step → List Step → ℕ → Type 0
Rest flow op place steps before from = (calls : List ℕ) → IsStack before calls → Leads flow before from steps place → depth (before ++ steps) ≡ 0
    → GoesBack turn_of calls (path_of (steps ++ moved (edges.End op) ∷ []))

-- one step of it
walked-step : (flow : Map) (op place : ℕ) (step s : Step) (steps before : List Step) (to : ℕ) (calls : List ℕ) → step ≡ s → IsStack before calls
    → Leads flow (before ++ step ∷ []) to steps place → depth (before ++ step ∷ steps) ≡ 0
    → ((b : List Step) → Rest flow op place steps b to)
    → (IsStack before calls → Rest flow op place steps (before ++ s ∷ []) to → Leads flow (before ++ s ∷ []) to steps place → depth ((before ++ s ∷ []) ++ steps) ≡ 0 → GoesBack turn_of calls (path_of (s ∷ steps ++ moved (edges.End op) ∷ [])))
    → GoesBack turn_of calls (path_of (step ∷ steps ++ moved (edges.End op) ∷ []))
walked-step flow op place step s steps before to calls same stack leads closed on goes =
    subst (λ (x : Step). GoesBack turn_of calls (path_of (x ∷ steps ++ moved (edges.End op) ∷ []))) (sym same)
    (goes stack (on (before ++ s ∷ [])) (subst (λ (x : Step). Leads flow (before ++ x ∷ []) to steps place) same leads)
    (ap depth (append_assoc before (s ∷ []) steps) ∙ ap (λ (x : Step). depth (before ++ x ∷ steps)) (sym same) ∙ closed))

walked-row : (flow : Map) (op place : ℕ) (row : Row) (step : Step) (steps before : List Step) (to : ℕ) (calls : List ℕ) → IsStack before calls
    → RowGoes flow row before step to → Leads flow (before ++ step ∷ []) to steps place → depth (before ++ step ∷ steps) ≡ 0
    → ((b : List Step) → Rest flow op place steps b to) → GoesBack turn_of calls (path_of (step ∷ steps ++ moved (edges.End op) ∷ []))
walked-row flow op place (rows.Jump at target) step steps before to calls stack g leads closed on =
    walked-step flow op place step (moved (edges.Jump at target)) steps before to calls g.0 stack leads closed on
    (λ st rest l c. rest calls (IsStack-jump before calls st at target) l c)
walked-row flow op place (rows.Branch at taken other) step steps before to calls stack (inl g) leads closed on =
    walked-step flow op place step (moved (edges.Branch at true taken)) steps before to calls g.0 stack leads closed on
    (λ st rest l c. rest calls (IsStack-branch before calls st at true taken) l c)
walked-row flow op place (rows.Branch at taken other) step steps before to calls stack (inr g) leads closed on =
    walked-step flow op place step (moved (edges.Branch at false other)) steps before to calls g.0 stack leads closed on
    (λ st rest l c. rest calls (IsStack-branch before calls st at false other) l c)
walked-row flow op place (rows.Call at target) step steps before to calls stack g leads closed on =
    walked-step flow op place step (moved (edges.Call at target)) steps before to calls g.0 stack leads closed on
    (λ st rest l c. rest _ (IsStack-call before calls st at target) l c)
walked-row flow op place (rows.ICall at params) step steps before to calls stack g leads closed on =
    walked-step flow op place step (moved (edges.ICall at to)) steps before to calls g.0 stack leads closed on
    (λ st rest l c. rest _ (IsStack-icall before calls st at 0 to) l c)
walked-row flow op place (rows.Ret at) step steps before to calls stack g leads closed on =
    walked-step flow op place step (moved (edges.Ret at to)) steps before to calls g.0 stack leads closed on
    (λ st rest l c.
    let back = split-stack before calls to st g.1 in
    (back.0, back.1, rest back.0 (IsStack-return before back.0 to (subst (IsStack before) back.1 st) at to) l c))
walked-row flow op place (rows.Begin at begun) step steps before to calls stack g leads closed on = absurd g
walked-row flow op place (rows.End at ended) step steps before to calls stack g leads closed on = absurd g
walked-row flow op place (rows.UseCell at cell) step steps before to calls stack g leads closed on =
    walked-step flow op place step passed steps before to calls g.0 stack leads closed on (λ st rest l c. rest calls (IsStack-passed before calls st) l c)
walked-row flow op place (rows.DefCell at cell) step steps before to calls stack g leads closed on =
    walked-step flow op place step passed steps before to calls g.0 stack leads closed on (λ st rest l c. rest calls (IsStack-passed before calls st) l c)
walked-row flow op place (rows.UseAt at cell len) step steps before to calls stack g leads closed on =
    walked-step flow op place step passed steps before to calls g.0 stack leads closed on (λ st rest l c. rest calls (IsStack-passed before calls st) l c)
walked-row flow op place (rows.DefAt at cell len) step steps before to calls stack g leads closed on =
    walked-step flow op place step passed steps before to calls g.0 stack leads closed on (λ st rest l c. rest calls (IsStack-passed before calls st) l c)
walked-row flow op place (rows.Check at) step steps before to calls stack g leads closed on =
    walked-step flow op place step passed steps before to calls g.0 stack leads closed on (λ st rest l c. rest calls (IsStack-passed before calls st) l c)

walked : (flow : Map) (op place : ℕ) (steps before : List Step) (from : ℕ) → Rest flow op place steps before from
walked flow op place [] before from calls stack leads closed =
    empty-of calls (sym (depth-is before calls stack) ∙ ap depth (sym (append-nil before)) ∙ closed)
walked flow op place (step ∷ steps) before from calls stack (to, (row, at_row, goes), leads) closed =
    walked-row flow op place row step steps before to calls stack goes leads closed (λ b. walked flow op place steps b to)

pub walks_go_back : WalksGoBack
walks_go_back flow op steps walk =
    subst (λ (xs : List Step). GoesBack turn_of [] (path_of xs)) (sym walk.whole)
    (walked flow op walk.place walk.front [] walk.partial.from [] IsStack-empty walk.partial.leads walk.closed)
