-- Each return of a trail goes to the site of its matching call, also where the call is looked for among the edges alone.
use Rattle.std.proofs.Common.{◌≡◌, ℕ, List, [], ◌∷◌, ◌++◌, map, sym, ap, subst, ◌∙◌, inl, inr, append-nil, append_assoc}
use Rattle.std.proofs.lemmas.List.Elements.{filter_map-append}
use Rattle.oat_journal.specs.{Edge, Map, Row, Jump, Branch, Call, ICall, Begin, End, UseCell, DefCell, UseAt, DefAt, Check, Step, passed, moved, edge_of, path_of, Returns, RowGoes, Leads}
use Rattle.oat_verify.specs.{Ret}
use Rattle.oat_attest.specs.Lockstep.{AllReturnsMatch}
use Rattle.oat_attest.proofs.Moves.{returns_moves}
use Rattle.oat_map.specs.declared.edge.Edge.TheVariants as edges

ret_goes : (flow : Map) (row : Row) (before : List Step) (to at goes : ℕ) → RowGoes flow row before (moved (edges.Ret at goes)) to → Returns before goes
ret_goes flow (Jump a t) before to at goes g = let h = g.0 in absurd (cc)
ret_goes flow (Branch a t o) before to at goes (inl g) = let h = g.0 in absurd (cc)
ret_goes flow (Branch a t o) before to at goes (inr g) = let h = g.0 in absurd (cc)
ret_goes flow (Call a t) before to at goes g = let h = g.0 in absurd (cc)
ret_goes flow (ICall a p) before to at goes g = let h = g.0 in absurd (cc)
ret_goes flow (Ret a) before to at goes g =
    let h : moved (edges.Ret at goes) ≡ moved (edges.Ret a to) = g.0 in
    let same : to ≡ goes = cc in
    subst (Returns before) same g.1
ret_goes flow (Begin a o) before to at goes g = absurd g
ret_goes flow (End a o) before to at goes g = absurd g
ret_goes flow (UseCell a c) before to at goes g = let h = g.0 in absurd (cc)
ret_goes flow (DefCell a c) before to at goes g = let h = g.0 in absurd (cc)
ret_goes flow (UseAt a c l) before to at goes g = let h = g.0 in absurd (cc)
ret_goes flow (DefAt a c l) before to at goes g = let h = g.0 in absurd (cc)
ret_goes flow (Check a) before to at goes g = let h = g.0 in absurd (cc)

head_is : (e f : Edge) (es fs : List Edge) → e ∷ es ≡ f ∷ fs → e ≡ f
head_is e f es fs h = cc

tail_is : (e f : Edge) (es fs : List Edge) → e ∷ es ≡ f ∷ fs → es ≡ fs
tail_is e f es fs h = cc

path_passed : (before : List Step) → path_of (before ++ passed ∷ []) ≡ path_of before
path_passed before = filter_map-append edge_of before (passed ∷ []) ∙ append-nil (path_of before)

path_moved : (before : List Step) (edge : Edge) → path_of (before ++ moved edge ∷ []) ≡ path_of before ++ edge ∷ []
path_moved before edge = filter_map-append edge_of before (moved edge ∷ [])

true_returns : (flow : Map) (steps before : List Step) (from to : ℕ) → Leads flow before from steps to
    → (front others : List Edge) (at goes : ℕ) → path_of steps ≡ front ++ edges.Ret at goes ∷ others
    → Returns (map moved (path_of before ++ front)) goes
true_returns flow [] before from to leads [] others at goes is = absurd (cc)
true_returns flow [] before from to leads (f ∷ front) others at goes is = absurd (cc)
true_returns flow (passed ∷ steps) before from to leads front others at goes is =
    let (middle, went, rest) = leads in
    subst (λ (xs : List Edge). Returns (map moved (xs ++ front)) goes) (path_passed before)
    (true_returns flow steps (before ++ passed ∷ []) middle to rest front others at goes is)
true_returns flow (moved edge ∷ steps) before from to leads [] others at goes is =
    let (middle, went, rest) = leads in
    let (row, at_row, row_goes) = went in
    let same = head_is edge (edges.Ret at goes) (path_of steps) others is in
    let here = ret_goes flow row before middle at goes (subst (λ (e : Edge). RowGoes flow row before (moved e) middle) same row_goes) in
    subst (λ (xs : List Edge). Returns (map moved xs) goes) (sym (append-nil (path_of before))) (returns_moves before goes here)
true_returns flow (moved edge ∷ steps) before from to leads (f ∷ front) others at goes is =
    let (middle, went, rest) = leads in
    let same = head_is edge f (path_of steps) (front ++ edges.Ret at goes ∷ others) is in
    let on = true_returns flow steps (before ++ moved edge ∷ []) middle to rest front others at goes (tail_is edge f (path_of steps) (front ++ edges.Ret at goes ∷ others) is) in
    let whole : path_of (before ++ moved edge ∷ []) ++ front ≡ path_of before ++ f ∷ front =
    ap (λ (xs : List Edge). xs ++ front) (path_moved before edge) ∙ append_assoc (path_of before) (edge ∷ []) front ∙ ap (λ (e : Edge). path_of before ++ e ∷ front) same in
    subst (λ (xs : List Edge). Returns (map moved xs) goes) whole on

pub all_returns_match : (flow : Map) (steps : List Step) (from to : ℕ) → Leads flow [] from steps to → AllReturnsMatch (path_of steps)
all_returns_match flow steps from to leads before others at goes is = true_returns flow steps [] from to leads before others at goes is
