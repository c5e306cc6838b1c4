-- Where the steps of a walk go: to clear places, and back to the sites of calls.
use Rattle.std.proofs.Common.{◌≡◌, ℕ, zero, suc, ◌+◌, true, false, List, [], ◌∷◌, ◌++◌, map, Contains, Some, None, refl, sym, ap, subst, ◌∙◌, inl, inr, arith}
use Rattle.std.specs.{List.slice_get, List.list_any, Option.option_and_then, Option.option_map}
use Rattle.std.proofs.lemmas.{Bool.eq-eqb, Bool.and_from, List.Folds.list_any_at, Option.slice_get-map}
use Rattle.oat_journal.specs.{Map, Function, Row, Jump, Branch, Call, ICall, Begin, End, UseCell, DefCell, UseAt, DefAt, Check, after, entries_of, IsIndirectTarget, is_call, is_called_at}
use Rattle.oat_journal.specs.{is_returned_to, Step, passed, moved, return_site_of, Returns, RowGoes, Image}
use Rattle.oat_verify.specs.{Ret, IsReturnSite, CutsNoGroup, IsLaid}
use Rattle.oat_attest.proofs.Lists.{contains_get, get_contains}
use Rattle.oat_map.specs.declared.edge.Edge.TheVariants as edges

-- ---- calls of the steps so far

-- each call among the steps is to be returned to behind the group of a row
abbrev pub AreCalled : List Row → List Step → Type 0
AreCalled rows before = (k site : ℕ) → option_and_then return_site_of (slice_get before k) ≡ Some site → IsReturnSite rows site

pub called_none : (rows : List Row) → AreCalled rows []
called_none rows k site h = absurd (cc)

called_one : (rows : List Row) (step : Step) → ((site : ℕ) → return_site_of step ≡ Some site → IsReturnSite rows site) → AreCalled rows (step ∷ [])
called_one rows step here zero site h = here site h
called_one rows step here (suc k) site h = absurd (cc)

pub called_more : (rows : List Row) (before : List Step) (step : Step) → AreCalled rows before
    → ((site : ℕ) → return_site_of step ≡ Some site → IsReturnSite rows site) → AreCalled rows (before ++ step ∷ [])
called_more rows [] step called here k site h = called_one rows step here k site h
called_more rows (first ∷ before) step called here zero site h = called zero site h
called_more rows (first ∷ before) step called here (suc k) site h = called_more rows before step (λ j. called (suc j)) here k site h

no_site : (rows : List Row) (step s : Step) → step ≡ s → return_site_of s ≡ None → (site : ℕ) → return_site_of step ≡ Some site → IsReturnSite rows site
no_site rows step s same none site h =
    let both : None ≡ Some site = sym none ∙ ap return_site_of (sym same) ∙ h in
    absurd (cc)

a_site : (rows : List Row) (step s : Step) (row : Row) → Contains rows row → is_call row ≡ true → step ≡ s → return_site_of s ≡ Some (after row)
    → (site : ℕ) → return_site_of step ≡ Some site → IsReturnSite rows site
a_site rows step s row has call same at site h =
    let both : Some (after row) ≡ Some site = sym at ∙ ap return_site_of (sym same) ∙ h in
    let there : after row ≡ site = cc in
    (row, has, call, there)

pub goes_site : (flow : Map) (row : Row) (before : List Step) (step : Step) (to : ℕ) → Contains flow.rows row → RowGoes flow row before step to
    → (site : ℕ) → return_site_of step ≡ Some site → IsReturnSite flow.rows site
goes_site flow (Jump at target) before step to has g = no_site flow.rows step (moved (edges.Jump at target)) g.0 refl
goes_site flow (Branch at taken other) before step to has (inl g) = no_site flow.rows step (moved (edges.Branch at true taken)) g.0 refl
goes_site flow (Branch at taken other) before step to has (inr g) = no_site flow.rows step (moved (edges.Branch at false other)) g.0 refl
goes_site flow (Call at target) before step to has g = a_site flow.rows step (moved (edges.Call at target)) (Call at target) has refl g.0 refl
goes_site flow (ICall at params) before step to has g = a_site flow.rows step (moved (edges.ICall at to)) (ICall at params) has refl g.0 refl
goes_site flow (Ret at) before step to has g = no_site flow.rows step (moved (edges.Ret at to)) g.0 refl
goes_site flow (Begin at op) before step to has g = absurd g
goes_site flow (End at op) before step to has g = absurd g
goes_site flow (UseCell at cell) before step to has g = no_site flow.rows step passed g.0 refl
goes_site flow (DefCell at cell) before step to has g = no_site flow.rows step passed g.0 refl
goes_site flow (UseAt at cell len) before step to has g = no_site flow.rows step passed g.0 refl
goes_site flow (DefAt at cell len) before step to has g = no_site flow.rows step passed g.0 refl
goes_site flow (Check at) before step to has g = no_site flow.rows step passed g.0 refl

pub returns_site : (rows : List Row) (before : List Step) (to : ℕ) → AreCalled rows before → Returns before to → IsReturnSite rows to
returns_site rows before to called r = called r.place to r.matching.call

-- ---- clear places

contains_map : {A B : Type 0} (f : A → B) (xs : List A) (x : A) → Contains xs x → Contains (map f xs) (f x)
contains_map f xs x c =
    contains_get (map f xs) c.0 (f x) (slice_get-map f xs c.0 ∙ ap (option_map f) (get_contains xs x c))

target_entry : (functions : List Function) (params to : ℕ) → IsIndirectTarget functions params to → Contains (entries_of functions) to
target_entry functions params to t =
    subst (Contains (entries_of functions)) t.entry (contains_map (λ f. f.entry) functions t.function t.among)

clear_behind : (image : Image) → IsLaid image → (row : Row) (to : ℕ) → Contains image.map.rows row → to ≡ after row → CutsNoGroup image.map.rows to
clear_behind image laid row to has is = subst (CutsNoGroup image.map.rows) (sym (is ∙ (laid.low row has).2)) (laid.behind row has)

pub goes_clear : (image : Image) → IsLaid image → (row : Row) (before : List Step) (step : Step) (to : ℕ) → Contains image.map.rows row
    → AreCalled image.map.rows before → RowGoes image.map row before step to → CutsNoGroup image.map.rows to
goes_clear image laid (Jump at target) before step to has called g =
    subst (CutsNoGroup image.map.rows) (sym g.1) (laid.place target (inr (inl (laid.leads (Jump at target) has))))
goes_clear image laid (Branch at taken other) before step to has called (inl g) =
    subst (CutsNoGroup image.map.rows) (sym g.1) (laid.place taken (inr (inl (laid.leads (Branch at taken other) has).0)))
goes_clear image laid (Branch at taken other) before step to has called (inr g) =
    subst (CutsNoGroup image.map.rows) (sym g.1) (laid.place other (inr (inl (laid.leads (Branch at taken other) has).1)))
goes_clear image laid (Call at target) before step to has called g =
    subst (CutsNoGroup image.map.rows) (sym g.1) (laid.place target (inl (laid.leads (Call at target) has)))
goes_clear image laid (ICall at params) before step to has called g = laid.place to (inl (target_entry image.map.functions params to g.1))
goes_clear image laid (Ret at) before step to has called g = laid.place to (inr (inr (returns_site image.map.rows before to called g.1)))
goes_clear image laid (Begin at op) before step to has called g = absurd g
goes_clear image laid (End at op) before step to has called g = absurd g
goes_clear image laid (UseCell at cell) before step to has called g = clear_behind image laid (UseCell at cell) to has g.1
goes_clear image laid (DefCell at cell) before step to has called g = clear_behind image laid (DefCell at cell) to has g.1
goes_clear image laid (UseAt at cell len) before step to has called g = clear_behind image laid (UseAt at cell len) to has g.1
goes_clear image laid (DefAt at cell len) before step to has called g = clear_behind image laid (DefAt at cell len) to has g.1
goes_clear image laid (Check at) before step to has called g = clear_behind image laid (Check at) to has g.1

-- no branch leads into its own group
pub branch_apart : (image : Image) → IsLaid image → (at taken other : ℕ) → Contains image.map.rows (Branch at taken other) → at + 8 ≡ taken → ⊥
branch_apart image laid at taken other has same =
    let clear = laid.place taken (inr (inl (laid.leads (Branch at taken other) has).0)) in
    let past = clear (Branch at taken other) has (omega arith) in
    omega arith

-- ---- what the tests on targets and return sites find

pub target_any : (functions : List Function) (params to : ℕ) → IsIndirectTarget functions params to → list_any (is_called_at params to) functions ≡ true
target_any functions params to t =
    let passes : is_called_at params to t.function ≡ true = rw (eq-eqb t.function.entry to t.entry, eq-eqb t.function.params params t.same_params, t.referenced) refl in
    list_any_at (is_called_at params to) functions t.among.0 t.function t.among.1 (ap (is_called_at params to) t.among.2 ∙ passes)

pub returned_any : (rows : List Row) (to : ℕ) → IsReturnSite rows to → list_any (is_returned_to to) rows ≡ true
returned_any rows to (row, has, call, there) =
    let passes : is_returned_to to row ≡ true = and_from _ _ call (eq-eqb (after row) to there) in
    list_any_at (is_returned_to to) rows has.0 row has.1 (ap (is_returned_to to) has.2 ∙ passes)
