-- Unequal returns clash: both lists have 64 bits, and the blob's hash is the chain of each.
use Rattle.std.proofs.Common.{◌≡◌, ℕ, suc, ◌+◌, ◌*◌, ◌%◌, ◌^◌, ◌<◌, inl, inr, Bool, true, false, cond, eqb, List, [], ◌∷◌, ◌++◌, length, slice_get, All, Option, Some, None, option_and_then, refl, sym}
use Rattle.std.proofs.Common.{ap, subst, ◌∙◌, arith, append-nil}
use Rattle.std.specs.List.{cons_option}
use Rattle.std.proofs.lemmas.List.Elements.{All-cons, filter_map-append}
use Rattle.sha2.specs.Sha256.{sha256}
use Rattle.oat_chain.proofs.{Lengths.length-window_head, Lengths.length-digest, Messages.clash_exists}
use Rattle.oat_blob.proofs.OneLayout.{one_body}
use Rattle.oat_journal.specs.{Inst, Svc, Regs, Body, Session, chain, Image, image_text, Edge, Map, Row, Step, passed, moved, edge_of, path_of, return_of, returns_of, return_site_of, Returns, RowGoes}
use Rattle.oat_journal.specs.{Leads, Walk, monitor_call, MonitorCall, Run.Entry, Journal.IsEntryBounded, Window.made_call, Window.returned, Window.returns_of_run, Measured.dev, Measured.window_of}
use Rattle.oat_journal.specs.{Measured.opening_of, serial_of}
use Rattle.oat_journal.proofs.RunLaws.{bodies_tell_windows, windows_are_traces}
use Rattle.oat_verify.specs.Verdict.{Accepts, head_of, subject_of}
use Rattle.oat_attest.specs.Lockstep.{ClashOfUnequalReturns}
use Rattle.oat_map.specs.declared.edge.Edge.TheVariants as edges
use Rattle.oat_map.specs.declared.row.Row.TheVariants as rows
use Rattle.oat_journal.specs.svc as svc

abbrev AllFit : List ℕ → Type 0
AllFit addresses = All (λ address. address < 2 ^ 64) addresses

fit_more : (o : Option ℕ) (later : List ℕ) → ((address : ℕ) → o ≡ Some address → address < 2 ^ 64) → AllFit later → AllFit (cons_option o later)
fit_more None later first rest = rest
fit_more (Some address) later first rest = All-cons (λ (a : ℕ). a < 2 ^ 64) address later (first address refl) rest

fit_none : AllFit []
fit_none k d lt = absurd (omega arith)

-- ---- the returns of a run

-- what a call records of a return is a register
abbrev ReturnFits : Option MonitorCall → Type 0
ReturnFits call = (address : ℕ) → returned call ≡ Some address → address < 2 ^ 64

fits_if : (t : Bool) (a b : Option MonitorCall) → ReturnFits a → ReturnFits b → ReturnFits (cond t a b)
fits_if true a b p q = p
fits_if false a b p q = q

call_fits : (i : Inst) (r : Regs) → ((k : ℕ) → r.x k < 2 ^ 64) → ReturnFits (monitor_call i r)
call_fits (Svc number) r low =
    fits_if (eqb number 1) (Some (svc.Begin (r.x 9) r.pc)) _ (λ a q. absurd (cc))
    (fits_if (eqb number 2) (Some (svc.End (r.x 9))) _ (λ a q. absurd (cc))
    (fits_if (eqb number 3) (Some (svc.Bit (r.x 9))) _ (λ a q. absurd (cc))
    (fits_if (eqb number 4) (Some (svc.Target (r.x 9))) _ (λ a q. absurd (cc))
    (fits_if (eqb number 5) (Some (svc.Return (r.x 30))) _ (λ a q. let same : r.x 30 ≡ a = cc in subst (λ (n : ℕ). n < 2 ^ 64) same (low 30))
    (fits_if (eqb number 6) (Some (svc.Define (r.x 9) (r.x 10))) _ (λ a q. absurd (cc))
    (fits_if (eqb number 7) (Some (svc.Use (r.x 9) (r.x 10))) None (λ a q. absurd (cc)) (λ a q. absurd (cc))))))))
call_fits _ r low = λ a q. absurd (cc)

run_fits : (window : List Entry) → ((k : ℕ) (e : Entry) → slice_get window k ≡ Some e → IsEntryBounded e) → AllFit (returns_of_run window)
run_fits [] bounded = fit_none
run_fits (e ∷ es) bounded =
    fit_more (returned (made_call e)) (returns_of_run es) (call_fits e.inst e.found.regs (bounded 0 e refl).found.x)
    (run_fits es (λ k other at. bounded (suc k) other at))

-- ---- the returns of a walk

-- where a call is to be returned to
site_fits : (step : Step) (site : ℕ) → return_site_of step ≡ Some site → site < 2 ^ 64
site_fits passed site is = absurd (cc)
site_fits (moved (edges.Call from to)) site is = let same : (from + 4 * 1) % 2 ^ 64 ≡ site = cc in omega arith
site_fits (moved (edges.ICall from to)) site is = let same : (from + 4 * 2) % 2 ^ 64 ≡ site = cc in omega arith
site_fits (moved _) site is = absurd (cc)

call_site_fits : (call : Option Step) (site : ℕ) → option_and_then return_site_of call ≡ Some site → site < 2 ^ 64
call_site_fits None site is = absurd (cc)
call_site_fits (Some step) site is = site_fits step site is

back_fits : (before : List Step) (back : ℕ) → Returns before back → back < 2 ^ 64
back_fits before back r = call_site_fits (slice_get before r.place) back r.matching.call

abbrev StepFits : Step → Type 0
StepFits step = (address : ℕ) → option_and_then return_of (edge_of step) ≡ Some address → address < 2 ^ 64

no_return : (step other : Step) → step ≡ other → option_and_then return_of (edge_of other) ≡ None → StepFits step
no_return step other is none address h =
    absurd (let q : None ≡ Some address = sym none ∙ ap (λ (s : Step). option_and_then return_of (edge_of s)) (sym is) ∙ h in cc)

goes_fits : (flow : Map) (row : Row) (before : List Step) (step : Step) (to : ℕ) → RowGoes flow row before step to → StepFits step
goes_fits flow (rows.Jump at other) before step to goes = no_return step (moved (edges.Jump at other)) goes.0 refl
goes_fits flow (rows.Branch at taken other) before step to (inl goes) = no_return step (moved (edges.Branch at true taken)) goes.0 refl
goes_fits flow (rows.Branch at taken other) before step to (inr goes) = no_return step (moved (edges.Branch at false other)) goes.0 refl
goes_fits flow (rows.Call at other) before step to goes = no_return step (moved (edges.Call at other)) goes.0 refl
goes_fits flow (rows.ICall at params) before step to goes = no_return step (moved (edges.ICall at to)) goes.0 refl
goes_fits flow (rows.Ret at) before step to goes = λ address h.
    let q : Some to ≡ Some address = ap (λ (s : Step). option_and_then return_of (edge_of s)) (sym goes.0) ∙ h in
    let same : to ≡ address = cc in
    subst (λ (n : ℕ). n < 2 ^ 64) same (back_fits before to goes.1)
goes_fits flow (rows.Begin at op) before step to goes = absurd goes
goes_fits flow (rows.End at op) before step to goes = absurd goes
goes_fits flow (rows.UseCell at cell) before step to goes = no_return step passed goes.0 refl
goes_fits flow (rows.DefCell at cell) before step to goes = no_return step passed goes.0 refl
goes_fits flow (rows.UseAt at cell len) before step to goes = no_return step passed goes.0 refl
goes_fits flow (rows.DefAt at cell len) before step to goes = no_return step passed goes.0 refl
goes_fits flow (rows.Check at) before step to goes = no_return step passed goes.0 refl

path_more : (step : Step) (steps : List Step) → returns_of (path_of (step ∷ steps)) ≡ cons_option (option_and_then return_of (edge_of step)) (returns_of (path_of steps))
path_more passed steps = refl
path_more (moved edge) steps = refl

leads_fit : (flow : Map) (before : List Step) (from : ℕ) (steps : List Step) (to : ℕ) → Leads flow before from steps to → AllFit (returns_of (path_of steps))
leads_fit flow before from [] to leads = fit_none
leads_fit flow before from (step ∷ steps) to leads =
    subst AllFit (sym (path_more step steps))
    (fit_more (option_and_then return_of (edge_of step)) (returns_of (path_of steps)) (goes_fits flow leads.1.0 before step leads.0 leads.1.2)
    (leads_fit flow (before ++ step ∷ []) leads.0 steps to leads.2))

-- the end returns nowhere
end_returns : (front : List Step) (op : ℕ) → returns_of (path_of (front ++ moved (edges.End op) ∷ [])) ≡ returns_of (path_of front)
end_returns front op =
    ap returns_of (filter_map-append edge_of front (moved (edges.End op) ∷ []))
    ∙ filter_map-append return_of (path_of front) (edges.End op ∷ []) ∙ append-nil (returns_of (path_of front))

walk_fits : (flow : Map) (op : ℕ) (steps : List Step) → Walk flow op steps → AllFit (returns_of (path_of steps))
walk_fits flow op steps walk =
    subst (λ (all : List Step). AllFit (returns_of (path_of all))) (sym walk.whole)
    (subst AllFit (sym (end_returns walk.front op)) (leads_fit flow [] walk.partial.from walk.front walk.place walk.partial.leads))

path_fits : (flow : Map) (op : ℕ) (steps : List Step) (path : List Edge) → Walk flow op steps → path ≡ path_of steps → AllFit (returns_of path)
path_fits flow op steps path walk is = subst (λ (edges_are : List Edge). AllFit (returns_of edges_are)) (sym is) (walk_fits flow op steps walk)

-- ---- the clash

-- what a window of an accepted session begins with has 50 bytes
head_length : (image : Image) (session : Session) (bytes : List ℕ) (path : List Edge) (serial : Option ℕ) → Accepts (subject_of image session) bytes path → length (head_of (subject_of image session) serial) ≡ 50
head_length image session bytes path serial accepted =
    length-window_head session.nonce session.op (sha256 (image_text image)) serial
    (sym (ap length accepted.nonce) ∙ accepted.is_blob.body_fits.nonce.counted) (length-digest (image_text image))

pub clash_of_unequal_returns : ClashOfUnequalReturns
clash_of_unequal_returns image session begin_at setting bytes path accepted inputs writes n s body given reported unequal =
    let o = opening_of image session begin_at in
    let run = dev image o inputs writes n in
    let trace = windows_are_traces image o inputs writes n s body given reported.has in
    let window = bodies_tell_windows image o inputs writes n s body reported.has in
    let same = one_body bytes body accepted.body _ accepted.mac reported.blob accepted.is_blob in
    let head = head_of (subject_of image session) in
    let serial : accepted.body.head.serial ≡ serial_of o s = ap (λ (b : Body). b.head.serial) (sym same.0) ∙ window.serial in
    let chains : chain (head (serial_of o s)) (returns_of_run (window_of o s run)) ≡ chain (head (serial_of o s)) (returns_of path) =
    sym window.hash ∙ ap (λ (b : Body). b.head.hash) same.0 ∙ accepted.hash ∙ ap (λ (number : Option ℕ). chain (head number) (returns_of path)) serial in
    let clash = clash_exists (head (serial_of o s)) (returns_of_run (window_of o s run)) (returns_of path)
    (head_length image session bytes path (serial_of o s) accepted)
    (run_fits (window_of o s run) (λ k e at. (trace.made k e at).1))
    (path_fits image.map session.op accepted.walked.steps path accepted.walked.walk accepted.walked.path_is)
    chains unequal in
    record { differ = unequal; first = clash.first; second = clash.second; place = clash.place; one_digest = clash.one_digest }
