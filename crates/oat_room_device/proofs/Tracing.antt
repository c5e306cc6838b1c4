-- The room of `trace`: where its work stops and goes on, and what its statuses say.
use Rattle.std.proofs.Common.{◌≡◌, ◌<◌, ◌+◌, ◌++◌, ◌∙◌, ℕ, length, take, List, ◌∷◌, Option, get_or, append-nil, append_assoc, length-take-le, refl, sym, ap, arith, Bool, ◌||◌, []}
use Rattle.std.specs.List.{list_any}
use Rattle.std.proofs.lemmas.List.{take_more}
use Rattle.oat_watch.specs.declared.watched.WatchedWindow.{WatchedWindow}
use Rattle.oat_page.proofs.Working.{StopsWith-more}
use Rattle.oat_inputs.specs.Admits.{Rejects, AreAdmitted}
use Rattle.oat_inputs.proofs.Admitting.{Admits-rejected, Admits-admitted}
use Rattle.oat_shown.specs.{Image, Map, Case, Stop, Answer, File, Windows.refuses_one, Windows.window_number, Windows.is_refusal, StopsWith}
use Rattle.oat_room_device.specs.Trace.{Traces, TracesCase, part_text, parts_from, verdicts_on}

-- ---- where the work stops, and where it goes on to the run

pub traces_rejecting : (image case : File) (stop : Stop) → StopsWith (Rejects image case) stop → StopsWith (Traces (image ∷ case ∷ [])) stop
traces_rejecting image case stop stops =
    StopsWith-more (Rejects image case) (Traces (image ∷ case ∷ [])) stop (λ a rejected. Admits-rejected image case TracesCase a rejected) stops

pub traces_admitted : (image case : File) (i : Image) (c : Case) (a : Answer) → AreAdmitted image case i c → TracesCase i c a → Traces (image ∷ case ∷ []) a
traces_admitted image case i c a admitted traces = Admits-admitted image case TracesCase a i c admitted traces

-- ---- one more part

pub parts_more : (flow : Map) (calls : Option ℕ) (s : ℕ) (windows : List WatchedWindow) (shown : WatchedWindow)
    → parts_from flow calls s (windows ++ shown ∷ []) ≡ parts_from flow calls s windows ++ part_text flow (window_number calls (s + length windows)) shown
parts_more flow calls s [] shown =
    let same : s ≡ s + 0 = omega arith in
    append-nil (part_text flow (window_number calls s) shown) ∙ ap (λ (n : ℕ). part_text flow (window_number calls n) shown) same
parts_more flow calls s (w ∷ ws) shown =
    let same : s + 1 + length ws ≡ s + length (w ∷ ws) = omega arith in
    ap (λ (rest : List ℕ). part_text flow (window_number calls s) w ++ rest)
    (parts_more flow calls (s + 1) ws shown ∙ ap (λ (n : ℕ). parts_from flow calls (s + 1) ws ++ part_text flow (window_number calls n) shown) same)
    ∙ sym (append_assoc (part_text flow (window_number calls s) w) (parts_from flow calls (s + 1) ws) (part_text flow (window_number calls (s + length (w ∷ ws))) shown))

pub part_taken : (flow : Map) (calls : Option ℕ) (windows : List WatchedWindow) (s : ℕ) (shown : WatchedWindow) → s < length windows → shown ≡ get_or windows s shown
    → parts_from flow calls 0 (take (s + 1) windows) ≡ parts_from flow calls 0 (take s windows) ++ part_text flow (window_number calls s) shown
part_taken flow calls windows s shown below at =
    let long : length (take s windows) ≡ s = length-take-le s windows (omega (arith, below)) in
    let taken : 0 + length (take s windows) ≡ s = omega (arith, long) in
    ap (λ (ws : List WatchedWindow). parts_from flow calls 0 ws) (take_more windows s shown below ∙ ap (λ (w : WatchedWindow). take s windows ++ w ∷ []) (sym at))
    ∙ (parts_more flow calls 0 (take s windows) shown ∙ ap (λ (n : ℕ). parts_from flow calls 0 (take s windows) ++ part_text flow (window_number calls n) shown) taken)

-- ---- a verdict refuses

pub refusals_are : (windows : List WatchedWindow) → list_any (λ shown. is_refusal shown.verdict) windows ≡ refuses_one (verdicts_on windows)
refusals_are [] = refl
refusals_are (shown ∷ windows) = ap (λ (b : Bool). is_refusal shown.verdict || b) (refusals_are windows)
