-- The room of `trace`: it has one answer, since the windows of a run are told in one way.
use Rattle.std.proofs.Common.{◌≡◌, ◌+◌, ◌-◌, ◌<◌, ◌++◌, ◌∙◌, ℕ, suc, List, [], ◌∷◌, length, map, get_or, Option, Some, None, inl, inr, refl, sym, ap, subst, arith, length-append}
use Rattle.std.specs.{Prelude.slice_get, List.flat_map}
use Rattle.std.proofs.Math.Seq.{get_or-append_seam}
use Rattle.std.proofs.lemmas.{Bool.cases_lt, List.get_or-append-add}
use Rattle.oat_lines.proofs.Steps.{some_is}
use Rattle.oat_shape.proofs.Laid.{opens_once}
use Rattle.oat_verify.proofs.OneVerdict.{one_verdict}
use Rattle.oat_inputs.proofs.Admitting.{Admits-one}
use Rattle.oat_room_device.specs.{bytes_of, Clash, CheckedUse as ShownUse, WatchedWindow, use_of, HasItsVerdict, PartsFrom, Device.run_lines, Device.run_of, Trace.AreTraced, Trace.TracesCase}
use Rattle.oat_room_device.specs.{Trace.part_text, Trace.parting_text, Trace.parts_from, Trace.use_line, Trace.verdicts_on}
use Rattle.oat_room_attest.specs.{Body, IsBlobOf, messages, DiffersAt, Case, Session, IsOne, Image, Map, returns_of, Run, opening_of, window_of, CheckedUse, returns_of_run, serial_of, use_text}
use Rattle.oat_room_attest.specs.{apart_text, verdict_text, S7, Everywhere, Verdict, Accept, Refuse, IsVerdict, head_of, subject_of, line, Answer, shows, path_text, ended_with, want_text}
use Rattle.oat_room_attest.specs.{window_number}
use Rattle.oat_tool.specs.TraceLaws.{OneTrace}

-- ---- one clash

-- an item with a shorter end behind it stands in the longer end
in_longer : (all front : List (List ℕ)) (x : List ℕ) (end other : List (List ℕ)) (y : List ℕ) (longer : List (List ℕ))
    → all ≡ front ++ x ∷ end → all ≡ other ++ y ∷ longer → length end < length longer → x ≡ get_or longer (length longer - length end - 1) []
in_longer all front x end other y longer is is' below =
    let j = length longer - length end - 1 in
    let one : length all ≡ length front + length (x ∷ end) = ap length is ∙ length-append front (x ∷ end) in
    let two : length all ≡ length other + length (y ∷ longer) = ap length is' ∙ length-append other (y ∷ longer) in
    let place : length front ≡ length other + suc j = omega (arith, one, two, below) in
    sym (get_or-append_seam front x end [])
    ∙ (ap (λ (l : List (List ℕ)). get_or l (length front) []) (sym is ∙ is')
    ∙ (ap (λ (k : ℕ). get_or (other ++ y ∷ longer) k []) place ∙ get_or-append-add other (y ∷ longer) (suc j) []))

-- items with ends of one length behind them are the same
as_far : (all front : List (List ℕ)) (x : List ℕ) (end other : List (List ℕ)) (y : List ℕ) (longer : List (List ℕ))
    → all ≡ front ++ x ∷ end → all ≡ other ++ y ∷ longer → length end ≡ length longer → x ≡ y
as_far all front x end other y longer is is' same =
    let one : length all ≡ length front + length (x ∷ end) = ap length is ∙ length-append front (x ∷ end) in
    let two : length all ≡ length other + length (y ∷ longer) = ap length is' ∙ length-append other (y ∷ longer) in
    let place : length front ≡ length other = omega (arith, one, two, same) in
    sym (get_or-append_seam front x end [])
    ∙ (ap (λ (l : List (List ℕ)). get_or l (length front) []) (sym is ∙ is')
    ∙ (ap (λ (k : ℕ). get_or (other ++ y ∷ longer) k []) place ∙ get_or-append_seam other y longer []))

never_shorter : (run replay : List (List ℕ)) (first second other another : List ℕ) (one : DiffersAt run replay first second) (two : DiffersAt run replay other another)
    → length one.same_end < length two.same_end → ⊥
never_shorter run replay first second other another one two below =
    one.differ
    (in_longer run one.run_front first one.same_end two.run_front other two.same_end one.run_is two.run_is below
    ∙ sym (in_longer replay one.replay_front second one.same_end two.replay_front another two.same_end one.replay_is two.replay_is below))

one_clash : (run replay : List (List ℕ)) (first second other another : List ℕ) → DiffersAt run replay first second → DiffersAt run replay other another
    → (first ≡ other) × (second ≡ another)
one_clash run replay first second other another one two =
    elim (cases_lt (length one.same_end) (length two.same_end)) [
      | inl below ↦ absurd (never_shorter run replay first second other another one two below)
      | inr not_below ↦
          elim (cases_lt (length two.same_end) (length one.same_end)) [
            | inl above ↦ absurd (never_shorter run replay other another first second two one above)
            | inr not_above ↦
                let same : length one.same_end ≡ length two.same_end = omega (arith, not_below, not_above) in (
                  as_far run one.run_front first one.same_end two.run_front other two.same_end one.run_is two.run_is same,
                  as_far replay one.replay_front second one.same_end two.replay_front another two.same_end one.replay_is two.replay_is same,
                )
          ]
    ]

one_parting : (head returns : List ℕ) (verdict : Verdict) (a b : Option Clash) → PartsFrom head returns verdict a → PartsFrom head returns verdict b
    → parting_text verdict a ≡ parting_text verdict b
one_parting head returns (Accept path) None None one two = refl
one_parting head returns (Accept path) None (Some clash) one two = absurd (two.0.differ one)
one_parting head returns (Accept path) (Some clash) None one two = absurd (one.0.differ two)
one_parting head returns (Accept path) (Some clash) (Some other) one two =
    let same = one_clash (messages head returns) (messages head (returns_of path)) one.0.first one.0.second two.0.first two.0.second one.0.place two.0.place in
    let firsts : bytes_of clash.first ≡ bytes_of other.first = sym one.1 ∙ (same.0 ∙ two.1) in
    let seconds : bytes_of clash.second ≡ bytes_of other.second = sym one.2 ∙ (same.1 ∙ two.2) in
    λ i. line (apart_text (firsts i) (seconds i))
one_parting head returns (Refuse cause) a b one two = refl

-- ---- one part of a window

abbrev told_use : CheckedUse → List ℕ
told_use used = line (use_text used.cell used.found used.defined)

told_uses : (uses : List ShownUse) → flat_map use_line uses ≡ flat_map told_use (map use_of uses)
told_uses [] = refl
told_uses (used ∷ uses) = ap (λ (rest : List ℕ). use_line used ++ rest) (told_uses uses)

one_judgement : (image : Image) (session : Session) (begin_at : ℕ) (run : Run) (s : ℕ) (shown other : WatchedWindow)
    → HasItsVerdict image session begin_at run s shown → HasItsVerdict image session begin_at run s other → shown.verdict ≡ other.verdict
one_judgement image session begin_at run s shown other one two =
    let body : one.body ≡ two.body = some_is one.body two.body (sym one.reported.has ∙ two.reported.has) in
    let blob = subst (λ (b : Body). IsBlobOf b session.key two.bytes) (sym body) two.reported.blob in
    let bytes : one.bytes ≡ two.bytes = one.reported.blob.layout ∙ sym blob.layout in
    one_verdict (subject_of image session) one.bytes shown.verdict other.verdict one.judged
    (subst (λ (bs : List ℕ). IsVerdict (subject_of image session) bs other.verdict) (sym bytes) two.judged)

-- Two windows have one part, and one verdict.
record HaveOnePart (flow : Map) (shown other : WatchedWindow) : Type 0 where
  pub verdict : shown.verdict ≡ other.verdict
  pub part : (number : Option ℕ) → part_text flow number shown ≡ part_text flow number other

one_window_part : (image : Image) (case : Case) (begin_at : ℕ) (windows others : List WatchedWindow) → AreTraced image case begin_at windows → AreTraced image case begin_at others
    → (s : ℕ) (shown other : WatchedWindow) → slice_get windows s ≡ Some shown → slice_get others s ≡ Some other → HaveOnePart image.map shown other
one_window_part image case begin_at windows others one two s shown other at there =
    let o = opening_of image case.session begin_at in
    let run = run_of image case begin_at in
    let verdict : shown.verdict ≡ other.verdict = one_judgement image case.session begin_at run s shown other (one.judged s shown at) (two.judged s other there) in
    let path : shown.path ≡ other.path = (one.shown s shown at).path ∙ sym (two.shown s other there).path in
    let same : map use_of shown.uses.items ≡ map use_of other.uses.items = (one.shown s shown at).uses ∙ sym (two.shown s other there).uses in
    let uses : flat_map use_line shown.uses.items ≡ flat_map use_line other.uses.items =
    told_uses shown.uses.items ∙ (ap (flat_map told_use) same ∙ sym (told_uses other.uses.items)) in
    let head = head_of (subject_of image case.session) (serial_of o s) in
    let returns = returns_of_run (window_of o s run) in
    let parted = subst (λ (v : Verdict). PartsFrom head returns v other.apart) (sym verdict) (two.parted s other there) in
    let parting : parting_text shown.verdict shown.apart ≡ parting_text other.verdict other.apart =
    one_parting head returns shown.verdict shown.apart other.apart (one.parted s shown at) parted ∙ ap (λ (v : Verdict). parting_text v other.apart) verdict in
    record {
      verdict = verdict;
      part = λ number i. line (verdict_text number (verdict i)) ++ path_text image.map (path i) ++ uses i ++ parting i;
    }

-- ---- one list of parts

abbrev HaveOneEach : Map → List WatchedWindow → List WatchedWindow → Type 0
HaveOneEach flow windows others = (k : ℕ) (shown other : WatchedWindow) → slice_get windows k ≡ Some shown → slice_get others k ≡ Some other → HaveOnePart flow shown other

one_list_of_parts : (flow : Map) (calls : Option ℕ) (s : ℕ) (windows others : List WatchedWindow) → length windows ≡ length others → HaveOneEach flow windows others
    → (parts_from flow calls s windows ≡ parts_from flow calls s others) × (verdicts_on windows ≡ verdicts_on others)
one_list_of_parts flow calls s [] [] long each = (refl, refl)
one_list_of_parts flow calls s [] (v ∷ others) long each = absurd (omega (arith, long))
one_list_of_parts flow calls s (w ∷ windows) [] long each = absurd (omega (arith, long))
one_list_of_parts flow calls s (w ∷ windows) (v ∷ others) long each =
    let first = each 0 w v refl refl in
    let rest = one_list_of_parts flow calls (s + 1) windows others (omega (arith, long)) (λ k shown other at there. each (suc k) shown other at there) in
    (λ i. first.part (window_number calls s) i ++ rest.0 i, λ i. first.verdict i ∷ rest.1 i)

-- ---- one answer

one_traced_case : (image : Image) (case : Case) → Everywhere (S7 image.map) → IsOne Answer (TracesCase image case)
one_traced_case image case paired a b one two =
    let calls = case.session.calls in
    let same : two.begin_at ≡ one.begin_at = opens_once image.map case.session.op one.begin_at two.begin_at paired one.begins two.begins in
    let traced = subst (λ (at : ℕ). AreTraced image case at two.windows) same two.traced in
    let long : length one.windows ≡ length two.windows = one.traced.counted ∙ sym traced.counted in
    let told = one_list_of_parts image.map calls 0 one.windows two.windows long (one_window_part image case one.begin_at one.windows two.windows one.traced traced) in
    let ended : ended_with calls (verdicts_on one.windows) ≡ ended_with calls (verdicts_on two.windows) = λ i. ended_with calls (told.1 i) in
    let opened : one.begin_at ≡ two.begin_at = sym same in
    one.is
    ∙ ((λ i. shows (ended i) (run_lines (run_of image case (opened i)) ++ told.0 i) (want_text (ended i)))
    ∙ sym two.is)

pub one_trace : OneTrace
one_trace [] a b one two = absurd one
one_trace (image ∷ []) a b one two = absurd one
one_trace (image ∷ case ∷ []) a b one two =
    Admits-one image case TracesCase (λ i c admitted. one_traced_case i c admitted.shaped.paired) a b one two
one_trace (image ∷ case ∷ other ∷ files) a b one two = absurd one
