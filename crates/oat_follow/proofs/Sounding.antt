-- Each checked use of calls that keep order finds what its cell was last defined as.
use Rattle.std.proofs.Common.{◌≡◌, ℕ, List, [], ◌∷◌, ◌++◌, map, filter_map, Option, Some, None, option_map, All, refl, sym, ap, subst, ◌∙◌, append_assoc, append-nil}
use Rattle.std.specs.List.{cons_option}
use Rattle.std.proofs.lemmas.{List.map-append, List.Elements.filter_map-append, List.Elements.All-nil, List.Elements.All-cons}
use Rattle.oat_events.proofs.{WindowLaws.windows_are_parts, EventLaws.passes_parted}
use Rattle.oat_journal.specs.{Cells, defined, Passes, SourceEvent, loads, CellValue, load_in, Edge, MonitorCall, Uses.CheckedUse, Uses.Held, Uses.IsSound, Uses.defined_value, Uses.uses_behind}
use Rattle.oat_journal.specs.{Run.Entry, Window.made_call, Window.opens_window, Window.seals_window, Window.up_to_window, Window.window}
use Rattle.oat_journal.proofs.RunLaws.{held_define, held_first, held_is, held_other}
use Rattle.oat_follow.specs.Order.{KeepOrder, OrderedUsesAreSound, event_of_call, uses_in_window, value_found}
use Rattle.oat_measure.specs.declared.call.MonitorCall.TheVariants as svc

abbrev Calls : Type 0
Calls = List (Option MonitorCall)

-- ---- behind calls

onward : (words : Cells) (before : Calls) (call : Option MonitorCall) (cs : Calls) (cells : Cells) → Held words ((before ++ call ∷ []) ++ cs) cells → Held words (before ++ call ∷ cs) cells
onward words before call cs cells h = subst (λ (front : Calls). Held words front cells) (append_assoc before (call ∷ []) cs) h

pub holds-behind : (words : Cells) (before : Calls) (active : Option ℕ) (cells : Cells) (cs : Calls) (lo : Option ℕ) (lc : Cells)
    → Held words before cells → Passes active cells (filter_map event_of_call cs) lo lc → Held words (before ++ cs) lc
holds-behind words before active cells [] lo lc held h =
    subst (λ (front : Calls). Held words front lc) (sym (append-nil before)) (subst (λ (c : Cells). Held words before c) h.1 held)
holds-behind words before active cells (None ∷ cs) lo lc held h =
    onward words before None cs lc (holds-behind words (before ++ None ∷ []) active cells cs lo lc (held_other words before cells None (λ j. refl) held) h)
holds-behind words before active cells (Some (svc.Begin q at) ∷ cs) lo lc held h =
    onward words before (Some (svc.Begin q at)) cs lc (holds-behind words (before ++ Some (svc.Begin q at) ∷ []) (Some q) cells cs lo lc (held_other words before cells (Some (svc.Begin q at)) (λ j. refl) held) h.1)
holds-behind words before active cells (Some (svc.End q) ∷ cs) lo lc held h =
    onward words before (Some (svc.End q)) cs lc (holds-behind words (before ++ Some (svc.End q) ∷ []) None cells cs lo lc (held_other words before cells (Some (svc.End q)) (λ j. refl) held) h.1)
holds-behind words before active cells (Some (svc.Bit value) ∷ cs) lo lc held h =
    onward words before (Some (svc.Bit value)) cs lc (holds-behind words (before ++ Some (svc.Bit value) ∷ []) active cells cs lo lc (held_other words before cells (Some (svc.Bit value)) (λ j. refl) held) h)
holds-behind words before active cells (Some (svc.Target address) ∷ cs) lo lc held h =
    onward words before (Some (svc.Target address)) cs lc (holds-behind words (before ++ Some (svc.Target address) ∷ []) active cells cs lo lc (held_other words before cells (Some (svc.Target address)) (λ j. refl) held) h)
holds-behind words before active cells (Some (svc.Return address) ∷ cs) lo lc held h =
    onward words before (Some (svc.Return address)) cs lc (holds-behind words (before ++ Some (svc.Return address) ∷ []) active cells cs lo lc (held_other words before cells (Some (svc.Return address)) (λ j. refl) held) h)
holds-behind words before active cells (Some (svc.Define cell value) ∷ cs) lo lc held h =
    onward words before (Some (svc.Define cell value)) cs lc (holds-behind words (before ++ Some (svc.Define cell value) ∷ []) active (defined cells cell value) cs lo lc (held_define words before cells cell value held) h)
holds-behind words before active cells (Some (svc.Use cell value) ∷ cs) lo lc held h =
    onward words before (Some (svc.Use cell value)) cs lc (holds-behind words (before ++ Some (svc.Use cell value) ∷ []) active cells cs lo lc (held_other words before cells (Some (svc.Use cell value)) (λ j. refl) held) h.1)

-- ---- the checked uses

pub record Checks (checked : List CheckedUse) (calls : List (SourceEvent Edge)) : Type 0 where
  pub sound : All IsSound checked
  pub found : map value_found checked ≡ filter_map load_in calls

abbrev checked_at : ℕ → ℕ → Calls → ℕ → CheckedUse
checked_at cell value before word = record { cell = cell; found = value; defined = defined_value word cell before }

checks-use : (cell value : ℕ) (before : Calls) (o : Option ℕ) (later : List CheckedUse) (calls : List (SourceEvent Edge))
    → Some value ≡ option_map (λ (word : ℕ). defined_value word cell before) o → Checks later calls
    → Checks (cons_option (option_map (checked_at cell value before) o) later) (loads cell value ∷ calls)
checks-use cell value before None later calls h rest = absurd (cc)
checks-use cell value before (Some word) later calls h rest = record {
  sound = All-cons IsSound (checked_at cell value before word) later (let e : value ≡ defined_value word cell before = (cc) in e) rest.sound;
  found = ap (λ (others : List CellValue). record { cell = cell; value = value } ∷ others) rest.found;
}

pub checks : (words : Cells) (before : Calls) (active : Option ℕ) (cells : Cells) (cs : Calls) (lo : Option ℕ) (lc : Cells)
    → Held words before cells → Passes active cells (filter_map event_of_call cs) lo lc → Checks (uses_behind words before cs) (filter_map event_of_call cs)
checks words before active cells [] lo lc held h = record { sound = All-nil IsSound; found = refl }
checks words before active cells (None ∷ cs) lo lc held h =
    checks words (before ++ None ∷ []) active cells cs lo lc (held_other words before cells None (λ j. refl) held) h
checks words before active cells (Some (svc.Begin q at) ∷ cs) lo lc held h =
    let w = checks words (before ++ Some (svc.Begin q at) ∷ []) (Some q) cells cs lo lc (held_other words before cells (Some (svc.Begin q at)) (λ j. refl) held) h.1 in record { sound = w.sound; found = w.found }
checks words before active cells (Some (svc.End q) ∷ cs) lo lc held h =
    let w = checks words (before ++ Some (svc.End q) ∷ []) None cells cs lo lc (held_other words before cells (Some (svc.End q)) (λ j. refl) held) h.1 in record { sound = w.sound; found = w.found }
checks words before active cells (Some (svc.Bit value) ∷ cs) lo lc held h =
    checks words (before ++ Some (svc.Bit value) ∷ []) active cells cs lo lc (held_other words before cells (Some (svc.Bit value)) (λ j. refl) held) h
checks words before active cells (Some (svc.Target address) ∷ cs) lo lc held h =
    checks words (before ++ Some (svc.Target address) ∷ []) active cells cs lo lc (held_other words before cells (Some (svc.Target address)) (λ j. refl) held) h
checks words before active cells (Some (svc.Return address) ∷ cs) lo lc held h =
    checks words (before ++ Some (svc.Return address) ∷ []) active cells cs lo lc (held_other words before cells (Some (svc.Return address)) (λ j. refl) held) h
checks words before active cells (Some (svc.Define cell value) ∷ cs) lo lc held h =
    let w = checks words (before ++ Some (svc.Define cell value) ∷ []) active (defined cells cell value) cs lo lc (held_define words before cells cell value held) h in record { sound = w.sound; found = w.found }
checks words before active cells (Some (svc.Use cell value) ∷ cs) lo lc held h =
    checks-use cell value before (words cell) (uses_behind words (before ++ Some (svc.Use cell value) ∷ []) cs) (filter_map event_of_call cs) (sym h.0 ∙ held_is words before cells held cell)
    (checks words (before ++ Some (svc.Use cell value) ∷ []) active cells cs lo lc (held_other words before cells (Some (svc.Use cell value)) (λ j. refl) held) h.1)

-- ---- the windows of a run

abbrev events_made : List Entry → List (SourceEvent Edge)
events_made js = filter_map event_of_call (map made_call js)

made-append : (xs ys : List Entry) → events_made (xs ++ ys) ≡ events_made xs ++ events_made ys
made-append xs ys = ap (filter_map event_of_call) (map-append made_call xs ys) ∙ filter_map-append event_of_call (map made_call xs) (map made_call ys)

pub uses-checked : (words : Cells) (op begin_at s : ℕ) (js : List Entry) → KeepOrder words (map made_call js) → Checks (uses_in_window words op begin_at s js) (events_made (window made_call op begin_at s js))
uses-checked words op begin_at s js order =
    let before = up_to_window made_call op begin_at s js in
    let inner = window made_call op begin_at s js in
    let a = windows_are_parts (opens_window made_call op begin_at) (seals_window made_call op) s js in
    let whole : events_made js ≡ (events_made before ++ events_made inner) ++ events_made a.0 =
    ap (λ (xs : List Entry). events_made xs) (sym a.1) ∙ made-append (before ++ inner) a.0 ∙ ap (λ (es : List (SourceEvent Edge)). es ++ events_made a.0) (made-append before inner) in
    let outer = passes_parted (events_made before ++ events_made inner) (events_made a.0) None order.active words order.cells (subst (λ (es : List (SourceEvent Edge)). Passes None words es order.active order.cells) whole order.passes) in
    let w = passes_parted (events_made before) (events_made inner) None outer.0 words outer.1 outer.2 in
    checks words (map made_call before) w.0 w.1 (map made_call inner) outer.0 outer.1
    (holds-behind words [] None words (map made_call before) w.0 w.1 (held_first words) w.2) w.3

pub ordered_uses_are_sound : OrderedUsesAreSound
ordered_uses_are_sound words op begin_at s js order = (uses-checked words op begin_at s js order).sound
