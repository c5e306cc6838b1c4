-- The lines of a path, of which one is the next.
use Rattle.std.proofs.Common.{◌≡◌, ◌∙◌, ◌+◌, ◌++◌, ◌<◌, ℕ, List, ◌∷◌, length, take, drop, get_or, sym, ap, append_assoc, []}
use Rattle.std.proofs.lemmas.{Grind.flat_map-append, List.take-append-drop, List.take_more}
use Rattle.oat_journal.specs.{Edge, Map}
use Rattle.oat_report.specs.PathLine.{edge_line}
use Rattle.oat_page.specs.Outcome.{line}
use Rattle.oat_shown.specs.Report.{path_text}

-- ---- paths

path_parted : (flow : Map) (path : List Edge) (k : ℕ) → path_text flow path ≡ path_text flow (take k path) ++ path_text flow (drop k path)
path_parted flow path k =
    ap (path_text flow) (sym (take-append-drop k path)) ∙ flat_map-append (λ (edge : Edge). line (edge_line flow edge)) (take k path) (drop k path)

path_taken : (flow : Map) (path : List Edge) (k : ℕ) (edge : Edge) → k < length path
    → path_text flow (take (k + 1) path) ≡ path_text flow (take k path) ++ path_text flow (get_or path k edge ∷ [])
path_taken flow path k edge below =
    ap (path_text flow) (take_more path k edge below) ∙ flat_map-append (λ (e : Edge). line (edge_line flow e)) (take k path) (get_or path k edge ∷ [])

pub path_next : (flow : Map) (path : List Edge) (k : ℕ) (edge : Edge) → k < length path
    → path_text flow path ≡ path_text flow (take k path) ++ (path_text flow (get_or path k edge ∷ []) ++ path_text flow (drop (k + 1) path))
path_next flow path k edge below =
    path_parted flow path (k + 1) ∙ (ap (λ (front : List ℕ). front ++ path_text flow (drop (k + 1) path)) (path_taken flow path k edge below)
    ∙ append_assoc (path_text flow (take k path)) (path_text flow (get_or path k edge ∷ [])) (path_text flow (drop (k + 1) path)))
