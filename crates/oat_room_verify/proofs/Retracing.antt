-- The lines of a path that is found again in its records.
use Rattle.std.proofs.Common.{◌≡◌, ℕ, Bool, List, [], ◌∷◌, ◌++◌, length, Option, ap, ◌∙◌, append_assoc, append-nil}
use Rattle.std.proofs.lemmas.{Grind.flat_map-append, List.Elements.filter_map-append}
use Rattle.oat_replay.specs.Replay.{IsWalked}
use Rattle.oat_replay.proofs.ReplayLemmas.{followers_are_fronts, one_path}
use Rattle.oat_shown.specs.{Edge, Map, Step, passed, moved, edge_of, path_of, Replay, StandsBehind, Adds, edge_line, line, Report.path_text}

-- a path goes on behind the steps that a replay made
pub goes_on : (flow : Map) (op : ℕ) (bits : List Bool) (targets : List ℕ) (path : List Edge) (replay : Replay) (steps : List Step)
    → IsWalked flow op bits targets path → StandsBehind flow op bits targets replay steps → (rest : List Edge) × (path ≡ path_of steps ++ rest)
goes_on flow op bits targets path replay steps walked stands =
    let front = followers_are_fronts flow op bits targets path walked steps replay.place stands.bits_left stands.targets_left stands.follows in
    (path_of front.0, walked.path_is ∙ (ap path_of front.1 ∙ filter_map-append edge_of steps front.0))

pub path_pushed : (steps : List Step) (edge : Edge) → path_of (steps ++ moved edge ∷ []) ≡ path_of steps ++ edge ∷ []
path_pushed steps edge = filter_map-append edge_of steps (moved edge ∷ [])

pub path_passed : (steps : List Step) → path_of (steps ++ passed ∷ []) ≡ path_of steps
path_passed steps = filter_map-append edge_of steps (passed ∷ []) ∙ append-nil (path_of steps)

text_joined : (flow : Map) (first second : List Edge) → path_text flow (first ++ second) ≡ path_text flow first ++ path_text flow second
text_joined flow first second = flat_map-append (λ (edge : Edge). line (edge_line flow edge)) first second

-- the text of the steps with one more edge, or with a pass
pub text_moved : (flow : Map) (steps : List Step) (edge : Edge) → path_text flow (path_of (steps ++ moved edge ∷ [])) ≡ path_text flow (path_of steps) ++ path_text flow (edge ∷ [])
text_moved flow steps edge = ap (path_text flow) (path_pushed steps edge) ∙ text_joined flow (path_of steps) (edge ∷ [])

pub text_passed : (flow : Map) (steps : List Step) → path_text flow (path_of (steps ++ passed ∷ [])) ≡ path_text flow (path_of steps)
text_passed flow steps = ap (path_text flow) (path_passed steps)

-- the text of a path of which an edge is the next
pub record IsNext (flow : Map) (path : List Edge) (steps : List Step) (edge : Edge) : Type 0 where
  pub left : List ℕ
  pub parted : path_text flow path ≡ path_text flow (path_of steps) ++ (path_text flow (edge ∷ []) ++ left)

pub is_next : (flow : Map) (op : ℕ) (bits : List Bool) (targets : List ℕ) (path : List Edge) (replay : Replay) (steps : List Step) (edge : Edge)
    → IsWalked flow op bits targets path → StandsBehind flow op bits targets replay (steps ++ moved edge ∷ []) → IsNext flow path steps edge
is_next flow op bits targets path replay steps edge walked stands =
    let on = goes_on flow op bits targets path replay (steps ++ moved edge ∷ []) walked stands in
    record {
      left = path_text flow on.0;
      parted = ap (path_text flow) on.1 ∙ (text_joined flow (path_of (steps ++ moved edge ∷ [])) on.0
          ∙ (ap (λ xs. xs ++ path_text flow on.0) (text_moved flow steps edge)
          ∙ append_assoc (path_text flow (path_of steps)) (path_text flow (edge ∷ [])) (path_text flow on.0)));
    }

-- the last edge
pub is_last : (flow : Map) (op : ℕ) (bits : List Bool) (targets : List ℕ) (path : List Edge) (steps : List Step) (edge : Edge)
    → IsWalked flow op bits targets path → IsWalked flow op bits targets (path_of (steps ++ moved edge ∷ []))
    → path_text flow path ≡ path_text flow (path_of steps) ++ path_text flow (edge ∷ [])
is_last flow op bits targets path steps edge walked ends =
    ap (path_text flow) (one_path flow op bits targets path (path_of (steps ++ moved edge ∷ [])) walked ends) ∙ text_moved flow steps edge

-- the steps that a replay made before a turn, whose lines were put
pub record RetracesSoFar (flow : Map) (op : ℕ) (bits : List Bool) (targets : List ℕ) (replay : Replay) (old new : Option (List ℕ)) (before now turn : ℕ) : Type 0 where
  pub steps : List Step
  pub behind : StandsBehind flow op bits targets replay steps
  pub put : Adds old (path_text flow (path_of steps)) new
  pub faults : now ≡ before
  pub turn_is : turn ≡ length steps
