-- A turn of a replay behind given steps has one answer.
use Rattle.std.proofs.Common.{◌≡◌, ℕ, ◌+◌, Bool, List, [], ◌∷◌, ◌++◌, length, Some, refl, sym, ap, subst, ◌∙◌, append-nil, arith, length-append}
use Rattle.std.proofs.lemmas.List.{append_cancel_left, append_cancel_right, nil_from_length}
use Rattle.oat_map.specs.{declared.map.Map.Map, Walk.Step, Walk.passed, Walk.moved, Walk.Leads, Walk.Walk}
use Rattle.oat_map.proofs.WalkLemmas.{Leads-continues}
use Rattle.oat_replay.specs.{declared.cause.ReplayCause.ReplayCause, declared.replay.Replay.Replay, declared.turn.Turn.Turn, declared.turn.Turn.TheVariants.Moved}
use Rattle.oat_replay.specs.{declared.turn.Turn.TheVariants.Passed, declared.turn.Turn.TheVariants.Done, declared.turn.Turn.TheVariants.Stuck, Replay.GetsStuck, StandsBehind.StandsBehind}
use Rattle.oat_replay.specs.{StandsBehind.Turns}
use Rattle.oat_replay.proofs.{OneStuck.one_stuck, ReplayLemmas.FollowsRecords-continues, ReplayLemmas.at_end, ReplayLemmas.never_both}
use Rattle.oat_map.specs.declared.edge.Edge.TheVariants as edges

module _ (flow : Map) (op : ℕ) (bits : List Bool) (targets : List ℕ) (steps : List Step) where
  -- one step more is one
  one_step : (x y : Step) (one two : Replay) → StandsBehind flow op bits targets one (steps ++ x ∷ [])
      → StandsBehind flow op bits targets two (steps ++ y ∷ []) → x ≡ y
  one_step x y one two first second =
      let lengths : length (steps ++ x ∷ []) ≡ length (steps ++ y ∷ []) =
      length-append steps (x ∷ []) ∙ sym (length-append steps (y ∷ [])) in
      let on = FollowsRecords-continues flow op bits targets (steps ++ x ∷ []) (steps ++ y ∷ []) one.place two.place
      first.bits_left second.bits_left first.targets_left second.targets_left first.follows second.follows (omega arith) in
      let counts : length (steps ++ y ∷ []) ≡ length (steps ++ x ∷ []) + length on.0 =
      ap length on.1 ∙ length-append (steps ++ x ∷ []) on.0 in
      let none : on.0 ≡ [] = nil_from_length on.0 (omega arith) in
      let all : steps ++ y ∷ [] ≡ steps ++ x ∷ [] =
      on.1 ∙ ap (λ rest. (steps ++ x ∷ []) ++ rest) none ∙ append-nil (steps ++ x ∷ []) in
      let last : y ∷ [] ≡ x ∷ [] = append_cancel_left steps (y ∷ []) (x ∷ []) all in
      cc

  -- where a step follows, nothing gets stuck
  not_stuck : (x : Step) (one : Replay) (cause : ReplayCause) → StandsBehind flow op bits targets one (steps ++ x ∷ [])
      → GetsStuck flow op bits targets cause (length steps + 1) → ⊥
  not_stuck x one cause further stuck =
      let longest = stuck.longest (steps ++ x ∷ []) one.place further.bits_left further.targets_left further.follows in
      let counts : length (steps ++ x ∷ []) ≡ length steps + 1 = length-append steps (x ∷ []) in
      let turn = stuck.turn_is in
      omega arith

  -- nor does a walk end
  not_ended : (x : Step) (one two : Replay) (whole : List Step) → StandsBehind flow op bits targets one (steps ++ x ∷ [])
      → StandsBehind flow op bits targets two steps → whole ≡ steps ++ moved (edges.End op) ∷ [] → Walk flow op whole → ⊥
  not_ended x one two whole further behind is walk =
      let same : walk.front ≡ steps =
      append_cancel_right walk.front steps (moved (edges.End op) ∷ []) (sym walk.whole ∙ is) in
      let starts : Some further.follows.partial.from ≡ Some walk.partial.from = sym further.follows.partial.starts ∙ walk.partial.starts in
      let from : further.follows.partial.from ≡ walk.partial.from = cc in
      let leads : Leads flow [] walk.partial.from steps walk.place =
      subst (λ (front : List Step). Leads flow [] walk.partial.from front walk.place) same walk.partial.leads in
      let more : Leads flow [] walk.partial.from (steps ++ x ∷ []) one.place =
      subst (λ (start : ℕ). Leads flow [] start (steps ++ x ∷ []) one.place) from further.follows.partial.leads in
      let counts : length (steps ++ x ∷ []) ≡ length steps + 1 = length-append steps (x ∷ []) in
      let on = Leads-continues flow [] walk.partial.from steps (steps ++ x ∷ []) walk.place one.place
      behind.bits_left further.bits_left behind.targets_left further.targets_left leads more
      (sym behind.follows.bits_are ∙ further.follows.bits_are) (sym behind.follows.targets_are ∙ further.follows.targets_are) (omega arith) in
      let none : on.0 ≡ [] = at_end flow steps walk.place walk.end_address op on.0 one.place walk.at_end on.2 in
      let last : x ∷ [] ≡ [] = append_cancel_left steps (x ∷ []) on.0 on.1 ∙ none in
      cc

  pub one_answer : (one two : Replay) (answer other : Turn) → Turns flow op bits targets steps one answer
      → Turns flow op bits targets steps two other → answer ≡ other
  one_answer one two (Moved x) (Moved y) a b = let same = one_step (moved x) (moved y) one two a b in cc
  one_answer one two (Moved x) Passed a b = let same = one_step (moved x) passed one two a b in cc
  one_answer one two (Moved x) (Done y) a b =
      absurd (not_ended (moved x) one two _ a b.0 (ap (λ edge. steps ++ moved edge ∷ []) b.1) b.3)
  one_answer one two (Moved x) (Stuck cause) a b = absurd (not_stuck (moved x) one cause a b.1)
  one_answer one two Passed (Moved y) a b = let same = one_step passed (moved y) one two a b in cc
  one_answer one two Passed Passed a b = refl
  one_answer one two Passed (Done y) a b =
      absurd (not_ended passed one two _ a b.0 (ap (λ edge. steps ++ moved edge ∷ []) b.1) b.3)
  one_answer one two Passed (Stuck cause) a b = absurd (not_stuck passed one cause a b.1)
  one_answer one two (Done x) (Moved y) a b =
      absurd (not_ended (moved y) two one _ b a.0 (ap (λ edge. steps ++ moved edge ∷ []) a.1) a.3)
  one_answer one two (Done x) Passed a b =
      absurd (not_ended passed two one _ b a.0 (ap (λ edge. steps ++ moved edge ∷ []) a.1) a.3)
  one_answer one two (Done x) (Done y) a b = ap (λ edge. Done edge) (a.1 ∙ sym b.1)
  one_answer one two (Done x) (Stuck cause) a b = absurd (never_both flow op bits targets _ cause _ a.2 b.1)
  one_answer one two (Stuck cause) (Moved y) a b = absurd (not_stuck (moved y) two cause b a.1)
  one_answer one two (Stuck cause) Passed a b = absurd (not_stuck passed two cause b a.1)
  one_answer one two (Stuck cause) (Done y) a b = absurd (never_both flow op bits targets _ cause _ b.2 a.1)
  one_answer one two (Stuck cause) (Stuck other) a b =
      ap (λ found. Stuck found) (one_stuck flow op bits targets cause other _ _ a.1 b.1).0
