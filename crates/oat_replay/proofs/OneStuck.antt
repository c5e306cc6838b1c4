-- A replay gets stuck for one cause at one turn.
use Rattle.std.proofs.Common.{◌≡◌, ℕ, ◌+◌, Bool, List, [], ◌∷◌, ◌++◌, length, Option, Some, None, refl, sym, ap, ◌∙◌, inl, inr, arith, length-append, append-nil}
use Rattle.std.proofs.lemmas.{Bool.cases_lt, List.append_cancel_left}
use Rattle.oat_map.specs.{declared.row.Row.Row, declared.row.Row.TheVariants.Jump, declared.row.Row.TheVariants.Branch, declared.row.Row.TheVariants.Call, declared.row.Row.TheVariants.ICall}
use Rattle.oat_map.specs.{declared.row.Row.TheVariants.Ret, declared.row.Row.TheVariants.Begin, declared.row.Row.TheVariants.End, declared.row.Row.TheVariants.UseCell}
use Rattle.oat_map.specs.{declared.row.Row.TheVariants.DefCell, declared.row.Row.TheVariants.UseAt, declared.row.Row.TheVariants.DefAt, declared.row.Row.TheVariants.Check, declared.map.Map.Map}
use Rattle.oat_map.specs.{Rows.next, Walk.Step, Walk.path_of, Walk.bits_of, Walk.targets_of, Walk.path_limit}
use Rattle.oat_map.proofs.WalkLemmas.{Leads-continues}
use Rattle.oat_replay.specs.{declared.cause.ReplayCause.ReplayCause, declared.cause.ReplayCause.TheVariants.BadTarget, Replay.GetsStuck, Replay.StuckAt, Replay.StuckAtICall, Replay.StuckAtEnd}
use Rattle.oat_replay.specs.{Replay.no_target, Replay.bad_target, Replay.wrong_end, Replay.end_inside, Replay.unused_bits, Replay.unused_targets}

nil_or_cons : (xs : List ℕ) (y : ℕ) (ys : List ℕ) → xs ≡ [] → xs ≡ y ∷ ys → ⊥
nil_or_cons xs y ys none some = let both : [] ≡ y ∷ ys = sym none ∙ some in cc

heads : (x y : ℕ) (xs ys : List ℕ) → x ∷ xs ≡ y ∷ ys → x ≡ y
heads x y xs ys same = cc

one_icall : (flow : Map) (params : ℕ) (left : List ℕ) (cause other : ReplayCause)
    → StuckAtICall flow params left cause → StuckAtICall flow params left other → cause ≡ other
one_icall flow params left cause other (no_target none is) (no_target none' is') = is ∙ sym is'
one_icall flow params left cause other (no_target none is) (bad_target t ts some bad is') = absurd (nil_or_cons left t ts none some)
one_icall flow params left cause other (bad_target t ts some bad is) (no_target none is') = absurd (nil_or_cons left t ts none some)
one_icall flow params left cause other (bad_target t ts some bad is) (bad_target u us some' bad' is') =
    is ∙ ap BadTarget (heads t u ts us (sym some ∙ some')) ∙ sym is'

one_end : (op ended open_calls bits targets : ℕ) (cause other : ReplayCause)
    → StuckAtEnd op ended open_calls bits targets cause → StuckAtEnd op ended open_calls bits targets other → cause ≡ other
one_end op ended o b t cause other (wrong_end differ is) (wrong_end differ_too is') = is ∙ sym is'
one_end op ended o b t cause other (wrong_end differ is) (end_inside same p is') = absurd (differ same)
one_end op ended o b t cause other (wrong_end differ is) (unused_bits same p q is') = absurd (differ same)
one_end op ended o b t cause other (wrong_end differ is) (unused_targets same p q r is') = absurd (differ same)
one_end op ended o b t cause other (end_inside same p is) (wrong_end differ is') = absurd (differ same)
one_end op ended o b t cause other (end_inside same p is) (end_inside same_too p' is') = is ∙ sym is'
one_end op ended o b t cause other (end_inside same p is) (unused_bits same_too p' q is') = absurd (omega arith)
one_end op ended o b t cause other (end_inside same p is) (unused_targets same_too p' q r is') = absurd (omega arith)
one_end op ended o b t cause other (unused_bits same p q is) (wrong_end differ is') = absurd (differ same)
one_end op ended o b t cause other (unused_bits same p q is) (end_inside same_too p' is') = absurd (omega arith)
one_end op ended o b t cause other (unused_bits same p q is) (unused_bits same_too p' q' is') = is ∙ sym is'
one_end op ended o b t cause other (unused_bits same p q is) (unused_targets same_too p' q' r is') = absurd (omega arith)
one_end op ended o b t cause other (unused_targets same p q r is) (wrong_end differ is') = absurd (differ same)
one_end op ended o b t cause other (unused_targets same p q r is) (end_inside same_too p' is') = absurd (omega arith)
one_end op ended o b t cause other (unused_targets same p q r is) (unused_bits same_too p' q' is') = absurd (omega arith)
one_end op ended o b t cause other (unused_targets same p q r is) (unused_targets same_too p' q' r' is') = is ∙ sym is'

one_stop : (flow : Map) (op : ℕ) (row : Option Row) (steps : List Step) (b : List Bool) (t : List ℕ) (cause other : ReplayCause)
    → StuckAt flow op row steps b t cause → StuckAt flow op row steps b t other → cause ≡ other
one_stop flow op None steps b t cause other is is' = is ∙ sym is'
one_stop flow op (Some (Jump at to)) steps b t cause other is is' = absurd is
one_stop flow op (Some (Branch at taken others)) steps b t cause other is is' = is.1 ∙ sym is'.1
one_stop flow op (Some (Call at to)) steps b t cause other is is' = absurd is
one_stop flow op (Some (ICall at params)) steps b t cause other is is' = one_icall flow params t cause other is is'
one_stop flow op (Some (Ret at)) steps b t cause other is is' = is.1 ∙ sym is'.1
one_stop flow op (Some (Begin at begun)) steps b t cause other is is' = is ∙ sym is'
one_stop flow op (Some (End at ended)) steps b t cause other is is' = one_end op ended _ _ _ cause other is is'
one_stop flow op (Some (UseCell at cell)) steps b t cause other is is' = absurd is
one_stop flow op (Some (DefCell at cell)) steps b t cause other is is' = absurd is
one_stop flow op (Some (UseAt at cell len)) steps b t cause other is is' = absurd is
one_stop flow op (Some (DefAt at cell len)) steps b t cause other is is' = absurd is
one_stop flow op (Some (Check at)) steps b t cause other is is' = absurd is

no_steps : (rest : List Step) → length rest ≡ 0 → rest ≡ []
no_steps [] none = refl
no_steps (step ∷ rest) none = absurd (omega arith)

-- what is equal of two replays that get stuck
pub record AreOne (flow : Map) (op : ℕ) (bits : List Bool) (targets : List ℕ) (cause other : ReplayCause) (turn next_turn : ℕ)
    (one : GetsStuck flow op bits targets cause turn) (two : GetsStuck flow op bits targets other next_turn) : Type 0 where
  pub steps : two.steps ≡ one.steps
  pub place : one.place ≡ two.place
  pub bits_left : one.bits_left ≡ two.bits_left
  pub targets_left : one.targets_left ≡ two.targets_left

module _ (flow : Map) (op : ℕ) (bits : List Bool) (targets : List ℕ) (cause other : ReplayCause) (turn next_turn : ℕ)
    (one : GetsStuck flow op bits targets cause turn) (two : GetsStuck flow op bits targets other next_turn) where
  lengths : length one.steps ≡ length two.steps
  lengths =
      let below = one.longest two.steps two.place two.bits_left two.targets_left two.follows in
      let above = two.longest one.steps one.place one.bits_left one.targets_left one.follows in
      omega arith

  are_one : AreOne flow op bits targets cause other turn next_turn one two
  are_one =
      let starts : Some one.follows.partial.from ≡ Some two.follows.partial.from = sym one.follows.partial.starts ∙ two.follows.partial.starts in
      let same : one.follows.partial.from ≡ two.follows.partial.from = cc in
      let on = Leads-continues flow [] one.follows.partial.from one.steps two.steps one.place two.place
      one.bits_left two.bits_left one.targets_left two.targets_left
      one.follows.partial.leads (rw same two.follows.partial.leads)
      (sym one.follows.bits_are ∙ two.follows.bits_are) (sym one.follows.targets_are ∙ two.follows.targets_are) (omega (arith, lengths)) in
      let counts : length two.steps ≡ length one.steps + length on.0 = ap length on.1 ∙ length-append one.steps on.0 in
      let none : on.0 ≡ [] = no_steps on.0 (omega (arith, lengths, counts)) in
      let steps : two.steps ≡ one.steps = on.1 ∙ ap (λ more. one.steps ++ more) none ∙ append-nil one.steps in
      record {
        steps = steps;
        place = rw none at on.2;
        bits_left = append_cancel_left (bits_of (path_of one.steps)) one.bits_left two.bits_left
            (sym one.follows.bits_are ∙ two.follows.bits_are ∙ ap (λ all. bits_of (path_of all) ++ two.bits_left) steps);
        targets_left = append_cancel_left (targets_of (path_of one.steps)) one.targets_left two.targets_left
            (sym one.follows.targets_are ∙ two.follows.targets_are ∙ ap (λ all. targets_of (path_of all) ++ two.targets_left) steps);
      }

  one_cause : cause ≡ other
  one_cause =
      let parts = are_one in
      elim (cases_lt (length one.steps) path_limit) [
        | inl below ↦
            let stops = one.before_limit below in
            let others = two.before_limit (omega (arith, lengths, below)) in
            one_stop flow op (next flow.rows one.place) one.steps one.bits_left one.targets_left cause other stops
            (rw (parts.bits_left, parts.targets_left, parts.place, ← parts.steps) others)
        | inr above ↦
            let within = one.follows.within in
            let at : length one.steps ≡ path_limit = omega arith in
            one.at_limit at ∙ sym (two.at_limit (sym lengths ∙ at))
      ]

  one_turn : turn ≡ next_turn
  one_turn = one.turn_is ∙ ap (λ n. n + 1) lengths ∙ sym two.turn_is

pub one_stuck : (flow : Map) (op : ℕ) (bits : List Bool) (targets : List ℕ) (cause other : ReplayCause) (turn next_turn : ℕ)
    → GetsStuck flow op bits targets cause turn → GetsStuck flow op bits targets other next_turn → (cause ≡ other) × (turn ≡ next_turn)
one_stuck flow op bits targets cause other turn next_turn one two =
    (one_cause flow op bits targets cause other turn next_turn one two, one_turn flow op bits targets cause other turn next_turn one two)
