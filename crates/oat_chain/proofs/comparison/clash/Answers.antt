use Rattle.std.proofs.Common.{rules, ◌≡◌, ℕ, ◌+◌, ◌-◌, ◌<◌, ◌^◌, All, min, List, [], ◌∷◌, ◌++◌, length, take, sym, ap, subst, ◌∙◌, arith, length-append, length-drop, Bor}
use Rattle.std.proofs.lemmas.{List.take_all, List.length-take, List.Elements.All-from_get_or, Slice.Zip.zip_turn, Slice.Zip.zip_end}
use Rattle.oat_chain.specs.{declared.comparison.Comparison.Comparison, Clash.IsLastClash, Standing.Compares}
use Rattle.oat_chain.proofs.Comparing.{first-clash, none-when-same, place-of, digest-of, comes-more}
use Rattle.oat_chain.proofs.comparison.clash.Goals as goal

pub loop-run_address-init : goal.loop-run_address-init
loop-run_address-init c =
    let head = c.args.head.now in
    let run = c.args.run_returns.now in
    let replay = c.args.replay_returns.now in
    let run_extra = length run - c.min-common.result in
    let replay_extra = length replay - c.min-common.result in
    let first : Comparison = record { run = c.over-run.result; replay = c.over-replay.result; last = c.differing-last.result } in
    let run_none : run_extra + 0 ≡ run_extra = omega arith in
    let replay_none : replay_extra + 0 ≡ replay_extra = omega arith in
    let of_run : take (run_extra + 0) run ≡ c.split_at.result.0.now = ap (λ (n : ℕ). take n run) run_none ∙ sym c.split_at.ensures.front in
    let of_replay : take (replay_extra + 0) replay ≡ c.split_at-2.result.0.now = ap (λ (n : ℕ). take n replay) replay_none ∙ sym c.split_at-2.ensures.front in
    let run_long = ap length c.split_at.ensures.front ∙ length-take run_extra run in
    let replay_long = ap length c.split_at-2.ensures.front ∙ length-take replay_extra replay in
    let least : c.min-common.result ≡ min (length run) (length replay) = c.min-common.ensures in
    let long : length head ≡ 50 = search rules in
    let is : Compares first head c.split_at.result.0.now c.split_at-2.result.0.now = record {
      run = c.over-run.ensures;
      replay = c.over-replay.ensures;
      last = first-clash head c.split_at.result.0.now c.split_at-2.result.0.now c.over-run.result.last c.over-replay.result.last c.differing-last.result long
          c.over-run.ensures.last c.over-replay.ensures.last (λ p q. omega arith) c.differing-last.ensures.none c.differing-last.ensures.some;
    } in
    subst (λ (xs : List ℕ). Compares first head xs (take (replay_extra + 0) replay)) (sym of_run)
    (subst (Compares first head c.split_at.result.0.now) (sym of_replay) is)

pub loop-run_address-preserved : goal.loop-run_address-preserved
loop-run_address-preserved c =
    let head = c.args.head.now in
    let run = c.args.run_returns.now in
    let replay = c.args.replay_returns.now in
    let run_extra = length run - c.min-common.result in
    let replay_extra = length replay - c.min-common.result in
    let pair : Bor ℕ × Bor ℕ = (c.in-Some.run_address, c.in-Some.replay_address) in
    let i = length c.loop-run_address.yielded in
    let j = length (c.loop-run_address.yielded ++ pair ∷ []) in
    let next : j ≡ i + 1 = length-append c.loop-run_address.yielded (pair ∷ []) in
    let turn = zip_turn c.split_at.result.1.now c.split_at-2.result.1.now c.loop-run_address.yielded c.into_iter-run_address-iterator.result c.loop-run_address.run_address-iterator c.next.new.self c.next.result (search rules) (search rules) c.loop-run_address.yielded_by
    pair c.in-Some.is c.next.ensures.steps in
    let of_run = comes-more run c.split_at.result.1.now run_extra i j c.in-Some.run_address.now c.split_at.ensures.back turn.0 (turn.2 0) next in
    let of_replay = comes-more replay c.split_at-2.result.1.now replay_extra i j c.in-Some.replay_address.now c.split_at-2.ensures.back turn.1 (turn.3 0) next in
    subst (λ (xs : List ℕ). Compares c.absorb.new.self head xs (take (replay_extra + j) replay)) (sym of_run)
    (subst (Compares c.absorb.new.self head (take (run_extra + i) run ++ c.in-Some.run_address.now ∷ [])) (sym of_replay)
    (c.absorb.ensures head (take (run_extra + i) run) (take (replay_extra + i) replay) c.loop-run_address.invariant))

pub returns : goal.returns
returns c =
    let head = c.args.head.now in
    let run = c.args.run_returns.now in
    let replay = c.args.replay_returns.now in
    let common = c.min-common.result in
    let i = length c.loop-run_address.yielded in
    let last = c.loop-run_address.comparison.last in
    let turns = zip_end c.split_at.result.1.now c.split_at-2.result.1.now c.loop-run_address.yielded c.into_iter-run_address-iterator.result c.loop-run_address.run_address-iterator c.next.new.self c.next.result (search rules) (search rules) c.loop-run_address.yielded_by
    c.in-None.is c.next.ensures.steps in
    let least : common ≡ min (length run) (length replay) = c.min-common.ensures in
    let run_long : length c.split_at.result.1.now ≡ length run - (length run - common) = ap length c.split_at.ensures.back ∙ length-drop (length run - common) run in
    let replay_long : length c.split_at-2.result.1.now ≡ length replay - (length replay - common) = ap length c.split_at-2.ensures.back ∙ length-drop (length replay - common) replay in
    let of_run : take (length run - common + i) run ≡ run = take_all _ run (omega arith) in
    let of_replay : take (length replay - common + i) replay ≡ replay = take_all _ replay (omega arith) in
    let is : IsLastClash head run replay last =
    subst (λ (xs : List ℕ). IsLastClash head xs replay last) of_run
    (subst (λ (ys : List ℕ). IsLastClash head (take (length run - common + i) run) ys last) of_replay c.loop-run_address.invariant.last) in
    let run_fits : All (λ (address : ℕ). address < 2 ^ 64) run = All-from_get_or (λ (address : ℕ). address < 2 ^ 64) run 0 (λ k lt. omega (arith, c.type_inv.run_returns k)) in
    let replay_fits : All (λ (address : ℕ). address < 2 ^ 64) replay = All-from_get_or (λ (address : ℕ). address < 2 ^ 64) replay 0 (λ k lt. omega (arith, c.type_inv.replay_returns k)) in
    record {
      none = none-when-same head run replay last run_fits replay_fits is;
      place = place-of head run replay last is;
      digest = digest-of head run replay last c.requires is;
    }
