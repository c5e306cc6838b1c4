-- The moves of a list of steps: the steps but those that only pass. A return's matching call is the same among them.
use Rattle.std.proofs.Common.{◌≡◌, ℕ, zero, suc, ◌+◌, ◌-◌, ◌<◌, List, [], ◌∷◌, map, take, fold, Some, refl, sym, ap, ap₂, subst, ◌∙◌, arith}
use Rattle.std.specs.{List.slice_get, Option.option_and_then}
use Rattle.oat_journal.specs.{Step, passed, moved, path_of, return_site_of, call_count, return_count, depth, Returns}

abbrev pub moves : List Step → List Step
moves steps = map moved (path_of steps)

-- the place among the steps of a place among the moves
abbrev place_of : List Step → ℕ → ℕ
place_of [] k = k
place_of (passed ∷ steps) k = suc (place_of steps k)
place_of (moved edge ∷ steps) zero = zero
place_of (moved edge ∷ steps) (suc k) = suc (place_of steps k)

get_at : (steps : List Step) (k : ℕ) → slice_get (moves steps) k ≡ slice_get steps (place_of steps k)
get_at [] k = refl
get_at (passed ∷ steps) k = get_at steps k
get_at (moved edge ∷ steps) zero = refl
get_at (moved edge ∷ steps) (suc k) = get_at steps k

take_at : (steps : List Step) (k : ℕ) → take k (moves steps) ≡ moves (take (place_of steps k) steps)
take_at [] zero = refl
take_at [] (suc k) = refl
take_at (passed ∷ steps) k = take_at steps k
take_at (moved edge ∷ steps) zero = refl
take_at (moved edge ∷ steps) (suc k) = ap (λ (rest : List Step). moved edge ∷ rest) (take_at steps k)

rises_at : (steps : List Step) (j k : ℕ) → j < k → place_of steps j < place_of steps k
rises_at [] j k below = below
rises_at (passed ∷ steps) j k below = let on = rises_at steps j k below in omega arith
rises_at (moved edge ∷ steps) j zero below = absurd (omega arith)
rises_at (moved edge ∷ steps) zero (suc k) below = omega arith
rises_at (moved edge ∷ steps) (suc j) (suc k) below = let on = rises_at steps j k (omega arith) in omega arith

-- a step that is to be returned to is a move
record AmongMoves (steps : List Step) (place : ℕ) : Type 0 where
  k : ℕ
  is : place_of steps k ≡ place

among : (steps : List Step) (place site : ℕ) → option_and_then return_site_of (slice_get steps place) ≡ Some site → AmongMoves steps place
among [] place site h = absurd (cc)
among (passed ∷ steps) zero site h = absurd (cc)
among (moved edge ∷ steps) zero site h = record { k = zero; is = refl }
among (passed ∷ steps) (suc place) site h = let rest = among steps place site h in record { k = rest.k; is = ap suc rest.is }
among (moved edge ∷ steps) (suc place) site h = let rest = among steps place site h in record { k = suc rest.k; is = ap suc rest.is }

count_moves : (count : Step → ℕ) → count passed ≡ 0 → (steps : List Step) (sum : ℕ)
    → fold (λ a x. a + count x) sum (moves steps) ≡ fold (λ a x. a + count x) sum steps
count_moves count none [] sum = refl
count_moves count none (passed ∷ steps) sum =
    let same : sum ≡ sum + count passed = omega (arith, none) in
    count_moves count none steps sum ∙ ap (λ s. fold (λ a x. a + count x) s steps) same
count_moves count none (moved edge ∷ steps) sum = count_moves count none steps (sum + count (moved edge))

pub depth_moves : (steps : List Step) → depth (moves steps) ≡ depth steps
depth_moves steps = ap₂ (λ (a b : ℕ). a - b) (count_moves call_count refl steps 0) (count_moves return_count refl steps 0)

depth_at : (steps : List Step) (k : ℕ) → depth (take k (moves steps)) ≡ depth (take (place_of steps k) steps)
depth_at steps k = ap depth (take_at steps k) ∙ depth_moves (take (place_of steps k) steps)

pub returns_moves : (steps : List Step) (to : ℕ) → Returns steps to → Returns (moves steps) to
returns_moves steps to r =
    let there = among steps r.place to r.matching.call in
    let here = get_at steps there.k ∙ ap (slice_get steps) there.is in
    record {
      level = r.level;
      open_calls = depth_moves steps ∙ r.open_calls;
      place = there.k;
      matching = record {
        call = ap (option_and_then return_site_of) here ∙ r.matching.call;
        at_level = depth_at steps there.k ∙ ap (λ p. depth (take p steps)) there.is ∙ r.matching.at_level;
        last = λ later site behind called at_level.
            let past = rises_at steps there.k later behind in
            let beyond : r.place < place_of steps later = subst (λ p. p < place_of steps later) there.is past in
            r.matching.last (place_of steps later) site beyond (ap (option_and_then return_site_of) (sym (get_at steps later)) ∙ called)
            (sym (depth_at steps later) ∙ at_level);
      };
    }
