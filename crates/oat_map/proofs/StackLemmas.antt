-- How the stack of open calls changes with each step, and what its top says of a return.
use Rattle.std.proofs.Common.{◌≡◌, ◌≢◌, ℕ, zero, suc, ◌+◌, ◌<◌, ◌≤◌, Bool, List, [], ◌∷◌, ◌++◌, length, take, None, Some, refl, sym, ap, ◌∙◌, inl, inr, arith, length-append}
use Rattle.std.specs.{List.slice_get, Option.option_and_then}
use Rattle.std.proofs.Math.Seq.{take-append_seam}
use Rattle.std.proofs.lemmas.{Bool.cases_lt, List.take-append-le, List.Sums.sum_by_push, Option.option_and_then_some, Option.slice_get_past, Option.slice_get_within}
use Rattle.oat_map.specs.{declared.row.Row.TheVariants.Call, declared.row.Row.TheVariants.ICall, Rows.after, Walk.Step, Walk.passed, Walk.moved, Walk.return_site_of, Walk.call_count}
use Rattle.oat_map.specs.{Walk.return_count, Walk.depth, Walk.LastCall, Walk.Returns, Stack.IsStack}
use Rattle.oat_map.proofs.WalkLemmas.{Returns-one}
use Rattle.oat_map.specs.declared.edge.Edge.TheVariants as edges

-- the items of a list with one more
get-front : {X : Type 0} (xs : List X) (x : X) (i : ℕ) → i < length xs → slice_get (xs ++ x ∷ []) i ≡ slice_get xs i
get-front [] x i below = absurd (omega arith)
get-front (y ∷ xs) x zero below = refl
get-front (y ∷ xs) x (suc i) below = get-front xs x i (omega arith)

get-last : {X : Type 0} (xs : List X) (x : X) (i : ℕ) → i ≡ length xs → slice_get (xs ++ x ∷ []) i ≡ Some x
get-last [] x zero here = refl
get-last [] x (suc i) here = absurd (omega arith)
get-last (y ∷ xs) x zero here = absurd (omega arith)
get-last (y ∷ xs) x (suc i) here = get-last xs x i (omega arith)

LastCall-within : (before : List Step) (level place back : ℕ) → LastCall before level place back → place < length before
LastCall-within before level place back match =
    option_and_then_some return_site_of (slice_get before place) back match.call
    (λ step is returns. slice_get_within before place step is)

-- no call stands behind the last step
call-past : (before : List Step) (later site : ℕ) → length before ≤ later
    → option_and_then return_site_of (slice_get before later) ≡ Some site → ⊥
call-past before later site past found =
    let none : slice_get before later ≡ None = slice_get_past before later past in
    let never = rw none at found in absurd (cc)

-- a matching call stays one behind a step that makes no call at its depth
module _ (steps : List Step) (step : Step) where
  lengths : length (steps ++ step ∷ []) ≡ length steps + 1
  lengths = length-append steps (step ∷ [])

  last-push : (level place back : ℕ) → LastCall steps level place back
      → ((site : ℕ) → return_site_of step ≡ Some site → depth steps ≢ level)
      → (later site : ℕ) → place < later → option_and_then return_site_of (slice_get (steps ++ step ∷ []) later) ≡ Some site
      → depth (take later (steps ++ step ∷ [])) ≢ level
  last-push level place back match other later site above found =
      elim (cases_lt later (length steps)) [
        | inl inside ↦
            let found_there = rw (get-front steps step later inside) at found in
            let same : take later (steps ++ step ∷ []) ≡ take later steps = take-append-le later steps (step ∷ []) (omega arith) in
            λ at_level. match.last later site above found_there (ap depth (sym same) ∙ at_level)
        | inr beyond ↦
            elim (cases_lt (length steps) later) [
              | inl past ↦
                  let all = lengths in
                  absurd (call-past (steps ++ step ∷ []) later site (omega arith) found)
              | inr not_past ↦
                  let here : later ≡ length steps = omega arith in
                  let called : return_site_of step ≡ Some site = rw (get-last steps step later here) at found in
                  let same : take later (steps ++ step ∷ []) ≡ steps =
                  ap (λ n. take n (steps ++ step ∷ [])) here ∙ take-append_seam steps (step ∷ []) in
                  λ at_level. other site called (ap depth (sym same) ∙ at_level)
            ]
      ]

  pub LastCall-push : (level place back : ℕ) → LastCall steps level place back
      → ((site : ℕ) → return_site_of step ≡ Some site → depth steps ≢ level)
      → LastCall (steps ++ step ∷ []) level place back
  LastCall-push level place back match other =
      let within : place < length steps = LastCall-within steps level place back match in
      record {
        call = ap (option_and_then return_site_of) (get-front steps step place within) ∙ match.call;
        at_level = ap depth (take-append-le place steps (step ∷ []) (omega arith)) ∙ match.at_level;
        last = last-push level place back match other;
      }

  -- a call is the last one at the depth before it
  pub LastCall-here : (back : ℕ) → return_site_of step ≡ Some back → LastCall (steps ++ step ∷ []) (depth steps) (length steps) back
  LastCall-here back called =
      record {
        call = ap (option_and_then return_site_of) (get-last steps step (length steps) refl) ∙ called;
        at_level = ap depth (take-append_seam steps (step ∷ []));
        last = λ later site above found.
            let all = lengths in
            absurd (call-past (steps ++ step ∷ []) later site (omega arith) found);
      }

-- no steps, no open calls
pub IsStack-empty : IsStack [] []
IsStack-empty = record { count = refl; calls = λ level back held. absurd (cc) }

-- as many calls are open as the stack has return sites
pub depth-is : (steps : List Step) (stack : List ℕ) → IsStack steps stack → depth steps ≡ length stack
depth-is steps stack holds = let count = holds.count in omega arith

module _ (steps : List Step) (stack : List ℕ) (step : Step) where
  -- a step that neither calls nor returns
  pub IsStack-quiet : return_site_of step ≡ None → call_count step ≡ 0 → return_count step ≡ 0
      → IsStack steps stack → IsStack (steps ++ step ∷ []) stack
  IsStack-quiet silent no_call no_return holds =
      let calls = sum_by_push call_count steps step in
      let returns = sum_by_push return_count steps step in
      let count = holds.count in
      record {
        count = omega arith;
        calls = λ level back held.
            let match = holds.calls level back held in
            (match.0, LastCall-push steps step level match.0 back match.1 (λ site called. absurd (cc)));
      }

  -- a step that calls
  pub IsStack-push : (back : ℕ) → return_site_of step ≡ Some back → call_count step ≡ 1 → return_count step ≡ 0
      → IsStack steps stack → IsStack (steps ++ step ∷ []) (stack ++ back ∷ [])
  IsStack-push back called one_call no_return holds =
      let calls = sum_by_push call_count steps step in
      let returns = sum_by_push return_count steps step in
      let count = holds.count in
      let open_calls : depth steps ≡ length stack = depth-is steps stack holds in
      let grown : length (stack ++ back ∷ []) ≡ length stack + 1 = length-append stack (back ∷ []) in
      record {
        count = omega arith;
        calls = λ level site held.
            elim (cases_lt level (length stack)) [
              | inl below ↦
                  let match = holds.calls level site (sym (get-front stack back level below) ∙ held) in
                  (match.0, LastCall-push steps step level match.0 site match.1 (λ other is same. absurd (omega arith)))
              | inr above ↦
                  let within : level < length (stack ++ back ∷ []) = slice_get_within (stack ++ back ∷ []) level site held in
                  let here : level ≡ length stack = omega arith in
                  let top : Some back ≡ Some site = sym (get-last stack back level here) ∙ held in
                  let same : back ≡ site = cc in
                  let at_depth : depth steps ≡ level = omega arith in
                  (length steps, rw (same, at_depth) at (LastCall-here steps step back called))
            ];
      }

  -- a step that returns
  pub IsStack-pop : (back : ℕ) → return_site_of step ≡ None → call_count step ≡ 0 → return_count step ≡ 1
      → IsStack steps (stack ++ back ∷ []) → IsStack (steps ++ step ∷ []) stack
  IsStack-pop back silent no_call one_return holds =
      let calls = sum_by_push call_count steps step in
      let returns = sum_by_push return_count steps step in
      let count = holds.count in
      let grown : length (stack ++ back ∷ []) ≡ length stack + 1 = length-append stack (back ∷ []) in
      record {
        count = omega arith;
        calls = λ level site held.
            let below : level < length stack = slice_get_within stack level site held in
            let match = holds.calls level site (get-front stack back level below ∙ held) in
            (match.0, LastCall-push steps step level match.0 site match.1 (λ other called. absurd (cc)));
      }

-- the same, step by step
module _ (steps : List Step) (stack : List ℕ) (holds : IsStack steps stack) where
  pub IsStack-passed : IsStack (steps ++ passed ∷ []) stack
  IsStack-passed = IsStack-quiet steps stack passed refl refl refl holds

  pub IsStack-jump : (from to : ℕ) → IsStack (steps ++ moved (edges.Jump from to) ∷ []) stack
  IsStack-jump from to = IsStack-quiet steps stack (moved (edges.Jump from to)) refl refl refl holds

  pub IsStack-branch : (from : ℕ) (bit : Bool) (to : ℕ) → IsStack (steps ++ moved (edges.Branch from bit to) ∷ []) stack
  IsStack-branch from bit to = IsStack-quiet steps stack (moved (edges.Branch from bit to)) refl refl refl holds

  pub IsStack-call : (from to : ℕ) → IsStack (steps ++ moved (edges.Call from to) ∷ []) (stack ++ after (Call from to) ∷ [])
  IsStack-call from to = IsStack-push steps stack (moved (edges.Call from to)) (after (Call from to)) refl refl refl holds

  pub IsStack-icall : (from params to : ℕ) → IsStack (steps ++ moved (edges.ICall from to) ∷ []) (stack ++ after (ICall from params) ∷ [])
  IsStack-icall from params to = IsStack-push steps stack (moved (edges.ICall from to)) (after (ICall from params)) refl refl refl holds

module _ (steps : List Step) (stack : List ℕ) (back : ℕ) (holds : IsStack steps (stack ++ back ∷ [])) where
  pub IsStack-return : (from to : ℕ) → IsStack (steps ++ moved (edges.Ret from to) ∷ []) stack
  IsStack-return from to = IsStack-pop steps stack (moved (edges.Ret from to)) back refl refl refl holds

  -- the top is where a return goes
  pub Returns-top : Returns steps back
  Returns-top =
      let open_calls : depth steps ≡ length (stack ++ back ∷ []) = depth-is steps (stack ++ back ∷ []) holds in
      let grown : length (stack ++ back ∷ []) ≡ length stack + 1 = length-append stack (back ∷ []) in
      let match = holds.calls (length stack) back (get-last stack back (length stack) refl) in
      record { level = length stack; open_calls = open_calls ∙ grown; place = match.0; matching = match.1 }

  -- and it goes nowhere else
  pub Returns-only_top : (to : ℕ) → Returns steps to → to ≡ back
  Returns-only_top to returns = Returns-one steps to back returns Returns-top
