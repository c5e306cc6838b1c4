-- Windows of a list whose items come one by one: those that have closed, and the one that is open so far.
use Rattle.std.specs.{Prelude.Bool, Prelude.if◌then◌else◌, Prelude.List, Prelude.[], Prelude.◌∷◌, Prelude.◌++◌, Prelude.Option, Prelude.Some, Prelude.None, List.fold}

pub record Cut (X : Type 0) : Type 0 where
  pub closed : List (List X)
  pub going : Option (List X)

-- outside a window an item may open one; inside, it belongs to it, and may close it
abbrev pub taken_up : {X : Type 0} → (X → Bool) → (X → Bool) → List (List X) → Option (List X) → X → Cut X
taken_up opens seals closed None x = record { closed = closed; going = if opens x then Some [] else None }
taken_up opens seals closed (Some xs) x =
    if seals x then record { closed = closed ++ (xs ++ x ∷ []) ∷ []; going = None }
    else record { closed = closed; going = Some (xs ++ x ∷ []) }

abbrev pub takes_up : {X : Type 0} → (X → Bool) → (X → Bool) → Cut X → X → Cut X
takes_up opens seals cut x = taken_up opens seals cut.closed cut.going x

abbrev pub cut_up : {X : Type 0} → (X → Bool) → (X → Bool) → List X → Cut X
cut_up opens seals xs = fold (takes_up opens seals) (record { closed = []; going = None }) xs
