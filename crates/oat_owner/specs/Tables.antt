-- Which tables stand beside an owner's lists, for what is found without a search.
use Rattle.std.specs.{Prelude.◌≡◌, Prelude.◌≤◌, Prelude.ℕ, Prelude.List, Prelude.map, Prelude.length, List.IsDistinct, Str.bytes_eq}
use Rattle.oat_owner.specs.{declared.challenge.Challenge.Challenge, Ledger.challenge_limit}

-- the nonces of the challenges, no two alike
pub record AreNonces (nonces : List (List ℕ)) (challenges : List Challenge) : Type 0 where
  pub same : nonces ≡ map (λ c. c.nonce) challenges
  pub distinct : IsDistinct bytes_eq nonces
  pub few : length challenges ≤ challenge_limit
