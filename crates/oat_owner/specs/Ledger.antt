-- An owner as its contracts see it: the devices that it knows, and the challenges that it issued, by number.
use Rattle.std.specs.{Prelude.ℕ, Prelude.zero, Prelude.suc, Prelude.◌==◌, Prelude.◌&&◌, Prelude.true, Prelude.List, Prelude.[], Prelude.◌∷◌, Prelude.◌++◌, Prelude.Option, Prelude.Some, Prelude.None}
use Rattle.std.specs.{Prelude.find, Prelude.position, Prelude.map, Prelude.slice_get, Prelude.option_map, Prelude.option_and_then, Prelude.if◌then◌else◌, List.list_any, Str.bytes_eq}
use Rattle.oat_verify.specs.{Image}
use Rattle.oat_owner.specs.{declared.device.Known.Known, declared.challenge.Challenge.Challenge}

pub record Ledger : Type 0 where
  pub known : List Known
  pub challenges : List Challenge

-- the most challenges that an owner issues
abbrev pub challenge_limit : ℕ
challenge_limit = 65536

-- the known device with this id
abbrev pub device_of : List Known → ℕ → Option Known
device_of known id = find (λ k. id == k.id) known

-- the number of the challenge with this nonce, to whichever device
abbrev pub number_with : List Challenge → List ℕ → Option ℕ
number_with challenges nonce = position (λ c. bytes_eq nonce c.nonce) challenges

-- the number of the challenge with this nonce to this device
abbrev pub number_to : List Challenge → ℕ → List ℕ → Option ℕ
number_to challenges device nonce = position (λ c. bytes_eq nonce c.nonce && (c.device == device)) challenges

-- the challenges, that of this number spent
abbrev pub spent_at : ℕ → List Challenge → List Challenge
spent_at number [] = []
spent_at zero (c ∷ challenges) = record c { spent = true } ∷ challenges
spent_at (suc number) (c ∷ challenges) = c ∷ spent_at number challenges

-- the image of the device to which the challenge with this number was issued
abbrev pub shaped_of : Ledger → ℕ → Option Image
shaped_of l number = option_and_then (λ c. option_map (λ k. k.shaped) (device_of l.known c.device)) (slice_get l.challenges number)

-- the first of these ids that repeats an earlier one
abbrev pub repeated_behind : List ℕ → List ℕ → Option ℕ
repeated_behind before [] = None
repeated_behind before (id ∷ ids) = if list_any (λ other. id == other) before then Some id else repeated_behind (before ++ id ∷ []) ids

abbrev pub ids_of : List Known → List ℕ
ids_of known = map (λ k. k.id) known

abbrev pub repeated_id : List Known → Option ℕ
repeated_id known = repeated_behind [] (ids_of known)
