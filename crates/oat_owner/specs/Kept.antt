-- What is kept of each challenge: its device is known, and has its operation.
use Rattle.std.specs.Prelude.{◌≡◌, ℕ, List, slice_get, Some}
use Rattle.oat_verify.specs.{IsOperation}
use Rattle.oat_owner.specs.{declared.device.Known.Known, declared.challenge.Challenge.Challenge, Ledger.device_of}

pub record IsKept (known : List Known) (c : Challenge) : Type 0 where
  pub device : Known
  pub is_known : device_of known c.device ≡ Some device
  pub operation : IsOperation device.shaped.map c.op

abbrev pub AreKept : List Known → List Challenge → Type 0
AreKept known challenges = (n : ℕ) (c : Challenge) → slice_get challenges n ≡ Some c → IsKept known c
