-- What a blob says about one window: docs/FORMATS.md.
use Rattle.std.specs.{Prelude.◌≡◌, Prelude.ℕ, Prelude.◌<◌, Prelude.◌^◌, Prelude.Bool, Prelude.List, Prelude.[], Prelude.length, Prelude.None, Prelude.IfSome, List.All}
use Rattle.oat_blob.specs.{declared.body.BodyHead.BodyHead, declared.body.Violation.Violation}

-- a head, the branch bits and the indirect targets of the window
pub record Body : Type 0 where
  pub head : BodyHead
  pub bits : List Bool
  pub targets : List ℕ

-- so many bytes
pub record AreBytes (count : ℕ) (bytes : List ℕ) : Type 0 where
  pub counted : length bytes ≡ count
  pub below : All (λ byte. byte < 256) bytes

pub record IsViolation (violation : Violation) : Type 0 where
  pub cell : violation.cell < 2 ^ 32
  pub expected : violation.expected < 2 ^ 64
  pub found : violation.found < 2 ^ 64

-- each number fits its field
pub record IsBody (body : Body) : Type 0 where
  pub op : body.head.op < 2 ^ 16
  pub nonce : AreBytes 16 body.head.nonce
  pub digest : AreBytes 32 body.head.digest
  pub hash : AreBytes 32 body.head.hash
  pub violation : IfSome body.head.violation IsViolation
  pub serial : IfSome body.head.serial (λ serial. serial < 2 ^ 32)
  pub bits : length body.bits < 2 ^ 32
  pub targets : length body.targets < 2 ^ 32
  pub addresses : All (λ target. target < 2 ^ 64) body.targets

-- neither a violation nor records
pub record IsPlain (body : Body) : Type 0 where
  pub violation : body.head.violation ≡ None
  pub bits : body.bits ≡ []
  pub targets : body.targets ≡ []
