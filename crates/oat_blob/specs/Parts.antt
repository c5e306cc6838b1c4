-- Parts of the layout: which bytes begin with a whole part, and where bytes stop being one
-- (docs/FORMATS.md). A part is told by how its values are spelled, and which values fit.
use Rattle.std.specs.{Prelude.◌≡◌, Prelude.ℕ, Prelude.suc, Prelude.◌<◌, Prelude.◌^◌, Prelude.Bool, Prelude.List, Prelude.◌++◌, Prelude.length, Prelude.take, Prelude.Option, Prelude.IfSome}
use Rattle.std.specs.{Prelude.is_some, Prelude.⊤, Int.w16, Int.w32, Int.w64, Int.to_be_bytes, List.All, List.flat_map}
use Rattle.oat_blob.specs.{declared.body.BodyHead.BodyHead, declared.body.Violation.Violation, Body.AreBytes, Body.IsViolation, Layout.magic, Layout.version_part, Layout.serial_part}
use Rattle.oat_blob.specs.{Layout.violation_part}

-- the bytes are the part with this value, and the rest
pub record IsFront {X : Type 0} (spell : X → List ℕ) (fits : X → Type 0) (bytes : List ℕ) (value : X) (rest : List ℕ) : Type 0 where
  pub fitting : fits value
  pub spelled : bytes ≡ spell value ++ rest

-- with so many bytes left: the front before them begins the part, and no value of the part goes
-- on as the bytes do, nor ends there
pub record Breaks {X : Type 0} (spell : X → List ℕ) (fits : X → Type 0) (bytes : List ℕ) (left : ℕ) : Type 0 where
  pub front : List ℕ
  pub behind : List ℕ
  pub parted : bytes ≡ front ++ behind
  pub counted : length behind ≡ left
  pub value : X
  pub more : List ℕ
  pub fitting : fits value
  pub begins : front ++ more ≡ spell value
  pub halts : (other : X) (rest : List ℕ) → fits other → bytes ≡ take (suc (length front)) (spell other) ++ rest → ⊥

-- so many bytes, and the rest
pub record IsCut (size : ℕ) (bytes front rest : List ℕ) : Type 0 where
  pub sized : length front ≡ size
  pub parted : bytes ≡ front ++ rest

-- bytes that stand for themselves
abbrev pub plain_part : List ℕ → List ℕ
plain_part bytes = bytes

abbrev pub IsMagic : List ℕ → Type 0
IsMagic bytes = bytes ≡ magic

-- a number of so many bits
abbrev pub IsBelow : ℕ → ℕ → Type 0
IsBelow width n = n < 2 ^ width

-- whether windows are numbered
abbrev pub IsVersion : Bool → Type 0
IsVersion numbered = ⊤

-- a serial number where windows are numbered
pub record IsSerial (numbered : Bool) (serial : Option ℕ) : Type 0 where
  pub version : is_some serial ≡ numbered
  pub below : IfSome serial (IsBelow 32)

-- behind the flag 1
abbrev pub violation_fields : Violation → List ℕ
violation_fields violation = to_be_bytes w32 violation.cell ++ (to_be_bytes w64 violation.expected ++ to_be_bytes w64 violation.found)

abbrev pub IfViolation : Option Violation → Type 0
IfViolation violation = IfSome violation IsViolation

abbrev pub head_part : BodyHead → List ℕ
head_part head =
    magic
    ++ (version_part (is_some head.serial)
    ++ (to_be_bytes w16 head.op
    ++ (serial_part head.serial
    ++ (head.nonce
    ++ (head.digest
    ++ (head.hash
    ++ violation_part head.violation))))))

pub record IsHead (head : BodyHead) : Type 0 where
  pub op : head.op < 2 ^ 16
  pub nonce : AreBytes 16 head.nonce
  pub digest : AreBytes 32 head.digest
  pub hash : AreBytes 32 head.hash
  pub violation : IfSome head.violation IsViolation
  pub serial : IfSome head.serial (IsBelow 32)

-- behind the count of bits, and behind that of targets
abbrev pub AreBits : ℕ → List Bool → Type 0
AreBits count bits = length bits ≡ count

pub record AreTargets (count : ℕ) (targets : List ℕ) : Type 0 where
  pub counted : length targets ≡ count
  pub addresses : All (λ target. target < 2 ^ 64) targets

abbrev pub addresses_part : List ℕ → List ℕ
addresses_part targets = flat_map (to_be_bytes w64) targets

-- with their counts in front
abbrev pub AreFewBits : List Bool → Type 0
AreFewBits bits = length bits < 2 ^ 32

pub record AreFewTargets (targets : List ℕ) : Type 0 where
  pub few : length targets < 2 ^ 32
  pub addresses : All (λ target. target < 2 ^ 64) targets
