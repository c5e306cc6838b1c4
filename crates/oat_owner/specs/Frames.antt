-- The frames in which challenges and answers travel: docs/FORMATS.md, "Frames". Numbers stand with the high byte first.
use Rattle.std.specs.{Prelude.◌≡◌, Prelude.◌<◌, Prelude.◌≤◌, Prelude.◌^◌, Prelude.ℕ, Prelude.List, Prelude.[], Prelude.◌∷◌, Prelude.◌++◌, Prelude.length, Prelude.take, Int.w16, Int.w32}
use Rattle.std.specs.{Int.to_be_bytes, List.All}
use Rattle.oat_verify.specs.{AreBytes}

-- 'OATC' and the version
abbrev pub challenge_front : List ℕ
challenge_front = 0x4F ∷ 0x41 ∷ 0x54 ∷ 0x43 ∷ 1 ∷ []

-- 'OATA' and the version
abbrev pub answer_front : List ℕ
answer_front = 0x4F ∷ 0x41 ∷ 0x54 ∷ 0x41 ∷ 1 ∷ []

-- what a challenge asks: a device, one of its operations, and a nonce
abbrev pub challenge_frame : (device op : ℕ) → (nonce : List ℕ) → List ℕ
challenge_frame device op nonce = challenge_front ++ (to_be_bytes w32 device ++ (to_be_bytes w16 op ++ nonce))

-- what an answer brings: from which device, to which nonce, and the bytes that are to be a blob
pub record Delivery : Type 0 where
  pub device : ℕ
  pub nonce : List ℕ
  pub blob : List ℕ

-- all before the blob
abbrev pub answer_head : Delivery → List ℕ
answer_head d = answer_front ++ (to_be_bytes w32 d.device ++ (d.nonce ++ to_be_bytes w32 (length d.blob)))

abbrev pub answer_frame : Delivery → List ℕ
answer_frame d = answer_head d ++ d.blob

-- the bytes are the frame of this answer
pub record IsAnswerFrame (bytes : List ℕ) (d : Delivery) : Type 0 where
  pub device : d.device < 2 ^ 32
  pub nonce : AreBytes 16 d.nonce
  pub blob : All (λ byte. byte < 256) d.blob
  pub few : length d.blob < 2 ^ 32
  pub layout : bytes ≡ answer_frame d

-- some answer frame has these bytes in front
abbrev pub BeginsAnswer : List ℕ → Type 0
BeginsAnswer front = (d : Delivery) × (rest : List ℕ) × IsAnswerFrame (front ++ rest) d

-- the first byte that no answer frame with the bytes before it can have, or the length where bytes are wanting
pub record IsFrameOffset (bytes : List ℕ) (offset : ℕ) : Type 0 where
  pub within : offset ≤ length bytes
  pub begins : BeginsAnswer (take offset bytes)
  pub longest : (more : ℕ) → offset < more → more ≤ length bytes → BeginsAnswer (take more bytes) → ⊥
  pub no_frame : (d : Delivery) → IsAnswerFrame bytes d → ⊥
