-- The run of the smallest image with a jump (image/Worked), computed by the definitions (docs/DEFINITIONS.md).
use Rattle.std.specs.Prelude.{◌≡◌, ℕ, List, [], ◌∷◌, Some, None}
use Rattle.sha2.specs.Sha256.{sha256}
use Rattle.oat_image.specs.Worked.{one_jump, one_jump_map}
use Rattle.oat_measure.specs.{window_head, Body, declared.opening.Opening.Opening}
use Rattle.oat_journal.specs.{declared.end.DeviceEnd.TheVariants.Halted, Window.executed_path, Window.returns_of_run, Measured.HasBody, Measured.Run, Measured.dev, Measured.window_of}
use Rattle.oat_journal.specs.{Measured.uses_of}
use Rattle.oat_map.specs.declared.edge.Edge.TheVariants as edges

-- a window of its one operation
abbrev pub one_jump_opening : List ℕ → List ℕ → Opening
one_jump_opening nonce digest = record { nonce = nonce; op = 1; digest = digest; begin_at = 0x10004; serial = None; calls = 1 }

-- the run of so many instructions without inputs and writes
abbrev pub one_jump_run : List ℕ → List ℕ → ℕ → Run
one_jump_run nonce digest n = dev one_jump (one_jump_opening nonce digest) [] [] n

-- It seals the window: the jump and the end, no returns, no uses.
pub record ShowsOneJump (o : Opening) (run : Run) : Type 0 where
  pub body : Body
  pub sealed : HasBody o run 0 body
  pub hash : body.head.hash ≡ sha256 (window_head o.nonce o.op o.digest None)
  pub violation : body.head.violation ≡ None
  pub path : executed_path one_jump_map 1 (window_of o 0 run) ≡ edges.Jump 0x10008 0x1000C ∷ edges.End 1 ∷ []
  pub returns : returns_of_run (window_of o 0 run) ≡ []
  pub uses : uses_of one_jump o 0 run ≡ []

-- After five instructions it has sealed and goes on; the sixth halts it.
pub record OneJumpRun (nonce digest : List ℕ) : Type 0 where
  pub at_five : ShowsOneJump (one_jump_opening nonce digest) (one_jump_run nonce digest 5)
  pub goes_on : (one_jump_run nonce digest 5).end ≡ None
  pub at_six : ShowsOneJump (one_jump_opening nonce digest) (one_jump_run nonce digest 6)
  pub halts : (one_jump_run nonce digest 6).end ≡ Some Halted
  pub made : (one_jump_run nonce digest 6).running.made ≡ 6

abbrev pub OneJumpIsMeasured : Type 0
OneJumpIsMeasured = (nonce digest : List ℕ) → OneJumpRun nonce digest
