-- How a window's return chain is kept while the window is open (docs/DEFINITIONS.md).
use Rattle.std.specs.Prelude.{ℕ, List, ◌≤◌, length}
use Rattle.oat_chain.specs.{declared.Chain.Chain, Chain.window_head, Standing.StandsFor}
use Rattle.oat_measure.specs.declared.opening.Opening.{Opening}

-- the chain stands for the returns that went to some addresses, behind the window's begin record
pub record IsRunning (o : Opening) (so_far : Chain) : Type 0 where
  pub addresses : List ℕ
  pub stands : StandsFor so_far (window_head o.nonce o.op o.digest o.serial) addresses

pub record IsMeasuring (o : Opening) (so_far : Chain) (cells : List ℕ) : Type 0 where
  pub running : IsRunning o so_far
  pub few : length cells ≤ 65536
