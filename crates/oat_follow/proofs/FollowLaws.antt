-- The laws of images that follow a source, for the crates above: the other statements stand in specs/, each under the name of its law.
use Rattle.std.proofs.Common.{◌≡◌, ℤ, List}
use Rattle.oat_journal.specs.{SourceKeeps, SourceMachine, Image, Opening, Measured.start_cells}
use Rattle.oat_follow.specs.{Following.Means, Following.RunsAs, Placement.Placement, Steps.FollowsSteps}
use Rattle.oat_follow.proofs.OnBare as on_bare
use Rattle.oat_follow.proofs.OnDevice as on_device
-- Events: what a run and a window show.
pub use Rattle.oat_follow.proofs.Showing.{outputs_are_shown, paths_are_shown}
-- Instructions, one behind the other.
pub use Rattle.oat_follow.proofs.Reaching.{goes as instructions_lead, stops as last_instructions_lead, thence as instructions_follow, still as none_lead}
-- Calls that keep order.
pub use Rattle.oat_follow.proofs.OnDevice.{ordered_runs_are_sealed}
pub use Rattle.oat_follow.proofs.Sounding.{ordered_uses_are_sound}

-- ---- whole runs of any source

-- Where each step of a source that keeps order is followed, the bare run runs as the source.
pub runs_as : (S : SourceMachine) (image : Image) (p : Placement S.Edge) (inputs : List ℤ) → SourceKeeps S (start_cells image) → FollowsSteps S image p inputs → RunsAs S image p inputs
runs_as S image p inputs keeps follows = on_bare.runs_as S image p inputs keeps follows

-- Then each session whose windows open where its operation begins means the source.
pub means : (S : SourceMachine) (image : Image) (p : Placement S.Edge) (o : Opening) (inputs : List ℤ) → p.begin o.op ≡ o.begin_at → RunsAs S image p inputs → Means S image p o inputs
means S image p o inputs begun runs = on_device.means S image p o inputs begun runs
