-- A well-formed case can be given to a run.
use Rattle.std.proofs.Common.{◌<◌}
use Rattle.std.specs.{Prelude.FitsSigned, Int.w64, List.All}
use Rattle.oat_build.specs.{Case, WritesCanBeMade, IsWellFormedCase, AreGiven}

pub can_be_given : WritesCanBeMade → (case : Case) → IsWellFormedCase case → All (FitsSigned w64) case.inputs → All (λ write. All (λ byte. byte < 256) write.bytes) case.writes → AreGiven case.inputs case.writes
can_be_given made case formed inputs bytes =
    let writes = made case formed in
    record {
      inputs_fit = inputs;
      writes_fit = λ k d below. record { within = writes.0 k d below; bytes = bytes k d below };
      rising = writes.1;
    }
