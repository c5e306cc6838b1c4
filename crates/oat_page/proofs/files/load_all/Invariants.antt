use Rattle.std.proofs.Common.{◌≡◌, ◌≤◌, map, take, Some}
use Rattle.std.specs.String.{string_bytes}
use Rattle.oat_world.specs.Outside.{Contents}
use Rattle.oat_page.specs.Loads.{wanted_of, AreLoaded}
use Rattle.oat_page.proofs.files.load_all.Given as goal

abbrev pub invariant-loop-k : goal.invariant-loop-k
invariant-loop-k g l = record {
  same : g.F.Files.told l.files ≡ g.F.Files.told l.initial.files;
  faults_stay : g.F.Files.faults l.initial.files ≤ g.F.Files.faults l.files;
  limited : map (λ file. file.limit) l.loaded.items ≡ take l.k l.limits;
  held : (contents : Contents) → g.F.Files.told l.initial.files ≡ Some contents
      → AreLoaded contents (take l.k (wanted_of (map string_bytes l.names) l.limits)) l.loaded.items;
}
