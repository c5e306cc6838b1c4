use Rattle.std.proofs.Common.{◌∙◌, ap, length, sym}
use Rattle.oat_feed.proofs.PlacesAre.{length-targets_in}
use Rattle.oat_feed.proofs.kept.KeptRecords.target_count.Goals as goal

pub returns : goal.returns
returns c = sym (length-targets_in c.self.inside.places.target_count _) ∙ ap (λ records. length records.targets) c.self.view_is
