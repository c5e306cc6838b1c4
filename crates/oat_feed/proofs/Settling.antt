-- What a feed settles of the bytes that came, by the front that it keeps.
use Rattle.std.proofs.Common.{◌≡◌, ℕ, List, length, sym, subst, ◌∙◌}
use Rattle.oat_verify.specs.{IsBlob, BeginsBlob, IsFormOffset}
use Rattle.oat_feed.specs.{declared.intake.State.TheVariants.Broken, Verdict.AreRecordsOf, Verdict.RecordLists, Verdict.of_blob, Verdict.of_none, Standing.KeepsFront}
use Rattle.oat_feed.proofs.Fronts.{form_at}

pub same_records : (came front : List ℕ) (records others : RecordLists) → came ≡ front → records.bits ≡ others.bits → records.targets ≡ others.targets → AreRecordsOf front others → AreRecordsOf came records
same_records came front records others same bits targets (of_blob body mac is bits_are targets_are) =
    of_blob body mac (subst (λ (xs : List ℕ). IsBlob xs body mac) (sym same) is) (bits ∙ bits_are) (targets ∙ targets_are)
same_records came front records others same bits targets (of_none none bits_are targets_are) =
    of_none (λ body mac is. none body mac (subst (λ (xs : List ℕ). IsBlob xs body mac) same is)) (bits ∙ bits_are) (targets ∙ targets_are)

pub broken_form : (came front : List ℕ) (capacity : ℕ) → BeginsBlob front → KeepsFront Broken came front capacity → IsFormOffset came (length front)
broken_form came front capacity begins (within, kept, stops) = form_at came (length front) within (subst BeginsBlob kept begins) stops
