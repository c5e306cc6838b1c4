-- Where each source step of a compiled program is matched, and its start, the image follows the source, and so runs as it.
use Rattle.std.proofs.Common.{◌≡◌, ℤ, List, [], ◌∷◌, Option, option_map, Some, None, FitsSigned, refl, sym, subst}
use Rattle.std.specs.{Int.w64, List.AllByRecursion}
use Rattle.oat_check.proofs.Kept.{keeps}
use Rattle.oat_globals.specs.{Program, Cells, SourceEvent, enters, leaves, outputs, takes, Finish, SourceKeeps, Running, IsChecked, line_edge_name, source_of, source_start, LineEdge, SourceState}
use Rattle.oat_globals.specs.{source_step, AreNamed, FollowsSteps, device_end, World}
use Rattle.oat_locals.specs.{loads, stores}
use Rattle.oat_match.specs.{Compiled.IsCompiled, Following.CompiledProgramsMean, Following.CompiledProgramsRun, Following.StepsTakeEdges, Following.TakesEdgesOf, Matching.CellsStartAlike}
use Rattle.oat_match.specs.{Matching.IsAlike, Matching.IsRelated, Matching.StartIsMatched, Matching.StartsAreMatched, Matching.StepIsMatched, Matching.StepsAreMatched, Placed.EdgesAreNamed}
use Rattle.oat_match.specs.{Placed.placement}
use Rattle.oat_follow.proofs.FollowLaws as follow

-- edges of the program have their names in the image
names : (p : Program) (w : World) → EdgesAreNamed p w → (es : List (SourceEvent LineEdge)) → TakesEdgesOf p es → AreNamed w.image.map (placement p w) (line_edge_name p) es
names p w n [] h = tt
names p w n (takes edge ∷ es) h = (n.named edge h.0, names p w n es h.1)
names p w n (enters op ∷ es) h = (tt, names p w n es h)
names p w n (leaves op ∷ es) h = (tt, names p w n es h)
names p w n (loads cell value ∷ es) h = (tt, names p w n es h)
names p w n (stores cell value ∷ es) h = (tt, names p w n es h)
names p w n (outputs value ∷ es) h = (tt, names p w n es h)

end_alike : (p : Program) (w : World) (s : SourceState) (m : Running) (end : Option Finish) → IsAlike p w end s m → m.end ≡ option_map device_end end
end_alike p w s m None h = h.is_at.going
end_alike p w s m (Some why) h = h

-- The image follows its source step by step.
pub follows_steps : StepsAreMatched → StartsAreMatched → StepsTakeEdges → (p : Program) → IsChecked p → (w : World) → IsCompiled p w → EdgesAreNamed p w → (inputs : List ℤ) → AllByRecursion (FitsSigned w64) inputs
    → FollowsSteps (source_of p inputs) w.image (placement p w) inputs
follows_steps steps starts edges p ok w c named inputs fit =
    let start : StartIsMatched p w inputs = starts p ok w c inputs fit in
    record {
      Related = IsRelated p w;
      lead = start.count;
      few = start.few;
      first = subst (IsRelated p w (source_start p inputs)) (sym start.runs.run) start.related;
      silent = start.runs.told;
      ends = λ s m r. end_alike p w s m s.end r.alike;
      finish = λ op. record { edge = refl; name = refl };
      step = λ s m r going.
          let t : StepIsMatched p w (source_step p s) m = steps p ok w c s m r going in
          record {
            count = t.count;
            some = t.some;
            few = t.few;
            kept = subst (IsRelated p w (source_step p s).state) (sym t.runs.run) (record { consistent = (keeps p ok inputs).goes s r.consistent; alike = t.alike });
            alike = t.runs.told;
            named = names p w named (source_step p s).shown (edges p ok s r.consistent);
          };
    }

pub compiled_programs_run : StepsAreMatched → StartsAreMatched → StepsTakeEdges → CellsStartAlike → CompiledProgramsRun
compiled_programs_run steps starts edges cells p ok w c named inputs fit =
    follow.runs_as (source_of p inputs) w.image (placement p w) inputs (subst (λ (words : Cells). SourceKeeps (source_of p inputs) words) (sym (cells p w c)) (keeps p ok inputs))
    (follows_steps steps starts edges p ok w c named inputs fit)

pub compiled_programs_mean : CompiledProgramsRun → CompiledProgramsMean
compiled_programs_mean run p ok w c named inputs fit o begun = follow.means (source_of p inputs) w.image (placement p w) o inputs begun (run p ok w c named inputs fit)
