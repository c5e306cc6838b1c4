use Rattle.std.proofs.Common.{◌≡◌, ℕ, length, map, replicate, None, refl, sym, ap, ◌∙◌, subst, arith}
use Rattle.std.specs.Prelude.{IfSome, Option}
use Rattle.std.proofs.lemmas.{List.Elements.All-weaker, List.length-map}
use Rattle.oat_report.specs.{Edge}
use Rattle.oat_policy.specs.{declared.recent.RecentEdge.RecentEdge, EdgeWords.edge_words, Standing.all_patterns, Standing.met_of, Standing.IsRecent}
use Rattle.oat_policy.proofs.Standings.{begun, all_start}
use Rattle.oat_policy.proofs.watch.Watch.new.Goals as goal

pub returns : goal.returns
returns c =
    let flow = c.args.map.now in
    let patterns = all_patterns c.args.policy.now in
    let all_are : map (λ pattern. pattern.now) c.in_ok-patterns.patterns.items ≡ patterns = c.in_ok-patterns.ensures in
    let many = sym (length-map c.in_ok-patterns.patterns.items (λ pattern. pattern.now)) ∙ ap length all_are in
    record {
      same_policy = refl;
      same_map = refl;
      given = refl;
      room = omega arith;
      each = c.in_ok-vec.ensures.items_if_clones_equal (λ y same. same) ∙ ap (λ (n : ℕ). replicate n begun) c.len-2.ensures ∙ all_start flow c.args.policy.now;
      patterns = all_are;
      recent = All-weaker (λ (kept : RecentEdge). (kept.edge ≡ None) × (length kept.met.items ≡ c.len.result)) (IsRecent flow patterns) (λ recent fresh. record {
        many = omega (arith, fresh.1, c.len.ensures, c.in_ok-patterns.patterns.ok, many);
        met = subst (λ (kept : Option Edge). IfSome kept (λ edge. recent.met.items ≡ met_of (edge_words flow edge) patterns)) (sym fresh.0) tt;
      }) c.in_ok-recent.recent.items c.in_ok-recent.ensures.each;
    }
