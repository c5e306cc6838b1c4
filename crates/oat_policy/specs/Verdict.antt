-- The verdict of a policy on a path: the first rule of the text that the path breaks, by its line and the place (docs/FORMATS.md, "Policies").
use Rattle.std.specs.Prelude.{ℕ, List, [], ◌∷◌, Option, Some, None}
use Rattle.oat_report.specs.{Map, Edge}
use Rattle.oat_policy.specs.{declared.policy.PolicyRule.PolicyRule, declared.verdict.PolicyVerdict.PolicyVerdict, declared.verdict.PolicyVerdict.TheVariants.Holds}
use Rattle.oat_policy.specs.{declared.verdict.PolicyVerdict.TheVariants.Breaks, Rules.broken_at}

-- the place on the line, or else this verdict
abbrev pub broken_or : ℕ → Option ℕ → PolicyVerdict → PolicyVerdict
broken_or line None otherwise = otherwise
broken_or line (Some place) otherwise = Breaks line place

unfoldable pub verdict_of : Map → List PolicyRule → List Edge → PolicyVerdict
verdict_of flow [] path = Holds
verdict_of flow (rule ∷ policy) path = broken_or rule.line (broken_at flow rule.rule path) (verdict_of flow policy path)
