use Rattle.std.proofs.Common.{rules, ◌≡◌, List, ℕ, MatchOption, ap, sym, subst, ◌∙◌}
use Rattle.oat_shape.specs.{Edge, returns_of, passes}
use Rattle.oat_chain.specs.Chain.{chain}
use Rattle.oat_replay.specs.{BodyHead, Violation, Body}
use Rattle.oat_verify.specs.{declared.verdict.Verdict.Verdict, declared.verdict.Verdict.TheVariants.Accept, declared.verdict.Verdict.TheVariants.Refuse, Verdict.JudgesPath}
use Rattle.oat_verify.specs.declared.verdict.Cause.TheVariants as causes
use Rattle.oat_verify.proofs.judging.report.Goals as goal

-- a path whose returns have the hash is judged by the report
reported : (head hash : List ℕ) (blob : Body) (body : BodyHead) (path : List Edge) (v : Verdict) → blob.head ≡ body → hash ≡ chain head (returns_of path) → body.hash ≡ hash
    → MatchOption body.violation (v ≡ Accept path) (λ (x : Violation). v ≡ Refuse (causes.Critical x)) → JudgesPath head blob path v
reported head hash blob body path v same chained equal reports =
    passes tt (ap (λ (h : BodyHead). h.hash) same ∙ (equal ∙ chained))
    (subst (λ (h : BodyHead). MatchOption h.violation (v ≡ Accept path) (λ (x : Violation). v ≡ Refuse (causes.Critical x))) (sym same) reports)

pub returns-in-Some : goal.returns-in-Some
returns-in-Some c = λ head blob path same chained. reported head c.args.hash.now blob c.args.body.now path _ same chained (search rules) (search rules)

pub returns-in-None : goal.returns-in-None
returns-in-None c = λ head blob path same chained. reported head c.args.hash.now blob c.args.body.now path _ same chained (search rules) (search rules)
