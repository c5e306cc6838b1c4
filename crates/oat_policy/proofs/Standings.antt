-- The standings of a policy's rules, one behind the other.
use Rattle.std.proofs.Common.{◌≡◌, ℕ, ◌+◌, ◌≤◌, ◌<◌, List, [], ◌∷◌, ◌++◌, length, take, drop, set, get_or, replicate, Option, Some, None, refl, sym, ap, ◌∙◌, arith}
use Rattle.std.proofs.lemmas.List.{drop_more, drop_all, take_all, take_more_set, map_more, drop-set-lt, length-map, get_or-map, get_or_default}
use Rattle.oat_report.specs.{Map, Edge}
use Rattle.oat_policy.specs.{declared.policy.PolicyRule.PolicyRule, declared.rule.Standing.Standing, declared.verdict.PolicyVerdict.PolicyVerdict, declared.verdict.PolicyVerdict.TheVariants.Holds}
use Rattle.oat_policy.specs.{declared.verdict.PolicyVerdict.TheVariants.Breaks, Rules.first_forbidden, Rules.broken_at, Standing.counted, Standing.standing, Standing.standings, Verdict.broken_or}
use Rattle.oat_policy.specs.{Verdict.verdict_of}

abbrev pub begun : Standing
begun = record { count = 0; broken = None }

starts : (flow : Map) (rule : PolicyRule) → begun ≡ standing flow [] rule.rule
unfolding counted first_forbidden
starts flow rule = refl

pub all_start : (flow : Map) (policy : List PolicyRule) → replicate (length policy) begun ≡ standings flow [] policy
all_start flow [] = refl
all_start flow (rule ∷ policy) =
    ap (λ (s : Standing). s ∷ replicate (length policy) begun) (starts flow rule) ∙ ap (λ (ss : List Standing). standing flow [] rule.rule ∷ ss) (all_start flow policy)

-- Behind an edge the first rules stand behind it, and the others behind the path before.
pub record Followed (flow : Map) (path : List Edge) (edge : Edge) (rules : List PolicyRule) (states : List Standing) (i : ℕ) : Type 0 where
  pub done : take i states ≡ standings flow (path ++ edge ∷ []) (take i rules)
  pub left : drop i states ≡ standings flow path (drop i rules)

pub none_followed : (flow : Map) (path : List Edge) (edge : Edge) (rules : List PolicyRule) (states : List Standing) → states ≡ standings flow path rules → Followed flow path edge rules states 0
none_followed flow path edge rules states same = record { done = refl; left = same }

same_head : (x y : Standing) (xs ys : List Standing) → Path (List Standing) (x ∷ xs) (y ∷ ys) → x ≡ y
same_head x y xs ys e = cc

same_tail : (x y : Standing) (xs ys : List Standing) → Path (List Standing) (x ∷ xs) (y ∷ ys) → xs ≡ ys
same_tail x y xs ys e = cc

-- the next two lists by their first parts
split_left : (flow : Map) (path : List Edge) (edge : Edge) (rules : List PolicyRule) (states : List Standing) (i : ℕ) (d : PolicyRule) (s : Standing)
    → i < length rules → i < length states → Followed flow path edge rules states i
    → Path (List Standing) (get_or states i s ∷ drop (i + 1) states) (standing flow path (get_or rules i d).rule ∷ standings flow path (drop (i + 1) rules))
split_left flow path edge rules states i d s within inside f =
    sym (drop_more states i s inside) ∙ f.left ∙ ap (standings flow path) (drop_more rules i d within)

pub stands_there : (flow : Map) (path : List Edge) (edge : Edge) (rules : List PolicyRule) (states : List Standing) (i : ℕ) (d : PolicyRule) (s : Standing)
    → i < length rules → i < length states → Followed flow path edge rules states i → get_or states i s ≡ standing flow path (get_or rules i d).rule
stands_there flow path edge rules states i d s within inside f = same_head _ _ _ _ (split_left flow path edge rules states i d s within inside f)

pub one_followed : (flow : Map) (path : List Edge) (edge : Edge) (rules : List PolicyRule) (states : List Standing) (i : ℕ) (d : PolicyRule) (s next : Standing)
    → i < length rules → i < length states → Followed flow path edge rules states i → next ≡ standing flow (path ++ edge ∷ []) (get_or rules i d).rule
    → Followed flow path edge rules (set states i next) (i + 1)
one_followed flow path edge rules states i d s next within inside f is = record {
  done = take_more_set states i next inside ∙ ap (λ (ss : List Standing). ss ++ next ∷ []) f.done
      ∙ ap (λ (n : Standing). standings flow (path ++ edge ∷ []) (take i rules) ++ n ∷ []) is
      ∙ sym (map_more (λ (rule : PolicyRule). standing flow (path ++ edge ∷ []) rule.rule) rules i d within);
  left = drop-set-lt (i + 1) states i next (omega arith) ∙ same_tail _ _ _ _ (split_left flow path edge rules states i d s within inside f);
}

pub all_followed : (flow : Map) (path : List Edge) (edge : Edge) (rules : List PolicyRule) (states : List Standing) (i : ℕ)
    → length rules ≤ i → length states ≤ i → Followed flow path edge rules states i → states ≡ standings flow (path ++ edge ∷ []) rules
all_followed flow path edge rules states i past beyond f =
    sym (take_all i states beyond) ∙ f.done ∙ ap (standings flow (path ++ edge ∷ [])) (take_all i rules past)

pub as_many : (flow : Map) (path : List Edge) (rules : List PolicyRule) (states : List Standing) → states ≡ standings flow path rules → length states ≡ length rules
as_many flow path rules states same = ap length same ∙ length-map rules (λ (rule : PolicyRule). standing flow path rule.rule)

pub stands_at : (flow : Map) (path : List Edge) (rules : List PolicyRule) (states : List Standing) (i : ℕ) (d : PolicyRule) (s : Standing)
    → i < length rules → states ≡ standings flow path rules → get_or states i s ≡ standing flow path (get_or rules i d).rule
stands_at flow path rules states i d s within same =
    ap (λ (ss : List Standing). get_or ss i s) same ∙ get_or-map (λ (rule : PolicyRule). standing flow path rule.rule) rules i d s within

-- ---- the verdict, rule by rule

pub holds_there : (flow : Map) (path : List Edge) (rules : List PolicyRule) (i : ℕ) (d : PolicyRule) (v : PolicyVerdict)
    → i < length rules → broken_at flow (get_or rules i d).rule path ≡ None → verdict_of flow (drop i rules) path ≡ v → verdict_of flow (drop (i + 1) rules) path ≡ v
unfolding verdict_of
holds_there flow path rules i d v within holds so_far =
    let rule = get_or rules i d in
    sym (ap (λ (o : Option ℕ). broken_or rule.line o (verdict_of flow (drop (i + 1) rules) path)) holds)
    ∙ sym (ap (λ (rs : List PolicyRule). verdict_of flow rs path) (drop_more rules i d within)) ∙ so_far

breaks_there : (flow : Map) (path : List Edge) (rules : List PolicyRule) (i : ℕ) (d : PolicyRule) (v : PolicyVerdict) (place : ℕ)
    → i < length rules → broken_at flow (get_or rules i d).rule path ≡ Some place → verdict_of flow (drop i rules) path ≡ v → Path PolicyVerdict (Breaks (get_or rules i d).line place) v
unfolding verdict_of
breaks_there flow path rules i d v place within breaks so_far =
    let rule = get_or rules i d in
    sym (ap (λ (o : Option ℕ). broken_or rule.line o (verdict_of flow (drop (i + 1) rules) path)) breaks)
    ∙ sym (ap (λ (rs : List PolicyRule). verdict_of flow rs path) (drop_more rules i d within)) ∙ so_far

-- the line may be read at another default
pub breaks_on : (flow : Map) (path : List Edge) (rules : List PolicyRule) (i : ℕ) (d e : PolicyRule) (v : PolicyVerdict) (place : ℕ)
    → i < length rules → broken_at flow (get_or rules i d).rule path ≡ Some place → verdict_of flow (drop i rules) path ≡ v → Path PolicyVerdict (Breaks (get_or rules i e).line place) v
breaks_on flow path rules i d e v place within breaks so_far =
    breaks_there flow path rules i e v place within (ap (λ (rule : PolicyRule). broken_at flow rule.rule path) (get_or_default rules i e d within) ∙ breaks) so_far

pub all_hold : (flow : Map) (path : List Edge) (rules : List PolicyRule) (i : ℕ) (v : PolicyVerdict)
    → length rules ≤ i → verdict_of flow (drop i rules) path ≡ v → Path PolicyVerdict Holds v
unfolding verdict_of
all_hold flow path rules i v past so_far =
    sym (ap (λ (rs : List PolicyRule). verdict_of flow rs path) (drop_all i rules past)) ∙ so_far
