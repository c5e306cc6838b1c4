use Rattle.std.proofs.Common.{◌≡◌, ◌<◌, ℕ, List, [], get_or, length, set, map, Vec, Global, ap, sym, subst, ◌∙◌}
use Rattle.std.proofs.lemmas.List.{get_or-map, length-map, map-set}
use Rattle.oat_langrun.proofs.Passing.{list_there}
use Rattle.oat_langrun.proofs.memory.Memory.put.Goals as goal

pub returns : goal.returns
returns c =
    let ws = c.self.inside.words.items in
    let g = c.args.global in
    let w = c.index_mut-words.result.now in
    let items : Vec ℕ Global → List ℕ = λ words. words.items in
    let there : g < length (map items ws) = list_there (map items ws) g c.args.i (subst (λ (words : List (List ℕ)). c.args.i < length (get_or words g [])) (sym c.self.view_is) c.requires) in
    let low : g < length ws = subst (λ (n : ℕ). g < n) (length-map ws items) there in
    let own : w.items ≡ get_or (map items ws) g [] = ap items c.index_mut-words.ensures.value ∙ sym (get_or-map items ws g w [] low) in
    map-set items ws g _ ∙ ap (λ (xs : List ℕ). set (map items ws) g (set xs c.args.i c.args.value)) own
    ∙ ap (λ (words : List (List ℕ)). set words g (set (get_or words g []) c.args.i c.args.value)) c.self.view_is
