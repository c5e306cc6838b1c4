use Rattle.std.proofs.Common.{◌≡◌, ◌∷◌, [], Bool, false, ◌||◌, sym, ap, ◌∙◌}
use Rattle.std.specs.Str.{bytes_eq}
use Rattle.oat_policy.specs.Pieces.{path_word}
use Rattle.oat_policy.proofs.Behind.{whole_word}
use Rattle.oat_policy.proofs.matching.meets.Goals as goal

pub returns-else-eq : goal.returns-else-eq
returns-else-eq c =
    let wanted = c.args.wanted.now in
    let word = c.args.word.now in
    let no : bytes_eq wanted (42 ∷ []) ≡ false = sym (ap (bytes_eq wanted) c.as_slice.ensures) ∙ sym c.eq.ensures ∙ c.if-eq.false in
    c.is_word.ensures ∙ whole_word word wanted ∙ sym (ap (λ (t : Bool). t || bytes_eq wanted (path_word word)) no)
