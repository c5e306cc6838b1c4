-- Testing the words of a line one after the other.
use Rattle.std.proofs.Common.{◌≡◌, Bool, true, List, [], ◌∷◌, refl, sym, ◌∙◌}
use Rattle.oat_lines.specs.Lines.{TextWord}
use Rattle.oat_text.specs.{declared.form.WordKind.WordKind, Readings.all_pass}

no_words : (test : WordKind → TextWord → Bool) (kinds : List WordKind) → all_pass test kinds [] ≡ true
no_words test [] = refl
no_words test (kind ∷ kinds) = refl

pub ends : (test : WordKind → TextWord → Bool) (left : List WordKind) (rest : List TextWord) (total : Bool) → rest ≡ []
    → all_pass test left rest ≡ total → true ≡ total
ends test left rest total none so_far = sym (no_words test left) ∙ rw none at so_far
