use Rattle.std.proofs.Common.{◌≡◌, ◌-◌, ◌∙◌, ℕ, List, map, take, drop, length, refl, sym, ap, subst}
use Rattle.std.specs.String.{string_bytes}
use Rattle.std.proofs.lemmas.List.{take_rest, drop-map, length-map}
use Rattle.oat_words.specs.Commands.{fixed_of, bounds_of, AreNumbers}
use Rattle.oat_words.proofs.asked.is_line.Goals as goal

texts_behind : {X : Type 0} (f : X → List ℕ) (words : List X) (n : ℕ) → map f (take (length words - n) (drop n words)) ≡ drop n (map f words)
texts_behind {X} f words n = ap (λ (ws : List X). map f ws) (take_rest words n) ∙ sym (drop-map f n words)

pub returns : goal.returns
returns c =
    let command = c.args.command in
    let texts : List (List ℕ) = map string_bytes c.args.words.now in
    let fixed = c.fixed-fixed.result.now in
    let words = c.args.words.now in
    let given : List (List ℕ) = map string_bytes (take (length words - length fixed) (drop (length fixed) words)) in
    let long : length fixed ≡ length (fixed_of command) = sym (length-map fixed _) ∙ ap length c.fixed-fixed.ensures in
    let behind = texts_behind string_bytes c.args.words.now (length fixed) ∙ ap (λ (n : ℕ). drop n texts) long in (
      λ yes. record {
        listed = c.requires;
        begins = ap (λ (n : ℕ). take n texts) (sym long) ∙ (c.if-not-begin.ensures.0 refl ∙ c.fixed-fixed.ensures);
        numbers = subst (λ (ws : List (List ℕ)). AreNumbers (bounds_of command) ws) behind
            (subst (λ (bounds : List ℕ). AreNumbers bounds given) c.bounds.ensures (c.are_numbers.ensures.0 yes));
        count = length-map c.args.words.now string_bytes ∙ c.if-not-has_count.ensures.0 refl;
      },
      λ line. c.are_numbers.ensures.1 (subst (λ (bounds : List ℕ). AreNumbers bounds given) (sym c.bounds.ensures)
          (subst (λ (ws : List (List ℕ)). AreNumbers (bounds_of command) ws) (sym behind) line.numbers)),
    )
