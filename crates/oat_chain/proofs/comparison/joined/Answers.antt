use Rattle.std.proofs.Common.{◌≡◌, ℕ, List, ◌++◌, length, replicate, refl, ap, ◌∙◌, rules}
use Rattle.std.specs.Int.{w64, to_be_bytes}
use Rattle.oat_chain.proofs.Writing.{put_behind}
use Rattle.oat_chain.proofs.comparison.joined.Goals as goal

pub returns : goal.returns
returns c =
    let before = c.args.before.now in
    let first : c.copy_from_slice.new.self ≡ before = c.copy_from_slice.ensures.after in
    let last : c.copy_from_slice-2.new.self ≡ to_be_bytes w64 c.args.address = c.copy_from_slice-2.ensures.after ∙ c.to_be_bytes.ensures in
    let long : length c.copy_from_slice.new.self ≡ 32 = ap length first ∙ search rules in
    put_behind c.copy_from_slice.new.self (replicate 8 0) c.copy_from_slice-2.new.self 32 8 long refl
    ∙ (ap (λ (xs : List ℕ). xs ++ c.copy_from_slice-2.new.self) first ∙ ap (λ (xs : List ℕ). before ++ xs) last)
