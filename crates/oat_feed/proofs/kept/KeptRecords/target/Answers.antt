use Rattle.std.proofs.Common.{◌≡◌, ◌∙◌, ◌<◌, ◌+◌, ◌*◌, ℕ, List, Option, None, Some, ap, arith, length, refl, subst, sym, take, drop}
use Rattle.std.specs.{Prelude.slice_get, Prelude.MatchOption, Prelude.IsSome, Int.w64, Int.from_be_bytes}
use Rattle.std.proofs.lemmas.List.{drop-drop}
use Rattle.oat_feed.proofs.PlacesAre.{length-targets_in, slice_get-targets_in}
use Rattle.oat_feed.proofs.kept.KeptRecords.target.Goals as goal

is_there : (result : Option (List ℕ)) (P : Type 0) (Q : List ℕ → Type 0) → MatchOption result P Q → (P → ⊥) → IsSome result
is_there None P Q short long = absurd (long short)
is_there (Some field) P Q long never = refl

read_field : (result : Option (List ℕ)) (field : List ℕ) (P : Type 0) (Q : List ℕ → Type 0) → MatchOption result P Q → result ≡ Some field → Q field
read_field None field P Q short same = cc
read_field (Some x) field P Q long same = subst Q (some_same x field same) long where
  some_same : (x y : List ℕ) → Some x ≡ Some y → x ≡ y
  some_same x y same = cc

pub unwrap-requires : goal.unwrap-requires
unwrap-requires c =
    let count = sym (length-targets_in c.self.inside.places.target_count _) ∙ ap (λ records. length records.targets) c.self.view_is in
    let size : length c.deref.result.now ≡ length c.self.inside.bytes.items = ap length c.deref.ensures.value in
    is_there c.array_at-field.result _ _ c.array_at-field.ensures (λ short. omega (arith, short, count, size, c.self.invariant.targets))

pub returns : goal.returns
returns c =
    let count = sym (length-targets_in c.self.inside.places.target_count _) ∙ ap (λ records. length records.targets) c.self.view_is in
    let below : c.args.i < c.self.inside.places.target_count = omega (arith, count) in
    let field = read_field c.array_at-field.result c.unwrap.result _ _ c.array_at-field.ensures c.unwrap.ensures in
    let there : c.unwrap.result ≡ take 8 (drop (c.args.i * 8) (drop c.self.inside.places.targets_at c.self.inside.bytes.items)) =
    field.1 ∙ (ap (λ xs. take 8 (drop (c.self.inside.places.targets_at + c.args.i * 8) xs)) c.deref.ensures.value ∙ ap (take 8) (sym (drop-drop (c.args.i * 8) c.self.inside.places.targets_at c.self.inside.bytes.items))) in
    sym (ap (λ records. slice_get records.targets c.args.i) c.self.view_is)
    ∙ (slice_get-targets_in c.self.inside.places.target_count (drop c.self.inside.places.targets_at c.self.inside.bytes.items) c.args.i below ∙ sym (ap (λ n. Some n) (c.from_be_bytes.ensures ∙ ap (from_be_bytes w64) there)))
