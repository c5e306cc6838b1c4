-- Names of files are text, and ids of devices are looked at one by one.
use Rattle.std.proofs.Common.{◌≡◌, ℕ, ◌+◌, ◌<◌, ◌≤◌, Bool, true, false, not, ◌||◌, List, [], ◌∷◌, length, drop, get_or, Result, Ok, Err, refl, sym, ap, ◌∙◌, arith}
use Rattle.std.specs.{Prelude.IsOk, Prelude.MatchResult, Prelude.◌==◌, List.All, List.list_any, Str.IsUtf8}
use Rattle.std.proofs.lemmas.{Bool.and_parts, Bool.ltb-true, Bool.eq-eqb, Bool.ne_eqb, List.drop_more, List.drop_all, List.Elements.All-nil, List.Elements.All-cons, Str.IsUtf8-from_ascii}
use Rattle.std.proofs.lemmas.{Str.Ascii.IsAscii-from_all}
use Rattle.oat_owner.specs.{is_visible}
use Rattle.oat_script.specs.{Reading.is_file_byte, Reading.is_file_word, Reading.is_new, declared.script.ScriptDevice.ScriptDevice}

-- ---- names

all_low : (word : List ℕ) → is_file_word word ≡ true → All (λ b. b < 128) word
all_low [] is = All-nil (λ b. b < 128)
all_low (b ∷ word) is =
    let parts = and_parts (is_file_byte b) (is_file_word word) is in
    let low = ltb-true b 127 (and_parts (is_visible b) _ parts.0).1 in
    All-cons (λ b. b < 128) b word (omega (arith, low)) (all_low word parts.1)

pub is_text : (word : List ℕ) → is_file_word word ≡ true → IsUtf8 word
is_text word is = IsUtf8-from_ascii word (IsAscii-from_all word (all_low word is))

pub read_ok : {X E : Type 0} (r : Result X E) (P : X → Type 0) (U : Type 0) (Q : E → Type 0) → MatchResult r P (λ e. ¬ U × Q e) → U → IsOk r
read_ok (Ok x) P U Q cases is = refl
read_ok (Err e) P U Q cases is = absurd (cases.0 is)

-- ---- ids

module _ (devices : List ScriptDevice) (i id : ℕ) where
  ahead : (d : ScriptDevice) → i < length devices → d ≡ get_or devices i d → is_new (drop i devices) id ≡ (not (d.id == id || list_any (λ (x : ScriptDevice). x.id == id) (drop (i + 1) devices)))
  ahead d within read =
      ap (λ (ds : List ScriptDevice). is_new ds id) (drop_more devices i d within ∙ ap (λ (x : ScriptDevice). x ∷ drop (i + 1) devices) (sym read))

  pub id_stands : (d : ScriptDevice) → i < length devices → d ≡ get_or devices i d → d.id ≡ id → is_new (drop i devices) id ≡ is_new devices id → false ≡ is_new devices id
  id_stands d within read same so_far =
      sym (ahead d within read ∙ ap (λ (b : Bool). not (b || list_any (λ (x : ScriptDevice). x.id == id) (drop (i + 1) devices))) (eq-eqb d.id id same)) ∙ so_far

  pub one_less : (d : ScriptDevice) → i < length devices → d ≡ get_or devices i d → (d.id ≡ id → ⊥) → is_new (drop i devices) id ≡ is_new devices id → is_new (drop (i + 1) devices) id ≡ is_new devices id
  one_less d within read other so_far =
      sym (ahead d within read ∙ ap (λ (b : Bool). not (b || list_any (λ (x : ScriptDevice). x.id == id) (drop (i + 1) devices))) (ne_eqb d.id id other)) ∙ so_far

  pub none_left : length devices ≤ i → is_new (drop i devices) id ≡ is_new devices id → true ≡ is_new devices id
  none_left past so_far = sym (ap (λ (ds : List ScriptDevice). is_new ds id) (drop_all i devices past)) ∙ so_far
