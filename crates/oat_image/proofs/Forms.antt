-- Each kind of line: what is read is spelled so, and what is spelled so is read.
use Rattle.std.proofs.Common.{◌≡◌, ℕ, zero, suc, ◌≤◌, ◌<◌, ◌^◌, Bool, true, false, ltb, List, [], ◌∷◌, Ok, refl, sym, ap, subst, ◌∙◌, arith}
use Rattle.std.specs.Prelude.{ok_or, decimal, ◌==◌}
use Rattle.std.proofs.lemmas.{Bool.ltb-true, Bool.lt-ltb, Fmt.decimal_digit}
use Rattle.oat_lines.specs.{Reading.◌>>=◌, Reading.guard, Reading.between, Decimal.decimal_of, Hexadecimal.hexadecimal_of, Hexadecimal.hexadecimal, Fields.one_field, Fields.two_fields}
use Rattle.oat_lines.specs.{Fields.four_fields, Fields.spaced, Fields.IsField}
use Rattle.oat_lines.proofs.{Hexadecimals.hexadecimal_takes, Hexadecimals.hexadecimal_again, Decimals.decimal_takes, Decimals.decimal_again, Cutting.one_takes, Cutting.two_take, Cutting.four_take}
use Rattle.oat_lines.proofs.{Cutting.one_again, Cutting.two_again, Cutting.four_again, Cutting.within_field, Cutting.two_within, Cutting.four_within, Steps.chosen, Steps.bind_ok, Steps.ok_is}
use Rattle.oat_lines.proofs.{Steps.or_ok, Steps.guard_ok}
use Rattle.oat_map.specs.{Name.IsName, Name.is_name, Name.read_name, declared.map.Function.Function, declared.map.Block.Block}
use Rattle.oat_map.proofs.NameTests.{name_from_test, test_from_name}
use Rattle.oat_image.specs.{declared.image.InitWord.InitWord, declared.fault.ImageFaultKind.TheVariants.Token, declared.fault.ImageFaultKind.TheVariants.Number, Grammar.code_line, Grammar.data_line}
use Rattle.oat_image.specs.{Grammar.cell_line, Grammar.function_line, Grammar.block_line, Grammar.flag_text, Grammar.IsWord, Grammar.IsIndex, Grammar.IsInitWord, Grammar.IsFunction, Grammar.IsBlock}
use Rattle.oat_image.specs.{LineReading.eight_digits, LineReading.number_in, LineReading.value_of, LineReading.flag_of, LineReading.spelled_name, LineReading.code_of, LineReading.data_of}
use Rattle.oat_image.specs.{LineReading.cell_of, LineReading.function_with, LineReading.function_of, LineReading.block_of}
use Rattle.oat_image.proofs.{Names.name_field, Sections.IsForm, Sections.between_takes, Sections.between_again, Sections.decimal_field, Sections.hexadecimal_field}

-- ---- words

pub address_takes : (word : List ℕ) (n : ℕ) → eight_digits word ≡ Ok n → (word ≡ hexadecimal 8 n) × (n < 2 ^ 32)
address_takes word n e = hexadecimal_takes 8 n word (or_ok (hexadecimal_of 8 word) Number n e)

pub address_again : (n : ℕ) → n < 2 ^ 32 → eight_digits (hexadecimal 8 n) ≡ Ok n
address_again n lt = rw (hexadecimal_again 8 n lt) refl

pub address_field : (n : ℕ) → IsField (hexadecimal 8 n)
address_field n = hexadecimal_field 8 n (omega arith)

pub number_takes : (least most : ℕ) (word : List ℕ) (n : ℕ) → most < 2 ^ 64 → number_in least most word ≡ Ok n → (word ≡ decimal n) × (least ≤ n) × (n ≤ most)
number_takes least most word n small e =
    let a = bind_ok (ok_or (decimal_of word) Number) (λ m. guard (between least most m) Number >>= λ within. Ok m) n e in
    let b = bind_ok (guard (between least most a.0) Number) (λ within. Ok a.0) n a.2 in
    let bounds = between_takes least most a.0 (guard_ok (between least most a.0) Number b.0 b.1) in
    subst (λ m. (word ≡ decimal m) × (least ≤ m) × (m ≤ most)) (ok_is a.0 n b.2)
    (decimal_takes a.0 word (omega arith) (or_ok (decimal_of word) Number a.0 a.1), bounds.0, bounds.1)

pub number_again : (least most n : ℕ) → least ≤ n → n ≤ most → most < 2 ^ 64 → number_in least most (decimal n) ≡ Ok n
number_again least most n low high small = rw (decimal_again n (omega arith), between_again least most n low high) refl

value_takes : (word : List ℕ) (n : ℕ) → value_of word ≡ Ok n → (word ≡ hexadecimal 16 n) × (1 ≤ n) × (n < 2 ^ 64)
value_takes word n e =
    let a = bind_ok (ok_or (hexadecimal_of 16 word) Number) (λ m. guard (ltb 0 m) Number >>= λ set. Ok m) n e in
    let b = bind_ok (guard (ltb 0 a.0) Number) (λ set. Ok a.0) n a.2 in
    let set : 0 < a.0 = ltb-true 0 a.0 (guard_ok (ltb 0 a.0) Number b.0 b.1) in
    let spelled = hexadecimal_takes 16 a.0 word (or_ok (hexadecimal_of 16 word) Number a.0 a.1) in
    subst (λ m. (word ≡ hexadecimal 16 m) × (1 ≤ m) × (m < 2 ^ 64)) (ok_is a.0 n b.2) (spelled.0, set, spelled.1)

value_again : (n : ℕ) → 1 ≤ n → n < 2 ^ 64 → value_of (hexadecimal 16 n) ≡ Ok n
value_again n set lt = rw (hexadecimal_again 16 n lt, lt-ltb 0 n set) refl

flag_is : (n : ℕ) → n ≤ 1 → decimal n ≡ flag_text (n == 1)
flag_is zero le = decimal_digit 0 (omega arith)
flag_is (suc zero) le = decimal_digit 1 (omega arith)
flag_is (suc (suc n)) le = absurd (omega arith)

flag_takes : (word : List ℕ) (b : Bool) → flag_of word ≡ Ok b → word ≡ flag_text b
flag_takes word b e =
    let a = bind_ok (number_in 0 1 word) (λ n. Ok (n == 1)) b e in
    let n = number_takes 0 1 word a.0 (omega arith) a.1 in
    n.0 ∙ flag_is a.0 n.2 ∙ ap flag_text (ok_is (a.0 == 1) b a.2)

flag_number : (n : ℕ) (b : Bool) → n ≤ 1 → (n == 1) ≡ b → flag_of (flag_text b) ≡ Ok b
flag_number n b le e =
    ap flag_of (ap flag_text (sym e) ∙ sym (flag_is n le)) ∙ rw (number_again 0 1 n (omega arith) le (omega arith)) (ap Ok e)

flag_again : (b : Bool) → flag_of (flag_text b) ≡ Ok b
flag_again true = flag_number 1 true (omega arith) refl
flag_again false = flag_number 0 false (omega arith) refl

flag_field : (b : Bool) → IsField (flag_text b)
flag_field true = record { visible = refl; nonempty = omega arith }
flag_field false = record { visible = refl; nonempty = omega arith }

name_takes : (word name : List ℕ) → spelled_name word ≡ Ok name → (word ≡ name) × IsName name
name_takes word name e =
    let t = chosen (is_name word) word name (or_ok (read_name word) Token name e) in
    (t.1, subst (λ (n : List ℕ). IsName n) t.1 (name_from_test word t.0))

name_again : (name : List ℕ) → IsName name → spelled_name name ≡ Ok name
name_again name is = rw (test_from_name name is) refl

-- ---- lines

code_takes : (line : List ℕ) (x : ℕ) → code_of line ≡ Ok x → (line ≡ code_line x) × IsWord x
unfolding code_of
code_takes line x e =
    let a = bind_ok (ok_or (one_field line) Token) (λ word. eight_digits word) x e in
    let n = address_takes a.0 x a.2 in
    (one_takes line a.0 (or_ok (one_field line) Token a.0 a.1) ∙ n.0, n.1)

code_again : (x : ℕ) → IsWord x → code_of (code_line x) ≡ Ok x
unfolding code_of
code_again x fits = rw (one_again (hexadecimal 8 x) (address_field x), hexadecimal_again 8 x fits) refl

pub code_form : IsForm code_of code_line IsWord
code_form = record { takes = code_takes; again = code_again; whole = λ x fits. within_field (hexadecimal 8 x) (address_field x) }

data_takes : (line : List ℕ) (x : InitWord) → data_of line ≡ Ok x → (line ≡ data_line x) × IsInitWord x
unfolding data_of
data_takes line x e =
    let a = bind_ok (ok_or (two_fields line) Token) (λ words. number_in 0 65535 words.0 >>= λ index. value_of words.1 >>= λ value. Ok (record { index = index; value = value })) x e in
    let b = bind_ok (number_in 0 65535 a.0.0) (λ index. value_of a.0.1 >>= λ value. Ok (record { index = index; value = value })) x a.2 in
    let d = bind_ok (value_of a.0.1) (λ value. Ok (record { index = b.0; value = value })) x b.2 in
    let index = number_takes 0 65535 a.0.0 b.0 (omega arith) b.1 in
    let value = value_takes a.0.1 d.0 d.1 in
    let parts : line ≡ spaced (decimal b.0 ∷ hexadecimal 16 d.0 ∷ []) =
    two_take line a.0 (or_ok (two_fields line) Token a.0 a.1) ∙ ap (λ (w : List ℕ). spaced (w ∷ a.0.1 ∷ [])) index.0 ∙ ap (λ (w : List ℕ). spaced (decimal b.0 ∷ w ∷ [])) value.0 in
    let made : InitWord = record { index = b.0; value = d.0 } in
    subst (λ (w : InitWord). (line ≡ data_line w) × IsInitWord w) (ok_is made x d.2) (parts, record { index = index.2; set = value.1; value = value.2 })

data_again : (x : InitWord) → IsInitWord x → data_of (data_line x) ≡ Ok x
unfolding data_of
data_again x fits =
    let small : x.index < 2 ^ 64 = omega (arith, fits.index) in
    rw (
      two_again (decimal x.index) (hexadecimal 16 x.value) (decimal_field x.index small) (hexadecimal_field 16 x.value (omega arith)),
      number_again 0 65535 x.index (omega arith) fits.index (omega arith),
      value_again x.value fits.set fits.value,
    ) refl

pub data_form : IsForm data_of data_line IsInitWord
data_form = record {
  takes = data_takes;
  again = data_again;
  whole = λ x fits. two_within (decimal x.index) (hexadecimal 16 x.value) (decimal_field x.index (omega (arith, fits.index))) (hexadecimal_field 16 x.value (omega arith));
}

cell_takes : (line : List ℕ) (x : ℕ) → cell_of line ≡ Ok x → (line ≡ cell_line x) × IsIndex x
unfolding cell_of
cell_takes line x e =
    let a = bind_ok (ok_or (one_field line) Token) (λ word. number_in 0 65535 word) x e in
    let n = number_takes 0 65535 a.0 x (omega arith) a.2 in
    (one_takes line a.0 (or_ok (one_field line) Token a.0 a.1) ∙ n.0, n.2)

cell_again : (x : ℕ) → IsIndex x → cell_of (cell_line x) ≡ Ok x
unfolding cell_of
cell_again x fits = rw (one_again (decimal x) (decimal_field x (omega arith)), number_again 0 65535 x (omega arith) fits (omega arith)) refl

pub cell_form : IsForm cell_of cell_line IsIndex
cell_form = record { takes = cell_takes; again = cell_again; whole = λ x fits. within_field (decimal x) (decimal_field x (omega arith)) }

with_takes : (name entry params flag : List ℕ) (x : Function) → function_with name entry params flag ≡ Ok x
    → (entry ≡ hexadecimal 8 x.entry) × (params ≡ decimal x.params) × (flag ≡ flag_text x.referenced) × (name ≡ x.name) × (x.entry < 2 ^ 32) × (x.params ≤ 4)
unfolding function_with
with_takes name entry params flag x e =
    let a = bind_ok (eight_digits entry) (λ m. number_in 0 4 params >>= λ p. flag_of flag >>= λ r. Ok (record { entry = m; name = name; params = p; referenced = r })) x e in
    let b = bind_ok (number_in 0 4 params) (λ p. flag_of flag >>= λ r. Ok (record { entry = a.0; name = name; params = p; referenced = r })) x a.2 in
    let d = bind_ok (flag_of flag) (λ r. Ok (record { entry = a.0; name = name; params = b.0; referenced = r })) x b.2 in
    let address = address_takes entry a.0 a.1 in
    let number = number_takes 0 4 params b.0 (omega arith) b.1 in
    let made : Function = record { entry = a.0; name = name; params = b.0; referenced = d.0 } in
    subst (λ (f : Function). (entry ≡ hexadecimal 8 f.entry) × (params ≡ decimal f.params) × (flag ≡ flag_text f.referenced) × (name ≡ f.name) × (f.entry < 2 ^ 32) × (f.params ≤ 4))
    (ok_is made x d.2) (address.0, number.0, flag_takes flag d.0 d.1, refl, address.1, number.2)

with_again : (x : Function) → IsFunction x → function_with x.name (hexadecimal 8 x.entry) (decimal x.params) (flag_text x.referenced) ≡ Ok x
unfolding function_with
with_again x fits = rw (address_again x.entry fits.entry, number_again 0 4 x.params (omega arith) fits.params (omega arith), flag_again x.referenced) refl

function_takes : (line : List ℕ) (x : Function) → function_of line ≡ Ok x → (line ≡ function_line x) × IsFunction x
unfolding function_of
function_takes line x e =
    let a = bind_ok (ok_or (four_fields line) Token) (λ words. spelled_name words.1 >>= λ name. function_with name words.0 words.2 words.3) x e in
    let b = bind_ok (spelled_name a.0.1) (λ name. function_with name a.0.0 a.0.2 a.0.3) x a.2 in
    let name = name_takes a.0.1 b.0 b.1 in
    let rest = with_takes b.0 a.0.0 a.0.2 a.0.3 x b.2 in
    let parts : line ≡ spaced (a.0.0 ∷ a.0.1 ∷ a.0.2 ∷ a.0.3 ∷ []) = four_take line a.0 (or_ok (four_fields line) Token a.0 a.1) in (
      parts ∙ ap (λ (w : List ℕ). spaced (w ∷ a.0.1 ∷ a.0.2 ∷ a.0.3 ∷ [])) rest.0
          ∙ ap (λ (w : List ℕ). spaced (hexadecimal 8 x.entry ∷ w ∷ a.0.2 ∷ a.0.3 ∷ [])) (name.0 ∙ rest.3)
          ∙ ap (λ (w : List ℕ). spaced (hexadecimal 8 x.entry ∷ x.name ∷ w ∷ a.0.3 ∷ [])) rest.1
          ∙ ap (λ (w : List ℕ). spaced (hexadecimal 8 x.entry ∷ x.name ∷ decimal x.params ∷ w ∷ [])) rest.2,
      record { entry = rest.4; name = subst (λ (n : List ℕ). IsName n) rest.3 name.1; params = rest.5 },
    )

function_again : (x : Function) → IsFunction x → function_of (function_line x) ≡ Ok x
unfolding function_of
function_again x fits =
    rw (
      four_again (hexadecimal 8 x.entry) x.name (decimal x.params) (flag_text x.referenced) (address_field x.entry) (name_field x.name fits.name)
          (decimal_field x.params (omega (arith, fits.params))) (flag_field x.referenced),
      name_again x.name fits.name,
      with_again x fits,
    ) refl

pub function_form : IsForm function_of function_line IsFunction
function_form = record {
  takes = function_takes;
  again = function_again;
  whole = λ x fits. four_within (hexadecimal 8 x.entry) x.name (decimal x.params) (flag_text x.referenced) (address_field x.entry) (name_field x.name fits.name)
      (decimal_field x.params (omega (arith, fits.params))) (flag_field x.referenced);
}

block_takes : (line : List ℕ) (x : Block) → block_of line ≡ Ok x → (line ≡ block_line x) × IsBlock x
unfolding block_of
block_takes line x e =
    let a = bind_ok (ok_or (two_fields line) Token) (λ words. spelled_name words.1 >>= λ label. eight_digits words.0 >>= λ start. Ok (record { start = start; label = label })) x e in
    let b = bind_ok (spelled_name a.0.1) (λ label. eight_digits a.0.0 >>= λ start. Ok (record { start = start; label = label })) x a.2 in
    let d = bind_ok (eight_digits a.0.0) (λ start. Ok (record { start = start; label = b.0 })) x b.2 in
    let label = name_takes a.0.1 b.0 b.1 in
    let start = address_takes a.0.0 d.0 d.1 in
    let parts : line ≡ spaced (hexadecimal 8 d.0 ∷ b.0 ∷ []) =
    two_take line a.0 (or_ok (two_fields line) Token a.0 a.1) ∙ ap (λ (w : List ℕ). spaced (w ∷ a.0.1 ∷ [])) start.0 ∙ ap (λ (w : List ℕ). spaced (hexadecimal 8 d.0 ∷ w ∷ [])) label.0 in
    let made : Block = record { start = d.0; label = b.0 } in
    subst (λ (w : Block). (line ≡ block_line w) × IsBlock w) (ok_is made x d.2) (parts, record { start = start.1; label = label.1 })

block_again : (x : Block) → IsBlock x → block_of (block_line x) ≡ Ok x
unfolding block_of
block_again x fits =
    rw (two_again (hexadecimal 8 x.start) x.label (address_field x.start) (name_field x.label fits.label), name_again x.label fits.label, address_again x.start fits.start) refl

pub block_form : IsForm block_of block_line IsBlock
block_form = record {
  takes = block_takes;
  again = block_again;
  whole = λ x fits. two_within (hexadecimal 8 x.start) x.label (address_field x.start) (name_field x.label fits.label);
}
