-- What the lines say that the reader takes.
use Rattle.std.proofs.Common.{◌≡◌, ℕ, ◌<◌, ◌≤◌, Bool, true, false, ◌&&◌, cond, List, [], ◌∷◌, length, map, get_or, Option, Some, None, Ok, refl, sym, ap, ◌∙◌, subst, arith}
use Rattle.std.specs.{Prelude.bytes_eq, Prelude.is_some, Prelude.if◌then◌else◌, List.list_all, List.find, Option.ok_or}
use Rattle.std.proofs.lemmas.{Bool.and_parts, Bool.leb-true, List.get_or-map, List.map-id, List.length-map, List.Quantifiers.position-Some, Slice.Eq.bytes_eq-Decides}
use Rattle.oat_lines.specs.{Lines.TextWord, Reading.◌>>=◌, Reading.guard, Reading.between}
use Rattle.oat_lines.proofs.Steps.{bind_ok, guarded_ok, or_ok, ok_is, chosen}
use Rattle.oat_map.proofs.NameTests.{name_from_test}
use Rattle.oat_ir.specs.{IsName, is_name, read_name, declared.program.Program.Program, declared.func.Func.Func, declared.func.BlockIr.BlockIr, Distinct.global_name, Indices.HasLocal, Indices.HasBlock}
use Rattle.oat_ir.specs.{Indices.HasGlobal, Indices.HasFunc}
use Rattle.oat_text.specs.{declared.form.LineForm.LineForm, declared.form.WordKind.WordKind, declared.form.TheConstants.FORMS, declared.head.Stage.Stage, declared.fault.TextFaultKind.TextFaultKind}
use Rattle.oat_text.specs.{declared.fault.TextFaultKind.TheVariants.Token, declared.fault.TextFaultKind.TheVariants.Expected, declared.fault.TextFaultKind.TheVariants.Number}
use Rattle.oat_text.specs.{declared.fault.TextFaultKind.TheVariants.Unknown, Words.Says, Forms.spelled, Forms.line_form, Forms.kinds_of, Grammar.local_at, Grammar.block_at, Grammar.global_at}
use Rattle.oat_text.specs.{Grammar.func_at, Readings.is_printable, Readings.is_shaped, Readings.is_in_range, Readings.all_pass, Readings.has_number, Outline.stands, Outline.fitting, Outline.tested}
use Rattle.oat_text.specs.{Outline.itself, Outline.local_name, Bodies.Scope, Bodies.index_of}
use Rattle.oat_text.specs.declared.form.WordKind.TheVariants as kind

-- ---- tests

one_passes : {X : Type 0} (p : X → Bool) (x y : X) (rest : Option X) (b : Bool) → p x ≡ b → (rest ≡ Some y → p y ≡ true) → cond b (Some x) rest ≡ Some y → p y ≡ true
one_passes p x y rest true is more e = (let same : x ≡ y = cc in ap p (sym same) ∙ is)
one_passes p x y rest false is more e = more e

found_passes : {X : Type 0} (p : X → Bool) (xs : List X) (y : X) → find p xs ≡ Some y → p y ≡ true
found_passes p [] y e = absurd cc
found_passes p (x ∷ xs) y e = one_passes p x y (find p xs) (p x) refl (found_passes p xs y) e

pub form_spelled : (word : TextWord) (form : LineForm) → line_form word ≡ Some form → word ≡ spelled form
form_spelled word form e = (bytes_eq-Decides word (spelled form)).0 (found_passes (λ f. bytes_eq word (spelled f)) FORMS form e)

-- a line of this form passes the tests
pub record IsTested (stage : Stage) (outmost : Bool) (word : TextWord) (words : List TextWord) (form : LineForm) : Type 0 where
  pub spelled : word ≡ spelled form
  pub formed : line_form word ≡ Some form
  pub shaped : all_pass is_shaped (kinds_of form) words ≡ true
  pub placed : stands stage outmost form ≡ true
  pub number : has_number form words ≡ true
  pub ranged : all_pass is_in_range (kinds_of form) words ≡ true

pub tested_is : (stage : Stage) (outmost : Bool) (word : TextWord) (words : List TextWord) (form : LineForm)
    → tested stage outmost word words ≡ Ok form → IsTested stage outmost word words form
unfolding tested fitting
tested_is stage outmost word words form e =
    let a = guarded_ok (list_all is_printable (word ∷ words)) Token (λ (u : Unit {0}). ok_or (line_form word) Expected >>= λ f. fitting stage outmost f words) form e in
    let b = bind_ok (ok_or (line_form word) Expected) (λ f. fitting stage outmost f words) form a.1 in
    let formed = or_ok (line_form word) Expected b.0 b.1 in
    let c = guarded_ok (all_pass is_shaped (kinds_of b.0) words) Token (λ (u : Unit {0}). guard (stands stage outmost b.0 && has_number b.0 words) Expected >>= λ _. (guard (all_pass is_in_range (kinds_of b.0) words) Number >>= λ _. Ok b.0)) form b.2 in
    let d = guarded_ok (stands stage outmost b.0 && has_number b.0 words) Expected (λ (u : Unit {0}). guard (all_pass is_in_range (kinds_of b.0) words) Number >>= λ _. Ok b.0) form c.1 in
    let p = and_parts (stands stage outmost b.0) (has_number b.0 words) d.0 in
    let g = guarded_ok {E = TextFaultKind} (all_pass is_in_range (kinds_of b.0) words) Number (λ (u : Unit {0}). Ok b.0) form d.1 in
    subst (IsTested stage outmost word words) (ok_is b.0 form g.1) (record {
      spelled = form_spelled word b.0 formed;
      formed = formed;
      shaped = c.0;
      placed = p.0;
      number = p.1;
      ranged = g.0;
    })

-- ---- words

some_test : (b : Bool) (word : TextWord) → is_some (if b then Some word else None) ≡ true → b ≡ true
some_test true word e = refl
some_test false word e = absurd cc

named : (word : TextWord) → is_some (read_name word) ≡ true → IsName word
named word e = name_from_test word (some_test (is_name word) word e)

pub read_is : (word name : TextWord) → read_name word ≡ Some name → (word ≡ name) × IsName name
read_is word name e =
    let c = chosen (is_name word) word name e in
    (c.1, subst IsName c.1 (name_from_test word c.0))

abbrev pub Shaped : WordKind → TextWord → Type 0
Shaped kind.Named word = IsName word
Shaped _ word = Unit {0}

abbrev pub AreShaped : List WordKind → List TextWord → Type 0
AreShaped [] words = Unit {0}
AreShaped (k ∷ ks) [] = Unit {0}
AreShaped (k ∷ ks) (word ∷ words) = Shaped k word × AreShaped ks words

one_shaped : (k : WordKind) (word : TextWord) → is_shaped k word ≡ true → Shaped k word
one_shaped kind.Named word e = named word e
one_shaped kind.Typed word e = tt
one_shaped kind.Parameter word e = tt
one_shaped kind.Start word e = tt
one_shaped kind.Integer word e = tt
one_shaped (kind.Count most) word e = tt

pub all_shaped : (kinds : List WordKind) (words : List TextWord) → all_pass is_shaped kinds words ≡ true → AreShaped kinds words
all_shaped [] words e = tt
all_shaped (k ∷ ks) [] e = tt
all_shaped (k ∷ ks) (word ∷ words) e =
    let p = and_parts (is_shaped k word) (all_pass is_shaped ks words) e in
    (one_shaped k word p.0, all_shaped ks words p.1)

-- ---- how many words

pub counted : (low high n : ℕ) → between low high n ≡ true → (low ≤ n) × (n ≤ high)
counted low high n e = let p = and_parts _ _ e in (leb-true low n p.0, leb-true n high p.1)

pub none_of : (words : List TextWord) → length words ≤ 0 → words ≡ []
none_of [] le = refl
none_of (w ∷ ws) le = absurd (omega arith)

pub one_of : (words : List TextWord) → 1 ≤ length words → length words ≤ 1 → (w : TextWord) × (words ≡ w ∷ [])
one_of [] low high = absurd (omega arith)
one_of (w ∷ []) low high = (w, refl)
one_of (w ∷ x ∷ ws) low high = absurd (omega arith)

pub two_of : (words : List TextWord) → 2 ≤ length words → length words ≤ 2 → (w x : TextWord) × (words ≡ w ∷ x ∷ [])
two_of [] low high = absurd (omega arith)
two_of (w ∷ []) low high = absurd (omega arith)
two_of (w ∷ x ∷ []) low high = (w, x, refl)
two_of (w ∷ x ∷ y ∷ ws) low high = absurd (omega arith)

pub three_of : (words : List TextWord) → 3 ≤ length words → length words ≤ 3 → (w x y : TextWord) × (words ≡ w ∷ x ∷ y ∷ [])
three_of [] low high = absurd (omega arith)
three_of (w ∷ []) low high = absurd (omega arith)
three_of (w ∷ x ∷ []) low high = absurd (omega arith)
three_of (w ∷ x ∷ y ∷ []) low high = (w, x, y, refl)
three_of (w ∷ x ∷ y ∷ z ∷ ws) low high = absurd (omega arith)

pub some_of : (words : List TextWord) → 1 ≤ length words → (w : TextWord) × (ws : List TextWord) × (words ≡ w ∷ ws)
some_of [] low = absurd (omega arith)
some_of (w ∷ ws) low = (w, ws, refl)

pub pair_of : (words : List TextWord) → 2 ≤ length words → (w x : TextWord) × (ws : List TextWord) × (words ≡ w ∷ x ∷ ws)
pair_of [] low = absurd (omega arith)
pair_of (w ∷ []) low = absurd (omega arith)
pair_of (w ∷ x ∷ ws) low = (w, x, ws, refl)

-- ---- indices

module _ {X : Type 0} (called : X → TextWord) where
  pub index_found : (items : List X) (word : TextWord) (i : ℕ) → ok_or (index_of called items word) Unknown ≡ Ok i
      → (i < length items) × (word ≡ get_or (map called items) i [])
  index_found [] word i e = absurd cc
  index_found (x ∷ xs) word i e =
      let p = position-Some (λ item. bytes_eq word (called item)) (x ∷ xs) i x (or_ok (index_of called (x ∷ xs) word) Unknown i e) in
      (p.0, (bytes_eq-Decides word (called (get_or (x ∷ xs) i x))).0 p.1 ∙ sym (get_or-map called (x ∷ xs) i x [] p.0))

-- the names of a function in a program
abbrev pub names_in : Program → Func → Scope
names_in p f = record { globals = p.globals; funcs = map (λ g. g.name) p.funcs; locals = f.locals; labels = map (λ b. b.label) f.blocks }

itself_of : (names : List TextWord) (i : ℕ) → get_or (map itself names) i [] ≡ get_or names i []
itself_of names i = ap (λ (ns : List TextWord). get_or ns i []) (map-id names)

module _ (p : Program) (f : Func) (word : TextWord) (i : ℕ) (is : IsName word) where
  abbrev s : Scope
  s = names_in p f

  said_at : (name : TextWord) → word ≡ name → (word ≡ name) × IsName name
  said_at name same = (same, subst IsName same is)

  pub local_found : ok_or (index_of local_name f.locals word) Unknown ≡ Ok i → HasLocal f i × Says word (local_at f i)
  local_found e = let a = index_found local_name f.locals word i e in (a.0, said_at _ a.1)

  pub global_found : ok_or (index_of global_name p.globals word) Unknown ≡ Ok i → HasGlobal p i × Says word (global_at p i)
  global_found e = let a = index_found global_name p.globals word i e in (a.0, said_at _ a.1)

  pub func_found : ok_or (index_of itself (map (λ g. g.name) p.funcs) word) Unknown ≡ Ok i → HasFunc p i × Says word (func_at p i)
  func_found e =
      let a = index_found itself (map (λ (g : Func). g.name) p.funcs) word i e in
      (rw length-map at a.0, said_at _ (a.1 ∙ itself_of _ i))

  pub block_found : ok_or (index_of itself (map (λ b. b.label) f.blocks) word) Unknown ≡ Ok i → HasBlock f i × Says word (block_at f i)
  block_found e =
      let a = index_found itself (map (λ (b : BlockIr). b.label) f.blocks) word i e in
      (rw length-map at a.0, said_at _ (a.1 ∙ itself_of _ i))
