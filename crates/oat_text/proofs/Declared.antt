-- What the lines of declarations say that the reader takes, and what they leave behind.
use Rattle.std.proofs.Common.{◌≡◌, ℕ, ◌+◌, ◌≤◌, Bool, true, false, not, eqb, ◌||◌, List, [], ◌∷◌, ◌++◌, length, map, Option, Some, None, Ok, refl, sym, ap, ◌∙◌, subst, inl, inr, append_assoc, arith}
use Rattle.std.specs.{Prelude.bytes_eq, Prelude.codes, Prelude.if◌then◌else◌, Prelude.◌⊎◌, Prelude.option_map, List.AllZip, List.AllByRecursion, List.IsDistinct, List.list_any, List.slice_get}
use Rattle.std.specs.{Option.ok_or}
use Rattle.std.proofs.lemmas.{Bool.Decides.nat_tests, Slice.Eq.bytes_eq-Decides, Fmt.decimal_digit, List.append-nil, List.length-map}
use Rattle.oat_lines.specs.{Lines.TextWord, Decimal.numeral_of, Fields.cut, Faults.at, declared.fault.Fault.TheVariants.At, Reading.◌>>=◌, Reading.between}
use Rattle.oat_lines.proofs.{Cutting.cut_takes, Cutting.then_some, Cutting.map_some, Steps.bind_ok, Steps.guarded_ok, Steps.or_ok, Steps.ok_is, Steps.some_is, Steps.chosen, Steps.at_ok}
use Rattle.oat_ir.specs.{IsName, read_name, declared.program.GlobalItem.GlobalItem, declared.program.GlobalItem.TheVariants.Scalar, declared.program.GlobalItem.TheVariants.FnScalar}
use Rattle.oat_ir.specs.{declared.program.GlobalItem.TheVariants.Array, declared.program.GlobalItem.TheVariants.CriticalArray, declared.func.Role.Role, declared.func.Role.TheVariants.Plain}
use Rattle.oat_ir.specs.{declared.func.Role.TheVariants.Operation, declared.func.Role.TheVariants.Main, declared.func.Ty.Ty, declared.func.Ty.TheVariants.I64, declared.func.Ty.TheVariants.Fn}
use Rattle.oat_ir.specs.{declared.func.Local.Local, Distinct.global_name, Distinct.are_one_local, WellFormed.IsGlobal, WellFormed.IsTy, WellFormed.IsLocal}
use Rattle.oat_text.specs.{declared.fault.TextFaultKind.TheVariants.Token, declared.fault.TextFaultKind.TheVariants.Expected, declared.fault.TextFaultKind.TheVariants.Number}
use Rattle.oat_text.specs.{declared.fault.TextFaultKind.TheVariants.Duplicate, declared.form.GlobalForm.GlobalForm, declared.form.FuncForm.FuncForm, declared.head.Stage.TheVariants.Locals}
use Rattle.oat_text.specs.{declared.head.Stage.TheVariants.Inside, Words.Named, Words.Says, Words.reference_text, Words.ty_text, Forms.global_word, Forms.func_word, Grammar.global_line}
use Rattle.oat_text.specs.{Grammar.local_line, Grammar.parameter, Grammar.head_line, Passes.each, Readings.params_of, Readings.ty_of, Readings.local_of, Readings.parameter_of, Readings.i64_of}
use Rattle.oat_text.specs.{Readings.count_of, Readings.name_at, Readings.local_in, Readings.begins_reference, Readings.has_number, Outline.Outline, Outline.add, Outline.itself, Outline.local_name}
use Rattle.oat_text.specs.{Outline.scalar_of, Outline.global_of, Outline.global_in, Outline.add_parameter, Outline.add_parameters, Outline.begin_func, Outline.begin_operation, Outline.name_first}
use Rattle.oat_text.specs.{Outline.id_first, Outline.plain_line, Outline.operation_line, Outline.func_line, Outline.with_locals, Outline.with_labels}
use Rattle.oat_text.proofs.{Finding.bytes_turned, Lines.lengths, Crossing.role_operations, Accepted.counted, Accepted.none_of, Accepted.one_of, Accepted.two_of, Accepted.some_of, Accepted.pair_of}
use Rattle.oat_text.proofs.{Accepted.read_is, LinesSay.i64_read}
use Rattle.oat_text.specs.declared.form.LineForm.TheVariants as line
use Rattle.oat_text.specs.declared.form.GlobalForm.TheVariants as globals
use Rattle.oat_text.specs.declared.form.FuncForm.TheVariants as funcs
use Rattle.oat_text.specs.Outline as outline

-- ---- types

one_or : {X : Type 0} (b : Bool) (x y : X) (rest : Option X) → (if b then Some x else rest) ≡ Some y → ((b ≡ true) × (x ≡ y)) ⊎ (rest ≡ Some y)
one_or true x y rest e = inl (refl, some_is x y e)
one_or false x y rest e = inr e

abbrev IsReference : TextWord → ℕ → Type 0
IsReference word n = (word ≡ reference_text n) × (n ≤ 4)

reference_if : (word : TextWord) (k n : ℕ) (rest : Option ℕ) → k ≤ 4 → (bytes_eq word (codes "fn/" ++ (48 + k) ∷ []) ≡ true → IsReference word k)
    → (if bytes_eq word (codes "fn/" ++ (48 + k) ∷ []) then Some k else rest) ≡ Some n → (rest ≡ Some n → IsReference word n) → IsReference word n
reference_if word k n rest few here e more = by (one_or (bytes_eq word (codes "fn/" ++ (48 + k) ∷ [])) k n rest e)
  where
    by : ((bytes_eq word (codes "fn/" ++ (48 + k) ∷ []) ≡ true) × (k ≡ n)) ⊎ (rest ≡ Some n) → IsReference word n
    by (inl p) = subst (IsReference word) p.1 (here p.0)
    by (inr f) = more f

reference_here : (word : TextWord) (k : ℕ) → k ≤ 4 → bytes_eq word (codes "fn/" ++ (48 + k) ∷ []) ≡ true → IsReference word k
reference_here word k few e =
    ((bytes_eq-Decides word (codes "fn/" ++ (48 + k) ∷ [])).0 e ∙ ap (λ (digits : TextWord). codes "fn/" ++ digits) (sym (decimal_digit k (omega arith))), few)

reference_read : (word : TextWord) (n : ℕ) → params_of word ≡ Some n → IsReference word n
reference_read word n e =
    reference_if word 0 n _ (omega arith) (reference_here word 0 (omega arith)) e (λ e1. reference_if word 1 n _ (omega arith) (reference_here word 1 (omega arith)) e1 (λ e2. reference_if word 2 n _ (omega arith) (reference_here word 2 (omega arith)) e2 (λ e3. reference_if word 3 n _ (omega arith) (reference_here word 3 (omega arith)) e3 (λ e4. reference_if word 4 n None (omega arith) (reference_here word 4 (omega arith)) e4 (λ none. absurd cc)))))

abbrev IsTyWord : TextWord → Ty → Type 0
IsTyWord word ty = (word ≡ ty_text ty) × IsTy ty

ty_read_as : (word : TextWord) (ty : Ty) → ty_of word ≡ Some ty → IsTyWord word ty
ty_read_as word ty e = by (one_or (bytes_eq word (codes "i64")) I64 ty (option_map (λ params. Fn params) (params_of word)) e)
  where
    by : ((bytes_eq word (codes "i64") ≡ true) × (I64 ≡ ty)) ⊎ (option_map (λ params. Fn params) (params_of word) ≡ Some ty) → IsTyWord word ty
    by (inl p) = subst (IsTyWord word) p.1 ((bytes_eq-Decides word (codes "i64")).0 p.0, tt)
    by (inr f) = (let m = map_some (params_of word) (λ params. Fn params) ty f in subst (IsTyWord word) m.2 (reference_read word m.0 m.1))

-- ---- locals

abbrev LocalSaid : TextWord → TextWord → Local → Type 0
LocalSaid w x l = (w ≡ l.name) × IsName l.name × (x ≡ ty_text l.ty) × IsLocal l

local_read : (w x : TextWord) (l : Local) → local_of w x ≡ Some l → LocalSaid w x l
local_read w x l e =
    let a = then_some (read_name w) (λ n. option_map (λ t. record { name = n; ty = t }) (ty_of x)) l e in
    let m = map_some (ty_of x) (λ t. record { name = a.0; ty = t }) l a.2 in
    let name = read_is w a.0 a.1 in
    let ty = ty_read_as x m.0 m.1 in
    subst (LocalSaid w x) m.2 (name.0, name.1, ty.0, ty.1)

pub parameter_said : (word : TextWord) (l : Local) → parameter_of word ≡ Some l → Says word (parameter l) × IsLocal l
parameter_said word l e =
    let a = then_some (cut 58 word) (λ p. local_of p.0 p.1) l e in
    let r = local_read a.0.0 a.0.1 l a.2 in
    let whole : a.0.0 ++ 58 ∷ a.0.1 ≡ l.name ++ 58 ∷ ty_text l.ty = rw (r.0, r.2) refl in
    ((cut_takes 58 word a.0 a.1 ∙ whole, r.1), r.3)

-- ---- things with names of their own

module _ {X : Type 0} (e : X → X → Bool) (turned : (x y : X) → e x y ≡ e y x) where
  apart_pushed : (x item : X) (xs : List X) → AllByRecursion (λ y. e x y ≡ false) xs → e item x ≡ false → AllByRecursion (λ y. e x y ≡ false) (xs ++ item ∷ [])
  apart_pushed x item [] all other = (turned x item ∙ other, tt)
  apart_pushed x item (y ∷ ys) all other = (all.0, apart_pushed x item ys all.1 other)

  neither : (a b : Bool) → (a || b) ≡ false → (a ≡ false) × (b ≡ false)
  neither true b f = absurd cc
  neither false b f = (refl, f)

  pub pushed : (xs : List X) (item : X) → IsDistinct e xs → list_any (e item) xs ≡ false → IsDistinct e (xs ++ item ∷ [])
  unfolding IsDistinct
  pushed [] item d none = (tt, tt)
  pushed (x ∷ xs) item d none =
      let n = neither (e item x) (list_any (e item) xs) none in
      (apart_pushed x item xs d.0 n.0, pushed xs item d.1 n.1)

not_true : (b : Bool) → not b ≡ true → b ≡ false
not_true true e = absurd cc
not_true false e = refl

-- the thing is new, and stands behind the others
abbrev pub Added : {X : Type 0} → (X → TextWord) → List X → X → List X → Type 0
Added called items item all =
    (list_any (λ other. bytes_eq (called item) (called other)) items ≡ false) × (items ++ item ∷ [] ≡ all)

pub added : {X : Type 0} (n : ℕ) (called : X → TextWord) (items : List X) (item : X) (all : List X) → add n called items item ≡ Ok all → Added called items item all
added n called items item all e =
    let taken = list_any (λ other. bytes_eq (called item) (called other)) items in
    let g = guarded_ok (not taken) (At n Duplicate) (λ (u : Unit {0}). Ok (items ++ item ∷ [])) all e in
    (not_true taken g.0, ok_is (items ++ item ∷ []) all g.1)

pub distinct_added : {X : Type 0} (called : X → TextWord) (items : List X) (item : X) (all : List X) → Added called items item all
    → IsDistinct (λ x y. bytes_eq (called x) (called y)) items → IsDistinct (λ x y. bytes_eq (called x) (called y)) all
distinct_added {X = X} called items item all a d =
    subst (λ (xs : List X). IsDistinct (λ x y. bytes_eq (called x) (called y)) xs) a.1
    (pushed (λ x y. bytes_eq (called x) (called y)) (λ x y. bytes_turned (called x) (called y)) items item d a.0)

-- ---- parameters

pub record ParamsSaid (front : List Local) (words : List TextWord) (all : List Local) : Type 0 where
  pub more : List Local
  pub whole : front ++ more ≡ all
  pub says : AllZip Says words (map parameter more)
  pub fits : AllByRecursion IsLocal more
  pub distinct : IsDistinct are_one_local front → IsDistinct are_one_local all

params_said : (n : ℕ) (front : List Local) (words : List TextWord) (all : List Local) → add_parameters n front words ≡ Ok all → ParamsSaid front words all
unfolding each add_parameter
params_said n front [] all e = record { more = []; whole = append-nil front ∙ ok_is front all e; says = tt; fits = tt; distinct = λ d. subst (IsDistinct are_one_local) (ok_is front all e) d }
params_said n front (w ∷ ws) all e =
    let a = bind_ok (add_parameter n front w) (λ next. each (add_parameter n) next ws) all e in
    let b = bind_ok (ok_or (parameter_of w) (At n Token)) (λ l. add n local_name front l) a.0 a.1 in
    let said = parameter_said w b.0 (or_ok (parameter_of w) (At n Token) b.0 b.1) in
    let new = added n local_name front b.0 a.0 b.2 in
    let rest = params_said n a.0 ws all a.2 in
    record {
      more = b.0 ∷ rest.more;
      whole = sym (append_assoc front (b.0 ∷ []) rest.more) ∙ ap (λ (xs : List Local). xs ++ rest.more) new.1 ∙ rest.whole;
      says = (said.0, rest.says);
      fits = (said.1, rest.fits);
      distinct = λ d. rest.distinct (distinct_added local_name front b.0 a.0 new d);
    }

-- ---- globals

abbrev pub GlobalSaid : GlobalForm → List TextWord → GlobalItem → Type 0
GlobalSaid form words item = AllZip Says (global_word form ∷ words) (global_line item) × IsGlobal item

count_read_as : (most n : ℕ) (word : TextWord) → count_of most word ≡ Some n → (numeral_of word ≡ Some n) × (1 ≤ n) × (n ≤ most)
count_read_as most n word e =
    let a = then_some (numeral_of word) (λ k. if between 1 most k then Some k else None) n e in
    let c = chosen (between 1 most a.0) a.0 n a.2 in
    let b = counted 1 most a.0 c.0 in
    (subst (λ (k : ℕ). numeral_of word ≡ Some k) c.1 a.1, omega (arith, c.1), omega (arith, c.1))

scalar_said : (w name x : TextWord) (item : GlobalItem) → (w ≡ name) × IsName name → scalar_of name x ≡ Ok item → GlobalSaid globals.Plain (w ∷ x ∷ []) item
unfolding scalar_of
scalar_said w name x item is e = by (begins_reference x) e
  where
    by : (b : Bool) → (if b then (ok_or (params_of x) Token >>= λ params. Ok (FnScalar name params)) else (ok_or (i64_of x) Number >>= λ start. Ok (Scalar name start false))) ≡ Ok item
        → GlobalSaid globals.Plain (w ∷ x ∷ []) item
    by true f =
        let a = bind_ok (ok_or (params_of x) Token) (λ params. Ok (FnScalar name params)) item f in
        let r = reference_read x a.0 (or_ok (params_of x) Token a.0 a.1) in
        subst (GlobalSaid globals.Plain (w ∷ x ∷ [])) (ok_is (FnScalar name a.0) item a.2) ((refl, (is, (r.0, tt))), r.1)
    by false f =
        let a = bind_ok (ok_or (i64_of x) Number) (λ start. Ok (Scalar name start false)) item f in
        let r = i64_read x a.0 (or_ok (i64_of x) Number a.0 a.1) in
        subst (GlobalSaid globals.Plain (w ∷ x ∷ [])) (ok_is (Scalar name a.0 false) item a.2) ((refl, (is, (r, tt))), tt)

of_form : (form : GlobalForm) (w name x : TextWord) (item : GlobalItem) → (w ≡ name) × IsName name → global_of form name x ≡ Ok item → GlobalSaid form (w ∷ x ∷ []) item
unfolding global_of
of_form globals.Plain w name x item is e = scalar_said w name x item is e
of_form globals.Critical w name x item is e =
    let a = bind_ok (ok_or (i64_of x) Number) (λ start. Ok (Scalar name start true)) item e in
    let r = i64_read x a.0 (or_ok (i64_of x) Number a.0 a.1) in
    subst (GlobalSaid globals.Critical (w ∷ x ∷ [])) (ok_is (Scalar name a.0 true) item a.2) ((refl, (is, (r, tt))), tt)
of_form globals.Array w name x item is e =
    let a = bind_ok (ok_or (count_of 65536 x) Number) (λ len. Ok (Array name len)) item e in
    let r = count_read_as 65536 a.0 x (or_ok (count_of 65536 x) Number a.0 a.1) in
    subst (GlobalSaid globals.Array (w ∷ x ∷ [])) (ok_is (Array name a.0) item a.2) ((refl, (is, (r.0, tt))), (r.1, r.2))
of_form globals.Criticals w name x item is e =
    let a = bind_ok (ok_or (count_of 4096 x) Number) (λ len. Ok (CriticalArray name len)) item e in
    let r = count_read_as 4096 a.0 x (or_ok (count_of 4096 x) Number a.0 a.1) in
    subst (GlobalSaid globals.Criticals (w ∷ x ∷ [])) (ok_is (CriticalArray name a.0) item a.2) ((refl, (is, (r.0, tt))), (r.1, r.2))

two_global : (form : GlobalForm) (w x : TextWord) (item : GlobalItem) → global_in form (w ∷ x ∷ []) ≡ Ok item → GlobalSaid form (w ∷ x ∷ []) item
unfolding global_in
two_global form w x item e =
    let words = w ∷ x ∷ [] in
    let a = bind_ok (ok_or (name_at words 0) Token) (λ name. ok_or (slice_get words 1) Expected >>= λ word. global_of form name word) item e in
    let b = bind_ok (ok_or (slice_get words 1) Expected) (λ word. global_of form a.0 word) item a.2 in
    let same : x ≡ b.0 = some_is x b.0 (or_ok (Some x) Expected b.0 b.1) in
    of_form form w a.0 x item (read_is w a.0 (or_ok (read_name w) Token a.0 a.1)) (subst (λ (word : TextWord). global_of form a.0 word ≡ Ok item) (sym same) b.2)

global_number : (form : GlobalForm) (words : List TextWord) → has_number (line.Global form) words ≡ true → (2 ≤ length words) × (length words ≤ 2)
global_number globals.Plain words e = counted 2 2 (length words) e
global_number globals.Critical words e = counted 2 2 (length words) e
global_number globals.Array words e = counted 2 2 (length words) e
global_number globals.Criticals words e = counted 2 2 (length words) e

pub global_said : (form : GlobalForm) (words : List TextWord) (item : GlobalItem) → has_number (line.Global form) words ≡ true → global_in form words ≡ Ok item
    → GlobalSaid form words item
global_said form words item number e =
    let c = global_number form words number in
    let q = two_of words c.0 c.1 in
    let f : global_in form (q.0 ∷ q.1 ∷ []) ≡ Ok item = rw q.2 at e in
    subst (λ (ws : List TextWord). GlobalSaid form ws item) (sym q.2) (two_global form q.0 q.1 item f)

pub record GlobalTaken (o : Outline) (form : GlobalForm) (words : List TextWord) (p : Outline) : Type 0 where
  pub item : GlobalItem
  pub all : List GlobalItem
  pub said : GlobalSaid form words item
  pub new : Added global_name o.globals item all
  pub after : record o { globals = all } ≡ p

pub global_taken : (n : ℕ) (o : Outline) (form : GlobalForm) (words : List TextWord) (p : Outline) → has_number (line.Global form) words ≡ true
    → outline.global_line n o form words ≡ Ok p → GlobalTaken o form words p
unfolding outline.global_line
global_taken n o form words p number e =
    let a = bind_ok (at n (global_in form words)) (λ item. add n global_name o.globals item >>= λ all. Ok (record o { globals = all })) p e in
    let b = bind_ok (add n global_name o.globals a.0) (λ all. Ok (record o { globals = all })) p a.2 in
    record {
      item = a.0;
      all = b.0;
      said = global_said form words a.0 number (at_ok n (global_in form words) a.0 a.1);
      new = added n global_name o.globals a.0 b.0 b.1;
      after = ok_is (record o { globals = b.0 }) p b.2;
    }

-- ---- locals and blocks

pub record LocalTaken (o : Outline) (words : List TextWord) (p : Outline) : Type 0 where
  pub local : Local
  pub all : List Local
  pub says : AllZip Says (codes "local" ∷ words) (local_line local)
  pub fits : IsLocal local
  pub new : Added local_name o.present.locals local all
  pub after : record o { present = with_locals o.present all } ≡ p

two_local : (w x : TextWord) (l : Local) → local_in (w ∷ x ∷ []) ≡ Some l → AllZip Says (codes "local" ∷ w ∷ x ∷ []) (local_line l) × IsLocal l
two_local w x l e = let r = local_read w x l e in ((refl, ((r.0, r.1), (r.2, tt))), r.3)

pub local_taken : (n : ℕ) (o : Outline) (words : List TextWord) (p : Outline) → has_number line.Local words ≡ true
    → outline.local_line n o words ≡ Ok p → LocalTaken o words p
unfolding outline.local_line
local_taken n o words p number e =
    let c = counted 2 2 (length words) number in
    let q = two_of words c.0 c.1 in
    let a = bind_ok (ok_or (local_in words) (At n Token)) (λ l. add n local_name o.present.locals l >>= λ all. Ok (record o { present = with_locals o.present all })) p e in
    let b = bind_ok (add n local_name o.present.locals a.0) (λ all. Ok (record o { present = with_locals o.present all })) p a.2 in
    let is : local_in (q.0 ∷ q.1 ∷ []) ≡ Some a.0 = subst (λ (ws : List TextWord). local_in ws ≡ Some a.0) q.2 (or_ok (local_in words) (At n Token) a.0 a.1) in
    let said = two_local q.0 q.1 a.0 is in
    record {
      local = a.0;
      all = b.0;
      says = subst (λ (ws : List TextWord). AllZip Says (codes "local" ∷ ws) (local_line a.0)) (sym q.2) said.0;
      fits = said.1;
      new = added n local_name o.present.locals a.0 b.0 b.1;
      after = ok_is (record o { present = with_locals o.present b.0 }) p b.2;
    }

pub record BlockTaken (o : Outline) (words : List TextWord) (p : Outline) : Type 0 where
  pub label : TextWord
  pub all : List TextWord
  pub read : name_at words 0 ≡ Some label
  pub says : AllZip Says words (Named label ∷ [])
  pub new : Added itself o.present.labels label all
  pub after : record o { present = with_labels o.present all; stage = Inside } ≡ p

pub block_taken : (n : ℕ) (o : Outline) (words : List TextWord) (p : Outline) → has_number line.Block words ≡ true
    → outline.block_line n o words ≡ Ok p → BlockTaken o words p
unfolding outline.block_line
block_taken n o words p number e =
    let c = counted 1 1 (length words) number in
    let q = one_of words c.0 c.1 in
    let a = bind_ok (ok_or (name_at words 0) (At n Token)) (λ l. add n itself o.present.labels l >>= λ all. Ok (record o { present = with_labels o.present all; stage = Inside })) p e in
    let b = bind_ok (add n itself o.present.labels a.0) (λ all. Ok (record o { present = with_labels o.present all; stage = Inside })) p a.2 in
    let read = or_ok (name_at words 0) (At n Token) a.0 a.1 in
    let is : read_name q.0 ≡ Some a.0 = subst (λ (ws : List TextWord). name_at ws 0 ≡ Some a.0) q.1 read in
    record {
      label = a.0;
      all = b.0;
      read = read;
      says = subst (λ (ws : List TextWord). AllZip Says ws (Named a.0 ∷ [])) (sym q.1) (read_is q.0 a.0 is, tt);
      new = added n itself o.present.labels a.0 b.0 b.1;
      after = ok_is (record o { present = with_labels o.present b.0; stage = Inside }) p b.2;
    }

-- ---- functions

-- what is so of a role that begins a function of this name and so many parameters
abbrev pub BeginsRole : Role → TextWord → ℕ → Type 0
BeginsRole Plain name params = Unit {0}
BeginsRole (Operation id) name params = (1 ≤ id) × (id ≤ 65535)
BeginsRole Main name params = (name ≡ codes "main") × (params ≡ 0)

pub record FuncTaken (o : Outline) (form : FuncForm) (words : List TextWord) (p : Outline) : Type 0 where
  pub role : Role
  pub name : TextWord
  pub names : List TextWord
  pub locals : List Local
  pub says : AllZip Says (func_word form ∷ words) (head_line role name locals)
  pub begins : BeginsRole role name (length locals)
  pub few : length locals ≤ 4
  pub fits : AllByRecursion IsLocal locals
  pub distinct : IsDistinct are_one_local locals
  pub new : Added itself o.funcs name names
  pub ids_new : IsDistinct eqb o.operations → IsDistinct eqb (o.operations ++ role_operations role)
  pub after : record o { operations = o.operations ++ role_operations role; funcs = names; present = record { role = role; params = length locals; locals = locals; labels = [] }; stage = Locals } ≡ p

pub record Begun (o : Outline) (role : Role) (name : TextWord) (words : List TextWord) (p : Outline) : Type 0 where
  pub names : List TextWord
  pub locals : List Local
  pub says : AllZip Says words (map parameter locals)
  pub fits : AllByRecursion IsLocal locals
  pub distinct : IsDistinct are_one_local locals
  pub new : Added itself o.funcs name names
  pub after : record o { funcs = names; present = record { role = role; params = length locals; locals = locals; labels = [] }; stage = Locals } ≡ p

none_alike : IsDistinct are_one_local []
unfolding IsDistinct
none_alike = tt

begun : (n : ℕ) (o : Outline) (role : Role) (name : TextWord) (words : List TextWord) (p : Outline) → begin_func n o role name words ≡ Ok p → Begun o role name words p
unfolding begin_func
begun n o role name words p e =
    let a = bind_ok (add n itself o.funcs name) (λ names. add_parameters n [] words >>= λ locals. Ok (record o { funcs = names; present = record { role = role; params = length locals; locals = locals; labels = [] }; stage = Locals })) p e in
    let b = bind_ok (add_parameters n [] words) (λ locals. Ok (record o { funcs = a.0; present = record { role = role; params = length locals; locals = locals; labels = [] }; stage = Locals })) p a.2 in
    let said = params_said n [] words b.0 b.1 in
    record {
      names = a.0;
      locals = b.0;
      says = subst (λ (ls : List Local). AllZip Says words (map parameter ls)) said.whole said.says;
      fits = subst (AllByRecursion IsLocal) said.whole said.fits;
      distinct = said.distinct none_alike;
      new = added n itself o.funcs name a.0 a.1;
      after = ok_is (record o { funcs = a.0; present = record { role = role; params = length b.0; locals = b.0; labels = [] }; stage = Locals }) p b.2;
    }

params_many : (words : List TextWord) (params : List Local) → AllZip Says words (map parameter params) → length words ≡ length params
params_many words params says = lengths words (map parameter params) says ∙ length-map params parameter

name_split : (w : TextWord) (ws : List TextWord) (q : TextWord × List TextWord) → name_first (w ∷ ws) ≡ Some q → (read_name w ≡ Some q.0) × (q.1 ≡ ws)
name_split w ws q e =
    let m = map_some (read_name w) (λ name. (name, ws)) q e in
    subst (λ (r : TextWord × List TextWord). (read_name w ≡ Some r.0) × (r.1 ≡ ws)) m.2 (m.1, refl)

id_split : (w : TextWord) (ws : List TextWord) (q : ℕ × List TextWord) → id_first (w ∷ ws) ≡ Some q → (count_of 65535 w ≡ Some q.0) × (q.1 ≡ ws)
id_split w ws q e =
    let m = map_some (count_of 65535 w) (λ id. (id, ws)) q e in
    subst (λ (r : ℕ × List TextWord). (count_of 65535 w ≡ Some r.0) × (r.1 ≡ ws)) m.2 (m.1, refl)

plain_taken : (n : ℕ) (o : Outline) (w : TextWord) (ws : List TextWord) (p : Outline) → length ws ≤ 4 → plain_line n o (w ∷ ws) ≡ Ok p → FuncTaken o funcs.Plain (w ∷ ws) p
unfolding plain_line
plain_taken n o w ws p few e =
    let a = bind_ok (ok_or (name_first (w ∷ ws)) (At n Token)) (λ named. begin_func n o Plain named.0 named.1) p e in
    let split = name_split w ws a.0 (or_ok (name_first (w ∷ ws)) (At n Token) a.0 a.1) in
    let b = begun n o Plain a.0.0 ws p (subst (λ (rest : List TextWord). begin_func n o Plain a.0.0 rest ≡ Ok p) split.1 a.2) in
    record {
      role = Plain;
      name = a.0.0;
      names = b.names;
      locals = b.locals;
      says = (refl, (read_is w a.0.0 split.0, b.says));
      begins = tt;
      few = (let many = params_many ws b.locals b.says in omega arith);
      fits = b.fits;
      distinct = b.distinct;
      new = b.new;
      ids_new = λ d. rw append-nil d;
      after = rw append-nil b.after;
    }

main_taken : (n : ℕ) (o : Outline) (p : Outline) → begin_func n o Main (codes "main") [] ≡ Ok p → FuncTaken o funcs.Main [] p
main_taken n o p e =
    let b = begun n o Main (codes "main") [] p e in
    let none : 0 ≡ length b.locals = params_many [] b.locals b.says in
    record {
      role = Main;
      name = codes "main";
      names = b.names;
      locals = b.locals;
      says = (refl, tt);
      begins = (refl, sym none);
      few = omega arith;
      fits = b.fits;
      distinct = b.distinct;
      new = b.new;
      ids_new = λ d. rw append-nil d;
      after = rw append-nil b.after;
    }

eqb_turned : (x y : ℕ) → eqb x y ≡ eqb y x
eqb_turned x y = grind (arith, nat_tests)

numbered_taken : (n : ℕ) (o : Outline) (id : ℕ) (name w x : TextWord) (ws : List TextWord) (p : Outline) → length ws ≤ 4 → count_of 65535 w ≡ Some id
    → read_name x ≡ Some name → begin_operation n o id name ws ≡ Ok p → FuncTaken o funcs.Operation (w ∷ x ∷ ws) p
unfolding begin_operation
numbered_taken n o id name w x ws p few counts names e =
    let grown = record o { operations = o.operations ++ id ∷ [] } in
    let g = guarded_ok (not (list_any (λ other. eqb id other) o.operations)) (At n Duplicate) (λ (u : Unit {0}). begin_func n grown (Operation id) name ws) p e in
    let b = begun n grown (Operation id) name ws p g.1 in
    let number = count_read_as 65535 id w counts in
    record {
      role = Operation id;
      name = name;
      names = b.names;
      locals = b.locals;
      says = (refl, (number.0, (read_is x name names, b.says)));
      begins = (number.1, number.2);
      few = (let many = params_many ws b.locals b.says in omega arith);
      fits = b.fits;
      distinct = b.distinct;
      new = b.new;
      ids_new = λ d. pushed eqb eqb_turned o.operations id d (not_true _ g.0);
      after = b.after;
    }

operation_taken : (n : ℕ) (o : Outline) (w x : TextWord) (ws : List TextWord) (p : Outline) → length ws ≤ 4 → operation_line n o (w ∷ x ∷ ws) ≡ Ok p
    → FuncTaken o funcs.Operation (w ∷ x ∷ ws) p
unfolding operation_line
operation_taken n o w x ws p few e =
    let a = bind_ok (ok_or (id_first (w ∷ x ∷ ws)) (At n Number)) (λ numbered. ok_or (name_first numbered.1) (At n Token) >>= λ named. begin_operation n o numbered.0 named.0 named.1) p e in
    let id = id_split w (x ∷ ws) a.0 (or_ok (id_first (w ∷ x ∷ ws)) (At n Number) a.0 a.1) in
    let c = bind_ok (ok_or (name_first a.0.1) (At n Token)) (λ named. begin_operation n o a.0.0 named.0 named.1) p a.2 in
    let name = name_split x ws c.0 (subst (λ (rest : List TextWord). name_first rest ≡ Some c.0) id.1 (or_ok (name_first a.0.1) (At n Token) c.0 c.1)) in
    numbered_taken n o a.0.0 c.0.0 w x ws p few id.0 name.0 (subst (λ (rest : List TextWord). begin_operation n o a.0.0 c.0.0 rest ≡ Ok p) name.1 c.2)

pub func_taken : (n : ℕ) (o : Outline) (form : FuncForm) (words : List TextWord) (p : Outline) → has_number (line.Func form) words ≡ true
    → func_line n o form words ≡ Ok p → FuncTaken o form words p
unfolding func_line
func_taken n o funcs.Plain words p number e =
    let c = counted 1 5 (length words) number in
    let q = some_of words c.0 in
    let many : length (q.0 ∷ q.1) ≤ 5 = rw q.2 at c.1 in
    let f : plain_line n o (q.0 ∷ q.1) ≡ Ok p = rw q.2 at e in
    subst (λ (ws : List TextWord). FuncTaken o funcs.Plain ws p) (sym q.2) (plain_taken n o q.0 q.1 p (omega arith) f)
func_taken n o funcs.Operation words p number e =
    let c = counted 2 6 (length words) number in
    let q = pair_of words c.0 in
    let many : length (q.0 ∷ q.1 ∷ q.2) ≤ 6 = rw q.3 at c.1 in
    let f : operation_line n o (q.0 ∷ q.1 ∷ q.2) ≡ Ok p = rw q.3 at e in
    subst (λ (ws : List TextWord). FuncTaken o funcs.Operation ws p) (sym q.3) (operation_taken n o q.0 q.1 q.2 p (omega arith) f)
func_taken n o funcs.Main words p number e =
    let c = counted 0 0 (length words) number in
    let none = none_of words c.1 in
    let f : begin_func n o Main (codes "main") [] ≡ Ok p = rw none at e in
    subst (λ (ws : List TextWord). FuncTaken o funcs.Main ws p) (sym none) (main_taken n o p f)
