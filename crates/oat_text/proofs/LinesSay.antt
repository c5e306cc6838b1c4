-- What the lines of instructions and terminators say that the reader takes.
use Rattle.std.proofs.Common.{◌≡◌, ℕ, ℤ, zero, suc, ◌≤◌, true, List, [], ◌∷◌, length, map, Some, None, Result, Ok, refl, sym, subst, arith}
use Rattle.std.specs.{List.AllZip, List.AllByRecursion, List.slice_get, Option.ok_or, Prelude.option_and_then, Prelude.if◌then◌else◌, Prelude.IsTrue}
use Rattle.std.proofs.lemmas.List.Elements.{All-from_recursion}
use Rattle.oat_lines.specs.{Lines.TextWord, Integer.integer_of, Integer.is_i64, Reading.◌>>=◌, Reading.between}
use Rattle.oat_lines.proofs.{Cutting.then_some, Steps.bind_ok, Steps.or_ok, Steps.ok_is, Steps.chosen}
use Rattle.oat_ir.specs.{IsName, declared.program.Program.Program, declared.func.Func.Func, declared.instr.BinOp.BinOp, declared.instr.Instr.Instr, declared.instr.Instr.TheVariants.Const}
use Rattle.oat_ir.specs.{declared.instr.Instr.TheVariants.Copy, declared.instr.Instr.TheVariants.Binary, declared.instr.Instr.TheVariants.Load, declared.instr.Instr.TheVariants.Store}
use Rattle.oat_ir.specs.{declared.instr.Instr.TheVariants.LoadX, declared.instr.Instr.TheVariants.StoreX, declared.instr.Instr.TheVariants.RefTo, declared.instr.Instr.TheVariants.Call}
use Rattle.oat_ir.specs.{declared.instr.Instr.TheVariants.ICall, declared.instr.Instr.TheVariants.Input, declared.instr.Instr.TheVariants.Output, declared.instr.Term.Term}
use Rattle.oat_ir.specs.{declared.instr.Term.TheVariants.Jump, declared.instr.Term.TheVariants.Branch, declared.instr.Term.TheVariants.Ret, declared.instr.Term.TheVariants.Halt, Indices.HasLocal}
use Rattle.oat_ir.specs.{Indices.IsInstr, Indices.IsTerm}
use Rattle.oat_text.specs.{declared.fault.TextFaultKind.TextFaultKind, declared.fault.TextFaultKind.TheVariants.Number, declared.form.InstrForm.InstrForm, declared.form.TermForm.TermForm, Words.Says}
use Rattle.oat_text.specs.{Forms.instr_word, Forms.term_word, Forms.instr_kinds, Forms.term_kinds, Grammar.local_at, Grammar.instr_line, Grammar.term_line, Readings.i64_of, Readings.has_number}
use Rattle.oat_text.specs.{Bodies.Scope, Bodies.argument, Bodies.arguments, Bodies.global_index, Bodies.func_index, Bodies.local_index, Bodies.label_index, Bodies.const_of, Bodies.copy_of}
use Rattle.oat_text.specs.{Bodies.binary_of, Bodies.load_of, Bodies.store_of, Bodies.loadx_of, Bodies.storex_of, Bodies.ref_of, Bodies.call_of, Bodies.icall_of, Bodies.instr_of, Bodies.branch_of}
use Rattle.oat_text.specs.{Bodies.term_of}
use Rattle.oat_text.proofs.Accepted.{AreShaped, counted, none_of, one_of, two_of, three_of, pair_of, names_in, local_found, global_found, func_found, block_found}
use Rattle.oat_text.specs.declared.form.LineForm.TheVariants as line
use Rattle.oat_text.specs.declared.form.WordKind.TheVariants as kind
use Rattle.oat_text.specs.declared.form.InstrForm.TheVariants as instrs
use Rattle.oat_text.specs.declared.form.TermForm.TheVariants as terms

pub i64_read : (word : TextWord) (value : ℤ) → i64_of word ≡ Some value → (integer_of word ≡ Some value) × IsTrue (is_i64 value)
i64_read word value e =
    let a = then_some (integer_of word) (λ z. if is_i64 z then Some z else None) value e in
    let c = chosen (is_i64 a.0) a.0 value a.2 in
    (subst (λ (z : ℤ). integer_of word ≡ Some z) c.1 a.1, subst (λ (z : ℤ). IsTrue (is_i64 z)) c.1 c.0)

-- ---- steps of reading

module _ {A T : Type 0} (Q : T → Type 0) (make : A → T) where
  one_read : (first : Result A TextFaultKind) (t : T) → ((a : A) → first ≡ Ok a → Q (make a)) → (first >>= λ a. Ok (make a)) ≡ Ok t → Q t
  one_read first t so e =
      let a = bind_ok first (λ a. Ok (make a)) t e in
      subst Q (ok_is (make a.0) t a.2) (so a.0 a.1)

module _ {A B T : Type 0} (Q : T → Type 0) (make : A → B → T) where
  two_read : (first : Result A TextFaultKind) (second : Result B TextFaultKind) (t : T) → ((a : A) (b : B) → first ≡ Ok a → second ≡ Ok b → Q (make a b))
      → (first >>= λ a. second >>= λ b. Ok (make a b)) ≡ Ok t → Q t
  two_read first second t so e =
      let a = bind_ok first (λ a. second >>= λ b. Ok (make a b)) t e in
      one_read Q (make a.0) second t (λ b is. so a.0 b a.1 is) a.2

module _ {A B C T : Type 0} (Q : T → Type 0) (make : A → B → C → T) where
  three_read : (first : Result A TextFaultKind) (second : Result B TextFaultKind) (third : Result C TextFaultKind) (t : T)
      → ((a : A) (b : B) (c : C) → first ≡ Ok a → second ≡ Ok b → third ≡ Ok c → Q (make a b c))
      → (first >>= λ a. second >>= λ b. third >>= λ c. Ok (make a b c)) ≡ Ok t → Q t
  three_read first second third t so e =
      let a = bind_ok first (λ a. second >>= λ b. third >>= λ c. Ok (make a b c)) t e in
      two_read Q (make a.0) second third t (λ b c is other. so a.0 b c a.1 is other) a.2

-- ---- so many words

-- what is so of any words of such a number is so of these
module _ (Q : List TextWord → Type 0) (words : List TextWord) where
  by_none : between 0 0 (length words) ≡ true → Q [] → Q words
  by_none number each = subst Q (sym (none_of words (counted 0 0 (length words) number).1)) each

  by_one : between 1 1 (length words) ≡ true → ((w : TextWord) → Q (w ∷ [])) → Q words
  by_one number each = let c = counted 1 1 (length words) number in let q = one_of words c.0 c.1 in subst Q (sym q.1) (each q.0)

  by_two : between 2 2 (length words) ≡ true → ((w x : TextWord) → Q (w ∷ x ∷ [])) → Q words
  by_two number each = let c = counted 2 2 (length words) number in let q = two_of words c.0 c.1 in subst Q (sym q.2) (each q.0 q.1)

  by_three : between 3 3 (length words) ≡ true → ((w x y : TextWord) → Q (w ∷ x ∷ y ∷ [])) → Q words
  by_three number each = let c = counted 3 3 (length words) number in let q = three_of words c.0 c.1 in subst Q (sym q.3) (each q.0 q.1 q.2)

  by_six : between 2 6 (length words) ≡ true → ((w x : TextWord) (ws : List TextWord) → length ws ≤ 4 → Q (w ∷ x ∷ ws)) → Q words
  by_six number each =
      let c = counted 2 6 (length words) number in
      let q = pair_of words c.0 in
      let long : length (q.0 ∷ q.1 ∷ q.2) ≤ 6 = rw q.3 at c.1 in
      subst Q (sym q.3) (each q.0 q.1 q.2 (omega arith))

-- ---- lines

module _ (p : Program) (f : Func) where
  abbrev s : Scope
  s = names_in p f

  -- these words behind the keyword are an instruction's
  abbrev pub InstrSaid : InstrForm → List TextWord → Instr → Type 0
  InstrSaid form words instr = AllZip Says (instr_word form ∷ words) (instr_line p f instr) × IsInstr p f instr

  abbrev pub TermSaid : TermForm → List TextWord → Term → Type 0
  TermSaid form words term = AllZip Says (term_word form ∷ words) (term_line f term) × IsTerm f term

  const_said : (w x : TextWord) (instr : Instr) → AreShaped (instr_kinds instrs.Const) (w ∷ x ∷ []) → const_of s (w ∷ x ∷ []) ≡ Ok instr
      → InstrSaid instrs.Const (w ∷ x ∷ []) instr
  unfolding const_of
  const_said w x instr shaped =
      let words = w ∷ x ∷ [] in
      two_read (InstrSaid instrs.Const words) Const (local_index s words 0) (ok_or (option_and_then i64_of (slice_get words 1)) Number) instr
      (λ t v is other. (let l = local_found p f w t shaped.0 is in ((refl, (l.1, (i64_read x v (or_ok (i64_of x) Number v other), tt))), l.0)))

  copy_said : (w x : TextWord) (instr : Instr) → AreShaped (instr_kinds instrs.Copy) (w ∷ x ∷ []) → copy_of s (w ∷ x ∷ []) ≡ Ok instr
      → InstrSaid instrs.Copy (w ∷ x ∷ []) instr
  unfolding copy_of
  copy_said w x instr shaped =
      let words = w ∷ x ∷ [] in
      two_read (InstrSaid instrs.Copy words) Copy (local_index s words 0) (local_index s words 1) instr
      (λ t u is other. (let l = local_found p f w t shaped.0 is in let m = local_found p f x u shaped.1.0 other in ((refl, (l.1, (m.1, tt))), (l.0, m.0))))

  load_said : (w x : TextWord) (instr : Instr) → AreShaped (instr_kinds instrs.Load) (w ∷ x ∷ []) → load_of s (w ∷ x ∷ []) ≡ Ok instr
      → InstrSaid instrs.Load (w ∷ x ∷ []) instr
  unfolding load_of
  load_said w x instr shaped =
      let words = w ∷ x ∷ [] in
      two_read (InstrSaid instrs.Load words) Load (local_index s words 0) (global_index s words 1) instr
      (λ t u is other. (let l = local_found p f w t shaped.0 is in let m = global_found p f x u shaped.1.0 other in ((refl, (l.1, (m.1, tt))), (l.0, m.0))))

  store_said : (w x : TextWord) (instr : Instr) → AreShaped (instr_kinds instrs.Store) (w ∷ x ∷ []) → store_of s (w ∷ x ∷ []) ≡ Ok instr
      → InstrSaid instrs.Store (w ∷ x ∷ []) instr
  unfolding store_of
  store_said w x instr shaped =
      let words = w ∷ x ∷ [] in
      two_read (InstrSaid instrs.Store words) Store (global_index s words 0) (local_index s words 1) instr
      (λ t u is other. (let l = global_found p f w t shaped.0 is in let m = local_found p f x u shaped.1.0 other in ((refl, (l.1, (m.1, tt))), (l.0, m.0))))

  ref_said : (w x : TextWord) (instr : Instr) → AreShaped (instr_kinds instrs.RefTo) (w ∷ x ∷ []) → ref_of s (w ∷ x ∷ []) ≡ Ok instr
      → InstrSaid instrs.RefTo (w ∷ x ∷ []) instr
  unfolding ref_of
  ref_said w x instr shaped =
      let words = w ∷ x ∷ [] in
      two_read (InstrSaid instrs.RefTo words) RefTo (local_index s words 0) (func_index s words 1) instr
      (λ t u is other. (let l = local_found p f w t shaped.0 is in let m = func_found p f x u shaped.1.0 other in ((refl, (l.1, (m.1, tt))), (l.0, m.0))))

  binary_said : (op : BinOp) (w x y : TextWord) (instr : Instr) → AreShaped (instr_kinds (instrs.Binary op)) (w ∷ x ∷ y ∷ []) → binary_of s op (w ∷ x ∷ y ∷ []) ≡ Ok instr
      → InstrSaid (instrs.Binary op) (w ∷ x ∷ y ∷ []) instr
  unfolding binary_of
  binary_said op w x y instr shaped =
      let words = w ∷ x ∷ y ∷ [] in
      three_read (InstrSaid (instrs.Binary op) words) (Binary op) (local_index s words 0) (local_index s words 1) (local_index s words 2) instr
      (λ t u v is other third. (let l = local_found p f w t shaped.0 is in let m = local_found p f x u shaped.1.0 other in let n = local_found p f y v shaped.1.1.0 third in ((refl, (l.1, (m.1, (n.1, tt)))), (l.0, m.0, n.0))))

  loadx_said : (w x y : TextWord) (instr : Instr) → AreShaped (instr_kinds instrs.LoadX) (w ∷ x ∷ y ∷ []) → loadx_of s (w ∷ x ∷ y ∷ []) ≡ Ok instr
      → InstrSaid instrs.LoadX (w ∷ x ∷ y ∷ []) instr
  unfolding loadx_of
  loadx_said w x y instr shaped =
      let words = w ∷ x ∷ y ∷ [] in
      three_read (InstrSaid instrs.LoadX words) LoadX (local_index s words 0) (global_index s words 1) (local_index s words 2) instr
      (λ t u v is other third. (let l = local_found p f w t shaped.0 is in let m = global_found p f x u shaped.1.0 other in let n = local_found p f y v shaped.1.1.0 third in ((refl, (l.1, (m.1, (n.1, tt)))), (l.0, m.0, n.0))))

  storex_said : (w x y : TextWord) (instr : Instr) → AreShaped (instr_kinds instrs.StoreX) (w ∷ x ∷ y ∷ []) → storex_of s (w ∷ x ∷ y ∷ []) ≡ Ok instr
      → InstrSaid instrs.StoreX (w ∷ x ∷ y ∷ []) instr
  unfolding storex_of
  storex_said w x y instr shaped =
      let words = w ∷ x ∷ y ∷ [] in
      three_read (InstrSaid instrs.StoreX words) StoreX (global_index s words 0) (local_index s words 1) (local_index s words 2) instr
      (λ t u v is other third. (let l = global_found p f w t shaped.0 is in let m = local_found p f x u shaped.1.0 other in let n = local_found p f y v shaped.1.1.0 third in ((refl, (l.1, (m.1, (n.1, tt)))), (l.0, m.0, n.0))))

  -- ---- calls

  pub record ArgsSaid (most : ℕ) (words : List TextWord) (args : List ℕ) : Type 0 where
    pub says : AllZip Says words (map (local_at f) args)
    pub few : length args ≤ most
    pub locals : AllByRecursion (HasLocal f) args

  args_said : (most : ℕ) (words : List TextWord) (args : List ℕ) → AllByRecursion IsName words → arguments s most words ≡ Ok args → ArgsSaid most words args
  unfolding arguments
  args_said most [] args names e = subst (ArgsSaid most []) (ok_is [] args e) (record { says = tt; few = omega arith; locals = tt })
  args_said zero (w ∷ ws) args names e = absurd cc
  args_said (suc most) (w ∷ ws) args names e =
      let a = bind_ok (argument s w) (λ x. arguments s most ws >>= λ xs. Ok (x ∷ xs)) args e in
      let b = bind_ok (arguments s most ws) (λ xs. Ok (a.0 ∷ xs)) args a.2 in
      let l = local_found p f w a.0 names.0 a.1 in
      let more = args_said most ws b.0 names.1 b.1 in
      let few = more.few in
      subst (ArgsSaid (suc most) (w ∷ ws)) (ok_is (a.0 ∷ b.0) args b.2)
      (record { says = (l.1, more.says); few = omega arith; locals = (l.0, more.locals) })

  names_four : (words : List TextWord) → length words ≤ 4 → AreShaped (kind.Named ∷ kind.Named ∷ kind.Named ∷ kind.Named ∷ []) words → AllByRecursion IsName words
  names_four [] few shaped = tt
  names_four (a ∷ []) few shaped = (shaped.0, tt)
  names_four (a ∷ b ∷ []) few shaped = (shaped.0, (shaped.1.0, tt))
  names_four (a ∷ b ∷ c ∷ []) few shaped = (shaped.0, (shaped.1.0, (shaped.1.1.0, tt)))
  names_four (a ∷ b ∷ c ∷ d ∷ []) few shaped = (shaped.0, (shaped.1.0, (shaped.1.1.0, (shaped.1.1.1.0, tt))))
  names_four (a ∷ b ∷ c ∷ d ∷ e ∷ es) few shaped = absurd (omega arith)

  call_said : (w x : TextWord) (ws : List TextWord) (instr : Instr) → length ws ≤ 4 → AreShaped (instr_kinds instrs.Call) (w ∷ x ∷ ws)
      → call_of s (w ∷ x ∷ ws) ≡ Ok instr → InstrSaid instrs.Call (w ∷ x ∷ ws) instr
  unfolding call_of
  call_said w x ws instr few shaped =
      let words = w ∷ x ∷ ws in
      three_read (InstrSaid instrs.Call words) Call (local_index s words 0) (func_index s words 1) (arguments s 4 ws) instr
      (λ t u args is other third. (let l = local_found p f w t shaped.0 is in let m = func_found p f x u shaped.1.0 other in let n = args_said 4 ws args (names_four ws few shaped.1.1) third in ((refl, (l.1, (m.1, n.says))), (l.0, m.0, (n.few, All-from_recursion (HasLocal f) args n.locals)))))

  icall_said : (w x : TextWord) (ws : List TextWord) (instr : Instr) → length ws ≤ 4 → AreShaped (instr_kinds instrs.ICall) (w ∷ x ∷ ws)
      → icall_of s (w ∷ x ∷ ws) ≡ Ok instr → InstrSaid instrs.ICall (w ∷ x ∷ ws) instr
  unfolding icall_of
  icall_said w x ws instr few shaped =
      let words = w ∷ x ∷ ws in
      three_read (InstrSaid instrs.ICall words) ICall (local_index s words 0) (local_index s words 1) (arguments s 4 ws) instr
      (λ t u args is other third. (let l = local_found p f w t shaped.0 is in let m = local_found p f x u shaped.1.0 other in let n = args_said 4 ws args (names_four ws few shaped.1.1) third in ((refl, (l.1, (m.1, n.says))), (l.0, m.0, (n.few, All-from_recursion (HasLocal f) args n.locals)))))

  -- ---- of each form

  input_said : (w : TextWord) (instr : Instr) → IsName w → (local_index s (w ∷ []) 0 >>= λ t. Ok (Input t)) ≡ Ok instr → InstrSaid instrs.Input (w ∷ []) instr
  input_said w instr name =
      one_read (InstrSaid instrs.Input (w ∷ [])) Input (local_index s (w ∷ []) 0) instr (λ t is. (let l = local_found p f w t name is in ((refl, (l.1, tt)), l.0)))

  output_said : (w : TextWord) (instr : Instr) → IsName w → (local_index s (w ∷ []) 0 >>= λ t. Ok (Output t)) ≡ Ok instr → InstrSaid instrs.Output (w ∷ []) instr
  output_said w instr name =
      one_read (InstrSaid instrs.Output (w ∷ [])) Output (local_index s (w ∷ []) 0) instr (λ t is. (let l = local_found p f w t name is in ((refl, (l.1, tt)), l.0)))

  abbrev Taken : InstrForm → Instr → List TextWord → Type 0
  Taken form instr words = AreShaped (instr_kinds form) words → instr_of s form words ≡ Ok instr → InstrSaid form words instr

  pub instr_said : (form : InstrForm) (words : List TextWord) (instr : Instr) → has_number (line.Instr form) words ≡ true → AreShaped (instr_kinds form) words
      → instr_of s form words ≡ Ok instr → InstrSaid form words instr
  unfolding instr_of
  instr_said instrs.Const words instr number = by_two (Taken instrs.Const instr) words number (λ w x. const_said w x instr)
  instr_said instrs.Copy words instr number = by_two (Taken instrs.Copy instr) words number (λ w x. copy_said w x instr)
  instr_said (instrs.Binary op) words instr number = by_three (Taken (instrs.Binary op) instr) words number (λ w x y. binary_said op w x y instr)
  instr_said instrs.Load words instr number = by_two (Taken instrs.Load instr) words number (λ w x. load_said w x instr)
  instr_said instrs.Store words instr number = by_two (Taken instrs.Store instr) words number (λ w x. store_said w x instr)
  instr_said instrs.LoadX words instr number = by_three (Taken instrs.LoadX instr) words number (λ w x y. loadx_said w x y instr)
  instr_said instrs.StoreX words instr number = by_three (Taken instrs.StoreX instr) words number (λ w x y. storex_said w x y instr)
  instr_said instrs.RefTo words instr number = by_two (Taken instrs.RefTo instr) words number (λ w x. ref_said w x instr)
  instr_said instrs.Call words instr number = by_six (Taken instrs.Call instr) words number (λ w x ws few. call_said w x ws instr few)
  instr_said instrs.ICall words instr number = by_six (Taken instrs.ICall instr) words number (λ w x ws few. icall_said w x ws instr few)
  instr_said instrs.Input words instr number = by_one (Taken instrs.Input instr) words number (λ w shaped. input_said w instr shaped.0)
  instr_said instrs.Output words instr number = by_one (Taken instrs.Output instr) words number (λ w shaped. output_said w instr shaped.0)

  -- ---- terminators

  jump_said : (w : TextWord) (term : Term) → IsName w → (label_index s (w ∷ []) 0 >>= λ t. Ok (Jump t)) ≡ Ok term → TermSaid terms.Jump (w ∷ []) term
  jump_said w term name =
      one_read (TermSaid terms.Jump (w ∷ [])) Jump (label_index s (w ∷ []) 0) term (λ t is. (let l = block_found p f w t name is in ((refl, (l.1, tt)), l.0)))

  ret_said : (w : TextWord) (term : Term) → IsName w → (local_index s (w ∷ []) 0 >>= λ t. Ok (Ret t)) ≡ Ok term → TermSaid terms.Ret (w ∷ []) term
  ret_said w term name =
      one_read (TermSaid terms.Ret (w ∷ [])) Ret (local_index s (w ∷ []) 0) term (λ t is. (let l = local_found p f w t name is in ((refl, (l.1, tt)), l.0)))

  branch_said : (w x y : TextWord) (term : Term) → AreShaped (term_kinds terms.Branch) (w ∷ x ∷ y ∷ []) → branch_of s (w ∷ x ∷ y ∷ []) ≡ Ok term
      → TermSaid terms.Branch (w ∷ x ∷ y ∷ []) term
  unfolding branch_of
  branch_said w x y term shaped =
      let words = w ∷ x ∷ y ∷ [] in
      three_read (TermSaid terms.Branch words) Branch (local_index s words 0) (label_index s words 1) (label_index s words 2) term
      (λ t u v is other third. (let l = local_found p f w t shaped.0 is in let m = block_found p f x u shaped.1.0 other in let n = block_found p f y v shaped.1.1.0 third in ((refl, (l.1, (m.1, (n.1, tt)))), (l.0, m.0, n.0))))

  abbrev Ends : TermForm → Term → List TextWord → Type 0
  Ends form term words = AreShaped (term_kinds form) words → term_of s form words ≡ Ok term → TermSaid form words term

  pub term_said : (form : TermForm) (words : List TextWord) (term : Term) → has_number (line.Term form) words ≡ true → AreShaped (term_kinds form) words
      → term_of s form words ≡ Ok term → TermSaid form words term
  unfolding term_of
  term_said terms.Jump words term number = by_one (Ends terms.Jump term) words number (λ w shaped. jump_said w term shaped.0)
  term_said terms.Branch words term number = by_three (Ends terms.Branch term) words number (λ w x y. branch_said w x y term)
  term_said terms.Ret words term number = by_one (Ends terms.Ret term) words number (λ w shaped. ret_said w term shaped.0)
  term_said terms.Halt words term number = by_none (Ends terms.Halt term) words number (λ shaped e. subst (TermSaid terms.Halt []) (ok_is Halt term e) ((refl, tt), tt))
