-- The operations of a built image are the program's, and each begins where the placement says.
use Rattle.std.proofs.Common.{◌≡◌, ◌+◌, ◌*◌, ◌<◌, ◌≤◌, ◌||◌, ℕ, zero, suc, Bool, true, false, List, [], ◌∷◌, ◌++◌, length, get_or, take, drop, Option, Some, None, refl, sym, ap, subst, ◌∙◌, inl, inr}
use Rattle.std.proofs.Common.{arith, eqb-true, eq-eqb}
use Rattle.std.specs.{Prelude.slice_get, Prelude.Contains, Prelude.◌⊎◌, Prelude.◌↔◌, List.flat_map, List.list_any, List.position_or_len, Option.option_to_list}
use Rattle.std.proofs.lemmas.List.Elements.{Contains-append_cases}
use Rattle.oat_asm.proofs.StandingItems.{stand_in_two}
use Rattle.oat_parts.proofs.Lists.{not_in_none, cons_cases, first_in, get_in, of_flat_map, later_in}
use Rattle.oat_frames.proofs.FrameLaws.{found-contains}
use Rattle.oat_globals.proofs.GlobalLaws.{prologue_words}
use Rattle.oat_match.specs.{BeginsAt, IsOperation, is_over, OperationsOpenOnce, words_needed, ItemsStand, Program, Func, Role, Main, Operation, Plain, IsChecked, has_operation, is_operation_of}
use Rattle.oat_match.specs.{operation_number, FunctionSymbol, operations_in, ProgramsHaveTheirLabels, block_names, symbols_from, symbols_of, all_symbols, main_at, with_first, IsBuiltWhole, prologue}
use Rattle.oat_match.specs.{prologue_end, is_leaf, begin_code, start_code, Compiled.FunctionBegins, Compiled.IsCompiled, Placed.function_of_operation, Placed.placement}
use Rattle.oat_gen.specs.Code.{program_items}
use Rattle.oat_build.specs.Built.{program_image, program_label, program_world, HasOperationsOf}
use Rattle.oat_map.specs.declared.row.Row.TheVariants as row
use Rattle.oat_asm.specs.declared.item.Item.TheVariants as item
use Rattle.oat_asm.specs.declared.note.Note.TheVariants as note

-- ---- roles and their numbers

numbered : (r : Role) (op : ℕ) → operation_number r ≡ Some op → is_operation_of op r ≡ true
numbered (Operation id) op h = eq-eqb id op (cc)
numbered Plain op h = absurd (cc)
numbered Main op h = absurd (cc)

number_of : (r : Role) (op : ℕ) → is_operation_of op r ≡ true → operation_number r ≡ Some op
number_of (Operation id) op h = ap Some (eqb-true id op h)
number_of Plain op h = absurd (cc)
number_of Main op h = absurd (cc)

-- the first function of which it is the operation
record OperationFound (funcs : List Func) (op : ℕ) : Type 0 where
  func : Func
  is : slice_get funcs (position_or_len (λ f. is_operation_of op f.role) funcs) ≡ Some func
  number : operation_number func.role ≡ Some op

find_operation : (funcs : List Func) (op : ℕ) → list_any (λ f. is_operation_of op f.role) funcs ≡ true → OperationFound funcs op
find_operation [] op some = absurd (cc)
find_operation (f ∷ fs) op some = by (is_operation_of op f.role) refl some (find_operation fs op) where
  next : (n : ℕ) → 1 + n ≡ suc n
  next n = omega arith

  by : (b : Bool) → is_operation_of op f.role ≡ b → (b || list_any (λ g. is_operation_of op g.role) fs) ≡ true → (list_any (λ g. is_operation_of op g.role) fs ≡ true → OperationFound fs op) → OperationFound (f ∷ fs) op
  by true e h rest = record { func = f; is = rw e refl; number = number_of f.role op e }
  by false e h rest =
      let r = rest h in
      record { func = r.func; is = rw e (ap (slice_get (f ∷ fs)) (next (position_or_len (λ g. is_operation_of op g.role) fs)) ∙ r.is); number = r.number }

-- ---- the table's operations

only_one : (o : Option ℕ) (op : ℕ) → Contains (option_to_list o) op → o ≡ Some op
only_one None op has = absurd (not_in_none op has)
only_one (Some id) op has = elim (cons_cases id [] op has) [ inl same ↦ ap Some same | inr none ↦ absurd (not_in_none op none) ]

of_take : {X : Type 0} (n : ℕ) (xs : List X) (x : X) → Contains (take n xs) x → Contains xs x
of_take zero xs x has = absurd (not_in_none x has)
of_take (suc n) [] x has = absurd (not_in_none x has)
of_take (suc n) (y ∷ xs) x has = elim (cons_cases y (take n xs) x has) [ inl same ↦ subst (Contains (y ∷ xs)) same (first_in y xs) | inr rest ↦ later_in y xs x (of_take n xs x rest) ]

of_drop : {X : Type 0} (n : ℕ) (xs : List X) (x : X) → Contains (drop n xs) x → Contains xs x
of_drop zero xs x has = has
of_drop (suc n) [] x has = absurd (not_in_none x has)
of_drop (suc n) (y ∷ xs) x has = later_in y xs x (of_drop n xs x has)

of_first : {X : Type 0} (m : ℕ) (xs : List X) (x : X) → Contains (with_first m xs) x → Contains xs x
of_first m xs x has = elim (Contains-append_cases (take 1 (drop m xs)) (take m xs ++ drop (m + 1) xs) x has) [
  | inl main ↦ of_drop m xs x (of_take 1 (drop m xs) x main)
  | inr rest ↦ elim (Contains-append_cases (take m xs) (drop (m + 1) xs) x rest) [ inl front ↦ of_take m xs x front | inr back ↦ of_drop (m + 1) xs x back ]
]

of_function : (p : Program) (f n : ℕ) (funcs : List Func) (e : FunctionSymbol) (op : ℕ) → Contains (symbols_from p f n funcs) e → e.operation ≡ Some op → list_any (λ g. is_operation_of op g.role) funcs ≡ true
of_function p f n [] e op has is = absurd (not_in_none e has)
of_function p f n (g ∷ gs) e op has is = elim (cons_cases _ (symbols_from p (f + 1) (n + length (block_names g)) gs) e has) [
  | inl same ↦ ap (λ (b : Bool). b || list_any (λ h. is_operation_of op h.role) gs) (numbered g.role op (ap (λ (x : FunctionSymbol). x.operation) same ∙ is))
  | inr rest ↦ ap (λ (b : Bool). is_operation_of op g.role || b) (of_function p (f + 1) (n + length (block_names g)) gs e op rest is) ∙ always (is_operation_of op g.role)
] where
  always : (b : Bool) → (b || true) ≡ true
  always true = refl
  always false = refl

module _ (labelled : ProgramsHaveTheirLabels) (p : Program) (ok : IsChecked p) (built : IsBuiltWhole p (program_items p)) where
  pub operations_are : HasOperationsOf p (program_image p)
  operations_are op = (
    λ is.
        let r = of_flat_map (λ e. option_to_list e.operation) (symbols_of p).functions op ((built.well.operations op).0 is) in
        of_function p 0 (length p.funcs) p.funcs r.1 op (of_first (main_at p) (all_symbols p) r.1 (get_in (symbols_of p).functions r.0 r.1 r.2)) (only_one r.1.operation op r.3),
    λ has.
        let found = find_operation p.funcs op has in
        (built.well.operations op).1 ((labelled p ok).operations (function_of_operation p op) op found.func found.is found.number),
  )

  -- ---- where they begin

  module _ (whole : IsCompiled p (program_world p)) (open_once : OperationsOpenOnce) where
    begins_there : (op : ℕ) → IsOperation (program_image p).map op → BeginsAt (program_image p).map op ((placement p (program_world p)).begin op)
    begins_there op is =
        let found = find_operation p.funcs op ((operations_are op).0 is) in
        let f = function_of_operation p op in
        let b : FunctionBegins p (program_world p) f found.func = whole.functions f found.func found.is in
        let start = prologue (is_leaf found.func) found.func.params (length found.func.locals) in
        let code = subst (λ (o : Option ℕ). ItemsStand (program_image p) (program_label p) (program_label p f) (start ++ begin_code o)) found.number b.code in
        let at = program_label p f + 4 * words_needed start in
        let behind = (stand_in_two (program_image p) (program_label p) (program_label p f) start (begin_code (Some op)) code).1 in
        let has = found-contains (is_over at) (program_image p).map.rows (row.Begin at op) (behind.0 at (omega arith) (omega arith)) in
        let words = prologue_words (is_leaf found.func) found.func.params (length found.func.locals) in
        let locals = whole.data_of.locals f found.func found.is in
        (at, has, omega arith)

    pub begins_are : (op begin_at : ℕ) → BeginsAt (program_image p).map op begin_at → (placement p (program_world p)).begin op ≡ begin_at
    begins_are op begin_at begun =
        open_once (program_image p).map op begin_at ((placement p (program_world p)).begin op) built.well.shaped.paired begun (begins_there op (begun.0, begun.1))
