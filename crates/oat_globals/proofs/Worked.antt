-- The worked image meets all that the laws of lines ask for, and so runs as its source.
use Rattle.std.proofs.Common.{◌≡◌, ◌+◌, ◌^◌, ◌<◌, ◌≤◌, ℕ, zero, suc, Bool, cond, List, [], ◌∷◌, ◌++◌, get_or, Some, refl, ap, subst, arith, ne_eqb, lit<}
use Rattle.oat_frames.specs.{I64, Fn, Frame, assigned, Running, started, Calls.CallSite, Calls.callee_frame, Comes.StepsTo, Comes.with_result, MachineEvent, Frames.IsAt, Lines.on_next_line, RunsTo}
use Rattle.oat_frames.specs.{Returns.main_frame}
use Rattle.oat_frames.proofs.{Kit.thence, FrameLaws.start-leads}
use Rattle.oat_globals.specs.{Elements.IsArrayAt, Operations.HasShortNumber, Worked.operation_image, Worked.OperationRuns}
use Rattle.oat_globals.proofs.{CriticalElements.critical_element_loads_lead, CriticalElements.critical_element_stores_lead, CriticalScalars.critical_loads_lead, CriticalScalars.critical_stores_lead}
use Rattle.oat_globals.proofs.{Elements.element_loads_lead, Elements.element_stores_lead, Operations.operation_calls_lead, Operations.operation_returns_lead, Scalars.loads_lead, Scalars.stores_lead}
use Rattle.oat_globals.proofs.{Scalars.references_lead, WorkedPlaces.w, WorkedPlaces.is_world, WorkedPlaces.first, WorkedPlaces.first_words, WorkedPlaces.main_starts, WorkedPlaces.at_ref}
use Rattle.oat_globals.proofs.{WorkedPlaces.at_store, WorkedPlaces.at_load, WorkedPlaces.at_storex, WorkedPlaces.at_loadx, WorkedPlaces.at_call, WorkedPlaces.work_starts, WorkedPlaces.work_begins}
use Rattle.oat_globals.proofs.{WorkedPlaces.at_use_at, WorkedPlaces.at_define_at, WorkedPlaces.at_use, WorkedPlaces.at_define, WorkedPlaces.at_leave}

-- ---- the run, line by line

record Went (f : Frame) (callers : List Frame) (globals : ℕ → ℕ) (m : Running) (es : List MachineEvent) : Type 0 where
  pub to : Running
  pub count : ℕ
  pub runs : RunsTo operation_image count m to es
  pub is_at : IsAt w f callers globals to

went : (most : ℕ) (f : Frame) (callers : List Frame) (globals : ℕ → ℕ) (m : Running) (es : List MachineEvent) → StepsTo w most f callers globals es m → Went f callers globals m es
went most f callers globals m es l = record { to = l.to; count = l.count; runs = l.runs; is_at = l.is_at }

further : (most : ℕ) (f g : Frame) (cs ds : List Frame) (old new : ℕ → ℕ) (m : Running) (xs ys : List MachineEvent) → Went f cs old m xs → ((k : Running) → IsAt w f cs old k → StepsTo w most g ds new ys k) → Went g ds new m (xs ++ ys)
further most f g cs ds old new m xs ys this leads =
    let l = leads this.to this.is_at in
    record { to = l.to; count = this.count + l.count; runs = thence operation_image this.count l.count m this.to l.to xs ys this.runs l.runs; is_at = l.is_at }

-- all words but the first are numbers
array_at : (base len : ℕ) → 1 ≤ base → base + len ≤ 6 → IsArrayAt w base len
array_at base len some fits = record { inside = fits; numbers = λ j h. ap (λ (t : Bool). cond t (Fn 0) I64) (ne_eqb (base + j) 0 (λ e. absurd (omega arith))) }

array : IsArrayAt w 2 2
array = array_at 2 2 (omega arith) (omega arith)

critical_array : IsArrayAt w 4 2
critical_array = array_at 4 2 (omega arith) (omega arith)

abbrev the_call : CallSite
the_call = record { callee = 1; args = 0 ∷ []; result = 0 }

short : HasShortNumber (Some 1)
short op is = subst (λ (n : ℕ). n < 2 ^ 16) (one 1 op is) (lit< tt) where
  one : (a b : ℕ) → Some a ≡ Some b → a ≡ b
  one a b h = cc

only : (i : ℕ) → i < 1 → get_or (0 ∷ []) i 0 < 3
only zero h = lit< tt
only (suc i) h = absurd (omega arith)

same_types : (i : ℕ) → i < 1 → w.ty 0 (get_or (0 ∷ []) i 0) ≡ I64
same_types zero h = refl
same_types (suc i) h = absurd (omega arith)

pub operation_runs : OperationRuns
operation_runs =
    let m : Running = started operation_image [] in
    let f0 : Frame = main_frame 0 in
    let f1 : Frame = with_result f0 2 3 in
    let f2 : Frame = on_next_line f1 in
    let g1 : ℕ → ℕ = assigned first 0 (f1.locals 2) in
    let f3 : Frame = with_result f2 2 (g1 0) in
    let f4 : Frame = on_next_line f3 in
    let g2 : ℕ → ℕ = assigned g1 (2 + f3.locals 1) (f3.locals 1) in
    let f5 : Frame = with_result f4 0 (g2 (2 + f4.locals 1)) in
    let w0 : Frame = callee_frame the_call f5 in
    let w1 : Frame = with_result w0 0 (g2 (4 + w0.locals 0)) in
    let w2 : Frame = on_next_line w1 in
    let g3 : ℕ → ℕ = assigned g2 (4 + w1.locals 0) (w1.locals 0) in
    let w3 : Frame = with_result w2 0 (g3 1) in
    let w4 : Frame = on_next_line w3 in
    let g4 : ℕ → ℕ = assigned g3 1 (w3.locals 0) in
    let f6 : Frame = with_result f5 0 (w4.locals 0) in
    let t0 : Went f0 [] first m [] = went 257 f0 [] first m [] (start-leads w is_world 0 [] first refl main_starts refl first_words) in
    let t1 : Went f1 [] first m [] = further 3 f0 f1 [] [] first first m [] [] t0
    (λ k a. references_lead w is_world f0 [] first 2 2 0 k a (record { code = at_ref; next = refl }) (record { local = lit< tt; ty = refl; known = refl })) in
    let t2 : Went f2 [] g1 m [] = further 4 f1 f2 [] [] first g1 m [] [] t1
    (λ k a. stores_lead w is_world f1 [] first 0 2 k a (record { code = at_store; next = refl }) (record { global = lit< tt; local = lit< tt; types = refl })) in
    let t3 : Went f3 [] g1 m [] = further 4 f2 f3 [] [] g1 g1 m [] [] t2
    (λ k a. loads_lead w is_world f2 [] g1 2 0 k a (record { code = at_load; next = refl }) (record { global = lit< tt; local = lit< tt; types = refl })) in
    let t4 : Went f4 [] g2 m [] = further 10 f3 f4 [] [] g1 g2 m [] [] t3
    (λ k a. element_stores_lead w is_world f3 [] g1 2 2 1 1 k a (record { code = at_storex; next = refl })
    (record { array = array; index = record { local = lit< tt; ty = refl }; local = record { local = lit< tt; ty = refl } }) (lit< tt)) in
    let t5 : Went f5 [] g2 m [] = further 10 f4 f5 [] [] g2 g2 m [] [] t4
    (λ k a. element_loads_lead w is_world f4 [] g2 0 2 2 1 k a (record { code = at_loadx; next = refl })
    (record { array = array; index = record { local = lit< tt; ty = refl }; local = record { local = lit< tt; ty = refl } }) (lit< tt)) in
    let t6 = further 267 f5 w0 [] (f5 ∷ []) g2 g2 m [] _ t5
    (λ k a. operation_calls_lead w is_world f5 [] g2 the_call (Some 1) k a (lit< tt)
    (record { code = at_call; next = refl; is = refl; few = omega arith; caller_slots = refl; function = record { start = work_starts }; locals = only; types = same_types })
    (record { code = work_begins; first = refl; number = short })) in
    let t7 = further 11 w0 w1 (f5 ∷ []) (f5 ∷ []) g2 g2 m _ _ t6
    (λ k a. critical_element_loads_lead w is_world w0 (f5 ∷ []) g2 0 4 1 2 0 k a (record { code = at_use_at; next = refl })
    (record { line = record { array = critical_array; index = record { local = lit< tt; ty = refl }; local = record { local = lit< tt; ty = refl } }; few = omega arith; cells = omega arith }) (lit< tt)) in
    let t8 = further 11 w1 w2 (f5 ∷ []) (f5 ∷ []) g2 g3 m _ _ t7
    (λ k a. critical_element_stores_lead w is_world w1 (f5 ∷ []) g2 4 1 2 0 0 k a (record { code = at_define_at; next = refl })
    (record { line = record { array = critical_array; index = record { local = lit< tt; ty = refl }; local = record { local = lit< tt; ty = refl } }; few = omega arith; cells = omega arith }) (lit< tt)) in
    let t9 = further 6 w2 w3 (f5 ∷ []) (f5 ∷ []) g3 g3 m _ _ t8
    (λ k a. critical_loads_lead w is_world w2 (f5 ∷ []) g3 0 1 0 k a (record { code = at_use; next = refl }) (record { global = lit< tt; ty = refl; few = lit< tt; local = record { local = lit< tt; ty = refl } })) in
    let t10 = further 6 w3 w4 (f5 ∷ []) (f5 ∷ []) g3 g4 m _ _ t9
    (λ k a. critical_stores_lead w is_world w3 (f5 ∷ []) g3 1 0 0 k a (record { code = at_define; next = refl }) (record { global = lit< tt; ty = refl; few = lit< tt; local = record { local = lit< tt; ty = refl } })) in
    let t11 : Went f6 [] g4 m _ = further 9 w4 f6 (f5 ∷ []) [] g4 g4 m _ _ t10
    (λ k a. operation_returns_lead w is_world w4 f5 [] g4 0 0 (Some 1) k a at_leave short
    (record { from_local = lit< tt; result = refl; caller_slots = refl; to_local = lit< tt; types = refl })) in
    (f6.locals, g4, t11.count, t11.to, t11.runs, t11.is_at)
