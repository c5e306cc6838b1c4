-- The smallest image with a call meets all that the laws of a call ask for, and so runs as its source.
use Rattle.std.proofs.Common.{◌≡◌, ◌+◌, ◌^◌, ◌<◌, ℕ, zero, suc, Bool, true, false, cond, eqb, pos, List, [], ◌∷◌, get_or, refl, arith, lit<}
use Rattle.std.specs.{List.slice_get, List.list_all, Option.option_and_then}
use Rattle.oat_asm.specs.{Inst, OrrReg, AddImm, SubImm, SubsImm, Ldr, Str, BCond, Bl, Ret, Svc, Brk, inst_of, is_word, Standing.IsOver}
use Rattle.oat_follow.specs.{started}
use Rattle.oat_frames.specs.{Code.CodeStands, Code.call_code, Code.prologue, Code.return_code, Frames.World, Frames.IsWorld, Frames.register, Calls.CallSite, Calls.IsCallAt, Calls.callee_frame}
use Rattle.oat_frames.specs.{Returns.main_frame, Worked.one_call, Worked.one_call_map, Worked.one_call_world, Worked.OneCallReturns}
use Rattle.oat_frames.proofs.{Reaching.thence, LowCode.low-code, WorkedCode.is_encodable, WorkedCode.decodes_at, WorkedCode.over, WorkedCode.beyond, Calling.calls-lead, Returning.returns-lead}
use Rattle.oat_frames.proofs.{Starting.start-leads}
use Rattle.oat_follow.specs.rows as rows

-- ---- the words

abbrev insts : List Inst
insts =
    SubImm 31 31 32 ∷ Str 30 31 0 ∷ Str 31 31 1 ∷ Str 31 31 2
    ∷ SubsImm 31 28 256 ∷ BCond 3 (pos 2) ∷ Brk 4 ∷ AddImm 28 28 1 ∷ Ldr 0 31 1 ∷ Bl (pos 4) ∷ SubImm 28 28 1 ∷ Str 0 31 2
    ∷ Svc 0
    ∷ SubImm 31 31 16 ∷ Str 30 31 0 ∷ OrrReg 19 31 0
    ∷ OrrReg 0 31 19 ∷ Ldr 30 31 0 ∷ AddImm 31 31 16 ∷ Svc 5 ∷ Ret 30 ∷ []

encodable : list_all is_encodable insts ≡ true
unfolding is_word
encodable = refl

stands : (k : ℕ) → option_and_then inst_of (slice_get one_call.code k) ≡ slice_get insts k
stands = decodes_at insts encodable

-- ---- the rows

check-over : IsOver one_call_map.rows (rows.Check 0x10014)
check-over p low high = rw (over (rows.Check 0x10014) p low high) refl

call-over : IsOver one_call_map.rows (rows.Call 0x10024 0x10034)
call-over p low high = rw (beyond (rows.Check 0x10014) p (omega arith)) (rw (over (rows.Call 0x10024 0x10034) p low high) refl)

ret-over : IsOver one_call_map.rows (rows.Ret 0x1004C)
ret-over p low high = rw (beyond (rows.Check 0x10014) p (omega arith)) (rw (beyond (rows.Call 0x10024 0x10034) p (omega arith)) (rw (over (rows.Ret 0x1004C) p low high) refl))

-- ---- the world

abbrev w : World
w = one_call_world

cond-lt : (t : Bool) (a b n : ℕ) → a < n → b < n → cond t a b < n
cond-lt true a b n h l = h
cond-lt false a b n h l = l

is-world : IsWorld w
is-world = record {
  low = low-code one_call (omega arith);
  labels = λ l. cond-lt (eqb l 0) 0x10000 0x10034 (2 ^ 32) (lit< tt) (lit< tt);
  few = λ f. let l : cond (eqb f 0) 2 1 < 256 = cond-lt (eqb f 0) 2 1 256 (lit< tt) (lit< tt) in omega arith;
  globals = omega arith;
}

main_starts : CodeStands w 0x10000 (prologue false 0 2)
main_starts = (stands 0, (stands 1, (stands 2, (stands 3, tt))))

abbrev the_call : CallSite
the_call = record { callee = 1; args = 0 ∷ []; result = 1 }

main_calls : CodeStands w 0x10010 (call_code (0 ∷ []) 1 1)
main_calls = (stands 4, (check-over, (stands 5, (stands 6, (stands 7, (stands 8, (call-over, ((pos 4, stands 9, refl), (stands 10, (stands 11, tt))))))))))

same_starts : CodeStands w 0x10034 (prologue true 1 1)
same_starts = (stands 13, (stands 14, (stands 15, tt)))

same_returns : CodeStands w 0x10040 (return_code 1 (register 19))
same_returns = (stands 16, (stands 17, (stands 18, (ret-over, (stands 19, (stands 20, tt))))))

is-call : IsCallAt w (main_frame 0) the_call
is-call = record {
  code = main_calls;
  next = refl;
  is = refl;
  few = omega arith;
  caller_slots = refl;
  function = record { start = same_starts };
  locals = λ i h. zero-only i h;
  types = λ i h. refl;
} where
  zero-only : (i : ℕ) → i < 1 → get_or (0 ∷ []) i 0 < 2
  zero-only zero h = lit< tt
  zero-only (suc i) h = absurd (omega arith)

pub one-call-returns : OneCallReturns
one-call-returns =
    let s = start-leads w is-world 0 [] (λ i. 0) refl main_starts refl (λ i h. absurd (omega arith)) in
    let c = calls-lead w is-world (main_frame 0) [] (λ i. 0) the_call s.to s.is_at (lit< tt) is-call refl in
    let r = returns-lead w is-world (callee_frame the_call (main_frame 0)) (main_frame 0) [] (λ i. 0) 0 1 c.to c.is_at same_returns
    (record { from_local = lit< tt; result = refl; caller_slots = refl; to_local = lit< tt; types = refl }) in (
      _,
      s.count + (c.count + r.count),
      r.to,
      thence one_call s.count (c.count + r.count) (started one_call []) s.to r.to [] _ s.runs (thence one_call c.count r.count s.to c.to r.to _ _ c.runs r.runs),
      r.is_at,
    )
