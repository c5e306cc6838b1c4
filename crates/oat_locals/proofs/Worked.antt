-- A program of lines meets all that their laws ask for, and so runs as its source.
use Rattle.std.proofs.Common.{◌≡◌, ◌+◌, ◌-◌, ◌^◌, ◌<◌, ℕ, ℤ, pos, negsuc, Bool, true, false, cond, eqb, List, [], ◌∷◌, ◌++◌, refl, ap, ◌∙◌, arith, lit<}
use Rattle.std.specs.{List.slice_get, List.list_all, Option.option_and_then}
use Rattle.oat_frames.specs.{Inst, OrrReg, SubImm, SubsReg, Csinc, Sdiv, Msub, Movz, Movk, Str, B, Cbnz, Svc, Brk, inst_of, is_word, Row, started, IsOver, Div, Rem, Lt, Frame, MachineEvent, moves}
use Rattle.oat_frames.specs.{prints, Frames.World, Frames.IsWorld, Comes.with_result, Lines.IsNumberLocal, Lines.on_next_line, Returns.main_frame}
use Rattle.oat_frames.proofs.{Kit.thence, FrameLaws.start-leads, FrameLaws.low-code, WorkedCode.is_encodable, WorkedCode.decodes_at, WorkedCode.over, WorkedCode.beyond}
use Rattle.oat_locals.specs.{Terminators.in_block, Worked.lines_map, Worked.lines_image, Worked.lines_world, Worked.LinesRun}
use Rattle.oat_locals.proofs.{Binaries.binaries-lead, Terminators.jumps-lead, Terminators.taken-branches-lead, Terminators.halts-end, Plain.consts-lead, Plain.inputs-lead, Plain.outputs-lead}
use Rattle.oat_frames.specs.edges as edges
use Rattle.oat_frames.specs.rows as rows

-- ---- the words

abbrev insts : List Inst
insts =
    SubImm 31 31 48 ∷ Str 30 31 0 ∷ OrrReg 19 31 31 ∷ OrrReg 20 31 31 ∷ OrrReg 21 31 31 ∷ OrrReg 22 31 31
    ∷ Svc 8 ∷ OrrReg 19 31 0
    ∷ Movz 9 0 65534 ∷ Movk 9 1 65535 ∷ Movk 9 2 65535 ∷ Movk 9 3 65535 ∷ OrrReg 20 31 9
    ∷ Cbnz 20 (pos 2) ∷ Brk 1 ∷ Sdiv 21 19 20
    ∷ Cbnz 20 (pos 2) ∷ Brk 1 ∷ Sdiv 11 19 20 ∷ Msub 22 11 20 19
    ∷ SubsReg 31 21 22 ∷ Csinc 22 31 31 10
    ∷ OrrReg 9 31 22 ∷ Svc 3 ∷ Cbnz 9 (pos 2) ∷ B (pos 4)
    ∷ OrrReg 0 31 21 ∷ Svc 9 ∷ B (pos 1)
    ∷ Svc 0 ∷ []

encodable : list_all is_encodable insts ≡ true
unfolding is_word
encodable = refl

stands : (k : ℕ) → option_and_then inst_of (slice_get lines_image.code k) ≡ slice_get insts k
stands = decodes_at insts encodable

-- ---- the rows

abbrev one_row : Row
one_row = rows.Check 0x10034

abbrev two_row : Row
two_row = rows.Check 0x10040

abbrev three_row : Row
three_row = rows.Branch 0x1005C 0x10068 0x10074

abbrev four_row : Row
four_row = rows.Jump 0x10070 0x10074

one-over : IsOver lines_map.rows (rows.Check 0x10034)
one-over p low high = rw (over one_row p low high) refl

two-over : IsOver lines_map.rows (rows.Check 0x10040)
two-over p low high = rw (beyond one_row p (omega arith)) (rw (over two_row p low high) refl)

three-over : IsOver lines_map.rows (rows.Branch 0x1005C 0x10068 0x10074)
three-over p low high = rw (beyond one_row p (omega arith)) (rw (beyond two_row p (omega arith)) (rw (over three_row p low high) refl))

four-over : IsOver lines_map.rows (rows.Jump 0x10070 0x10074)
four-over p low high = rw (beyond one_row p (omega arith)) (rw (beyond two_row p (omega arith)) (rw (beyond three_row p (omega arith)) (rw (over four_row p low high) refl)))

-- ---- the world

abbrev w : World
w = lines_world

labels-low : (s t : Bool) → cond s 0x10000 (cond t 0x10068 0x10074) < 2 ^ 32
labels-low true t = lit< tt
labels-low false true = lit< tt
labels-low false false = lit< tt

is-world : IsWorld w
is-world = record {
  low = low-code lines_image (omega arith);
  labels = λ l. labels-low (eqb l 0) (eqb l 1);
  few = λ f. omega arith;
  globals = omega arith;
}

-- ---- the frames

abbrev f0 : Frame
f0 = main_frame 0

abbrev f1 : Frame
f1 = with_result f0 0 7

abbrev f2 : Frame
f2 = with_result f1 1 (2 ^ 64 - 2)

abbrev f3 : Frame
f3 = with_result f2 2 (2 ^ 64 - 3)

abbrev f4 : Frame
f4 = with_result f3 3 1

abbrev f5 : Frame
f5 = with_result f4 3 1

abbrev f6 : Frame
f6 = in_block f5 1

abbrev f7 : Frame
f7 = on_next_line f6

is-number : (f : Frame) (x : ℕ) → x < 4 → IsNumberLocal w f x
is-number f x h = record { local = h; ty = refl }

pub lines-run : LinesRun
lines-run =
    let s = start-leads w is-world 0 (pos 7 ∷ []) (λ i. 0) refl (stands 0, (stands 1, (stands 2, (stands 3, (stands 4, (stands 5, tt)))))) refl (λ i h. absurd (omega arith)) in
    let c1 = inputs-lead w is-world f0 [] (λ i. 0) 0 (pos 7) [] s.to s.is_at
    (record { line = record { code = (stands 6, (stands 7, tt)); next = refl }; to = is-number f0 0 (lit< tt) }) s.inputs (record { sfits = lit< tt }) in
    let c2 = consts-lead w is-world f1 [] (λ i. 0) 1 (negsuc 1) c1.to c1.is_at
    (record { line = record { code = (stands 8, (stands 9, (stands 10, (stands 11, (stands 12, tt))))); next = refl }; to = is-number f1 1 (lit< tt) }) in
    let c3 = binaries-lead w is-world f2 [] (λ i. 0) Div 2 0 1 (2 ^ 64 - 3) c2.to c2.is_at
    (record {
      line = record { code = (one-over, (stands 13, (stands 14, (stands 15, tt)))); next = refl };
      to = is-number f2 2 (lit< tt);
      left = is-number f2 0 (lit< tt);
      right = is-number f2 1 (lit< tt);
    }) refl in
    let c4 = binaries-lead w is-world f3 [] (λ i. 0) Rem 3 0 1 1 c3.to c3.is_at
    (record {
      line = record { code = (two-over, (stands 16, (stands 17, (stands 18, (stands 19, tt))))); next = refl };
      to = is-number f3 3 (lit< tt);
      left = is-number f3 0 (lit< tt);
      right = is-number f3 1 (lit< tt);
    }) refl in
    let c5 = binaries-lead w is-world f4 [] (λ i. 0) Lt 3 2 3 1 c4.to c4.is_at
    (record {
      line = record { code = (stands 20, (stands 21, tt)); next = refl };
      to = is-number f4 3 (lit< tt);
      left = is-number f4 2 (lit< tt);
      right = is-number f4 3 (lit< tt);
    }) refl in
    let c6 = taken-branches-lead w is-world f5 [] (λ i. 0) 3 1 2 1 2 c5.to c5.is_at
    (record {
      code = (stands 22, (three-over, (stands 23, ((pos 2, stands 24, refl), ((pos 4, stands 25, refl), tt)))));
      from = is-number f5 3 (lit< tt);
      first_block = refl;
      second_block = refl;
      apart = λ e. absurd (omega arith);
    }) (λ e. absurd (omega arith)) in
    let c7 = outputs-lead w is-world f6 [] (λ i. 0) 2 c6.to c6.is_at
    (record { line = record { code = (stands 26, (stands 27, tt)); next = refl }; from = is-number f6 2 (lit< tt) }) in
    let c8 = jumps-lead w is-world f7 [] (λ i. 0) 2 2 c7.to c7.is_at
    (record { code = (four-over, ((pos 1, stands 28, refl), tt)); block = refl }) in
    let c9 = halts-end w is-world (in_block f7 2) [] (λ i. 0) c8.to c8.is_at (stands 29, tt) in
    let n8 : ℕ = c8.count + c9.count in
    let n7 : ℕ = c7.count + n8 in
    let n6 : ℕ = c6.count + n7 in
    let n5 : ℕ = c5.count + n6 in
    let n4 : ℕ = c4.count + n5 in
    let n3 : ℕ = c3.count + n4 in
    let n2 : ℕ = c2.count + n3 in
    let n1 : ℕ = c1.count + n2 in
    let jump : List MachineEvent = moves (edges.Jump 0x10070 0x10074) ∷ [] in
    let put : List MachineEvent = prints (negsuc 2) ∷ jump in
    let branch : List MachineEvent = moves (edges.Branch 0x1005C true 0x10068) ∷ put in (
      s.count + n1,
      c9.to,
      thence lines_image s.count n1 (started lines_image (pos 7 ∷ [])) s.to c9.to [] branch s.runs
          (thence lines_image c1.count n2 s.to c1.to c9.to [] branch c1.runs
          (thence lines_image c2.count n3 c1.to c2.to c9.to [] branch c2.runs
          (thence lines_image c3.count n4 c2.to c3.to c9.to [] branch c3.runs
          (thence lines_image c4.count n5 c3.to c4.to c9.to [] branch c4.runs
          (thence lines_image c5.count n6 c4.to c5.to c9.to [] branch c5.runs
          (thence lines_image c6.count n7 c5.to c6.to c9.to (moves (edges.Branch 0x1005C true 0x10068) ∷ []) put c6.runs
          (thence lines_image c7.count n8 c6.to c7.to c9.to (prints (negsuc 2) ∷ []) jump c7.runs
          (thence lines_image c8.count c9.count c7.to c8.to c9.to jump [] c8.runs c9.runs)))))))),
      c9.end,
      c9.outputs ∙ c8.outputs ∙ c7.outputs
          ∙ ap (λ (o : List ℤ). o ++ negsuc 2 ∷ []) (c6.outputs ∙ c5.outputs ∙ c4.outputs ∙ c3.outputs ∙ c2.outputs ∙ c1.outputs ∙ s.outputs),
    )
