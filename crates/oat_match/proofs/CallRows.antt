-- The row of a call, and that the run goes on behind its group.
use Rattle.std.proofs.Common.{◌≡◌, ◌+◌, ◌*◌, ◌%◌, ◌^◌, ◌<◌, ◌≤◌, ℕ, List, ◌∷◌, length, Some, subst, arith}
use Rattle.oat_asm.proofs.StandingItems.{stand_in_two}
use Rattle.oat_globals.specs.{Blr, Svc, Bl, words_needed, Row, after, row_over, Program, Call, ICall, instruction, LinePlace, behind_call, call_code, icall_code, World, return_address, IsLineAt}
use Rattle.oat_match.specs.{Compiled.IsCompiled, Placed.address_of_line, Placed.frame_at}
use Rattle.oat_match.proofs.{CallCode.before_call, CallCode.before_icall, CallCode.call_words, CallCode.icall_words, CallCode.words_before_call, CallCode.words_before_icall, Finding.Located}
use Rattle.oat_match.proofs.{Placing.lines_are_placed}
use Rattle.oat_asm.specs.declared.item.Item.TheVariants as item
use Rattle.oat_asm.specs.declared.note.Note.TheVariants as note
use Rattle.oat_globals.specs.rows as rows

-- The row of a call stands so many words behind its line's place, and the next line's result is stored behind its group.
pub record HasCallRow (w : World) (at : LinePlace) (words : ℕ) (row : ℕ → Row) : Type 0 where
  pub over : row_over w.image.map.rows (address_of_line w at + 4 * words) ≡ Some (row (address_of_line w at + 4 * words))
  pub behind : return_address w (frame_at at) ≡ after (row (address_of_line w at + 4 * words))

wraps_not : (q words back : ℕ) → q < 2 ^ 32 → words ≤ 2 → back ≡ q + 4 * words → back ≡ (q + 4 * words) % 2 ^ 64
wraps_not q words back low few is = omega arith

module _ (p : Program) (w : World) (c : IsCompiled p w) (at : LinePlace) where
  pub call_row : (x g : ℕ) (args : List ℕ) → Located p at (instruction (Call x g args)) → HasCallRow w at (4 + length args) (λ q. rows.Call q (w.label g))
  call_row x g args l =
      let line : IsLineAt w (frame_at at) (call_code args g x) = lines_are_placed p w c (frame_at at) l.func l.block (instruction (Call x g args)) l.is l.there l.here in
      let stands = (stand_in_two w.image w.label (address_of_line w at) (before_call args) (item.Note (note.Call g) ∷ item.BranchTo Bl g ∷ behind_call x) line.code).1 in
      let q : ℕ = address_of_line w at + 4 * words_needed (before_call args) in
      let low : q < 2 ^ 32 = c.world.low q _ stands.1.0.1 in
      let words : words_needed (before_call args) ≡ 4 + length args = words_before_call args in
      let all : words_needed (call_code args g x) ≡ 4 + length args + 3 = call_words args g x in
      let next : w.place at.func at.block (at.line + 1) ≡ address_of_line w at + 4 * words_needed (call_code args g x) = line.next in
      subst (λ (n : ℕ). HasCallRow w at n (λ q. rows.Call q (w.label g))) words
      (record { over = stands.0 q (omega arith) (omega arith); behind = wraps_not q 1 (return_address w (frame_at at)) low (omega arith) (omega arith) })

  pub icall_row : (x y : ℕ) (args : List ℕ) → Located p at (instruction (ICall x y args)) → HasCallRow w at (3 + (4 + length args)) (λ q. rows.ICall q (length args))
  icall_row x y args l =
      let line : IsLineAt w (frame_at at) (icall_code args y x) = lines_are_placed p w c (frame_at at) l.func l.block (instruction (ICall x y args)) l.is l.there l.here in
      let stands = (stand_in_two w.image w.label (address_of_line w at) (before_icall y args) (item.Note (note.ICall (length args)) ∷ item.Inst (Svc 4) ∷ item.Inst (Blr 9) ∷ behind_call x) line.code).1 in
      let q : ℕ = address_of_line w at + 4 * words_needed (before_icall y args) in
      let low : q < 2 ^ 32 = c.world.low q (Svc 4) stands.1.0 in
      let words : words_needed (before_icall y args) ≡ 3 + (4 + length args) = words_before_icall y args in
      let all : words_needed (icall_code args y x) ≡ 3 + (4 + length args) + 4 = icall_words args y x in
      let next : w.place at.func at.block (at.line + 1) ≡ address_of_line w at + 4 * words_needed (icall_code args y x) = line.next in
      subst (λ (n : ℕ). HasCallRow w at n (λ q. rows.ICall q (length args))) words
      (record { over = stands.0 q (omega arith) (omega arith); behind = wraps_not q 2 (return_address w (frame_at at)) low (omega arith) (omega arith) })
