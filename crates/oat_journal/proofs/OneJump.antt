-- The run of the smallest image with a jump, instruction by instruction.
use Rattle.std.proofs.Common.{◌≡◌, ℕ, suc, pos, List, [], ◌∷◌, Option, Some, None, refl, ap, ◌∙◌, lit<}
use Rattle.sha2.specs.Sha256.{sha256}
use Rattle.oat_a64.proofs.FetchLemmas.{inst_from_word}
use Rattle.oat_image.specs.Worked.{one_jump}
use Rattle.oat_measure.specs.{Inst, Movz, B, Svc, inst_of, instruction_at, act, Body, window_head, Shelving.measures}
use Rattle.oat_journal.specs.{declared.end.DeviceEnd.DeviceEnd, declared.end.DeviceEnd.TheVariants.Halted, Run.Running, Run.Entry, Run.started, Run.found, Run.makes, Run.turns, Run.made_entry}
use Rattle.oat_journal.specs.{Run.from_entry, Run.journal, Run.journal_from, Run.bare, Worked.one_jump_opening, Worked.one_jump_run, Worked.ShowsOneJump, Worked.OneJumpIsMeasured}
use Rattle.oat_journal.proofs.Turns.{turn-is}

-- ---- one instruction

abbrev made_by : Running → Inst → Running
made_by s i = makes s (act i (found [] s))

abbrev entry_by : Running → Inst → Entry
entry_by s i = record { inst = i; found = found [] s; left = (made_by s i).machine.regs }

journal-goes : (code : List ℕ) (n : ℕ) (s : Running) (i : Inst) → s.end ≡ None → instruction_at code s.machine.regs.pc ≡ Some i → (made_by s i).end ≡ None
    → journal_from code [] (suc n) s ≡ entry_by s i ∷ journal_from code [] n (made_by s i)
unfolding journal_from
journal-goes code n s i going at on =
    ap (λ (r : Running). from_entry (made_entry (instruction_at code s.machine.regs.pc) (found [] s) r.end r) (journal_from code [] n r)) (turn-is code [] s i going at)
    ∙ ap (λ (o : Option Inst). from_entry (made_entry o (found [] s) (made_by s i).end (made_by s i)) (journal_from code [] n (made_by s i))) at
    ∙ ap (λ (e : Option DeviceEnd). from_entry (made_entry (Some i) (found [] s) e (made_by s i)) (journal_from code [] n (made_by s i))) on

journal-ends : (code : List ℕ) (n : ℕ) (s : Running) (i : Inst) (why : DeviceEnd) → s.end ≡ None → instruction_at code s.machine.regs.pc ≡ Some i → (made_by s i).end ≡ Some why
    → journal_from code [] (suc n) s ≡ []
unfolding journal_from
journal-ends code n s i why going at off =
    ap (λ (r : Running). from_entry (made_entry (instruction_at code s.machine.regs.pc) (found [] s) r.end r) (journal_from code [] n r)) (turn-is code [] s i going at)
    ∙ ap (λ (o : Option Inst). from_entry (made_entry o (found [] s) (made_by s i).end (made_by s i)) (journal_from code [] n (made_by s i))) at
    ∙ ap (λ (e : Option DeviceEnd). from_entry (made_entry (Some i) (found [] s) e (made_by s i)) (journal_from code [] n (made_by s i))) off

turns-go : (code : List ℕ) (n : ℕ) (s : Running) (i : Inst) → s.end ≡ None → instruction_at code s.machine.regs.pc ≡ Some i
    → turns code [] (suc n) s ≡ turns code [] n (made_by s i)
unfolding turns
turns-go code n s i going at = ap (turns code [] n) (turn-is code [] s i going at)

turns-none : (code : List ℕ) (s : Running) → turns code [] 0 s ≡ s
unfolding turns
turns-none code s = refl

journal-none : (code : List ℕ) (s : Running) → journal_from code [] 0 s ≡ []
unfolding journal_from
journal-none code s = refl

-- ---- the five words

movz-is : inst_of 0xD2800029 ≡ Some (Movz 9 0 1)
movz-is = inst_from_word (Movz 9 0 1) 0xD2800029 ((lit< tt, (lit< tt, (lit< tt, tt))), refl)

begin-is : inst_of 0xD4000021 ≡ Some (Svc 1)
begin-is = inst_from_word (Svc 1) 0xD4000021 ((lit< tt, tt), refl)

jump-is : inst_of 0x14000001 ≡ Some (B (pos 1))
jump-is = inst_from_word (B (pos 1)) 0x14000001 ((lit< tt, tt), refl)

end-is : inst_of 0xD4000041 ≡ Some (Svc 2)
end-is = inst_from_word (Svc 2) 0xD4000041 ((lit< tt, tt), refl)

halt-is : inst_of 0xD4000001 ≡ Some (Svc 0)
halt-is = inst_from_word (Svc 0) 0xD4000001 ((lit< tt, tt), refl)

-- ---- the run

abbrev s0 : Running
s0 = started one_jump []

abbrev s1 : Running
s1 = made_by s0 (Movz 9 0 1)

abbrev s2 : Running
s2 = made_by s1 (Svc 1)

abbrev s3 : Running
s3 = made_by s2 (B (pos 1))

abbrev s4 : Running
s4 = made_by s3 (Movz 9 0 1)

abbrev s5 : Running
s5 = made_by s4 (Svc 2)

abbrev entries : List Entry
entries = entry_by s0 (Movz 9 0 1) ∷ entry_by s1 (Svc 1) ∷ entry_by s2 (B (pos 1)) ∷ entry_by s3 (Movz 9 0 1) ∷ entry_by s4 (Svc 2) ∷ []

-- the first five, whatever comes behind them
journal-five : (n : ℕ) → journal_from one_jump.code [] n s5 ≡ [] → journal_from one_jump.code [] (suc (suc (suc (suc (suc n))))) s0 ≡ entries
journal-five n last =
    journal-goes one_jump.code (suc (suc (suc (suc n)))) s0 (Movz 9 0 1) refl movz-is refl
    ∙ ap (λ (js : List Entry). entry_by s0 (Movz 9 0 1) ∷ js) (journal-goes one_jump.code (suc (suc (suc n))) s1 (Svc 1) refl begin-is refl
    ∙ ap (λ (js : List Entry). entry_by s1 (Svc 1) ∷ js) (journal-goes one_jump.code (suc (suc n)) s2 (B (pos 1)) refl jump-is refl
    ∙ ap (λ (js : List Entry). entry_by s2 (B (pos 1)) ∷ js) (journal-goes one_jump.code (suc n) s3 (Movz 9 0 1) refl movz-is refl
    ∙ ap (λ (js : List Entry). entry_by s3 (Movz 9 0 1) ∷ js) (journal-goes one_jump.code n s4 (Svc 2) refl end-is refl
    ∙ ap (λ (js : List Entry). entry_by s4 (Svc 2) ∷ js) last))))

turns-five : (n : ℕ) → turns one_jump.code [] (suc (suc (suc (suc (suc n))))) s0 ≡ turns one_jump.code [] n s5
turns-five n =
    turns-go one_jump.code (suc (suc (suc (suc n)))) s0 (Movz 9 0 1) refl movz-is
    ∙ turns-go one_jump.code (suc (suc (suc n))) s1 (Svc 1) refl begin-is
    ∙ turns-go one_jump.code (suc (suc n)) s2 (B (pos 1)) refl jump-is
    ∙ turns-go one_jump.code (suc n) s3 (Movz 9 0 1) refl movz-is
    ∙ turns-go one_jump.code n s4 (Svc 2) refl end-is

journal-at-five : journal one_jump [] [] 5 ≡ entries
journal-at-five = journal-five 0 (journal-none one_jump.code s5)

journal-at-six : journal one_jump [] [] 6 ≡ entries
journal-at-six = journal-five 1 (journal-ends one_jump.code 0 s5 (Svc 0) Halted refl halt-is refl)

bare-at-five : bare one_jump [] [] 5 ≡ s5
bare-at-five = turns-five 0 ∙ turns-none one_jump.code s5

bare-at-six : bare one_jump [] [] 6 ≡ made_by s5 (Svc 0)
bare-at-six = turns-five 1 ∙ turns-go one_jump.code 0 s5 (Svc 0) refl halt-is ∙ turns-none one_jump.code (made_by s5 (Svc 0))

abbrev one_body : List ℕ → List ℕ → Body
one_body nonce digest = record {
  head = record { op = 1; nonce = nonce; digest = digest; hash = sha256 (window_head nonce 1 digest None); violation = None; serial = None };
  bits = [];
  targets = [];
}

shows : (nonce digest : List ℕ) (n : ℕ) → journal one_jump [] [] n ≡ entries → ShowsOneJump (one_jump_opening nonce digest) (one_jump_run nonce digest n)
unfolding measures
shows nonce digest n is = record {
  body = one_body nonce digest;
  sealed = rw is (rw is (rw is refl));
  hash = refl;
  violation = refl;
  path = rw is (rw is refl);
  returns = rw is (rw is refl);
  uses = rw is (rw is refl);
}

end-of : (nonce digest : List ℕ) (n : ℕ) (last : Running) → journal one_jump [] [] n ≡ entries → bare one_jump [] [] n ≡ last → (one_jump_run nonce digest n).end ≡ last.end
unfolding measures
end-of nonce digest n last is at = rw is (ap (λ (r : Running). r.end) at)

made-of : (nonce digest : List ℕ) (n : ℕ) (last : Running) → journal one_jump [] [] n ≡ entries → bare one_jump [] [] n ≡ last → (one_jump_run nonce digest n).running.made ≡ last.made
unfolding measures
made-of nonce digest n last is at = rw is (ap (λ (r : Running). r.made) at)

pub one_jump_is_measured : OneJumpIsMeasured
one_jump_is_measured nonce digest = record {
  at_five = shows nonce digest 5 journal-at-five;
  goes_on = end-of nonce digest 5 s5 journal-at-five bare-at-five;
  at_six = shows nonce digest 6 journal-at-six;
  halts = end-of nonce digest 6 (made_by s5 (Svc 0)) journal-at-six bare-at-six;
  made = made-of nonce digest 6 (made_by s5 (Svc 0)) journal-at-six bare-at-six;
}
