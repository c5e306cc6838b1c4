-- The journal is linked, whatever was written.
use Rattle.std.proofs.Common.{◌≡◌, ℕ, zero, suc, Bool, true, false, not, IsTrue, List, Option, Some, None, slice_get, refl, sym, ap, ◌∙◌, add-one}
use Rattle.oat_case.specs.declared.case.Write.{Write}
use Rattle.oat_measure.specs.{Regs, Machine, act, instruction_at}
use Rattle.oat_journal.specs.{Run.Running, Run.Entry, Run.started, Run.found, Run.makes, Run.turn, Run.entry, Run.from_entry, Run.journal_from, Journal.takes_input, Journal.IsMade}
use Rattle.oat_journal.specs.{Journal.JournalIsMade, Journal.JournalIsLinked}
use Rattle.oat_journal.proofs.Turns.{EntryIs, entry-is, turn-is, makes-machine, makes-input}

-- ---- an entry by its turn

-- the turn that an entry of a journal is made in
pub record MadeIn (code : List ℕ) (writes : List Write) (e : Entry) : Type 0 where
  pub at : Running
  pub is : EntryIs code writes at e

made-in-from : (code : List ℕ) (writes : List Write) (s : Running) (others : List Entry) (o : Option Entry) → entry code writes s ≡ o
    → ((k : ℕ) (e : Entry) → slice_get others k ≡ Some e → MadeIn code writes e)
    → (k : ℕ) (e : Entry) → slice_get (from_entry o others) k ≡ Some e → MadeIn code writes e
made-in-from code writes s others None was rest k e h = absurd (cc)
made-in-from code writes s others (Some first) was rest zero e h = record { at = s; is = entry-is code writes s e (was ∙ h) }
made-in-from code writes s others (Some first) was rest (suc k) e h = rest k e h

pub made-in : (code : List ℕ) (writes : List Write) (n : ℕ) (s : Running) (k : ℕ) (e : Entry) → slice_get (journal_from code writes n s) k ≡ Some e → MadeIn code writes e
unfolding journal_from
made-in code writes zero s k e h = absurd (cc)
made-in code writes (suc n) s k e h =
    made-in-from code writes s (journal_from code writes n (turn code writes s)) (entry code writes s) refl (made-in code writes n (turn code writes s)) k e h

-- ---- made

from-not : (t : Bool) → IsTrue (not t) → t ≡ false
from-not true h = absurd (cc)
from-not false h = refl

from-test : (t : Bool) → IsTrue t → t ≡ true
from-test true h = refl
from-test false h = absurd (cc)

is-made : (code : List ℕ) (writes : List Write) (e : Entry) → MadeIn code writes e → IsMade code e
is-made code writes e w =
    let s = w.at in
    let made : turn code writes s ≡ makes s (act e.inst (found writes s)) = turn-is code writes s e.inst w.is.going w.is.fetched in
    let same : found writes s ≡ e.found = sym w.is.found in
    let next : turn code writes s ≡ makes s (act e.inst e.found) = made ∙ ap (λ (m : Machine). makes s (act e.inst m)) same in
    let left : e.left ≡ (makes s (act e.inst e.found)).machine.regs = w.is.left ∙ ap (λ (r : Running). r.machine.regs) next in
    let on : (makes s (act e.inst e.found)).end ≡ None = sym (ap (λ (r : Running). r.end) next) ∙ w.is.goes_on in
    record {
      fetched = ap (λ (m : Machine). instruction_at code m.regs.pc) w.is.found ∙ w.is.fetched;
      steps = λ no. left ∙ ap (λ (m : Machine). m.regs) (makes-machine s e.found e.inst (from-not (takes_input e.inst) no));
      takes = λ yes.
          let input = makes-input s e.found e.inst (from-test (takes_input e.inst) yes) on in
          (input.0, left ∙ ap (λ (m : Machine). m.regs) input.1);
    }

pub journal_is_made : JournalIsMade
journal_is_made image inputs writes n k e h = is-made image.code writes e (made-in image.code writes n (started image inputs) k e h)

-- ---- linked

first-from : (code : List ℕ) (writes : List Write) (s : Running) (others : List Entry) (o : Option Entry) (e : Entry) → entry code writes s ≡ o → slice_get (from_entry o others) zero ≡ Some e → e.found.regs ≡ s.machine.regs
first-from code writes s others None e was h = absurd (cc)
first-from code writes s others (Some first) e was h = ap (λ (m : Machine). m.regs) (entry-is code writes s e (was ∙ h)).found

first-found : (code : List ℕ) (writes : List Write) (n : ℕ) (s : Running) (e : Entry) → slice_get (journal_from code writes n s) zero ≡ Some e → e.found.regs ≡ s.machine.regs
unfolding journal_from
first-found code writes zero s e h = absurd (cc)
first-found code writes (suc n) s e h = first-from code writes s (journal_from code writes n (turn code writes s)) (entry code writes s) e refl h

abbrev LinkedIn : List Entry → Type 0
LinkedIn js = (k : ℕ) (e next : Entry) → slice_get js k ≡ Some e → slice_get js (suc k) ≡ Some next → next.found.regs ≡ e.left

linked-from : (code : List ℕ) (writes : List Write) (s : Running) (n : ℕ) (o : Option Entry) → entry code writes s ≡ o
    → LinkedIn (journal_from code writes n (turn code writes s)) → LinkedIn (from_entry o (journal_from code writes n (turn code writes s)))
linked-from code writes s n None was rest k e next h g = absurd (cc)
linked-from code writes s n (Some first) was rest zero e next h g =
    first-found code writes n (turn code writes s) next g ∙ sym (entry-is code writes s e (was ∙ h)).left
linked-from code writes s n (Some first) was rest (suc k) e next h g = rest k e next h g

linked : (code : List ℕ) (writes : List Write) (n : ℕ) (s : Running) → LinkedIn (journal_from code writes n s)
unfolding journal_from
linked code writes zero s k e next h g = absurd (cc)
linked code writes (suc n) s k e next h g = linked-from code writes s n (entry code writes s) refl (linked code writes n (turn code writes s)) k e next h g

pub journal_is_linked : JournalIsLinked
journal_is_linked image inputs writes n k e next h g =
    let q : next.found.regs ≡ e.left = linked image.code writes n (started image inputs) k e next h (rw add-one at g) in
    record { registers = q; place = ap (λ (r : Regs). r.pc) q }
