-- What follows from the outcome that a call set out for.
use Rattle.std.proofs.Common.{◌≡◌, ◌∙◌, ◌<◌, ◌⊎◌, ℕ, List, [], ◌∷◌, None, Contains, inl, inr, refl, ap, subst, arith, suc}
use Rattle.oat_page.proofs.Orders.{TellsFault}
use Rattle.oat_words.specs.Commands.{numbers_of, files_of}
use Rattle.oat_room_attest.specs.{Contents, fails, passes, Outcome, read_fault, Wanted, absent, faulted, long, LoadsFail}
use Rattle.oat_tool.specs.{Defined.SetsOut, Defined.done, Defined.other, Defined.Defined, DefinedLaws.IsOfWork, CallLaws.IsAbsentFirst, CallLaws.named, CallLaws.further}
use Rattle.oat_tool.proofs.Orderly.{orderly}

-- ---- loads that fail

-- A load fails whether or not a count rose, or the count rose and it is a read fault.
fails_defined : (contents : Contents) (rose : Type 0) (wanted : List Wanted) (o : Outcome) → LoadsFail contents rose wanted o
    → LoadsFail contents ⊥ wanted o ⊎ (rose × TellsFault o)
fails_defined contents rose [] o none = absurd none
fails_defined contents rose (wanted ∷ more) o (fails (absent none is)) = inl (fails (absent none is))
fails_defined contents rose (wanted ∷ more) o (fails (faulted rises is)) = inr (rises, (wanted.name, is))
fails_defined contents rose (wanted ∷ more) o (fails (long over is)) = inl (fails (long over is))
fails_defined contents rose (wanted ∷ more) o (passes file held later) = elim (fails_defined contents rose more o later) [
  | inl failed ↦ inl (passes file held failed)
  | inr fault ↦ inr fault
]

-- What was set out for is defined, or a count rose and it is a read fault.
pub SetsOut-defined : (words : List (List ℕ)) (contents : Contents) (rose : Type 0) (o : Outcome) → SetsOut words contents rose o
    → Defined words contents o ⊎ (rose × TellsFault o)
SetsOut-defined words contents rose o (other none is) = inl (other none is)
SetsOut-defined words contents rose o (done command asked (passes files held does)) =
    elim ((orderly command (numbers_of words command)).settles contents rose files o does) [
      | inl defined ↦ inl (done command asked (passes files held defined))
      | inr fault ↦ inr fault
    ]
SetsOut-defined words contents rose o (done command asked (fails failed)) =
    elim (fails_defined contents rose (files_of words command) o failed) [
      | inl defined ↦ inl (done command asked (fails defined))
      | inr fault ↦ inr fault
    ]

-- ---- statuses and what is put on `out`

fails_quiet : (contents : Contents) (wanted : List Wanted) (o : Outcome) → LoadsFail contents ⊥ wanted o → o.out ≡ []
fails_quiet contents [] o none = absurd none
fails_quiet contents (wanted ∷ more) o (fails (absent none is)) = ap (λ (x : Outcome). x.out) is
fails_quiet contents (wanted ∷ more) o (fails (faulted none is)) = absurd none
fails_quiet contents (wanted ∷ more) o (fails (long over is)) = ap (λ (x : Outcome). x.out) is
fails_quiet contents (wanted ∷ more) o (passes file held later) = fails_quiet contents more o later

-- A read fault is one of these files', which isn't held.
record IsFaultOf (contents : Contents) (wanted : List Wanted) (o : Outcome) : Type 0 where
  file : Wanted
  among : Contains wanted file
  absent_there : contents file.name ≡ None
  told : o ≡ read_fault file.name

fault_behind : (contents : Contents) (wanted : Wanted) (more : List Wanted) (o : Outcome) → IsFaultOf contents more o → IsFaultOf contents (wanted ∷ more) o
fault_behind contents wanted more o fault = record {
  file = fault.file;
  among = (suc fault.among.0, omega (arith, fault.among.1), fault.among.2);
  absent_there = fault.absent_there;
  told = fault.told;
}

fails_fault : (contents : Contents) (wanted : List Wanted) (o : Outcome) → LoadsFail contents ⊥ wanted o → o.status ≡ 4 → IsFaultOf contents wanted o
fails_fault contents [] o none four = absurd none
fails_fault contents (wanted ∷ more) o (fails (absent none is)) four = record { file = wanted; among = (0, omega arith, refl); absent_there = none; told = is }
fails_fault contents (wanted ∷ more) o (fails (faulted none is)) four = absurd none
fails_fault contents (wanted ∷ more) o (fails (long over is)) four = absurd (omega (arith, four, ap (λ (x : Outcome). x.status) is))
fails_fault contents (wanted ∷ more) o (passes file held later) four = fault_behind contents wanted more o (fails_fault contents more o later four)

pub Defined-quiet : (words : List (List ℕ)) (contents : Contents) (o : Outcome) → Defined words contents o
    → 1 < o.status → o.status < 5 → o.out ≡ []
Defined-quiet words contents o (other none is) above below = ap (λ (x : Outcome). x.out) is
Defined-quiet words contents o (done command asked (fails failed)) above below = fails_quiet contents (files_of words command) o failed
Defined-quiet words contents o (done command asked (passes files held does)) above below =
    (orderly command (numbers_of words command)).quiet contents files o does above below

pub Defined-fault : (words : List (List ℕ)) (contents : Contents) (o : Outcome) → Defined words contents o → o.status ≡ 4
    → IsAbsentFirst words contents
Defined-fault words contents o (other none is) four = absurd (omega (arith, four, ap (λ (x : Outcome). x.status) is))
Defined-fault words contents o (done command asked (fails failed)) four =
    let fault = fails_fault contents (files_of words command) o failed four in
    record {
      command = command;
      asked = asked;
      wanted = fault.file;
      among = named fault.among;
      absent = fault.absent_there;
      first = subst (λ (x : Outcome). Defined words contents x) fault.told (done command asked (fails failed));
    }
Defined-fault words contents o (done command asked (passes files held does)) four =
    let fault = (orderly command (numbers_of words command)).faults contents files o does four in
    record {
      command = command;
      asked = asked;
      wanted = fault.wanted;
      among = further files held fault.further;
      absent = fault.absent;
      first = subst (λ (x : Outcome). Defined words contents x) fault.is (done command asked (passes files held does));
    }

refused_is_no_work : (number status : ℕ) → status ≡ number → 1 < number → number < 7 → IsOfWork status → ⊥
refused_is_no_work number status is above below (inl zeroth) = omega (arith, is, above, zeroth)
refused_is_no_work number status is above below (inr (inl first)) = omega (arith, is, above, first)
refused_is_no_work number status is above below (inr (inr seven)) = omega (arith, is, below, seven)

-- A load that fails gives no status of work.
pub failed_is_no_work : (contents : Contents) (wanted : List Wanted) (o : Outcome) → LoadsFail contents ⊥ wanted o
    → (status : ℕ) → status ≡ o.status → IsOfWork status → ⊥
failed_is_no_work contents [] o none status same work = none
failed_is_no_work contents (wanted ∷ more) o (fails (absent none is)) status same work =
    refused_is_no_work 4 status (same ∙ ap (λ (x : Outcome). x.status) is) (omega arith) (omega arith) work
failed_is_no_work contents (wanted ∷ more) o (fails (faulted none is)) status same work = none
failed_is_no_work contents (wanted ∷ more) o (fails (long over is)) status same work =
    refused_is_no_work 2 status (same ∙ ap (λ (x : Outcome). x.status) is) (omega arith) (omega arith) work
failed_is_no_work contents (wanted ∷ more) o (passes file held later) status same work =
    failed_is_no_work contents more o later status same work

-- A status of work isn't that of a refusal.
pub work_is_done : (status : ℕ) → IsOfWork status → status ≡ 2 → ⊥
work_is_done status work two = refused_is_no_work 2 status two (omega arith) (omega arith) work
