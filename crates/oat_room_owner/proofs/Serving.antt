-- The outcomes of `owner` are orderly: a count that rose gives a read fault and nothing else new, refusals are quiet, and a read fault
-- is that of a device's image.
use Rattle.std.proofs.Common.{◌≡◌, ◌∙◌, ◌<◌, ◌⊎◌, ℕ, suc, List, [], ◌∷◌, Contains, inl, inr, refl, sym, ap, subst, arith}
use Rattle.oat_owner.specs.{declared.device.Known.Known, declared.call.OwnerCall.OwnerCall}
use Rattle.oat_script.specs.declared.script.ScriptDevice.{ScriptDevice}
use Rattle.oat_page.proofs.Orders.{TellsFault, IsFurtherFault, IsOrderly, no_fault}
use Rattle.oat_shown.specs.{Contents, fails, passes, Outcome, says, read_fault, Answer, refuses, as_outcome, IsAnswered, Wanted, File, LoadFails, LoadsFail, absent, faulted, long}
use Rattle.oat_room_owner.specs.Owner.{RefusesScript, image_file, EnrolmentFails, EnrolmentsFail, RepliesTo, to_all, to_some, Serves, NamesImage}
use Rattle.oat_room_owner.proofs.Enrolling.{EnrolmentFails-more}

-- ---- enrolments

enrolments_grow : (contents : Contents) (rose more : Type 0) (devices : List ScriptDevice) (o : Outcome) → (rose → more)
    → EnrolmentsFail contents rose devices o → EnrolmentsFail contents more devices o
enrolments_grow contents rose more [] o rises failed = failed
enrolments_grow contents rose more (device ∷ devices) o rises (fails failed) = fails (EnrolmentFails-more contents rose more device o rises failed)
enrolments_grow contents rose more (device ∷ devices) o rises (passes known enrolled later) = passes known enrolled (enrolments_grow contents rose more devices o rises later)

enrolment_settles : (contents : Contents) (rose : Type 0) (device : ScriptDevice) (o : Outcome) → EnrolmentFails contents rose device o
    → EnrolmentFails contents ⊥ device o ⊎ (rose × TellsFault o)
enrolment_settles contents rose device o (fails (absent none is)) = inl (fails (absent none is))
enrolment_settles contents rose device o (fails (faulted rises is)) = inr (rises, (device.file, is))
enrolment_settles contents rose device o (fails (long over is)) = inl (fails (long over is))
enrolment_settles contents rose device o (passes file loaded rest) = inl (passes file loaded rest)

enrolments_settle : (contents : Contents) (rose : Type 0) (devices : List ScriptDevice) (o : Outcome) → EnrolmentsFail contents rose devices o
    → EnrolmentsFail contents ⊥ devices o ⊎ (rose × TellsFault o)
enrolments_settle contents rose [] o none = absurd none
enrolments_settle contents rose (device ∷ devices) o (fails failed) = elim (enrolment_settles contents rose device o failed) [
  | inl defined ↦ inl (fails defined)
  | inr fault ↦ inr fault
]
enrolments_settle contents rose (device ∷ devices) o (passes known enrolled later) = elim (enrolments_settle contents rose devices o later) [
  | inl defined ↦ inl (passes known enrolled defined)
  | inr fault ↦ inr fault
]

-- nothing is put, and the status is that of a refusal or of a read fault
pub record IsSilent (o : Outcome) : Type 0 where
  pub nothing : o.out ≡ []
  pub status : (o.status ≡ 2) ⊎ (o.status ≡ 4)

silent : (o p : Outcome) → o ≡ p → IsSilent p → IsSilent o
silent o p same is = subst IsSilent (sym same) is

says_two : (o : Outcome) (text : List ℕ) → o ≡ says 2 text → IsSilent o
says_two o text is = silent o (says 2 text) is (record { nothing = refl; status = inl refl })

refused_silent : (o : Outcome) (a : Answer) (text : List ℕ) → o ≡ as_outcome a → a ≡ refuses text → IsSilent o
refused_silent o a text is told = says_two o text (is ∙ ap as_outcome told)

load_silent : (contents : Contents) (wanted : Wanted) (o : Outcome) → LoadFails contents ⊥ wanted o → IsSilent o
load_silent contents wanted o (absent none is) = silent o (read_fault wanted.name) is (record { nothing = refl; status = inr refl })
load_silent contents wanted o (faulted none is) = absurd none
load_silent contents wanted o (long over is) = says_two o _ is

pub loads_silent : (contents : Contents) (wanted : List Wanted) (o : Outcome) → LoadsFail contents ⊥ wanted o → IsSilent o
loads_silent contents [] o none = absurd none
loads_silent contents (wanted ∷ more) o (fails failed) = load_silent contents wanted o failed
loads_silent contents (wanted ∷ more) o (passes file held later) = loads_silent contents more o later

pub script_silent : (file : File) (o : Outcome) → IsAnswered (RefusesScript file) o → IsSilent o
script_silent file o refused = refused_silent o refused.answer _ refused.is refused.given.told

pub enrolments_silent : (contents : Contents) (devices : List ScriptDevice) (o : Outcome) → EnrolmentsFail contents ⊥ devices o → IsSilent o
enrolments_silent contents [] o none = absurd none
enrolments_silent contents (device ∷ devices) o (fails (fails failed)) = load_silent contents (image_file device) o failed
enrolments_silent contents (device ∷ devices) o (fails (passes file loaded (fails refused))) = refused_silent o refused.answer _ refused.is refused.given.told
enrolments_silent contents (device ∷ devices) o (fails (passes file loaded (passes image read refused))) = refused_silent o refused.answer _ refused.is refused.given.told
enrolments_silent contents (device ∷ devices) o (passes known enrolled later) = enrolments_silent contents devices o later

-- one of these devices
abbrev IsImageOf : List ScriptDevice → Wanted → Type 0
IsImageOf devices wanted = (device : ScriptDevice) × Contains devices device × (wanted ≡ image_file device)

later_fault : (contents : Contents) (device : ScriptDevice) (devices : List ScriptDevice) (o : Outcome) → IsFurtherFault contents (IsImageOf devices) o
    → IsFurtherFault contents (IsImageOf (device ∷ devices)) o
later_fault contents device devices o fault =
    let among = fault.further.1 in
    record {
      wanted = fault.wanted;
      further = (fault.further.0, (suc among.0, omega (arith, among.1), among.2), fault.further.2);
      absent = fault.absent;
      is = fault.is;
    }

enrolments_fault : (contents : Contents) (devices : List ScriptDevice) (o : Outcome) → EnrolmentsFail contents ⊥ devices o → o.status ≡ 4
    → IsFurtherFault contents (IsImageOf devices) o
enrolments_fault contents [] o none four = absurd none
enrolments_fault contents (device ∷ devices) o (fails (fails (absent none is))) four =
    record { wanted = image_file device; further = (device, (0, omega arith, refl), refl); absent = none; is = is }
enrolments_fault contents (device ∷ devices) o (fails (fails (faulted none is))) four = absurd none
enrolments_fault contents (device ∷ devices) o (fails (fails (long over is))) four = absurd (omega (arith, four, ap (λ (x : Outcome). x.status) is))
enrolments_fault contents (device ∷ devices) o (fails (passes file loaded (fails refused))) four = absurd (no_fault refused.answer o refused.is four)
enrolments_fault contents (device ∷ devices) o (fails (passes file loaded (passes image read refused))) four = absurd (no_fault refused.answer o refused.is four)
enrolments_fault contents (device ∷ devices) o (passes known enrolled later) four = later_fault contents device devices o (enrolments_fault contents devices o later four)

-- ---- replies

replies_quiet : (known : List Known) (calls : List OwnerCall) (o : Outcome) → RepliesTo known calls o → 1 < o.status → o.status < 5 → ⊥
replies_quiet known calls o (to_all exchanges are all is) above below = omega (arith, above, ap (λ (x : Outcome). x.status) is)
replies_quiet known calls o (to_some exchanges are later parted is) above below = omega (arith, below, ap (λ (x : Outcome). x.status) is)

-- ---- the command

grows : (contents : Contents) (rose more : Type 0) (files : List File) (o : Outcome) → (rose → more) → Serves contents rose files o → Serves contents more files o
grows contents rose more [] o rises none = absurd none
grows contents rose more (file ∷ []) o rises (fails refused) = fails refused
grows contents rose more (file ∷ []) o rises (passes script read (fails failed)) = passes script read (fails (enrolments_grow contents rose more script.devices o rises failed))
grows contents rose more (file ∷ []) o rises (passes script read (passes known enrolled replies)) = passes script read (passes known enrolled replies)
grows contents rose more (file ∷ other ∷ files) o rises none = absurd none

settles : (contents : Contents) (rose : Type 0) (files : List File) (o : Outcome) → Serves contents rose files o → Serves contents ⊥ files o ⊎ (rose × TellsFault o)
settles contents rose [] o none = absurd none
settles contents rose (file ∷ []) o (fails refused) = inl (fails refused)
settles contents rose (file ∷ []) o (passes script read (fails failed)) = elim (enrolments_settle contents rose script.devices o failed) [
  | inl defined ↦ inl (passes script read (fails defined))
  | inr fault ↦ inr fault
]
settles contents rose (file ∷ []) o (passes script read (passes known enrolled replies)) = inl (passes script read (passes known enrolled replies))
settles contents rose (file ∷ other ∷ files) o none = absurd none

quiet : (contents : Contents) (files : List File) (o : Outcome) → Serves contents ⊥ files o → 1 < o.status → o.status < 5 → o.out ≡ []
quiet contents [] o none above below = absurd none
quiet contents (file ∷ []) o (fails refused) above below = (script_silent file o refused).nothing
quiet contents (file ∷ []) o (passes script read (fails failed)) above below = (enrolments_silent contents script.devices o failed).nothing
quiet contents (file ∷ []) o (passes script read (passes known enrolled replies)) above below = absurd (replies_quiet known script.calls o replies above below)
quiet contents (file ∷ other ∷ files) o none above below = absurd none

faults : (contents : Contents) (files : List File) (o : Outcome) → Serves contents ⊥ files o → o.status ≡ 4 → IsFurtherFault contents (NamesImage files) o
faults contents [] o none four = absurd none
faults contents (file ∷ []) o (fails refused) four = absurd (no_fault refused.answer o refused.is four)
faults contents (file ∷ []) o (passes script read (fails failed)) four =
    let fault = enrolments_fault contents script.devices o failed four in
    record {
      wanted = fault.wanted;
      further = record { script = script; read = read; device = fault.further.0; among = fault.further.1; is = fault.further.2 };
      absent = fault.absent;
      is = fault.is;
    }
faults contents (file ∷ []) o (passes script read (passes known enrolled replies)) four =
    absurd (replies_quiet known script.calls o replies (omega (arith, four)) (omega (arith, four)))
faults contents (file ∷ other ∷ files) o none four = absurd none

pub serving_is_orderly : IsOrderly (λ contents rose files. Serves contents rose files) NamesImage
serving_is_orderly = record { grows = grows; settles = settles; quiet = quiet; faults = faults }
