-- What follows for the caller from what a call shows.
use Rattle.std.proofs.Common.{◌≡◌, ◌∙◌, ◌<◌, ◌⊎◌, ℕ, List, [], ◌∷◌, ◌++◌, Option, inl, inr, refl, sym, ap, subst, append_assoc, arith}
use Rattle.std.proofs.lemmas.List.{append-nil}
use Rattle.oat_page.proofs.Putting.{Adds-none}
use Rattle.oat_room_attest.specs.{Contents, Rose, Adds, Outcome, IsPrefix, Put, HasFailed, OrStarved, ended, at_once, behind, IsLeft, whole, cut, cut_said, starved_said, Shows, PutsFront}
use Rattle.oat_tool.specs.{Defined.SetsOut, Defined.Defined, DefinedLaws.IsOfWork, CallLaws.ShowsJust, CallLaws.ShowsDefined, CallLaws.WholeIsPut, CallLaws.DefinedIsShown, CallLaws.TheDefinedIsShown}
use Rattle.oat_tool.specs.{CallLaws.FrontIsPut, CallLaws.RefusalsAreQuiet, CallLaws.ReadFaultsAreTold}
use Rattle.oat_tool.proofs.Setting.{SetsOut-defined, Defined-quiet, Defined-fault}

-- ---- what was put, told at once

-- The outcome that was set out for was shown, or the call was cut or memory was wanting.
pub data Turns (ending : Outcome → Type 0) (out err : Put) (status : ℕ) : Type 0 where
  shown : (o : Outcome) → ending o → ShowsJust o out err status → Turns ending out err status
  cut_short : HasFailed out ⊎ HasFailed err → status ≡ 5 → Turns ending out err status
  wanting : status ≡ 6 → Turns ending out err status

turns_of : (ending : Outcome → Type 0) (out err : Put) (status : ℕ) (put said : List ℕ) → Adds out.held put out.holds → Adds err.held said err.holds
    → IsLeft (OrStarved ending) (HasFailed out) (HasFailed err) status put said → Turns ending out err status
turns_of ending out err status put said added added' (whole o (ended meant) same a b) = shown o meant (record {
  same_status = same;
  out_added = subst (λ (x : List ℕ). Adds out.held x out.holds) a added;
  err_added = subst (λ (x : List ℕ). Adds err.held x err.holds) b added';
})
turns_of ending out err status put said added added' (whole o (at_once is) same a b) = wanting (same ∙ ap (λ (x : Outcome). x.status) is)
turns_of ending out err status put said added added' (whole o (behind all meant front six e) same a b) = wanting (same ∙ six)
turns_of ending out err status put said added added' (cut o meant rose five a b) = cut_short (inl rose) five
turns_of ending out err status put said added added' (cut_said o meant rose five a b) = cut_short (inr rose) five
turns_of ending out err status put said added added' (starved_said o meant six a b) = wanting six

pub Shows-turns : (ending : Outcome → Type 0) (out err : Put) (status : ℕ) → Shows ending out err status → Turns ending out err status
Shows-turns ending out err status shows = turns_of ending out err status shows.put shows.said shows.out_added shows.err_added shows.stands

-- ---- what is shown, and is defined

defined_shown : (words : List (List ℕ)) (contents : Contents) (rose : Type 0) (out err : Put) (status : ℕ) (o : Outcome)
    → SetsOut words contents rose o → ShowsJust o out err status → (rose → status ≡ 4 → ⊥) → ShowsDefined words contents out err status
defined_shown words contents rose out err status o sets just no_fault = elim (SetsOut-defined words contents rose o sets) [
  | inl defined ↦ record { outcome = o; is_defined = defined; shown = just }
  | inr fault ↦ absurd (no_fault fault.0 (just.same_status ∙ ap (λ (x : Outcome). x.status) fault.1.1))
]

pub defined_is_shown : DefinedIsShown
defined_is_shown words contents files out err status told ran no_fault no_out no_err =
    elim (Shows-turns (SetsOut words contents (Rose files.before files.after)) out err status (ran contents told)) [
      | shown o sets just ↦ inr (defined_shown words contents (Rose files.before files.after) out err status o sets just (λ rises four. no_fault rises))
      | cut_short (inl rises) five ↦ absurd (no_out rises)
      | cut_short (inr rises) five ↦ absurd (no_err rises)
      | wanting six ↦ inl six
    ]

pub the_defined_is_shown : TheDefinedIsShown
the_defined_is_shown words contents files out err status told ran one o does no_fault no_out no_err =
    elim (defined_is_shown words contents files out err status told ran no_fault no_out no_err) [
      | inl six ↦ inl six
      | inr all ↦ inr (subst (λ (p : Outcome). ShowsJust p out err status) (one all.outcome o all.is_defined does) all.shown)
    ]

not_work : (status : ℕ) → IsOfWork status → 3 < status → status < 7 → ⊥
not_work status (inl zeroth) above below = omega (arith, zeroth, above)
not_work status (inr (inl first)) above below = omega (arith, first, above)
not_work status (inr (inr seven)) above below = omega (arith, seven, below)

pub whole_is_put : WholeIsPut
whole_is_put words contents files out err status told ran work =
    elim (Shows-turns (SetsOut words contents (Rose files.before files.after)) out err status (ran contents told)) [
      | shown o sets just ↦ defined_shown words contents (Rose files.before files.after) out err status o sets just
          (λ rises four. not_work status work (omega (arith, four)) (omega (arith, four)))
      | cut_short either five ↦ absurd (not_work status work (omega (arith, five)) (omega (arith, five)))
      | wanting six ↦ absurd (not_work status work (omega (arith, six)) (omega (arith, six)))
    ]

pub refusals_are_quiet : RefusalsAreQuiet
refusals_are_quiet words contents files out err status told ran above below =
    elim (Shows-turns (SetsOut words contents (Rose files.before files.after)) out err status (ran contents told)) [
      | shown o sets just ↦ elim (SetsOut-defined words contents (Rose files.before files.after) o sets) [
        | inl defined ↦ Adds-none o.out out.held out.holds
            (Defined-quiet words contents o defined (omega (arith, just.same_status, above)) (omega (arith, just.same_status, below))) just.out_added
        | inr fault ↦ Adds-none o.out out.held out.holds (ap (λ (x : Outcome). x.out) fault.1.1) just.out_added
      ]
      | cut_short either five ↦ absurd (omega (arith, five, below))
      | wanting six ↦ absurd (omega (arith, six, below))
    ]

pub read_faults_are_told : ReadFaultsAreTold
read_faults_are_told words contents files out err status told ran four =
    elim (Shows-turns (SetsOut words contents (Rose files.before files.after)) out err status (ran contents told)) [
      | shown o sets just ↦ elim (SetsOut-defined words contents (Rose files.before files.after) o sets) [
        | inl defined ↦ inr (Defined-fault words contents o defined (sym just.same_status ∙ four))
        | inr fault ↦ inl fault.0
      ]
      | cut_short either five ↦ absurd (omega (arith, five, four))
      | wanting six ↦ absurd (omega (arith, six, four))
    ]

-- ---- a front of a defined text

IsPrefix-whole : (text longer : List ℕ) → text ≡ longer → IsPrefix text longer
IsPrefix-whole text longer same = ([], sym same ∙ sym (append-nil text))

IsPrefix-more : (first second third : List ℕ) → IsPrefix first second → IsPrefix second third → IsPrefix first third
IsPrefix-more first second third (rest, same) (rest', same') =
    (rest ++ rest', same' ∙ (ap (λ x. x ++ rest') same ∙ append_assoc first rest rest'))

IsPrefix-nothing : (text longer : List ℕ) → IsPrefix text longer → longer ≡ [] → text ≡ []
IsPrefix-nothing [] longer front none = refl
IsPrefix-nothing (x ∷ text) longer (rest, same) none = let e : [] ≡ x ∷ (text ++ rest) = sym none ∙ same in cc

-- a front of no text
pub nothing_put : (text : List ℕ) (old new : Option (List ℕ)) → text ≡ [] → PutsFront text old new → new ≡ old
nothing_put text old new none (front, begins, added) = Adds-none front old new (IsPrefix-nothing front text begins none) added

-- what was put is a front of an outcome's text, or nothing
front_of : (ending : Outcome → Type 0) (out_failed err_failed : Type 0) (status : ℕ) (put said : List ℕ)
    → IsLeft (OrStarved ending) out_failed err_failed status put said → (put ≡ []) ⊎ ((o : Outcome) × ending o × IsPrefix put o.out)
front_of ending a b status put said (whole o (ended meant) s same e) = inr (o, meant, IsPrefix-whole put o.out same)
front_of ending a b status put said (whole o (at_once is) s same e) = inl (same ∙ ap (λ (x : Outcome). x.out) is)
front_of ending a b status put said (whole o (behind all meant front six w) s same e) =
    inr (all, meant, IsPrefix-more put o.out all.out (IsPrefix-whole put o.out same) front)
front_of ending a b status put said (cut o (ended meant) rose five front e) = inr (o, meant, front)
front_of ending a b status put said (cut o (at_once is) rose five front e) =
    inl (IsPrefix-nothing put o.out front (ap (λ (x : Outcome). x.out) is))
front_of ending a b status put said (cut o (behind all meant further six w) rose five front e) =
    inr (all, meant, IsPrefix-more put o.out all.out front further)
front_of ending a b status put said (cut_said o (ended meant) rose five same e) = inr (o, meant, IsPrefix-whole put o.out same)
front_of ending a b status put said (cut_said o (at_once is) rose five same e) = inl (same ∙ ap (λ (x : Outcome). x.out) is)
front_of ending a b status put said (cut_said o (behind all meant front six w) rose five same e) =
    inr (all, meant, IsPrefix-more put o.out all.out (IsPrefix-whole put o.out same) front)
front_of ending a b status put said (starved_said o (ended meant) five same e) = inr (o, meant, IsPrefix-whole put o.out same)
front_of ending a b status put said (starved_said o (at_once is) five same e) = inl (same ∙ ap (λ (x : Outcome). x.out) is)
front_of ending a b status put said (starved_said o (behind all meant front six w) five same e) =
    inr (all, meant, IsPrefix-more put o.out all.out (IsPrefix-whole put o.out same) front)

front_put : (words : List (List ℕ)) (contents : Contents) (rose : Type 0) (put : List ℕ) (old new : Option (List ℕ)) → Adds old put new
    → (put ≡ []) ⊎ ((o : Outcome) × SetsOut words contents rose o × IsPrefix put o.out)
    → (new ≡ old) ⊎ ((o : Outcome) × Defined words contents o × PutsFront o.out old new)
front_put words contents rose put old new added (inl none) = inl (Adds-none put old new none added)
front_put words contents rose put old new added (inr (o, sets, front)) = elim (SetsOut-defined words contents rose o sets) [
  | inl defined ↦ inr (o, defined, (put, front, added))
  | inr fault ↦ inl (Adds-none put old new (IsPrefix-nothing put o.out front (ap (λ (x : Outcome). x.out) fault.1.1)) added)
]

pub front_is_put : FrontIsPut
front_is_put words contents files out err status told ran =
    let shows = ran contents told in
    front_put words contents (Rose files.before files.after) shows.put out.held out.holds shows.out_added
    (front_of (SetsOut words contents (Rose files.before files.after)) (HasFailed out) (HasFailed err) status shows.put shows.said shows.stands)
