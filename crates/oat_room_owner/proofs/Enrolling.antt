-- How devices that are enrolled one after another are known, and where the first that isn't stops them.
use Rattle.std.proofs.Common.{◌≡◌, ◌∙◌, ◌<◌, ◌+◌, ℕ, List, [], ◌∷◌, ◌++◌, length, map, take, drop, get_or, refl, sym, ap, subst}
use Rattle.std.proofs.lemmas.List.{drop_more, take_more, take-append-drop, map-append}
use Rattle.oat_owner.specs.{declared.device.Known.Known, Ledger.ids_of}
use Rattle.oat_script.specs.declared.script.ScriptDevice.{ScriptDevice}
use Rattle.oat_page.proofs.Holding.{LoadFails-more}
use Rattle.oat_inputs.specs.Refusals.{RefusesImage, RefusesShape}
use Rattle.oat_shown.specs.{Contents, fails, passes, Image, IsImageText, Halt, Stop, Outcome, Answer, refuses, as_outcome, IsAnswered, File, IsLoaded, StopsWith, HaltsWith, halt_of, IsReadFault}
use Rattle.oat_shown.specs.{IsHaltOutcome}
use Rattle.oat_room_owner.specs.Owner.{image_file, IsEnrolled, EnrolmentFails, AreEnrolled, EnrolmentsFail}
use Rattle.oat_page.specs.declared.page.Halt.TheVariants as halt
use Rattle.oat_page.specs.declared.page.Stop.TheVariants as stop

-- ---- stops that halt

-- A stop that refuses so halts so.
pub stop_halts : (P : Answer → Type 0) (Q : Outcome → Type 0) (s : Stop) → ((o : Outcome) → IsAnswered P o → Q o) → StopsWith P s → HaltsWith Q (halt_of s)
stop_halts P Q (stop.Refused text) more stops = more (as_outcome (refuses text.items)) (record { answer = refuses text.items; given = stops; is = refl })
stop_halts P Q stop.Starved more stops = tt

pub stop_is_no_fault : (s : Stop) → IsReadFault (halt_of s) → ⊥
stop_is_no_fault (stop.Refused text) is = is
stop_is_no_fault stop.Starved is = is

-- What was halted with has the outcome of the halt.
pub halts_so : (Q : Outcome → Type 0) (h : Halt) (o : Outcome) → HaltsWith Q h → IsHaltOutcome h o → Q o
halts_so Q (halt.ReadFault text) o halts is = subst Q (sym is) halts
halts_so Q (halt.Refused text) o halts is = subst Q (sym is) halts
halts_so Q halt.Starved o halts is = absurd is

-- ---- one device

pub image_stops : (contents : Contents) (rose : Type 0) (device : ScriptDevice) (file : File) (s : Stop) → IsLoaded contents (image_file device) file
    → StopsWith (RefusesImage file) s → HaltsWith (EnrolmentFails contents rose device) (halt_of s)
image_stops contents rose device file s loaded stops =
    stop_halts (RefusesImage file) (EnrolmentFails contents rose device) s (λ o refused. passes file loaded (fails refused)) stops

pub shape_stops : (contents : Contents) (rose : Type 0) (device : ScriptDevice) (file : File) (image : Image) (s : Stop) → IsLoaded contents (image_file device) file
    → IsImageText file.text image → StopsWith (RefusesShape file image) s → HaltsWith (EnrolmentFails contents rose device) (halt_of s)
shape_stops contents rose device file image s loaded read stops =
    stop_halts (RefusesShape file image) (EnrolmentFails contents rose device) s (λ o refused. passes file loaded (passes image read refused)) stops

pub EnrolmentFails-more : (contents : Contents) (rose more : Type 0) (device : ScriptDevice) (o : Outcome) → (rose → more)
    → EnrolmentFails contents rose device o → EnrolmentFails contents more device o
EnrolmentFails-more contents rose more device o rises (fails failed) = fails (LoadFails-more contents rose more (image_file device) o rises failed)
EnrolmentFails-more contents rose more device o rises (passes file loaded rest) = passes file loaded rest

-- ---- one device more

enrolled_behind : (contents : Contents) (before : List ScriptDevice) (known : List Known) (device : ScriptDevice) (k : Known)
    → AreEnrolled contents before known → IsEnrolled contents device k → AreEnrolled contents (before ++ device ∷ []) (known ++ k ∷ [])
enrolled_behind contents [] [] device k are is = (is, tt)
enrolled_behind contents [] (x ∷ known) device k are is = absurd are
enrolled_behind contents (d ∷ before) [] device k are is = absurd are
enrolled_behind contents (d ∷ before) (x ∷ known) device k are is = (are.0, enrolled_behind contents before known device k are.1 is)

fails_behind : (contents : Contents) (rose : Type 0) (before : List ScriptDevice) (known : List Known) (device : ScriptDevice) (more : List ScriptDevice) (o : Outcome)
    → AreEnrolled contents before known → EnrolmentFails contents rose device o → EnrolmentsFail contents rose (before ++ device ∷ more) o
fails_behind contents rose [] [] device more o are failed = fails failed
fails_behind contents rose [] (x ∷ known) device more o are failed = absurd are
fails_behind contents rose (d ∷ before) [] device more o are failed = absurd are
fails_behind contents rose (d ∷ before) (x ∷ known) device more o are failed =
    passes x are.0 (fails_behind contents rose before known device more o are.1 failed)

module _ (devices : List ScriptDevice) (i : ℕ) (device : ScriptDevice) (within : i < length devices) (is : device ≡ get_or devices i device) where
  with_next : take (i + 1) devices ≡ take i devices ++ device ∷ []
  with_next = take_more devices i device within ∙ ap (λ (d : ScriptDevice). take i devices ++ d ∷ []) (sym is)

  pub AreEnrolled-next : (contents : Contents) (known : List Known) (k : Known) → AreEnrolled contents (take i devices) known → IsEnrolled contents device k
      → AreEnrolled contents (take (i + 1) devices) (known ++ k ∷ [])
  AreEnrolled-next contents known k are enrolled =
      subst (λ (ds : List ScriptDevice). AreEnrolled contents ds (known ++ k ∷ [])) (sym with_next)
      (enrolled_behind contents (take i devices) known device k are enrolled)

  pub EnrolmentsFail-next : (contents : Contents) (rose : Type 0) (known : List Known) (o : Outcome) → AreEnrolled contents (take i devices) known
      → EnrolmentFails contents rose device o → EnrolmentsFail contents rose devices o
  EnrolmentsFail-next contents rose known o are failed =
      let split : devices ≡ take i devices ++ device ∷ drop (i + 1) devices =
      sym (take-append-drop i devices)
      ∙ ap (λ (ds : List ScriptDevice). take i devices ++ ds) (drop_more devices i device within ∙ ap (λ (d : ScriptDevice). d ∷ drop (i + 1) devices) (sym is)) in
      subst (λ (ds : List ScriptDevice). EnrolmentsFail contents rose ds o) (sym split)
      (fails_behind contents rose (take i devices) known device (drop (i + 1) devices) o are failed)

  pub ids_next : (known : List Known) (k : Known) → ids_of known ≡ map (λ (d : ScriptDevice). d.id) (take i devices) → k.id ≡ device.id
      → ids_of (known ++ k ∷ []) ≡ map (λ (d : ScriptDevice). d.id) (take (i + 1) devices)
  ids_next known k so_far same =
      map-append (λ (x : Known). x.id) known (k ∷ [])
      ∙ (ap (λ (ids : List ℕ). ids ++ k.id ∷ []) so_far
      ∙ (ap (λ (id : ℕ). map (λ (d : ScriptDevice). d.id) (take i devices) ++ id ∷ []) same
      ∙ (sym (map-append (λ (d : ScriptDevice). d.id) (take i devices) (device ∷ [])) ∙ ap (λ (ds : List ScriptDevice). map (λ (d : ScriptDevice). d.id) ds) (sym with_next))))
