-- Files that are held are answered; and such as the command takes, with a status of work.
use Rattle.std.proofs.Common.{◌≡◌, ◌∙◌, ◌⊎◌, ℕ, List, [], ◌∷◌, Ok, Err, inl, inr, refl, sym, ap, subst}
use Rattle.hex.specs.Hex.{decode_of}
use Rattle.oat_words.specs.{declared.command.Command.Command, Commands.IsLine, Commands.numbers_of, Commands.files_of}
use Rattle.oat_inputs.proofs.Refusing.{blob_is_decisive, case_is_decisive, image_is_decisive, operation_is_decisive, shape_is_decisive}
use Rattle.oat_programs.proofs.Programming.{case_of_is_decisive, program_is_decisive}
use Rattle.oat_room_verify.specs.{PolicyRule, Verify.IsOpened, Verify.Verifies, Policy.IsOpenedWith, Policy.Polices, Policy.with_policy}
use Rattle.oat_room_device.specs.{Device.Runs, Device.RunsCase, Device.ShowsRun, Device.sealed, Device.unsealed, Trace.Traces, Trace.TracesCase}
use Rattle.oat_room_program.specs.{Interpret.Interprets, Build.Builds}
use Rattle.oat_room_attest.specs.{Contents, Program, Image, Case, IsImageText, IsShaped, Opening, Run, Attested, First, fails, passes, IsDecisive, Ended, Done, Rejected, Unsealed, Outcome, Answer}
use Rattle.oat_room_attest.specs.{IsAnswered, shows, as_outcome, File, AreLoaded, Put, HasDigits, IsBlobText, Admits, AreAdmitted, ended_of, IsCaseOf, IsCheckedText, CodeFits, RefusesImage}
use Rattle.oat_room_attest.specs.{RefusesShape, Attest.AreAttestable, Attest.AttestsFiles, Attest.AttestsProgram, Attest.ShowsAttested, Attest.ShowsWindows, Json.AttestsInJson, Json.TellsWindows}
use Rattle.oat_room_drill.specs.Drill.{Drills}
use Rattle.oat_room_owner.specs.{Known, OwnerCall, Script, ScriptDevice, Owner.AreEnrolled, Owner.EnrolmentFails, Owner.EnrolmentsFail, Owner.IsEnrolled, Owner.RepliesTo, Owner.Serves}
use Rattle.oat_room_owner.specs.{Owner.ServesScript, Owner.image_file, Owner.to_all, Owner.to_some}
use Rattle.oat_tool.specs.{Defined.Does, Defined.Defined, Defined.done, Defined.other, DefinedLaws.IsOfWork, CallLaws.ShowsJust, Completeness.CallsAreComplete, Completeness.EndsWork}
use Rattle.oat_tool.specs.{Completeness.HeldFilesAreAnswered, Completeness.IsServable, Completeness.ShowsEnd, Completeness.TakenFilesAreWorkedOn}
use Rattle.oat_tool.proofs.{Apart.one_command, BuildSaying.code_is_decisive, PolicySaying.policy_is_decisive, One.load_is_decisive, One.loads_are_decisive, Following.defined_is_shown}
use Rattle.oat_words.specs.declared.command.Command.TheVariants as commands

-- ---- files that are held

end_of_held : (words : List (List ℕ)) (contents : Contents) (command : Command) (held : List File) (out err : Put) (status : ℕ) (o : Outcome) → IsLine words command
    → AreLoaded contents (files_of words command) held → Defined words contents o → ShowsJust o out err status → ShowsEnd words contents command held out err status
end_of_held words contents command held out err status o asked loaded (other none is) just = absurd (none command asked)
end_of_held words contents command held out err status o asked loaded (done given line (fails failed)) just =
    let same = one_command words command given asked line in
    absurd ((loads_are_decisive contents (files_of words given)).apart held o (subst (λ (c : Command). AreLoaded contents (files_of words c) held) (sym same) loaded) failed)
end_of_held words contents command held out err status o asked loaded (done given line (passes files loaded' does)) just =
    let same = one_command words command given asked line in
    let loaded_too = subst (λ (c : Command). AreLoaded contents (files_of words c) files) same loaded' in
    let one : files ≡ held = (loads_are_decisive contents (files_of words command)).one_value files held loaded_too loaded in
    record {
      outcome = o;
      does = subst (λ (fs : List File). Does command (numbers_of words command) contents ⊥ fs o) one
          (subst (λ (c : Command). Does c (numbers_of words c) contents ⊥ files o) same does);
      shown = just;
    }

pub held_files_are_answered : HeldFilesAreAnswered
held_files_are_answered words contents files out err status told ran command asked held loaded no_fault no_out no_err =
    elim (defined_is_shown words contents files out err status told ran no_fault no_out no_err) [
      | inl six ↦ inl six
      | inr all ↦ inr (end_of_held words contents command held out err status all.outcome asked loaded all.is_defined all.shown)
    ]

-- ---- files that the command takes

ended_is_work : (ended : Ended) (out err : List ℕ) → IsOfWork (as_outcome (shows ended out err)).status
ended_is_work Done out err = inl refl
ended_is_work Rejected out err = inr (inl refl)
ended_is_work Unsealed out err = inr (inr refl)

pub shown_is_work : (a : Answer) (ended : Ended) (out err : List ℕ) → a ≡ shows ended out err → IsOfWork (as_outcome a).status
shown_is_work a ended out err is = subst (λ (b : Answer). IsOfWork (as_outcome b).status) (sym is) (ended_is_work ended out err)

-- What is looked at and given goes on to what comes after.
pub First-given : {X : Type 0} {Gives : X → Type 0} {Fails : Answer → Type 0} {Rest : X → Answer → Type 0} (x : X) (a : Answer)
    → IsDecisive X Answer Gives Fails → Gives x → First X Answer Gives Fails Rest a → Rest x a
First-given x a decisive given (fails failed) = absurd (decisive.apart x a given failed)
First-given {X} {Gives} {Fails} {Rest} x a decisive given (passes y given' rest) = subst (λ (z : X). Rest z a) (decisive.one_value y x given' given) rest

-- ---- by command

Admits-given : (image case : File) (Rest : Image → Case → Answer → Type 0) (a : Answer) (i : Image) (c : Case) → AreAdmitted image case i c
    → Admits image case Rest a → Rest i c a
Admits-given image case Rest a i c admitted admits =
    let shape = First-given i a (image_is_decisive image) admitted.image_read admits in
    let text = First-given tt a (shape_is_decisive image i) admitted.shaped shape in
    let operation = First-given c a (case_is_decisive case) admitted.case_read text in
    First-given tt a (operation_is_decisive case i.map c.session.op) admitted.begun operation

bytes_of_digits : (text digits : List ℕ) → HasDigits text digits → (bytes : List ℕ) × IsBlobText text bytes
bytes_of_digits text digits has = (has.decoded.0, ap decode_of (sym has.are) ∙ has.decoded.1)

run_works : (program case : File) (p : Program) (c : Case) (a : Answer) → IsCheckedText program.text p → IsCaseOf p case.text c
    → Interprets (program ∷ case ∷ []) a → IsOfWork (as_outcome a).status
run_works program case p c a checked given does =
    shown_is_work a Done _ _ (First-given c a (case_of_is_decisive p case) given (First-given p a (program_is_decisive program) checked does))

build_works : (program : File) (p : Program) (a : Answer) → IsCheckedText program.text p → CodeFits p → Builds (program ∷ []) a → IsOfWork (as_outcome a).status
build_works program p a checked fits does =
    let shows = First-given tt a (code_is_decisive program p) fits (First-given p a (program_is_decisive program) checked does) in
    shown_is_work a Done _ _ shows.is

verify_works : (files : List File) (i : Image) (c : Case) (digits : List ℕ) (a : Answer) → IsOpened files i c digits → Verifies files a
    → IsOfWork (as_outcome a).status
verify_works files i c digits a opened does =
    let bytes = bytes_of_digits opened.blob.text digits opened.spelled in
    let blob = Admits-given opened.image opened.case _ a i c opened.admitted (subst (λ (fs : List File). Verifies fs a) opened.are does) in
    let concludes = First-given bytes.0 a (blob_is_decisive opened.blob) bytes.1 blob in
    shown_is_work a (ended_of concludes.verdict) _ _ concludes.reported

run_shown_is_work : (o : Opening) (key : List ℕ) (run : Run) (a : Answer) → ShowsRun o key run a → IsOfWork (as_outcome a).status
run_shown_is_work o key run a (sealed is blobs all shown) = shown_is_work a Done _ _ shown
run_shown_is_work o key run a (unsealed none blobs all shown) = shown_is_work a Unsealed _ _ shown

device_works : (image case : File) (i : Image) (c : Case) (a : Answer) → AreAdmitted image case i c → Runs (image ∷ case ∷ []) a
    → IsOfWork (as_outcome a).status
device_works image case i c a admitted does = run_shown_is_work _ _ _ a (Admits-given image case RunsCase a i c admitted does).shown

trace_works : (image case : File) (i : Image) (c : Case) (a : Answer) → AreAdmitted image case i c → Traces (image ∷ case ∷ []) a
    → IsOfWork (as_outcome a).status
trace_works image case i c a admitted does = shown_is_work a _ _ _ (Admits-given image case TracesCase a i c admitted does).is

policy_works : (files : List File) (i : Image) (c : Case) (digits : List ℕ) (rules : List PolicyRule) (a : Answer) → IsOpenedWith files i c digits rules
    → Polices files a → IsOfWork (as_outcome a).status
policy_works files i c digits rules a opened does =
    let bytes = bytes_of_digits opened.blob.text digits opened.spelled in
    let blob = Admits-given opened.image opened.case _ a i c opened.admitted (subst (λ (fs : List File). Polices fs a) opened.are does) in
    let policy = First-given bytes.0 a (blob_is_decisive opened.blob) bytes.1 blob in
    let concludes = First-given rules a (policy_is_decisive opened.policy) opened.read policy in
    shown_is_work a _ _ _ (concludes.is ∙ ap (with_policy _) concludes.concluded.reported)

pub attest_works : (Shown : Case → Attested → Answer → Type 0) (files : List File) (p : Program) (c : Case) (a : Answer) → AreAttestable files p c
    → AttestsFiles Shown files a → ShowsAttested Shown p c a
attest_works Shown files p c a held does =
    let case = First-given p a (program_is_decisive held.program) held.checked (subst (λ (fs : List File). AttestsFiles Shown fs a) held.are does) in
    First-given tt a (code_is_decisive held.program p) held.fits (First-given c a (case_of_is_decisive p held.case) held.given case)

drill_works : (numbers : List ℕ) (a : Answer) → Drills numbers a → IsOfWork (as_outcome a).status
drill_works [] a none = absurd none
drill_works (n ∷ []) a shown = shown_is_work a _ _ _ shown.is
drill_works (n ∷ m ∷ numbers) a none = absurd none

-- ---- an owner

image_apart : (file : File) (image : Image) (o : Outcome) → IsImageText file.text image → IsShaped image
    → First Image Outcome (IsImageText file.text) (IsAnswered (RefusesImage file)) (λ i. IsAnswered (RefusesShape file i)) o → ⊥
image_apart file image o read shaped (fails answered) = (image_is_decisive file).apart image answered.answer read answered.given
image_apart file image o read shaped (passes found given answered) =
    let same : found ≡ image = (image_is_decisive file).one_value found image given read in
    (shape_is_decisive file image).apart tt answered.answer shaped (subst (λ (i : Image). RefusesShape file i answered.answer) same answered.given)

enrolment_apart : (contents : Contents) (device : ScriptDevice) (known : Known) (o : Outcome) → IsEnrolled contents device known
    → EnrolmentFails contents ⊥ device o → ⊥
enrolment_apart contents device known o enrolled (fails failed) =
    (load_is_decisive contents (image_file device)).apart enrolled.file o enrolled.loaded failed
enrolment_apart contents device known o enrolled (passes file loaded refused) =
    let same : enrolled.file ≡ file = (load_is_decisive contents (image_file device)).one_value enrolled.file file enrolled.loaded loaded in
    image_apart file known.shaped o (subst (λ (f : File). IsImageText f.text known.shaped) same enrolled.read) enrolled.shaped refused

enrolments_apart : (contents : Contents) (devices : List ScriptDevice) (known : List Known) (o : Outcome) → AreEnrolled contents devices known
    → EnrolmentsFail contents ⊥ devices o → ⊥
enrolments_apart contents [] known o enrolled none = none
enrolments_apart contents (d ∷ ds) [] o enrolled failed = enrolled
enrolments_apart contents (d ∷ ds) (k ∷ ks) o enrolled (fails failed) = enrolment_apart contents d k o enrolled.0 failed
enrolments_apart contents (d ∷ ds) (k ∷ ks) o enrolled (passes found given later) = enrolments_apart contents ds ks o enrolled.1 later

replies_end : (known : List Known) (calls : List OwnerCall) (o : Outcome) → RepliesTo known calls o → (o.status ≡ 6) ⊎ IsOfWork o.status
replies_end known calls o (to_all exchanges are all is) = inr (subst (λ (p : Outcome). IsOfWork p.status) (sym is) (inl refl))
replies_end known calls o (to_some exchanges are later parted is) = inl (ap (λ (p : Outcome). p.status) is)

owner_works : (contents : Contents) (file : File) (o : Outcome) → IsServable contents file → ServesScript contents ⊥ file o
    → (o.status ≡ 6) ⊎ IsOfWork o.status
owner_works contents file o served (fails answered) =
    let refusal = answered.given in
    let apart : Ok served.script ≡ Err refusal.fault = sym served.read ∙ refusal.first in cc
owner_works contents file o served (passes script read (fails failed)) =
    let both : Ok served.script ≡ Ok script = sym served.read ∙ read in
    let same : served.script ≡ script = cc in
    absurd (enrolments_apart contents script.devices served.known o
    (subst (λ (s : Script). AreEnrolled contents s.devices served.known) same served.enrolled) failed)
owner_works contents file o served (passes script read (passes known enrolled replies)) = replies_end known script.calls o replies

answered_is_work : (Q : Answer → Type 0) (o : Outcome) → ((a : Answer) → Q a → IsOfWork (as_outcome a).status) → IsAnswered Q o → IsOfWork o.status
answered_is_work Q o works answered = subst (λ (p : Outcome). IsOfWork p.status) (sym answered.is) (works answered.answer answered.given)

pub taken_files_are_worked_on : TakenFilesAreWorkedOn
taken_files_are_worked_on commands.Run numbers contents files o (program, case, are, p, checked, c, given) does =
    answered_is_work (Interprets files) o (λ a of. run_works program case p c a checked given (subst (λ (fs : List File). Interprets fs a) are of)) does
taken_files_are_worked_on commands.Build numbers contents files o (program, are, p, checked, fits) does =
    answered_is_work (Builds files) o (λ a of. build_works program p a checked fits (subst (λ (fs : List File). Builds fs a) are of)) does
taken_files_are_worked_on commands.Verify numbers contents files o (i, c, digits, opened) does =
    answered_is_work (Verifies files) o (λ a of. verify_works files i c digits a opened of) does
taken_files_are_worked_on commands.Device numbers contents files o (image, case, are, i, c, admitted) does =
    answered_is_work (Runs files) o (λ a of. device_works image case i c a admitted (subst (λ (fs : List File). Runs fs a) are of)) does
taken_files_are_worked_on commands.Trace numbers contents files o (image, case, are, i, c, admitted) does =
    answered_is_work (Traces files) o (λ a of. trace_works image case i c a admitted (subst (λ (fs : List File). Traces fs a) are of)) does
taken_files_are_worked_on commands.Policy numbers contents files o (i, c, digits, rules, opened) does =
    answered_is_work (Polices files) o (λ a of. policy_works files i c digits rules a opened of) does
taken_files_are_worked_on commands.Owner numbers contents files o (file, are, served) does =
    owner_works contents file o served (subst (λ (fs : List File). Serves contents ⊥ fs o) are does)
taken_files_are_worked_on commands.Attest numbers contents files o (p, c, held) does =
    answered_is_work (AttestsProgram files) o (λ a of. shown_is_work a _ _ _ (attest_works ShowsWindows files p c a held of).shown) does
taken_files_are_worked_on commands.AttestJson numbers contents files o (p, c, held) does =
    answered_is_work (AttestsInJson files) o (λ a of. shown_is_work a _ _ _ (attest_works TellsWindows files p c a held of).shown) does
taken_files_are_worked_on commands.Drill numbers contents files o none does = answered_is_work (Drills numbers) o (drill_works numbers) does

ended_or_wanting : (command : Command) (status : ℕ) → EndsWork command status → (status ≡ 6) ⊎ IsOfWork status
ended_or_wanting commands.Run status ends = inr ends
ended_or_wanting commands.Build status ends = inr ends
ended_or_wanting commands.Verify status ends = inr ends
ended_or_wanting commands.Device status ends = inr ends
ended_or_wanting commands.Trace status ends = inr ends
ended_or_wanting commands.Policy status ends = inr ends
ended_or_wanting commands.Owner status ends = ends
ended_or_wanting commands.Attest status ends = inr ends
ended_or_wanting commands.AttestJson status ends = inr ends
ended_or_wanting commands.Drill status ends = inr ends

-- What was shown ends work, or tells that memory was wanting.
shown_ends : (words : List (List ℕ)) (contents : Contents) (command : Command) (held : List File) (out err : Put) (status : ℕ)
    → ShowsEnd words contents command held out err status → (status ≡ 6) ⊎ IsOfWork status
    → (status ≡ 6) ⊎ (IsOfWork status × ShowsEnd words contents command held out err status)
shown_ends words contents command held out err status end (inl six) = inl six
shown_ends words contents command held out err status end (inr work) = inr (work, end)

pub calls_are_complete : CallsAreComplete
calls_are_complete words contents files out err status told ran command asked held loaded taken no_fault no_out no_err =
    elim (held_files_are_answered words contents files out err status told ran command asked held loaded no_fault no_out no_err) [
      | inl six ↦ inl six
      | inr end ↦
          let ends = taken_files_are_worked_on command (numbers_of words command) contents held end.outcome taken end.does in
          shown_ends words contents command held out err status end
          (ended_or_wanting command status (subst (EndsWork command) (sym end.shown.same_status) ends))
    ]
