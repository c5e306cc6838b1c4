-- Completeness: what is answered to files that are held within their limits, where no count rises (docs/PROMISES.md).
use Rattle.std.specs.Prelude.{◌≡◌, ◌⊎◌, ℕ, List, [], ◌∷◌, Ok}
use Rattle.oat_words.specs.{declared.command.Command.Command, declared.command.Command.TheVariants.Run, declared.command.Command.TheVariants.Build, declared.command.Command.TheVariants.Verify}
use Rattle.oat_words.specs.{declared.command.Command.TheVariants.Device, declared.command.Command.TheVariants.Trace, declared.command.Command.TheVariants.Policy}
use Rattle.oat_words.specs.{declared.command.Command.TheVariants.Owner, declared.command.Command.TheVariants.Attest, declared.command.Command.TheVariants.AttestJson}
use Rattle.oat_words.specs.{declared.command.Command.TheVariants.Drill, Commands.IsLine, Commands.numbers_of, Commands.files_of}
use Rattle.oat_room_verify.specs.{PolicyRule, Policy.IsOpenedWith, Verify.IsOpened}
use Rattle.oat_room_attest.specs.{Contents, Rose, Program, Image, Case, Outcome, File, AreLoaded, AreAdmitted, IsCheckedText, IsCaseOf, CodeFits, Attest.AreAttestable, Put, HasFailed}
use Rattle.oat_room_owner.specs.{Known, Script, script_of, Owner.AreEnrolled}
use Rattle.oat_tool.specs.{Defined.Does, DefinedLaws.IsOfWork, CallLaws.OfCalls, CallLaws.ShowsJust}

-- What the command ends with behind these files was shown, whole.
pub record ShowsEnd (words : List (List ℕ)) (contents : Contents) (command : Command) (files : List File) (out err : Put) (status : ℕ) : Type 0 where
  pub outcome : Outcome
  pub does : Does command (numbers_of words command) contents ⊥ files outcome
  pub shown : ShowsJust outcome out err status

-- Where files are held and no count rose, what the command ends with behind them is shown, or memory was wanting.
abbrev pub HeldFilesAreAnswered : Type 0
HeldFilesAreAnswered = OfCalls (λ words contents files out err status.
    (command : Command) → IsLine words command → (held : List File) → AreLoaded contents (files_of words command) held
    → ¬ Rose files.before files.after → ¬ HasFailed out → ¬ HasFailed err → (status ≡ 6) ⊎ ShowsEnd words contents command held out err status)

-- The file is a script, and the files of its devices' images are held, with an image that has the shape in each.
pub record IsServable (contents : Contents) (file : File) : Type 0 where
  pub script : Script
  pub read : script_of file.text ≡ Ok script
  pub known : List Known
  pub enrolled : AreEnrolled contents script.devices known

-- The files are such as the command takes: texts in their grammars, a program that keeps the checking rules or an image that has the shape, an operation
-- that is there, and code that fits.
abbrev pub AreTaken : Command → Contents → List File → Type 0
AreTaken Run contents files =
    (program case : File) × (files ≡ program ∷ case ∷ []) × (p : Program) × IsCheckedText program.text p × (c : Case) × IsCaseOf p case.text c
AreTaken Build contents files = (program : File) × (files ≡ program ∷ []) × (p : Program) × IsCheckedText program.text p × CodeFits p
AreTaken Verify contents files = (i : Image) × (c : Case) × (digits : List ℕ) × IsOpened files i c digits
AreTaken Device contents files = (image case : File) × (files ≡ image ∷ case ∷ []) × (i : Image) × (c : Case) × AreAdmitted image case i c
AreTaken Trace contents files = (image case : File) × (files ≡ image ∷ case ∷ []) × (i : Image) × (c : Case) × AreAdmitted image case i c
AreTaken Policy contents files = (i : Image) × (c : Case) × (digits : List ℕ) × (rules : List PolicyRule) × IsOpenedWith files i c digits rules
AreTaken Owner contents files = (file : File) × (files ≡ file ∷ []) × IsServable contents file
AreTaken Attest contents files = (p : Program) × (c : Case) × AreAttestable files p c
AreTaken AttestJson contents files = (p : Program) × (c : Case) × AreAttestable files p c
AreTaken Drill contents files = files ≡ []

-- The work of a command ends with such a status; that of an owner may end where memory is wanting, behind some replies.
abbrev pub EndsWork : Command → (status : ℕ) → Type 0
EndsWork Owner status = (status ≡ 6) ⊎ IsOfWork status
EndsWork _ status = IsOfWork status

-- Behind such files the command ends with a status of work.
abbrev pub TakenFilesAreWorkedOn : Type 0
TakenFilesAreWorkedOn = (command : Command) (numbers : List ℕ) (contents : Contents) (files : List File) (o : Outcome) → AreTaken command contents files
    → Does command numbers contents ⊥ files o → EndsWork command o.status

-- So where such files are held and no count rose, the status is 0, 1 or 7 as defined, or memory was wanting.
abbrev pub CallsAreComplete : Type 0
CallsAreComplete = OfCalls (λ words contents files out err status.
    (command : Command) → IsLine words command → (held : List File) → AreLoaded contents (files_of words command) held → AreTaken command contents held
    → ¬ Rose files.before files.after → ¬ HasFailed out → ¬ HasFailed err
    → (status ≡ 6) ⊎ (IsOfWork status × ShowsEnd words contents command held out err status))
