-- What follows for the caller from a call's answer: single sentences (docs/PROMISES.md).
use Rattle.std.specs.Prelude.{◌≡◌, ◌<◌, ◌⊎◌, ℕ, List, Some, None, Contains}
use Rattle.oat_words.specs.{declared.command.Command.Command, Commands.IsLine, Commands.files_of}
use Rattle.oat_room_attest.specs.{Contents, Rose, Adds, IsOne, Outcome, read_fault, Wanted, File, AreLoaded, Read, Put, HasFailed, PutsFront}
use Rattle.oat_tool.specs.{Defined.NamesFile, Defined.Defined, DefinedLaws.IsOfWork, Call.IsCall}

-- Just this outcome was shown.
pub record ShowsJust (o : Outcome) (out err : Put) (status : ℕ) : Type 0 where
  pub same_status : status ≡ o.status
  pub out_added : Adds out.held o.out out.holds
  pub err_added : Adds err.held o.err err.holds

-- The defined outcome was shown, whole.
pub record ShowsDefined (words : List (List ℕ)) (contents : Contents) (out err : Put) (status : ℕ) : Type 0 where
  pub outcome : Outcome
  pub is_defined : Defined words contents outcome
  pub shown : ShowsJust outcome out err status

-- A command loads this file: its words name it, or the files that they name do.
pub data IsAskedFor (words : List (List ℕ)) (contents : Contents) (command : Command) (wanted : Wanted) : Type 0 where
  named : Contains (files_of words command) wanted → IsAskedFor words contents command wanted
  further : (files : List File) → AreLoaded contents (files_of words command) files → NamesFile command files wanted
      → IsAskedFor words contents command wanted

-- A file that the words' command loads isn't held, and that is the first refusal.
pub record IsAbsentFirst (words : List (List ℕ)) (contents : Contents) : Type 0 where
  pub command : Command
  pub asked : IsLine words command
  pub wanted : Wanted
  pub among : IsAskedFor words contents command wanted
  pub absent : contents wanted.name ≡ None
  pub first : Defined words contents (read_fault wanted.name)

-- Of each call this holds, where contents are told.
abbrev pub OfCalls : (List (List ℕ) → Contents → Read → Put → Put → ℕ → Type 0) → Type 0
OfCalls Claim =
    (words : List (List ℕ)) (contents : Contents) (files : Read) (out err : Put) (status : ℕ)
    → files.told ≡ Some contents → IsCall words files out err status → Claim words contents files out err status

-- With a status of work the whole defined text was put.
abbrev pub WholeIsPut : Type 0
WholeIsPut = OfCalls (λ words contents files out err status. IsOfWork status → ShowsDefined words contents out err status)

-- Where no count rose, a defined outcome is shown, or memory was wanting.
abbrev pub DefinedIsShown : Type 0
DefinedIsShown = OfCalls (λ words contents files out err status.
    ¬ Rose files.before files.after → ¬ HasFailed out → ¬ HasFailed err → (status ≡ 6) ⊎ ShowsDefined words contents out err status)

-- What was put on `out` is nothing, or a front of a defined text.
abbrev pub FrontIsPut : Type 0
FrontIsPut = OfCalls (λ words contents files out err status.
    (out.holds ≡ out.held) ⊎ ((o : Outcome) × Defined words contents o × PutsFront o.out out.held out.holds))

-- Statuses 2, 3 and 4 put nothing on `out`.
abbrev pub RefusalsAreQuiet : Type 0
RefusalsAreQuiet = OfCalls (λ words contents files out err status. 1 < status → status < 5 → out.holds ≡ out.held)

-- Status 4 comes in two cases alone.
abbrev pub ReadFaultsAreTold : Type 0
ReadFaultsAreTold = OfCalls (λ words contents files out err status.
    status ≡ 4 → Rose files.before files.after ⊎ IsAbsentFirst words contents)

-- Where no count rose, the one defined outcome is shown, or memory was wanting.
abbrev pub TheDefinedIsShown : Type 0
TheDefinedIsShown = OfCalls (λ words contents files out err status.
    IsOne Outcome (Defined words contents) → (o : Outcome) → Defined words contents o
    → ¬ Rose files.before files.after → ¬ HasFailed out → ¬ HasFailed err → (status ≡ 6) ⊎ ShowsJust o out err status)
