-- The headline: what is claimed where the verifier accepts the blob of a device run (docs/PROMISES.md).
use Rattle.std.specs.{Prelude.◌≡◌, Prelude.◌≢◌, Prelude.◌+◌, Prelude.◌*◌, Prelude.◌<◌, Prelude.◌⊎◌, Prelude.ℕ, Prelude.ℤ, Prelude.List, Prelude.Option, Prelude.Some, Prelude.Contains, Prelude.map}
use Rattle.std.specs.{Prelude.slice_get, List.All}
use Rattle.sha2.specs.Sha256.{sha256}
use Rattle.oat_journal.specs.{Body, IsBlobOf, messages, DiffersAt, Session, Write, Image, IsWellFormedImage, Edge, returns_of, Row, word_in, global_address, Ldr, LdrReg, MonitorCall, Opening}
use Rattle.oat_journal.specs.{BeginsAt, Run.Entry, Run.AreGiven, Run.pc_of, Window.executed_path, Window.returns_of_run, Window.made_call, Window.up_to_window, Uses.CheckedUse, Uses.IsSound}
use Rattle.oat_journal.specs.{Uses.uses_behind, Measured.HasBody, Measured.Run, Measured.dev, Measured.opening_of, Measured.start_cells, Measured.window_of, serial_of}
use Rattle.oat_verify.specs.{IsShaped, Verdict.Accepts, Verdict.subject_of, Verdict.head_of}
use Rattle.oat_map.specs.declared.row.Row.TheVariants as rows
use Rattle.oat_journal.specs.svc as svc

-- ---- runs and their windows

-- an image with the shape, and a session for one of its operations, whose windows open at begin_at
pub record IsSetting (image : Image) (session : Session) (begin_at : ℕ) : Type 0 where
  pub well_formed : IsWellFormedImage image
  pub shaped : IsShaped image
  pub begins : BeginsAt image.map session.op begin_at

-- A run's body of a window, and its blob under the session's key.
pub record IsReported (image : Image) (session : Session) (begin_at : ℕ) (run : Run) (s : ℕ) (body : Body) (bytes : List ℕ) : Type 0 where
  pub has : HasBody (opening_of image session begin_at) run s body
  pub blob : IsBlobOf body session.key bytes

-- the monitor calls that a run made up to the begin that opens the window
abbrev pub calls_before : Opening → ℕ → Run → List (Option MonitorCall)
calls_before o s run = map made_call (up_to_window made_call o.op o.begin_at s run.journal)

-- the checked uses of a window, behind the calls before it
abbrev pub uses_in : Image → List (Option MonitorCall) → List Entry → List CheckedUse
uses_in image before window = uses_behind (start_cells image) before (map made_call window)

-- what is said of a window: of its number, where windows are numbered, of the calls before it, and of its instructions
abbrev pub Claim : Type 1
Claim = Option ℕ → List (Option MonitorCall) → List Entry → Type 0

-- What holds of each window of a device run whose blob these bytes are, whatever was given and written.
abbrev pub OfRuns : Image → Session → ℕ → List ℕ → Claim → Type 0
OfRuns image session begin_at bytes claim =
    (inputs : List ℤ) (writes : List Write) (n s : ℕ) (body : Body) → AreGiven inputs writes
    → let o = opening_of image session begin_at in
    let run = dev image o inputs writes n in
    IsReported image session begin_at run s body bytes → claim (serial_of o s) (calls_before o s run) (window_of o s run)

-- What holds of each accepted blob of a device run.
abbrev pub OfAcceptedRuns : (Image → Session → List Edge → Claim) → Type 0
OfAcceptedRuns claim =
    (image : Image) (session : Session) (begin_at : ℕ) → IsSetting image session begin_at
    → (bytes : List ℕ) (path : List Edge) → Accepts (subject_of image session) bytes path
    → OfRuns image session begin_at bytes (claim image session path)

-- ---- uses that were read by their own loads

-- the cells that a row may name in the monitor call of its group: its own, or one of its array
abbrev pub NamesCell : Row → ℕ → Type 0
NamesCell (rows.UseCell at own) cell = cell ≡ own
NamesCell (rows.DefCell at own) cell = cell ≡ own
NamesCell (rows.UseAt at first len) cell = (element : ℕ) × (element < len) × (cell ≡ first + element)
NamesCell (rows.DefAt at first len) cell = (element : ℕ) × (element < len) × (cell ≡ first + element)
NamesCell _ cell = ⊥

-- where the group of a row calls the monitor with a cell that it uses
abbrev pub IsUseOf : Row → Entry → Type 0
IsUseOf (rows.UseCell at own) call = pc_of call ≡ at + 16
IsUseOf (rows.UseAt at first len) call = pc_of call ≡ at + 36
IsUseOf _ call = ⊥

-- the load of the cell's word in the group of a row: where it stands, its form, and the address that it reads
abbrev pub IsLoadOf : Row → Entry → ℕ → Type 0
IsLoadOf (rows.UseCell at own) load address = (pc_of load ≡ at + 8) × (load.inst ≡ Ldr 10 11 0) × (load.found.regs.x 11 ≡ address)
IsLoadOf (rows.UseAt at first len) load address =
    (pc_of load ≡ at + 24) × (load.inst ≡ LdrReg 10 11 12) × (load.found.regs.x 11 + 8 * load.found.regs.x 12 ≡ address)
IsLoadOf _ load address = ⊥

-- The value of the use that instruction k of the window makes was read from the cell's word by the load of its own group.
pub record ReadByLoad (image : Image) (window : List Entry) (k : ℕ) (call : Entry) (cell index value : ℕ) : Type 0 where
  pub row : Row
  pub among : Contains image.map.rows row
  pub names : NamesCell row cell
  pub called : IsUseOf row call
  pub load : Entry
  pub loaded : IsLoadOf row load (global_address index)
  pub read : value ≡ word_in load.found.memory (global_address index)
  pub before : ℕ
  pub stands : slice_get window before ≡ Some load
  -- from the load to the call the window has one instruction for each word
  pub words : ℕ
  pub apart : pc_of load + 4 * words ≡ pc_of call
  pub behind : before + words ≡ k

abbrev pub AllReadByLoad : Image → List Entry → Type 0
AllReadByLoad image window = (k cell value index : ℕ) (e : Entry) → slice_get window k ≡ Some e
    → made_call e ≡ Some (svc.Use cell value) → slice_get image.cells cell ≡ Some index → ReadByLoad image window k e cell index value

-- ---- the two cases

-- The run took the accepted path, and each checked use read the last defined value of its cell, by the load of its own group.
pub record Followed (image : Image) (op : ℕ) (path : List Edge) (before : List (Option MonitorCall)) (window : List Entry) : Type 0 where
  pub executed : executed_path image.map op window ≡ path
  pub sound : All IsSound (uses_in image before window)
  pub loaded : AllReadByLoad image window

-- Two lists of returns exhibit two different messages with one SHA-256 digest.
pub record Clashes (head run_returns replay_returns : List ℕ) : Type 0 where
  pub differ : run_returns ≢ replay_returns
  pub first : List ℕ
  pub second : List ℕ
  pub place : DiffersAt (messages head run_returns) (messages head replay_returns) first second
  pub one_digest : sha256 first ≡ sha256 second

-- The run followed the path, or its returns and the replay's clash.
abbrev pub FollowedOrClashes : Image → Session → List Edge → Claim
FollowedOrClashes image session path serial before window =
    Followed image session.op path before window
    ⊎ Clashes (head_of (subject_of image session) serial) (returns_of_run window) (returns_of path)

-- The headline for `verify`.
abbrev pub Headline : Type 0
Headline = OfAcceptedRuns FollowedOrClashes
