-- What follows for whole runs where each step is followed: the image ends as the source ends and shows what the source shows, in both directions, on the bare run and on the measured run (docs/DEFINITIONS.md, "The image runs as the source").
use Rattle.std.specs.{Prelude.◌≡◌, Prelude.◌≤◌, Prelude.ℕ, Prelude.ℤ, Prelude.true, Prelude.List, Prelude.[], Prelude.◌++◌, Prelude.map, Prelude.Option, Prelude.Some, List.All}
use Rattle.oat_journal.specs.{Body, CellValue, Finish, SourceMachine, end_after, events_after, has_completed, loads_of_call, outputs_of, path_of_call, stores_up_to_call, Image, Edge, name_of, Opening}
use Rattle.oat_journal.specs.{declared.end.DeviceEnd.DeviceEnd, Measured.HasBody, Measured.IsCalledFor, Measured.Run, Measured.dev, Measured.start_cells, Measured.uses_of, Measured.window_of}
use Rattle.oat_journal.specs.{Run.Entry, Run.bare, Run.journal, Uses.CheckedUse, Uses.IsSound, Window.executed_path, Window.made_call, Window.window}
use Rattle.oat_follow.specs.{Events.MachineEvent, Events.events_of, Order.KeepOrder, Order.defines_up_to_window, Order.is_window_closed, Order.uses_in_window, Order.value_found, Placement.Placement}
use Rattle.oat_follow.specs.{Placement.seen_at, Steps.device_end, Steps.instructions_for}

-- ---- what is alike

-- What a window shows is what call s of the operation showed in the source within k steps: its path by edges and by names, the values that its uses found, each of them sound, and all defines up to its end.
pub record ShowsTheCall (S : SourceMachine) (image : Image) (p : Placement S.Edge) (op s k : ℕ) (path : List Edge) (uses : List CheckedUse) (defines : List CellValue) : Type 0 where
  pub edges : path ≡ map p.edge (path_of_call S op s (events_after S k))
  pub names : map (name_of image.map) path ≡ map S.name (path_of_call S op s (events_after S k))
  pub found : map value_found uses ≡ loads_of_call op s (events_after S k)
  pub sound : All IsSound uses
  pub stores : defines ≡ stores_up_to_call op s (events_after S k)

-- a run ends as the source does after k steps
pub record EndsAs (S : SourceMachine) (end : Option DeviceEnd) (outputs : List ℤ) (k : ℕ) (finish : Finish) : Type 0 where
  pub ended : end ≡ Some (device_end finish)
  pub same : outputs ≡ outputs_of (events_after S k)

-- the source ends so after k steps
pub record HasEnded (S : SourceMachine) (outputs : List ℤ) (k : ℕ) (why : DeviceEnd) : Type 0 where
  pub finish : Finish
  pub ends : end_after S k ≡ Some finish
  pub alike : why ≡ device_end finish
  pub same : outputs ≡ outputs_of (events_after S k)

-- The ends and outputs of a run, by the number of its instructions: it ends where the source ends, and else its outputs are a prefix of the source's.
pub record EndsAlike (S : SourceMachine) (end : ℕ → Option DeviceEnd) (outputs : ℕ → List ℤ) : Type 0 where
  pub forth : (k n : ℕ) (finish : Finish) → end_after S k ≡ Some finish → instructions_for k ≤ n → EndsAs S (end n) (outputs n) k finish
  pub back : (n : ℕ) (why : DeviceEnd) → end n ≡ Some why → HasEnded S (outputs n) n why
  pub prefix : (n : ℕ) → (rest : List ℤ) × (outputs n ++ rest ≡ outputs_of (events_after S n))

-- ---- on the bare run

-- What the source shows in k steps comes first in what the image shows, once it has had the instructions for it, and what it shows in n instructions comes first in what the source shows in n steps.
pub record EventsAgree (S : SourceMachine) (image : Image) (p : Placement S.Edge) (inputs : List ℤ) : Type 0 where
  pub forth : (k n : ℕ) → instructions_for k ≤ n → (rest : List MachineEvent) × (map (seen_at p) (events_after S k) ++ rest ≡ events_of image.map (journal image inputs [] n))
  pub back : (n : ℕ) → (rest : List MachineEvent) × (events_of image.map (journal image inputs [] n) ++ rest ≡ map (seen_at p) (events_after S n))

-- window s of a journal shows call s
abbrev pub JournalShowsTheCall : (S : SourceMachine) (image : Image) (p : Placement S.Edge) (op s k : ℕ) (js : List Entry) → Type 0
JournalShowsTheCall S image p op s k js =
    ShowsTheCall S image p op s k (executed_path image.map op (window made_call op (p.begin op) s js))
    (uses_in_window (start_cells image) op (p.begin op) s js) (defines_up_to_window op (p.begin op) s js)

-- The bare run of an image runs as a source, for every operation and every call of it: window s is closed exactly where call s has completed, and shows it.
pub record RunsAs (S : SourceMachine) (image : Image) (p : Placement S.Edge) (inputs : List ℤ) : Type 0 where
  pub events : EventsAgree S image p inputs
  pub ends : EndsAlike S (λ n. (bare image inputs [] n).end) (λ n. (bare image inputs [] n).outputs)
  pub closes : (op s k n : ℕ) → has_completed op s (events_after S k) ≡ true → instructions_for k ≤ n → is_window_closed op (p.begin op) s (journal image inputs [] n) ≡ true
  pub closed : (op s n : ℕ) → is_window_closed op (p.begin op) s (journal image inputs [] n) ≡ true → has_completed op s (events_after S n) ≡ true
  pub shows : (op s k n : ℕ) → has_completed op s (events_after S k) ≡ true → is_window_closed op (p.begin op) s (journal image inputs [] n) ≡ true
      → JournalShowsTheCall S image p op s k (journal image inputs [] n)
  pub ordered : (n : ℕ) → KeepOrder (start_cells image) (map made_call (journal image inputs [] n))

-- ---- on the measured run

-- window s of a measured run shows call s
abbrev pub RunShowsTheCall : (S : SourceMachine) (image : Image) (p : Placement S.Edge) (o : Opening) (s k : ℕ) (run : Run) → Type 0
RunShowsTheCall S image p o s k run =
    ShowsTheCall S image p o.op s k (executed_path image.map o.op (window_of o s run)) (uses_of image o s run) (defines_up_to_window o.op o.begin_at s run.journal)

-- The measured run of an image means a source, in a session: the monitor never stops it, each window that the session calls for is sealed exactly where that call has completed, and shows it.
pub record Means (S : SourceMachine) (image : Image) (p : Placement S.Edge) (o : Opening) (inputs : List ℤ) : Type 0 where
  -- nothing is cut from the bare run
  pub whole : (n : ℕ) → (dev image o inputs [] n).journal ≡ journal image inputs [] n
  pub ends : EndsAlike S (λ n. (dev image o inputs [] n).end) (λ n. (dev image o inputs [] n).running.outputs)
  pub seals : (s k n : ℕ) → IsCalledFor o s → has_completed o.op s (events_after S k) ≡ true → instructions_for k ≤ n
      → (body : Body) × HasBody o (dev image o inputs [] n) s body
  pub sealed : (s n : ℕ) (body : Body) → HasBody o (dev image o inputs [] n) s body → has_completed o.op s (events_after S n) ≡ true
  pub shows : (s k n : ℕ) (body : Body) → has_completed o.op s (events_after S k) ≡ true → HasBody o (dev image o inputs [] n) s body
      → RunShowsTheCall S image p o s k (dev image o inputs [] n)
