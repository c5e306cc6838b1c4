-- What files and sinks mean to a caller: contents by name, bytes put, and counts that never fall (docs/DEFINITIONS.md).
use Rattle.std.specs.{Prelude.◌≡◌, Prelude.◌≤◌, Prelude.◌<◌, Prelude.◌+◌, Prelude.◌-◌, Prelude.◌^◌, Prelude.◌⊎◌, Prelude.◌++◌, Prelude.ℕ, Prelude.min, Prelude.List, Prelude.length, Prelude.take}
use Rattle.std.specs.{Prelude.Option, Prelude.Some, Prelude.None, Prelude.Result, Prelude.Ok, Prelude.Err, Prelude.IsSome, Prelude.IsSomeAnd, Option.option_map, declared.vec.Vec.Vec}
use Rattle.std.specs.{declared.alloc.Global.Global}
use Rattle.oat_world.specs.{declared.files.LoadFault.LoadFault, declared.sink.SinkFault.SinkFault}
use Rattle.oat_world.specs.declared.files.LoadFault.TheVariants as load
use Rattle.oat_world.specs.declared.sink.SinkFault.TheVariants as sink

-- what each name holds; None where no file has the name
abbrev pub Contents : Type 0
Contents = List ℕ → Option (List ℕ)

-- A count rose, or stands at its last value.
abbrev pub Rose : ℕ → ℕ → Type 0
Rose before now = min (before + 1) (2 ^ 64 - 1) ≤ now

-- A count rose by more than a limit, or stands at its last value.
abbrev pub RoseBeyond : ℕ → ℕ → ℕ → Type 0
RoseBeyond limit before now = min (before + limit + 1) (2 ^ 64 - 1) ≤ now

-- A load where contents are told. An absent name always answers Failed, and then the count stays.
abbrev pub LoadsTold : Option (List ℕ) → ℕ → ℕ → ℕ → Result (Vec ℕ Global) LoadFault → Type 0
LoadsTold content limit before now (Ok loaded) = (content ≡ Some loaded.items) × (length loaded.items ≤ limit)
LoadsTold content limit before now (Err load.TooLong) = IsSomeAnd content (λ bytes. limit < length bytes)
LoadsTold content limit before now (Err load.Failed) = ((content ≡ None) × (now ≡ before)) ⊎ (IsSome content × Rose before now)
LoadsTold content limit before now (Err load.Memory) = IsSome content

-- A load where contents aren't told.
abbrev pub LoadsUntold : ℕ → ℕ → ℕ → ℕ → ℕ → Result (Vec ℕ Global) LoadFault → Type 0
LoadsUntold limit before now taken_before taken_now (Ok loaded) = Unit {0}
LoadsUntold limit before now taken_before taken_now (Err load.TooLong) = RoseBeyond limit taken_before taken_now
LoadsUntold limit before now taken_before taken_now (Err load.Failed) = Rose before now
LoadsUntold limit before now taken_before taken_now (Err load.Memory) = Unit {0}

-- The bytes put have grown by just these.
abbrev pub Adds : Option (List ℕ) → List ℕ → Option (List ℕ) → Type 0
Adds old bytes new = new ≡ option_map (λ before. before ++ bytes) old

-- A put takes a front of the piece, or nothing. The count of faults rises where it failed, and nowhere else.
abbrev pub Puts : List ℕ → Option (List ℕ) → Option (List ℕ) → ℕ → ℕ → Result ℕ SinkFault → Type 0
Puts piece old new before now (Ok count) =
    (count ≤ length piece) × (0 < length piece → 0 < count) × Adds old (take count piece) new × (now ≡ before)
Puts piece old new before now (Err sink.Failed) = Rose before now × (new ≡ old)
Puts piece old new before now (Err sink.Memory) = (now ≡ before) × (new ≡ old)
