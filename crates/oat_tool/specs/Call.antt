-- A call of the program, as its caller sees it: its words, what it did to the files and to the two sinks, and its status.
use Rattle.std.specs.{Prelude.◌≡◌, Prelude.ℕ, Prelude.List, Prelude.Some, Prelude.map, String.string_bytes, declared.string.String.String, declared.alloc.Global.Global}
use Rattle.oat_words.specs.declared.command.Command.{Command}
use Rattle.oat_room_attest.specs.{Contents, Rose, File, Read, Put, Shows}
use Rattle.oat_tool.specs.Defined.{Does, SetsOut}

-- Where contents are told, the work of a command on its numbers and its loaded files shows what it ends with.
abbrev pub ShowsWork : Command → (numbers : List ℕ) → List File → Read → Put → Put → ℕ → Type 0
ShowsWork command numbers loaded files out err status =
    (contents : Contents) → files.told ≡ Some contents
    → Shows (Does command numbers contents (Rose files.before files.after) loaded) out err status

-- Where contents are told, the call shows the outcome that it set out for.
abbrev pub IsCall : List (List ℕ) → Read → Put → Put → ℕ → Type 0
IsCall words files out err status =
    (contents : Contents) → files.told ≡ Some contents
    → Shows (SetsOut words contents (Rose files.before files.after)) out err status

abbrev pub Ran : List (String Global) → Read → Put → Put → ℕ → Type 0
Ran words = IsCall (map string_bytes words)
