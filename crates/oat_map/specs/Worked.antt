-- Two worked maps, and what the definitions of walks and names say of them (docs/DEFINITIONS.md).
use Rattle.std.specs.Prelude.{ℕ, ◌≡◌, Bool, true, false, List, [], ◌∷◌, map, Option, None, Some, codes}
use Rattle.oat_map.specs.{declared.row.Row.TheVariants.Jump, declared.row.Row.TheVariants.Branch, declared.row.Row.TheVariants.Call, declared.row.Row.TheVariants.ICall}
use Rattle.oat_map.specs.{declared.row.Row.TheVariants.Ret, declared.row.Row.TheVariants.Begin, declared.row.Row.TheVariants.End, declared.row.Row.TheVariants.UseCell}
use Rattle.oat_map.specs.{declared.row.Row.TheVariants.Check, declared.edge.Edge.Edge, declared.map.Function.Function, declared.map.Map.Map, Walk.Step, Walk.moved, Walk.Walk, Walk.path_of}
use Rattle.oat_map.specs.{Walk.bits_of, Walk.targets_of, Walk.returns_of, EdgeName.EdgeName, EdgeName.PlaceName, EdgeName.Site, EdgeName.jump, EdgeName.branch, EdgeName.call, EdgeName.icall}
use Rattle.oat_map.specs.{EdgeName.return, EdgeName.finish, EdgeName.name_of}
use Rattle.oat_map.specs.declared.edge.Edge.TheVariants as edges

abbrev pub function_named : List ℕ → ℕ → ℕ → Bool → Function
function_named name entry params referenced = record { entry = entry; name = name; params = params; referenced = referenced }

-- an operation that is one jump
abbrev pub jump_map : Map
jump_map = record {
  functions = function_named (codes "main") 0x10000 0 false ∷ [];
  blocks = record { start = 0x1000C; label = codes "b" } ∷ [];
  rows = Begin 0x10000 1 ∷ Jump 0x10008 0x1000C ∷ End 0x1000C 1 ∷ [];
}

abbrev pub jump_steps : List Step
jump_steps = moved (edges.Jump 0x10008 0x1000C) ∷ moved (edges.End 1) ∷ []

-- its walk is the jump and the end, and there is no other
abbrev pub JumpIsWalked : Type 0
JumpIsWalked = Walk jump_map 1 jump_steps × ((steps : List Step) → Walk jump_map 1 steps → steps ≡ jump_steps)

-- an operation that calls a helper twice, then another function by its reference, and branches
abbrev pub calls_map : Map
calls_map = record {
  functions = function_named (codes "main") 0x10000 0 false ∷ function_named (codes "work") 0x10008 0 false
      ∷ function_named (codes "helper") 0x10084 1 true ∷ function_named (codes "up") 0x1009C 0 true
      ∷ function_named (codes "down") 0x100A8 0 true ∷ [];
  blocks = record { start = 0x10064; label = codes "yes" } ∷ record { start = 0x1006C; label = codes "done" } ∷ [];
  rows = Call 0x10000 0x10008 ∷ Begin 0x10010 2 ∷ Call 0x10018 0x10084 ∷ Call 0x1001C 0x10084 ∷ Check 0x1002C
      ∷ ICall 0x10034 0 ∷ UseCell 0x1003C 0 ∷ Branch 0x10058 0x10064 0x1006C ∷ Jump 0x10068 0x1006C ∷ End 0x1006C 2
      ∷ Ret 0x1007C ∷ Ret 0x10094 ∷ Ret 0x100A0 ∷ Ret 0x100AC ∷ [];
}

abbrev pub calls_path : List Edge
calls_path = edges.Call 0x10018 0x10084 ∷ edges.Ret 0x10094 0x1001C ∷ edges.Call 0x1001C 0x10084 ∷ edges.Ret 0x10094 0x10020
    ∷ edges.ICall 0x10034 0x1009C ∷ edges.Ret 0x100A0 0x1003C ∷ edges.Branch 0x10058 true 0x10064 ∷ edges.Jump 0x10068 0x1006C
    ∷ edges.End 2 ∷ []

abbrev pub entry_named : List ℕ → Option PlaceName
entry_named function = Some (record { function = function; block = None })

abbrev pub work_block : List ℕ → Option PlaceName
work_block label = Some (record { function = codes "work"; block = Some label })

abbrev pub site_in : Option PlaceName → ℕ → Site
site_in place number = record { place = place; number = number }

abbrev pub calls_names : List EdgeName
calls_names = let work = entry_named (codes "work") in let helper = entry_named (codes "helper") in let up = entry_named (codes "up") in
    call (site_in work 0) helper ∷ return (site_in helper 0) (site_in work 0)
    ∷ call (site_in work 1) helper ∷ return (site_in helper 0) (site_in work 1)
    ∷ icall (site_in work 2) up ∷ return (site_in up 0) (site_in work 2)
    ∷ branch (site_in work 3) true (work_block (codes "yes"))
    ∷ jump (site_in (work_block (codes "yes")) 0) (work_block (codes "done"))
    ∷ finish 2 ∷ []

-- this path is that of a walk, with one bit, one target and three returns, and has these names
pub record CallsAreWalked : Type 0 where
  pub steps : List Step
  pub walk : Walk calls_map 2 steps
  pub path : path_of steps ≡ calls_path
  pub bits : bits_of calls_path ≡ true ∷ []
  pub targets : targets_of calls_path ≡ 0x1009C ∷ []
  pub returns : returns_of calls_path ≡ 0x1001C ∷ 0x10020 ∷ 0x1003C ∷ []
  pub names : map (name_of calls_map) calls_path ≡ calls_names
