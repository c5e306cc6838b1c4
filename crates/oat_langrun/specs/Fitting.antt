-- What each step of a lawful text keeps: its operands have room, its numbers name what it wants, it goes on within the body, and a begin leads to a node.
use Rattle.std.specs.Prelude.{◌≡◌, ◌<◌, ◌≤◌, ◌^◌, ◌⊎◌, ◌+◌, ℕ, suc, Bool, true, false, List, [], ◌∷◌, length, slice_get, Some}
use Rattle.oat_ir.specs.declared.program.GlobalItem.{GlobalItem}
use Rattle.oat_check.specs.Rules.{is_array, is_main_role, is_operation_role}
use Rattle.oat_tree.specs.Rules.{is_number}
use Rattle.oat_tree.specs.Scopes.{function_locals, functions_of, globals_of}
use Rattle.oat_tree.specs.Syntax.{Function, Tree}
use Rattle.oat_langrun.specs.declared.step.Act.{Act}
use Rattle.oat_langrun.specs.declared.step.Act.TheVariants.{Begins, Decides, ReachesEnd, Literal, ReadsLocal, ReadsScalar, ReadsElement, Calls, TakesInput, Negates, Operates}
use Rattle.oat_langrun.specs.declared.step.Step.{Step}
use Rattle.oat_langrun.specs.declared.step.Use.{Use}
use Rattle.oat_langrun.specs.declared.step.Use.TheVariants.{Keeps, Drops, Assigns, StoresScalar, StoresElement, Puts, Chooses, Returns, Halts}

-- ---- one step

pub record GlobalIs (tree : Tree) (test : GlobalItem → Bool) (g : ℕ) : Type 0 where
  pub item : GlobalItem
  pub is : slice_get (globals_of tree) g ≡ Some item
  pub kind : test item ≡ true

pub record FunctionIs (tree : Tree) (f : Function) (g count : ℕ) : Type 0 where
  pub callee : Function
  pub is : slice_get (functions_of tree) g ≡ Some callee
  pub no_main : is_main_role callee.role ≡ false
  pub plain : (is_operation_role callee.role ≡ false) ⊎ (is_main_role f.role ≡ true)
  pub arity : count ≡ length callee.params

abbrev pub ActKeeps : Tree → Function → ℕ → ℕ → Act → Type 0
ActKeeps tree f room below Begins = Unit {0}
ActKeeps tree f room below Decides = below < room
ActKeeps tree f room below ReachesEnd = Unit {0}
ActKeeps tree f room below (Literal value) = (below < room) × (value < 2 ^ 63)
ActKeeps tree f room below (ReadsLocal x) = (below < room) × (x < length (function_locals f))
ActKeeps tree f room below (ReadsScalar g) = (below < room) × GlobalIs tree is_number g
ActKeeps tree f room below (ReadsElement g) = (below < room) × GlobalIs tree is_array g
ActKeeps tree f room below (Calls g count) = (below < room) × (below + count ≤ room) × FunctionIs tree f g count
ActKeeps tree f room below TakesInput = below < room
ActKeeps tree f room below Negates = below < room
ActKeeps tree f room below (Operates op) = below + 1 < room

abbrev pub UseKeeps : Tree → Function → ℕ → ℕ → Use → Type 0
UseKeeps tree f total place Keeps = suc place < total
UseKeeps tree f total place (Drops to) = to < total
UseKeeps tree f total place (Assigns x to) = (x < length (function_locals f)) × (to < total)
UseKeeps tree f total place (StoresScalar g to) = GlobalIs tree is_number g × (to < total)
UseKeeps tree f total place (StoresElement g to) = GlobalIs tree is_array g × (to < total)
UseKeeps tree f total place (Puts to) = to < total
UseKeeps tree f total place (Chooses first second) = (first < total) × (second < total)
UseKeeps tree f total place Returns = is_main_role f.role ≡ false
UseKeeps tree f total place Halts = Unit {0}

-- a node is neither a begin nor a decision nor an end
abbrev pub is_node : Act → Bool
is_node Begins = false
is_node Decides = false
is_node ReachesEnd = false
is_node _ = true

abbrev pub NodeFirst : List Step → Type 0
NodeFirst [] = ⊥
NodeFirst (st ∷ sts) = is_node st.act ≡ true

abbrev pub BeginGoes : Use → List Step → Type 0
BeginGoes Keeps rest = NodeFirst rest
BeginGoes Halts rest = Unit {0}
BeginGoes _ rest = ⊥

abbrev pub DecisionGoes : Use → Type 0
DecisionGoes (Chooses first second) = Unit {0}
DecisionGoes _ = ⊥

abbrev pub EndGoes : Use → Type 0
EndGoes Returns = Unit {0}
EndGoes Halts = Unit {0}
EndGoes _ = ⊥

abbrev pub ActGoes : Use → List Step → Act → Type 0
ActGoes u rest Begins = BeginGoes u rest
ActGoes u rest Decides = DecisionGoes u
ActGoes u rest ReachesEnd = EndGoes u
ActGoes u rest _ = Unit {0}

pub record StepKeeps (tree : Tree) (f : Function) (room total place : ℕ) (st : Step) (rest : List Step) : Type 0 where
  pub act : ActKeeps tree f room st.open_below st.act
  pub use_of : UseKeeps tree f total place st.use_of
  pub goes : ActGoes st.use_of rest st.act

-- the steps from a place on
abbrev pub StepsKeep : Tree → Function → ℕ → ℕ → ℕ → List Step → Type 0
StepsKeep tree f room total place [] = Unit {0}
StepsKeep tree f room total place (st ∷ sts) = StepKeeps tree f room total place st sts × StepsKeep tree f room total (suc place) sts
