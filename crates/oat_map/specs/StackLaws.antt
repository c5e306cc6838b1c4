-- What the stack of open calls says of a walk, and how it changes from step to step.
use Rattle.std.specs.Prelude.{◌≡◌, ◌↔◌, ℕ, List, [], ◌∷◌, ◌++◌, length}
use Rattle.oat_map.specs.{declared.edge.Edge.Edge, Walk.Step, Walk.passed, Walk.moved, Walk.depth, Walk.Returns, Stack.IsStack, Turns.Turned, Turns.turn_of}

-- as many calls are open as the stack has return sites
abbrev pub StackIsAsDeep : Type 0
StackIsAsDeep = (steps : List Step) (stack : List ℕ) → IsStack steps stack → depth steps ≡ length stack

-- a return goes to the top of the stack, and nowhere else
abbrev pub ReturnsGoToTheTop : Type 0
ReturnsGoToTheTop = (steps : List Step) (stack : List ℕ) (back to : ℕ) → IsStack steps (stack ++ back ∷ []) → Returns steps to ↔ (to ≡ back)

-- a row that is passed leaves the stack, and an edge turns it
abbrev pub StacksFollow : Type 0
StacksFollow =
    (steps : List Step) (stack : List ℕ) → IsStack steps stack → IsStack (steps ++ passed ∷ []) stack
    × ((edge : Edge) (later : List ℕ) → Turned stack (turn_of edge) (λ calls. calls ≡ later) → IsStack (steps ++ moved edge ∷ []) later)
