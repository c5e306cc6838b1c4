-- Where the edges and operations of a program lie in its image, and the names of these edges.
use Rattle.std.specs.{Prelude.◌≡◌, Prelude.◌+◌, Prelude.◌*◌, Prelude.◌<◌, Prelude.ℕ, Prelude.true, Prelude.if◌then◌else◌, Prelude.List, Prelude.[], Prelude.length, Prelude.Option, Prelude.Some}
use Rattle.std.specs.{List.position_or_len}
use Rattle.oat_ir.specs.declared.instr.Term.TheVariants.{Jump, Branch, Ret}
use Rattle.oat_globals.specs.{Edge, name_of, Program, Instr, Call, ICall, CodeLine, instruction, terminator, is_calling, line_edge_name, is_operation_of, Frame, LineEdge, LinePlace, jumps, branches}
use Rattle.oat_globals.specs.{calls, icalls, returns, finishes, current_line, operation_of, Placement, World, return_address, prologue_end, Operations.role_words}
use Rattle.oat_symbols.specs.Programs.{label_of_block}
use Rattle.oat_globals.specs.edges as edges

-- a line of a program, and its address
abbrev pub frame_at : LinePlace → Frame
frame_at at = record { func = at.func; block = at.block; line = at.line; locals = λ i. 0 }

abbrev pub code_line_at : Program → LinePlace → Option CodeLine
code_line_at p at = current_line p (frame_at at)

abbrev pub address_of_line : World → LinePlace → ℕ
address_of_line w at = w.place at.func at.block at.line

-- the arguments of a call
abbrev pub call_arguments : Option CodeLine → List ℕ
call_arguments (Some (instruction (Call x g args))) = args
call_arguments (Some (instruction (ICall x y args))) = args
call_arguments _ = []

-- Each edge leaves from its transfer: behind the test, the count and the arguments of a call, behind the load of a branch, and behind the group that ends an operation and the three instructions before a return.
abbrev pub edge_in_image : Program → World → LineEdge → Edge
edge_in_image p w (jumps from block) = edges.Jump (address_of_line w from) (w.label (label_of_block p from.func block))
edge_in_image p w (branches from bit block) = edges.Branch (address_of_line w from + 4) bit (w.label (label_of_block p from.func block))
edge_in_image p w (calls from func) = edges.Call (address_of_line w from + 16 + 4 * length (call_arguments (code_line_at p from))) (w.label func)
edge_in_image p w (icalls from func) = edges.ICall (address_of_line w from + 28 + 4 * length (call_arguments (code_line_at p from))) (w.label func)
edge_in_image p w (returns from back) = edges.Ret (address_of_line w from + 4 * role_words (operation_of p from.func) + 12) (return_address w (frame_at back))
edge_in_image p w (finishes op) = edges.End op

-- the function that is an operation
abbrev pub function_of_operation : Program → ℕ → ℕ
function_of_operation p op = position_or_len (λ f. is_operation_of op f.role) p.funcs

-- an operation begins at the second instruction behind its prologue
abbrev pub placement : Program → World → Placement LineEdge
placement p w = record { edge = edge_in_image p w; begin = λ op. prologue_end w (function_of_operation p op) + 4 }

-- ---- names

-- an edge that the lines of the program may take
abbrev pub IsLineEdge : Program → LineEdge → Type 0
IsLineEdge p (jumps from block) = code_line_at p from ≡ Some (terminator (Jump block))
IsLineEdge p (branches from bit block) = (x other : ℕ) × (code_line_at p from ≡ Some (terminator (if bit then Branch x block other else Branch x other block)))
IsLineEdge p (calls from func) = (x : ℕ) × (args : List ℕ) × (code_line_at p from ≡ Some (instruction (Call x func args)))
IsLineEdge p (icalls from func) = (func < length p.funcs) × (x y : ℕ) × (args : List ℕ) × (code_line_at p from ≡ Some (instruction (ICall x y args)))
IsLineEdge p (returns from back) =
    (x : ℕ) × (code_line_at p from ≡ Some (terminator (Ret x))) × (i : Instr) × (code_line_at p back ≡ Some (instruction i)) × (is_calling i ≡ true)
IsLineEdge p (finishes op) = Unit {0}

-- in the map of the image each has the name that it has in the source
pub record EdgesAreNamed (p : Program) (w : World) : Type 0 where
  pub named : (edge : LineEdge) → IsLineEdge p edge → name_of w.image.map (edge_in_image p w edge) ≡ line_edge_name p edge
