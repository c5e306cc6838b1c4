use Rattle.std.proofs.Common.{◌≡◌, ◌≤◌, ◌++◌, length, drop}
use Rattle.oat_lines.specs.Hexadecimal.{hexadecimal}
use Rattle.oat_lines.proofs.hexadecimal.hexadecimal_text.Given as goal

-- the digits so far stand behind those that are still to come
abbrev pub invariant-loop-place : goal.invariant-loop-place
invariant-loop-place g l = (length l.digits ≡ g.row.N) × (l.place ≤ g.row.N) × (hexadecimal g.row.N l.number ≡ hexadecimal l.place l.rest ++ drop l.place l.digits)

abbrev pub decreases-loop-place : goal.decreases-loop-place
decreases-loop-place g l = l.place
