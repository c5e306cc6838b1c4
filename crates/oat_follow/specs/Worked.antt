-- A source of the smallest image with a jump (image/Worked): it enters an operation, jumps in it, leaves it, and halts.
use Rattle.std.specs.Prelude.{◌≡◌, List, [], ◌∷◌, Option, Some, None}
use Rattle.oat_journal.specs.{SourceEvent, takes, enters, leaves, Finish, SourceMachine, halted, one_jump, Edge, name_of, Opening}
use Rattle.oat_follow.specs.{Following.Means, Following.RunsAs, Placement.Placement}
use Rattle.oat_journal.specs.edges as edges

pub data Spot : Type 0 where
  at_call : Spot
  at_jump : Spot
  at_return : Spot
  at_halt : Spot
  over : Spot

abbrev pub next_spot : Spot → Spot
next_spot at_call = at_jump
next_spot at_jump = at_return
next_spot at_return = at_halt
next_spot at_halt = over
next_spot over = over

abbrev pub end_of_spot : Spot → Option Finish
end_of_spot over = Some halted
end_of_spot _ = None

abbrev pub shown_at_spot : Spot → List (SourceEvent Edge)
shown_at_spot at_call = enters 1 ∷ []
shown_at_spot at_jump = takes (edges.Jump 0x10008 0x1000C) ∷ []
shown_at_spot at_return = leaves 1 ∷ []
shown_at_spot _ = []

abbrev pub one_jump_source : SourceMachine
one_jump_source = record {
  State = Spot;
  Edge = Edge;
  start = at_call;
  next = next_spot;
  end = end_of_spot;
  show = shown_at_spot;
  finish = λ op. edges.End op;
  name = name_of one_jump.map;
}

abbrev pub one_jump_placement : Placement Edge
one_jump_placement = record { edge = λ edge. edge; begin = λ op. 0x10004 }

abbrev pub OneJumpRunsAs : Type 0
OneJumpRunsAs = RunsAs one_jump_source one_jump one_jump_placement []

-- in each session whose windows open there
abbrev pub OneJumpMeans : Type 0
OneJumpMeans = (o : Opening) → o.begin_at ≡ 0x10004 → Means one_jump_source one_jump one_jump_placement o []
