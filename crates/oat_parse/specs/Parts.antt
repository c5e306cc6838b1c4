-- What is counted, as the machine has it.
use Rattle.std.specs.Prelude.{ℕ}
use Rattle.oat_grammar.specs.Nodes as nodes
use Rattle.oat_grammar.specs.FirstFaults as faults
use Rattle.oat_parse.specs.declared.limits.Part.{Part}
use Rattle.oat_parse.specs.declared.limits.Part.TheVariants.{Fresh, BehindVar, BehindName, Counted}
use Rattle.oat_parse.specs.declared.limits.Range.{Range}

abbrev pub seen_part : Part → nodes.Part
seen_part Fresh = nodes.fresh
seen_part BehindVar = nodes.behind_var
seen_part BehindName = nodes.behind_name
seen_part (Counted n) = nodes.counted n

abbrev pub seen_range : Range → faults.Range
seen_range r = record { least = r.least; most = r.most }
