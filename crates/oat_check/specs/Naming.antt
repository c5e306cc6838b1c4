-- How the edges of a run are written, by numbers of functions and blocks, and how they are named.
use Rattle.std.specs.{Prelude.ℕ, Prelude.List, Prelude.[], Prelude.take, Prelude.slice_get, Prelude.count_by, Prelude.Option, Prelude.Some, Prelude.None, Option.option_map, Option.option_and_then}
use Rattle.std.specs.{Option.unwrap_or}
use Rattle.oat_events.specs.{EdgeName, PlaceName, Site}
use Rattle.oat_ir.specs.{declared.program.Program.Program, declared.source.SourceSite.SourceSite, declared.source.SourceEdge.SourceEdge, declared.instr.Instr.Instr}
use Rattle.oat_check.specs.{Lines.is_calling, Steps.LinePlace, Steps.LineEdge, Steps.jumps, Steps.branches, Steps.calls, Steps.icalls, Steps.returns, Steps.finishes}
use Rattle.oat_events.specs.name as name
use Rattle.oat_ir.specs.declared.source.SourceEdge.TheVariants as edges

abbrev pub instrs_of : Program → ℕ → ℕ → List Instr
instrs_of p f b = unwrap_or (option_and_then (λ func. option_map (λ block. block.instrs) (slice_get func.blocks b)) (slice_get p.funcs f)) []

abbrev pub source_site : ℕ → ℕ → ℕ → SourceSite
source_site func block number = record { func = func; block = block; number = number }

-- a line is numbered by the calls and indirect calls before it in its block
abbrev pub site_of_line : Program → LinePlace → SourceSite
site_of_line p at = source_site at.func at.block (count_by is_calling (take at.line (instrs_of p at.func at.block)))

abbrev pub written_edge : Program → LineEdge → SourceEdge
written_edge p (jumps from block) = edges.Jump (site_of_line p from) (source_site from.func block 0)
written_edge p (branches from bit block) = edges.Branch bit (site_of_line p from) (source_site from.func block 0)
written_edge p (calls from func) = edges.Call (site_of_line p from) (source_site func 0 0)
written_edge p (icalls from func) = edges.ICall (site_of_line p from) (source_site func 0 0)
written_edge p (returns from back) = edges.Ret (site_of_line p from) (site_of_line p back)
written_edge p (finishes op) = edges.End op

abbrev pub source_func_name : Program → SourceSite → Option PlaceName
source_func_name p site = option_map (λ func. record { function = func.name; block = None }) (slice_get p.funcs site.func)

abbrev pub source_block_name : Program → SourceSite → Option PlaceName
source_block_name p site =
    option_and_then (λ func. option_map (λ block. record { function = func.name; block = Some block.label }) (slice_get func.blocks site.block)) (slice_get p.funcs site.func)

abbrev pub source_site_name : Program → SourceSite → Site
source_site_name p site = record { place = source_block_name p site; number = site.number }

abbrev pub source_edge_name : Program → SourceEdge → EdgeName
source_edge_name p (edges.Jump from to) = name.jump (source_site_name p from) (source_block_name p to)
source_edge_name p (edges.Branch bit from to) = name.branch (source_site_name p from) bit (source_block_name p to)
source_edge_name p (edges.Call from to) = name.call (source_site_name p from) (source_func_name p to)
source_edge_name p (edges.ICall from to) = name.icall (source_site_name p from) (source_func_name p to)
source_edge_name p (edges.Ret from to) = name.return (source_site_name p from) (source_site_name p to)
source_edge_name p (edges.End op) = name.finish op

abbrev pub line_edge_name : Program → LineEdge → EdgeName
line_edge_name p edge = source_edge_name p (written_edge p edge)
