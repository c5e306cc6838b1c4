-- The run of a text so far, and what it shows of itself (docs/FORMATS.md, "The structured language").
use Rattle.std.specs.Prelude.{ℕ, ℤ, Bool, List}
use Rattle.oat_ir.specs.declared.source.SourceEnd.{SourceEnd}
use Rattle.oat_check.specs.Shown.{written_end}
use Rattle.oat_events.specs.Events.{SourceEvent}
use Rattle.oat_events.specs.Source.{has_completed, outputs_of}
use Rattle.oat_tree.specs.Seen.{seen_tree}
use Rattle.oat_tree.specs.declared.item.Item.{Item}
use Rattle.oat_langrun.specs.Meaning.{lang_events, lang_run}

-- A text with its inputs, the operation of whose calls is told, the most steps that the run may make, and for how many it is made: for all, where it has ended.
pub record RunSoFar : Type 0 where
  pub items : List Item
  pub inputs : List ℤ
  pub op : ℕ
  pub steps : ℕ
  pub made : ℕ

-- before the first step
abbrev pub first_run : List Item → List ℤ → ℕ → ℕ → RunSoFar
first_run items inputs op steps = record { items = items; inputs = inputs; op = op; steps = steps; made = 0 }

abbrev pub events_so_far : RunSoFar → List (SourceEvent ℕ)
events_so_far run = lang_events (seen_tree run.items) run.inputs run.made

abbrev pub end_so_far : RunSoFar → SourceEnd
end_so_far run = written_end (lang_run (seen_tree run.items) run.inputs run.made).end

abbrev pub outputs_so_far : RunSoFar → List ℤ
outputs_so_far run = outputs_of (events_so_far run)

-- the first call of the operation has completed
abbrev pub completed_so_far : RunSoFar → Bool
completed_so_far run = has_completed run.op 0 (events_so_far run)
