-- The frame for which an activation stands.
use Rattle.std.specs.{Prelude.◌≡◌, Prelude.ℕ, Prelude.get_or, Prelude.slice_get, Prelude.Option, Option.option_and_then}
use Rattle.oat_check.specs.{BlockIr, Program, SourceSite, Naming.site_of_line, Naming.source_site, Steps.Frame, Steps.line_place}
use Rattle.oat_meaning.specs.declared.activation.Activation.{Activation}

abbrev pub locals_of : Activation → (ℕ → ℕ)
locals_of a = λ x. get_or a.locals x 0

abbrev pub frame_of : Activation → Frame
frame_of a = record { func = a.func; block = a.block; line = a.line; locals = locals_of a }

abbrev pub site_of : Activation → SourceSite
site_of a = source_site a.func a.block a.number

-- it counts the calls before its line
abbrev pub CountsCalls : Program → Activation → Type 0
CountsCalls p a = site_of a ≡ site_of_line p (line_place (frame_of a))

-- the block in which it stands
abbrev pub current_block : Program → Activation → Option BlockIr
current_block p a = option_and_then (λ func. slice_get func.blocks a.block) (slice_get p.funcs a.func)
