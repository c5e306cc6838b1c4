-- What is promised of the image of a checked program whose code fits.
use Rattle.std.proofs.Common.{◌≡◌, ◌≤◌, ℕ, List, length, ap, subst, sym, ◌∙◌, arith}
use Rattle.oat_asm.proofs.{ExpansionProofs.leaves_no_mark, ExpansionProofs.stays_in_range, ExpansionProofs.uses_once, StandingItems.laid_words_encode}
use Rattle.oat_parts.proofs.{Making.codes_are_in_parts, Assembling.parts_have_the_labels}
use Rattle.oat_match.specs.{code_limit, expansion, CanBeAssembled, OperationsOpenOnce, Program, CanBeExpanded, ProgramsHaveSymbols, ProgramsHaveTheirLabels, symbols_of, CodesAreOfTheProgram}
use Rattle.oat_match.specs.{IsBuiltWhole, codes_of, Following.CompiledProgramsMean, Following.CompiledProgramsRun, Following.CompiledWindowsGoBack, Placed.placement}
use Rattle.oat_gen.specs.{Code.function_code, Code.program_items, Laws.FittingProgramsAreBuilt, Laws.FunctionsHaveTheirCode, Laws.ProgramItemsCanBeExpanded, Laws.ProgramsHaveFewWords}
use Rattle.oat_build.specs.Built.{program_words, program_image, program_world, BuiltEdgesAreNamed, BuiltImagesAreOfPrograms, BuiltProgramsAreCompiled, CanBeBuilt, ProgramsCanBeBuilt}
use Rattle.oat_build.proofs.OperationRows.{operations_are, begins_are}

pub programs_can_be_built : ProgramItemsCanBeExpanded → CodesAreOfTheProgram → FunctionsHaveTheirCode → ProgramsHaveSymbols → ProgramsCanBeBuilt
programs_can_be_built expands codes coded tables p ok named =
    let items = program_items p in
    let can : CanBeExpanded items = expands p ok named in
    let range = stays_in_range items can.instructions can.branches can.registers can.marks in
    let made = codes_are_in_parts (symbols_of p) (codes_of (function_code p) p) (codes p (function_code p) (λ f func is. coded p f func ok is)) in
    record {
      marks = can.marks;
      used = uses_once items can.used can.marked;
      unmarked = leaves_no_mark items;
      instructions = range.0;
      branches = range.1;
      registers = range.2;
      once = (parts_have_the_labels (symbols_of p) items (tables p ok named) made).once;
    }

pub can_be_assembled : (p : Program) → CanBeBuilt p → program_words p ≤ code_limit → CanBeAssembled (expansion (program_items p))
can_be_assembled p can few = record { used = can.used; unmarked = can.unmarked; instructions = can.instructions; branches = can.branches; registers = can.registers; few = few }

pub built_images_are_of_programs : ProgramsCanBeBuilt → FittingProgramsAreBuilt → ProgramsHaveFewWords → ProgramsHaveTheirLabels → OperationsOpenOnce → BuiltProgramsAreCompiled → BuiltEdgesAreNamed → CompiledProgramsRun → CompiledProgramsMean → CompiledWindowsGoBack
    → BuiltImagesAreOfPrograms
built_images_are_of_programs can fitting bounded labelled open_once compiled names run mean back p ok named few =
    let built : IsBuiltWhole p (program_items p) = fitting p ok named few in
    let whole = compiled p ok named few in
    let edges = names p ok named few in
    let long = (laid_words_encode (expansion (program_items p)) (can_be_assembled p (can p ok named) few)).0 in
    let most = bounded p ok in
    let begins = begins_are labelled p ok built whole open_once in
    record {
      well_formed = built.well.well_formed;
      shaped = built.well.shaped;
      functions = built.well.functions;
      operations = operations_are labelled p ok built;
      few = omega arith;
      runs = record {
        placement = placement p (program_world p);
        begins = begins;
        runs = λ inputs fit. run p ok (program_world p) whole edges inputs fit;
        means = λ o inputs fit begun. mean p ok (program_world p) whole edges inputs fit o (begins o.op o.begin_at begun);
        goes_back = λ o inputs fit begun. back p ok (program_world p) whole edges inputs fit o (begins o.op o.begin_at begun);
      };
    }
