use Rattle.std.proofs.Common.{◌∙◌, ℕ, List, Err, ap, ap₂}
use Rattle.oat_programs.specs.{image_text, IsImageOf, passes, Done, shows}
use Rattle.oat_programs.proofs.Programming.{refuses_words}
use Rattle.oat_room_program.proofs.Building.{stops_at_code}
use Rattle.oat_room_program.proofs.build.image_page.Goals as goal

pub returns-in_ok-print_image-in-Ok : goal.returns-in_ok-print_image-in-Ok
returns-in_ok-print_image-in-Ok c =
    let of_program : IsImageOf c.args.checked.now c.in-Ok.shaped = record {
      well_formed = c.in-Ok.ensures.well_formed;
      shaped = c.in-Ok.ensures.shaped;
      functions = c.in-Ok.ensures.functions;
      operations = c.in-Ok.ensures.operations;
      few = c.in-Ok.ensures.few;
      runs = c.in-Ok.ensures.runs;
    } in
    passes tt c.in-Ok.ensures.fits (record {
      image = c.in-Ok.shaped;
      of_program = of_program;
      is = ap₂ (λ (text err : List ℕ). shows Done text err) (c.of.ensures ∙ (c.in_ok-print_image-in-Ok.ensures ∙ ap image_text c.image.ensures.same)) c.new.ensures.items;
    })

pub returns-in_ok-too_large-in-Err-CodeTooLarge : goal.returns-in_ok-too_large-in-Err-CodeTooLarge
returns-in_ok-too_large-in-Err-CodeTooLarge c =
    let words = c.in-Err-CodeTooLarge.words in
    let said = c.in-Err-CodeTooLarge.ensures in
    let is = ap Err c.in-Err-CodeTooLarge.field-0-is in
    stops_at_code c.args.file.now c.args.checked.now _
    (refuses_words c.args.file.now c.args.checked.now words c.name.result.now _ (said.needed words is) (said.too_large words is) (said.bounded words is) c.name.ensures
    c.in_ok-too_large-in-Err-CodeTooLarge.ensures)
