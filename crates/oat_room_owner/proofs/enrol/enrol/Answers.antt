use Rattle.std.proofs.lemmas.Result.{err_from_is_err_and}
use Rattle.oat_room_owner.proofs.Enrolling.{image_stops, shape_stops}
use Rattle.oat_room_owner.proofs.enrol.enrol.Goals as goal

pub returns-in_err-image-clause-enrols : goal.returns-in_err-image-clause-enrols
returns-in_err-image-clause-enrols g c = λ contents told.
    let p = err_from_is_err_and c.from_residual-in_err-image.result c.from_residual-in_err-image.ensures.1 in
    let loaded = rw c.as_str.ensures at (c.in_ok-file.ensures.loads contents told) in
    rw (p.1, p.2) (image_stops contents _ c.args.device.now _ _ loaded c.in_err-image.ensures)

pub returns-in_err-shaped-clause-enrols : goal.returns-in_err-shaped-clause-enrols
returns-in_err-shaped-clause-enrols g c = λ contents told.
    let p = err_from_is_err_and c.from_residual-in_err-shaped.result c.from_residual-in_err-shaped.ensures.1 in
    let loaded = rw c.as_str.ensures at (c.in_ok-file.ensures.loads contents told) in
    rw (p.1, p.2) (shape_stops contents _ c.args.device.now _ _ _ loaded c.in_ok-image.ensures c.in_err-shaped.ensures)
