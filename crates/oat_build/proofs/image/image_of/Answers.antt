use Rattle.std.proofs.Common.{◌≡◌, map, ap, ◌∙◌, List}
use Rattle.oat_match.specs.{GlobalItem, NoteAt, row_of, cell_words, symbols_of, words_from}
use Rattle.oat_build.specs.Addresses.{address_in}
use Rattle.oat_build.proofs.Imaging.{whole_image}
use Rattle.oat_build.proofs.image.image_of.Goals as goal

pub returns : goal.returns
returns c = λ marked is.
    let address = address_in c.in_ok-addresses.addresses in
    whole_image (symbols_of c.args.program.now) marked c.args.items.now c.args.assembled address
    c.from_vec.result c.from_vec-2.result c.from_vec-3.result c.from_vec-4.result c.from_vec-5.result
    is c.requires.laid c.in_ok-addresses.ensures
    (c.from_vec.ensures ∙ c.in_ok-words.ensures ∙ ap (λ (xs : List GlobalItem). words_from 0 xs) c.as_slice-2.ensures)
    (c.from_vec-2.ensures ∙ c.in_ok-cells.ensures ∙ ap cell_words c.as_slice-3.ensures)
    (c.from_vec-3.ensures ∙ c.in_ok-symbols.ensures.functions)
    (c.from_vec-4.ensures ∙ c.in_ok-symbols.ensures.blocks)
    (c.from_vec-5.ensures ∙ c.in_ok-rows.ensures ∙ ap (λ (xs : List NoteAt). map (λ (entry : NoteAt). row_of address entry.at entry.note) xs) c.as_slice.ensures)
