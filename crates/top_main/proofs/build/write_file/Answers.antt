-- The bytes of the file of an image with the sites of its program.
use Rattle.std.proofs.Common.{ℕ, List, subst, sym}
use Rattle.lang_meaning.specs.declared.program.ProgramRows.{ProgramRows}
use Rattle.rv_image_file.specs.ImageText.{ImageText}
use Rattle.top_main.proofs.Written.{of_file}
use Rattle.top_main.proofs.build.write_file.Goals as goal

pub returns-in-Ok : goal.returns-in-Ok
returns-in-Ok g c =
    let program = c.args.whole.now.program in
    let text = subst (λ (rows : ProgramRows). ImageText c.in-Ok.bytes 2 c.args.image.now rows.sites) c.rows.ensures.same c.in-Ok.ensures in
    of_file c.write_bytes-answer.result c.args.whole.now.names program c.args.image.now c.as_slice.result.now _ _ _ _ c.requires.is_image
    (subst (λ (bytes : List ℕ). ImageText bytes 2 c.args.image.now program.sites) (sym c.as_slice.ensures) text)
    c.write_bytes-answer.ensures
