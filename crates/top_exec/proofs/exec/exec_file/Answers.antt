-- The answer for a file, by what was read of it.
use Rattle.std.proofs.Common.{refl, sym, subst}
use Rattle.top_exec.specs.Loads.{IsImageTaken}
use Rattle.top_exec.proofs.Executed.{of_image, of_stop}
use Rattle.top_exec.proofs.exec.exec_file.Goals as goal

pub returns-in-Ok-read_image : goal.returns-in-Ok-read_image
returns-in-Ok-read_image g c =
    of_image _
    (record {
      bytes = c.as_slice.result.now;
      taken = subst (IsImageTaken (g.F.Shelf.holds c.args.shelf.now c.args.file.now)) (sym c.as_slice.ensures) c.in-Ok.ensures.taken;
      version = c.in-Ok-read_image.ensures.read.0;
      image = c.in-Ok-read_image.read.image;
      sites = c.in-Ok-read_image.read.sites;
      text = c.in-Ok-read_image.ensures.read.1;
    })
    _ _ _ _ _ _ _ _ _
    c.exec-answer.result c.exec-answer.ensures

pub returns : goal.returns
returns g c =
    of_stop c.answer_of_stop.result c.in-Err.stop _ c.as_slice.result.now _ _ _ _ _ _ _ _ _ c.answer_of_stop.ensures
    (subst (IsImageTaken (g.F.Shelf.holds c.args.shelf.now c.args.file.now)) (sym c.as_slice.ensures) c.in-Ok.ensures.taken)
    (refl, refl) c.in-Err.ensures.bad
