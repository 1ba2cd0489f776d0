use Rattle.back_images.proofs.Examples.{bytes_printed}
use Rattle.back_images.proofs.worked.worked_printing.Goals as goal

pub returns : goal.returns
returns c = bytes_printed
