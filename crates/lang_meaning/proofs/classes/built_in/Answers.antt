-- Row by row.
use Rattle.std.proofs.Common.{refl}
use Rattle.lang_meaning.proofs.classes.built_in.Goals as goal

pub returns : goal.returns
returns c = record { names = refl; precedence = refl; slots = refl }
