-- Equal lists are the same text.
use Rattle.lang_dispatch.proofs.methods.same_classes.Goals as goal

pub returns : goal.returns
returns c = rw (← c.as_slice.ensures, ← c.as_slice-2.ensures) c.eq.ensures
