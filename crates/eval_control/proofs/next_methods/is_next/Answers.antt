-- The chain of the method has methods.
use Rattle.std.proofs.Common.{refl, ap, ◌∙◌}
use Rattle.lang_meaning.specs.Meaning.{is_next}
use Rattle.eval_store.specs.Words.{called_of}
use Rattle.eval_control.proofs.next_methods.is_next.Goals as goal

pub returns-in-Some : goal.returns-in-Some
returns-in-Some c names s = c.is_left.ensures (called_of names c.in-Some.called.now) refl ∙ ap is_next (c.in-Some.ensures names s)
