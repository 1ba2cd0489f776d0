-- What is shared is what was captured.
use Rattle.std.proofs.Common.{ap, ◌∙◌, map}
use Rattle.eval_store.specs.Words.{captured_of}
use Rattle.eval_control.proofs.functions.shared_parts.Goals as goal

pub returns-in-Ok : goal.returns-in-Ok
returns-in-Ok c = λ names b. ap (map (captured_of names)) c.in-Ok.ensures.ok ∙ c.in_ok-captured_parts.ensures names b
