-- Primary methods are left behind those that were passed.
use Rattle.std.proofs.Common.{ap, ◌∙◌}
use Rattle.lang_meaning.specs.Objects.{Chain}
use Rattle.eval_store.specs.Words.{rest_of}
use Rattle.eval_control.proofs.NextMethods.{left_behind}
use Rattle.eval_control.proofs.next_methods.is_left.Goals as goal

pub returns-in-Primary : goal.returns-in-Primary
returns-in-Primary c called e =
    left_behind called c.in-Primary.chain.now.primary c.in-Primary.passed c.len-in-Primary.result c.len-in-Primary.ensures
    (ap (λ (x : Chain). x.primary) e ∙ ap (λ r. (rest_of r).primary) c.in-Primary.is)
