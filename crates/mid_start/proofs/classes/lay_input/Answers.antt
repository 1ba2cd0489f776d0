-- One word is pushed.
use Rattle.std.proofs.Common.{◌+◌, refl, ap}
use Rattle.mid_start.proofs.ClassObjects.{input_settles}
use Rattle.mid_start.proofs.classes.lay_input.Goals as goal

pub returns-clause-settles : goal.returns-clause-settles
returns-clause-settles c names program =
    input_settles names program c.args.words.now _ _ (record { first = refl; symbols = refl; words = c.in_ok-push.ensures.ok }) (ap (λ n. n + 2) c.end_address-word.ensures)
