-- The name has the function, and all others have theirs.
use Rattle.std.proofs.Common.{refl}
use Rattle.eval_store.proofs.Named.{function_set}
use Rattle.eval_store.proofs.functions.NamedFunctions.set.Goals as goal

pub returns : goal.returns
returns c =
    function_set c.args.self.now c.reach.new.self (record { spellings = c.reach.new.self.spellings; entries = c.replace.new.self }) c.args.name.0 c.number-number.result c.args.function c.reach.ensures.alike c.number-number.ensures c.in_ok-reach.ensures.reached c.replace.ensures.now refl
