-- It is a row of the table.
use Rattle.std.proofs.Common.{arith}
use Rattle.lang_meaning.proofs.BuiltInRows.{built_in_there, as_many}
use Rattle.lang_meaning.proofs.classes.built_in_class.Goals as goal

pub returns-in-Some : goal.returns-in-Some
returns-in-Some c =
    built_in_there c.built_in.result.now c.args.number c.in-Some.class.now c.built_in.ensures (omega (arith, c.in-Some.ensures.lookup)) c.in-Some.ensures.lookup.1

pub returns-in-None : goal.returns-in-None
returns-in-None c = omega (arith, as_many c.built_in.result.now c.built_in.ensures, c.in-None.ensures.lookup)
