-- The class of the table is the one of the number.
use Rattle.std.proofs.Common.{[]}
use Rattle.lang_meaning.specs.BuiltIn.{built_in_precedence, built_in_slots}
use Rattle.test_checker.proofs.FirstClasses.{item_at}
use Rattle.test_checker.proofs.classes.is_built_in.Goals as goal

pub returns : goal.returns
returns c =
    rw (
      item_at built_in_precedence c.args.number _ [] c.in-Some.ensures.precedence,
      item_at built_in_slots c.args.number c.in-Some.built_in.now.slots 0 c.in-Some.ensures.slots,
    )
    c.is_class.ensures
