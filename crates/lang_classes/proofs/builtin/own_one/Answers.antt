-- One slot behind none.
use Rattle.std.proofs.Common.{[], sym, subst}
use Rattle.lang_classes.specs.InheritedBuiltIn.{SaysSlots}
use Rattle.lang_classes.proofs.BuiltIns.{says-nothing}
use Rattle.lang_classes.proofs.builtin.own_one.Goals as goal

pub returns-clause-own : goal.returns-clause-own
returns-clause-own c =
    c.in_ok-add_own.ensures.own [] (subst (SaysSlots c.args.names.now []) (sym c.new-own.ensures) (says-nothing c.args.names.now))
