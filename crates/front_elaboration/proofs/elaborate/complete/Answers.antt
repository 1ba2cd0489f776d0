-- Where the form's site finds no memory, what it defines is there.
use Rattle.std.proofs.Common.{◌≡◌, rules}
use Rattle.front_profile.specs.Elaborations.{finished}
use Rattle.front_elaboration.specs.bridge.Leaving.{methods_left, class_left}
use Rattle.front_elaboration.proofs.MakingStops.{on_err}
use Rattle.front_elaboration.proofs.elaborate.complete.Goals as goal

pub returns-in_ok-define_methods-in-OfMethods-clause-err : goal.returns-in_ok-define_methods-in-OfMethods-clause-err
returns-in_ok-define_methods-in-OfMethods-clause-err c =
    let same : c.define_methods.new.tables ≡ finished c.args.made c.args.kept c.args.tables.now = search rules in
    on_err _ (methods_left c.args.made c.args.kept _ _ _ _ _ c.args.tables.now c.define_methods.new.tables c.in-OfMethods.is same)

pub returns-in_ok-outcome-in-OfClass-clause-err : goal.returns-in_ok-outcome-in-OfClass-clause-err
returns-in_ok-outcome-in-OfClass-clause-err c =
    let same : c.define_class-outcome.new.tables ≡ finished c.args.made c.args.kept c.args.tables.now = search rules in
    on_err _ (class_left c.args.made c.args.kept _ _ _ _ c.args.tables.now c.define_class-outcome.new.tables c.in-OfClass.is same)
