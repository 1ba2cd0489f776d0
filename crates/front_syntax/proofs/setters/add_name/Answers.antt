-- The name is the one that is made of the operator.
use Rattle.std.proofs.Common.{Some, None, refl}
use Rattle.base.specs.Names.{Extends-same}
use Rattle.front_syntax.proofs.AskedNames.{on_ok, operator_good, name_there}
use Rattle.front_syntax.proofs.setters.add_name.Goals as goal

pub add_setter_of-requires : goal.add_setter_of-requires
add_setter_of-requires c = operator_good _ c.args.names.now c.args.datum.now (Some c.in-Some.operator.now) c.requires c.in-Some.ensures

pub returns-in-Some-clause-given : goal.returns-in-Some-clause-given
returns-in-Some-clause-given c =
    on_ok _ _ _
    (name_there c.args.names.now c.add_setter_of.new.names c.args.datum.now (Some c.in-Some.operator.now) c.requires c.in-Some.ensures c.add_setter_of.ensures.names)
    c.add_setter_of.ensures.given

pub returns-in-None-clause-given : goal.returns-in-None-clause-given
returns-in-None-clause-given c =
    name_there c.args.names.now c.args.names.now c.args.datum.now None c.requires c.in-None.ensures (Extends-same _) (record { under = λ later e. refl })
