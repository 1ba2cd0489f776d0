-- Where nothing is taken, the tables are as they were.
use Rattle.std.proofs.Common.{refl}
use Rattle.front_profile.specs.bridge.Growing.{tables_grow_reflexive}
use Rattle.front_drafts.proofs.take.take.Goals as goal

pub returns-in-Offends : goal.returns-in-Offends
returns-in-Offends c = rw c.in-Offends.is (refl, tables_grow_reflexive _)

pub returns-in-Unsited : goal.returns-in-Unsited
returns-in-Unsited c = rw c.in-Unsited.is (c.unsited.ensures, tables_grow_reflexive _)
