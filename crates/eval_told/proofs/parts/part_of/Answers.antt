-- What the object of a word is, the word is.
use Rattle.eval_told.proofs.Found.{part_there, nothing_there}
use Rattle.eval_told.proofs.parts.part_of.Goals as goal

pub returns-in-Some : goal.returns-in-Some
returns-in-Some c =
    part_there c.args.names.now c.args.store.now c.args.word c.in-Object._number c.in-Some.object.now c.part_of_object.result c.in-Object.is c.in-Some.ensures
    c.part_of_object.ensures

pub returns-in-None : goal.returns-in-None
returns-in-None c = nothing_there c.args.names.now c.args.store.now c.args.word c.in-Object._number c.in-Object.is c.in-None.ensures
