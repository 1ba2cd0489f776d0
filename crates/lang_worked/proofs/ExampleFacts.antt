-- The facts of the worked programs compute.
use Rattle.std.proofs.Common.{refl}
use Rattle.lang_worked.specs.Programs.{WorkedAreWhole, TooFewArguments, GoOutside, NoSuchSegment, NoSegment, GoToABlock, Captured, InOrder, BoxOfItsOwn, Uncalled, MadeByUncalled, NotThere, NodesOfOneApplication, NotReached, BoxesOfMethods}
use Rattle.base.specs.DataMeasures.{size_of}

pub worked_are_whole : WorkedAreWhole
unfolding size_of
worked_are_whole = (refl, refl, refl)

pub too_few_arguments : TooFewArguments
unfolding size_of
too_few_arguments = refl

pub go_outside : GoOutside
unfolding size_of
go_outside = refl

pub no_such_segment : NoSuchSegment
unfolding size_of
no_such_segment = refl

pub go_to_a_block : GoToABlock
unfolding size_of
go_to_a_block = refl

pub captured : Captured
unfolding size_of
captured = (refl, refl)

pub parts_in_order : InOrder
unfolding size_of
parts_in_order = (refl, refl, refl, refl, refl)

pub box_of_its_own : BoxOfItsOwn
box_of_its_own = (refl, refl)

pub no_segment : NoSegment
unfolding size_of
no_segment = refl

pub uncalled_procedures : Uncalled
unfolding size_of
uncalled_procedures = (refl, refl, refl, refl)

pub made_by_uncalled : MadeByUncalled
unfolding size_of
made_by_uncalled = (refl, refl, refl)

pub not_there : NotThere
unfolding size_of
not_there = (refl, refl, refl, refl, refl)

pub nodes_of_one_application : NodesOfOneApplication
unfolding size_of
nodes_of_one_application = (refl, refl)

pub not_reached : NotReached
unfolding size_of
not_reached = (refl, refl)

pub cells_of_methods : BoxesOfMethods
unfolding size_of
cells_of_methods = refl
