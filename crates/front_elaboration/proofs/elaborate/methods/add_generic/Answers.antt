-- No generic function has the name.
use Rattle.front_elaboration.proofs.elaborate.methods.add_generic.Goals as goal

pub define-requires : goal.define-requires
define-requires c = c.requires.new
