-- Procedures, functions, main forms and generic functions, one behind another.
use Rattle.back_uses.proofs.Adding.{both_added, used_more}
use Rattle.back_uses.proofs.program.used_names.Goals as goal

pub returns : goal.returns
returns c =
    used_more c.new-used.ensures
    (both_added c.in_ok-add_bodies.ensures (both_added c.in_ok-add_bodies-2.ensures (both_added c.in_ok-add_main.ensures c.in_ok-add_generics.ensures)))
