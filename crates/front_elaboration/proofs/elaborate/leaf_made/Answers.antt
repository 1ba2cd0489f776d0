-- A form without parts mentions what it names itself.
use Rattle.front_elaboration.proofs.Gathered.{leaf_gathered}
use Rattle.front_elaboration.proofs.elaborate.leaf_made.Goals as goal

pub new-requires-3 : goal.new-requires-3
new-requires-3 c =
    leaf_gathered c.new.result c.new-2.result c.in_ok-mentioned.mentioned c.leaf_form-form.result c.args.leaf c.leaf_form-form.ensures
    c.new.ensures c.new-2.ensures c.in_ok-mentioned.ensures
