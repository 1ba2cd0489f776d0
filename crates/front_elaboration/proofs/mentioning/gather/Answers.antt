-- The form's own part is added to those around, and then those inside behind what the form binds.
use Rattle.front_elaboration.proofs.Gathered.{all_gathered}
use Rattle.front_elaboration.proofs.mentioning.gather.Goals as goal

pub returns : goal.returns
returns c = all_gathered c.args.outer c.args.inner c.unbind.new.inner c.add_some.new.self c.join.new.self c.own_part.result c.args.form.now c.own_part.ensures c.unbind.ensures c.in_ok-add_some.ensures c.in_ok-join.ensures
