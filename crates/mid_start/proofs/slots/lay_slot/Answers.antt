-- The name, then the initargs, then the initform.
use Rattle.mid_start.proofs.Joins.{slot_made}
use Rattle.mid_start.proofs.slots.lay_slot.Goals as goal

pub returns-clause-made : goal.returns-clause-made
returns-clause-made c =
    slot_made c.args.names.now c.args.row.now c.args.words.now c.lay_name.new.words c.lay_initargs.new.words c.lay_initform.new.words
    c.in_ok-name.name c.in_ok-initargs.initargs c.in_ok-initform.initform c.in_ok-name.ensures.made c.in_ok-initargs.ensures.made (c.in_ok-initform.ensures.made c.args.names.now)
