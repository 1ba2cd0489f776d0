-- Templates inside others.
use Rattle.lang_derived.proofs.Views.{group_smaller, repeated_smaller, group_written, repeated_written}
use Rattle.std.proofs.Common.{arith}
use Rattle.std.proofs.lemmas.Grind.{common_steps}
use Rattle.lang_derived.proofs.template.+write.Goals as goal

pub write-write_all-requires : goal.write-write_all-requires
write-write_all-requires t c = (omega (arith, group_smaller _ _ c.in-Group.is, c.decreases), tt)

pub write-write_each-requires : goal.write-write_each-requires
write-write_each-requires t c = (omega (arith, repeated_smaller _ _ _ _ c.in-ForEach.is, c.decreases), tt)

pub write-returns-in_ok-write_all-in-Group : goal.write-returns-in_ok-write_all-in-Group
write-returns-in_ok-write_all-in-Group t c =
    rw (group_written c.args.start.names.now c.args.start.serial c.args.own c.args.parts.now _ _ c.in-Group.is) (grind (arith, common_steps))

pub write-returns-in-ForEach : goal.write-returns-in-ForEach
write-returns-in-ForEach t c =
    rw (repeated_written c.args.start.names.now c.args.start.serial c.args.own c.args.parts.now _ _ _ _ c.in-ForEach.is) (grind (arith, common_steps))
