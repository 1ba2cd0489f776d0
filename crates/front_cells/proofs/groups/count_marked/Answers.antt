-- A class more, which makes a group or is a copy.
use Rattle.std.proofs.Common.{◌≡◌, true, rules}
use Rattle.front_cells.proofs.Counting.{none_counted, class_more, copy_counted}
use Rattle.front_cells.proofs.Flagging.{not_false}
use Rattle.front_cells.proofs.groups.count_marked.Goals.{else-not-copy-via-then-not-copy+else-not-count_class, else-not-copy-via-else-not-copy}
use Rattle.front_cells.proofs.groups.count_marked.Goals as goal

pub loop-class-init : goal.loop-class-init
loop-class-init c = λ column f. none_counted c.args.classes.now column c.in_ok-zeros.field-0

pub loop-class-preserved : goal.loop-class-preserved
loop-class-preserved c = elim c.else-not-copy.branch [
  | else-not-copy-via-then-not-copy+else-not-count_class w ↦ λ column f.
      let counted : w.count_class.result ≡ true = not_false w.count_class.result (search rules) in
      rw w.counts-is (class_more c.args.classes.now column c.loop-class.class c.loop-class.counts w.count_class.new.counts (w.count_class.ensures counted) (c.loop-class.invariant column f))
  | else-not-copy-via-else-not-copy w ↦ λ column f.
      let copy : c.is_copy-copy.result ≡ true = not_false c.is_copy-copy.result (search rules) in
      rw w.counts-is (copy_counted c.args.classes.now column c.loop-class.class c.loop-class.counts (c.is_copy-copy.ensures column f copy) (c.loop-class.invariant column f))
]
