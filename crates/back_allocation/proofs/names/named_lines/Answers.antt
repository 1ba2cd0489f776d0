use Rattle.std.proofs.Common.{length}
use Rattle.back_allocation.specs.NamesFound.{owner_in}
use Rattle.back_allocation.proofs.Naming.{length_pushed, naming_more, checked_naming}
use Rattle.back_allocation.proofs.names.named_lines.Goals as goal

pub loop-at-preserved : goal.loop-at-preserved
loop-at-preserved c = record {
  count = length_pushed c.loop-at.named _ _ c.loop-at.at c.loop-at.invariant.count c.in_ok-push.ensures.ok;
  each =
      naming_more (owner_in c.args.names.now.owners.items) (length c.args.names.now.owners.items) c.args.lines.now c.loop-at.named _ c.loop-at.at
      c.in-Some.line.now _ c.loop-at.invariant.count c.in-Some.ensures c.in_ok-push.ensures.ok
      (checked_naming c.args.names.now.owners.items _ _ c.args.names.now.starts.items c.args.names.now.ends.items c.args.registers c.given_name-given.result _
      c.in-Some.line.now _ c.requires.grouped c.as_slice-owners.ensures.value c.in_ok-named_line.ensures c.given_name-given.ensures
      (λ v h. c.requires.read c.loop-at.at v c.in-Some.line.now c.in-Some.ensures h)
      (λ to h. c.requires.given c.loop-at.at to c.in-Some.line.now c.in-Some.ensures h))
      c.loop-at.invariant.each;
}
