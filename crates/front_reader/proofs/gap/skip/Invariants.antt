-- The gap from here on, and fewer comments around than bytes so far.
use Rattle.std.proofs.Common.{◌≡◌, ◌≤◌, drop}
use Rattle.front_reader.specs.declared.gap.Mode.TheVariants.{Between}
use Rattle.front_reader.specs.bridge.Lexemes as bridge
use Rattle.front_reader.specs.bridge.Scanning.{depth_of}
use Rattle.front_reader.proofs.gap.skip.Given as goal

abbrev pub invariant-loop-i : goal.invariant-loop-i
invariant-loop-i l = record {
  skipped : bridge.skip l.mode l.i l.opened (drop l.i l.text) ≡ bridge.skip Between 0 0 l.text;
  depth : depth_of l.mode ≤ l.i;
}
