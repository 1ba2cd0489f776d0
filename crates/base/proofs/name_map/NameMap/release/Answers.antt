-- One name after another is released.
use Rattle.std.proofs.Common.{ap, ◌∙◌, length, drop, arith}
use Rattle.std.proofs.lemmas.List.{drop-drop, length-drop}
use Rattle.base.proofs.name_map.NameMap.release.Goals as goal

pub release_last-requires : goal.release_last-requires
release_last-requires g c = omega (arith, c.requires, ap length c.loop.invariant, length-drop c.loop.counter c.args.self.now)

pub loop-preserved : goal.loop-preserved
loop-preserved g c = c.release_last.ensures ∙ ap (drop 1) c.loop.invariant ∙ drop-drop 1 c.loop.counter c.args.self.now
