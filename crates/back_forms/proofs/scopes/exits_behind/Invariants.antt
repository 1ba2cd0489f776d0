-- The exits so far.
use Rattle.std.proofs.Common.{◌≡◌, map, take}
use Rattle.back_forms.specs.Inside.{behind}
use Rattle.back_forms.proofs.scopes.exits_behind.Given as goal

abbrev pub invariant-loop-exit : goal.invariant-loop-exit
invariant-loop-exit l = l.list ≡ map behind (take l.exit-index l.exits)
