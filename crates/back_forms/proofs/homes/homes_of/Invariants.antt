-- The homes so far.
use Rattle.std.proofs.Common.{◌≡◌, map, take}
use Rattle.back_forms.specs.Inside.{home_of}
use Rattle.back_forms.proofs.homes.homes_of.Given as goal

abbrev pub invariant-loop-binding : goal.invariant-loop-binding
invariant-loop-binding l = l.homes ≡ map home_of (take l.binding-index l.binding-items)
