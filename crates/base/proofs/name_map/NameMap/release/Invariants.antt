-- So many names are released.
use Rattle.std.proofs.Common.{◌≡◌, drop}
use Rattle.base.proofs.name_map.NameMap.release.Given as goal

abbrev pub invariant-loop : goal.invariant-loop
invariant-loop g l = l.self ≡ drop l.counter l.initial.self
