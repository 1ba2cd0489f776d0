-- What stood before the innermost thing was bound.
use Rattle.front_context.specs.Spaces.{without}
use Rattle.front_context.proofs.bindings.Bindings.release_last.Given as goal

abbrev pub ghost-release : goal.ghost-release
ghost-release a = without a.one.now a.self.now
