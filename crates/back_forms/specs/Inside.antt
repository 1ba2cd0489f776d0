-- Exits as a form whose cleanup stands sees them, and as the cleanup does; and where new variables live.
use Rattle.flat_language.specs.declared.flat_core.FlatBinding.{FlatBinding}
use Rattle.flat_language.specs.declared.place.Home.{Home}
use Rattle.back_lowering.specs.declared.scope.OwnExit.{OwnExit}
use Rattle.back_lowering.specs.declared.scope.Reach.TheVariants.{BySearch}
use Rattle.back_lowering.specs.Scope.{behind_cleanup}

abbrev pub behind : OwnExit → OwnExit
behind x = record x { reach = behind_cleanup x.reach }

abbrev pub searched : OwnExit → OwnExit
searched x = record x { reach = BySearch }

-- where the variable of a binding lives
abbrev pub home_of : FlatBinding → Home
home_of b = b.home
