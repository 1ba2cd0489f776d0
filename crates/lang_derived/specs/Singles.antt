-- Parts of right sides that write one part.
use Rattle.lang_derived.specs.RightSides.{Template, all_of, group, for_each}

abbrev pub IsSingle : Template → Type 0
IsSingle (all_of i) = ⊥
IsSingle (group xs) = ⊥
IsSingle (for_each i ps xs) = ⊥
IsSingle _ = Unit {0}
