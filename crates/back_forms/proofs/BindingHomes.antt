-- Where the variables of bindings live, binding by binding.
use Rattle.std.proofs.Common.{◌≡◌, List, [], ◌∷◌, map, refl, ap}
use Rattle.flat_language.specs.declared.flat_core.FlatBinding.{FlatBinding}
use Rattle.flat_language.specs.FlatMeaning.{binding_homes}
use Rattle.flat_language.specs.model.View.{bindings_of}
use Rattle.back_forms.specs.Inside.{home_of}

pub homes_are : (bs : List FlatBinding) → binding_homes (bindings_of bs) ≡ map home_of bs
homes_are [] = refl
homes_are (b ∷ bs) = ap (λ hs. b.home ∷ hs) (homes_are bs)
