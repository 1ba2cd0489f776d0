-- What was found of a part, as a variable with its value.
use Rattle.std.specs.Prelude.{List, [], ◌∷◌}
use Rattle.lang_meaning.specs.declared.core_form.Binding.{Binding as Bound}
use Rattle.front_profile.specs.declared.elaboration.ElaboratedPart.{ElaboratedPart}
use Rattle.front_profile.specs.declared.elaboration.ElaboratedPart.TheVariants.{Value, Binding, Parameter}

abbrev pub binding_found : ElaboratedPart → List Bound
binding_found (Value f) = []
binding_found (Binding v f) = (record { var = v; value = f }) ∷ []
binding_found (Parameter v) = []
