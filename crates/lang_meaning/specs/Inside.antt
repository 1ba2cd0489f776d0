-- The forms inside a form, those of the functions in it too.
use Rattle.std.specs.Prelude.{List, ◌∷◌, ◌++◌, flat_map}
use Rattle.lang_meaning.specs.Form.{Form}
use Rattle.lang_meaning.specs.Subforms.{fold}

abbrev pub inside_step : Form → List (List Form) → List (List Form) → List Form
inside_step f outer inner = f ∷ (flat_map (λ fs. fs) outer ++ flat_map (λ fs. fs) inner)

-- a form and all forms inside it, in the order in which they stand
abbrev pub inside_form : Form → List Form
inside_form f = fold inside_step f
