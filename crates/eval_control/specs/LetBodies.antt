-- Bodies with new variables, once the words of their boxes are there.
use Rattle.std.specs.Prelude.{List, ◌∷◌, length}
use Rattle.lang_meaning.specs.Values.{Value}
use Rattle.flat_language.specs.FlatForm.{FlatForm, FlatBindings}
use Rattle.flat_language.specs.FlatState.{with_slots}
use Rattle.flat_language.specs.FlatMeaning.{binding_homes}
use Rattle.eval_machine.specs.Configuration.{Situation, Transition, configuration, evaluate, drops_slots}

-- the variables are made, and the body is evaluated
abbrev pub let_enters : FlatBindings → FlatForm → List Value → Situation → Transition
let_enters all body vs at frames z =
    configuration (evaluate body at) (drops_slots (length z.frame) ∷ frames) (with_slots (binding_homes all) vs z)
