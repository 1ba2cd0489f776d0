-- The value of a global variable is another one.
use Rattle.std.proofs.Common.{◌≡◌, ℕ, ◌∷◌, Some}
use Rattle.lang_meaning.specs.Lookup.{text, under_text}
use Rattle.lang_meaning.specs.State.{State}
use Rattle.lang_meaning.specs.Values.{Value}
use Rattle.flat_language.specs.FlatState.{FlatState, on_state}
use Rattle.mid_code.specs.State.{MidState}
use Rattle.mid_arena.specs.Places.{word_of}
use Rattle.back_lowering.specs.Placement.{global_address, dynamic_address}
use Rattle.back_relation.specs.Setting.{Setting}
use Rattle.back_relation.specs.Placed.{HasGlobal, IsPlaced}
use Rattle.back_relation.specs.Worlds.{World}
use Rattle.back_relation.specs.Things.{Things}
use Rattle.back_values.specs.Boxes.{Clean}
use Rattle.back_values.proofs.VariableWords.{IsStored, slot_stands, value_stands, variable_stored}

pub new_global :
    (setting : Setting) (placed : IsPlaced setting) {w : World} {z : FlatState} {y : MidState} (t : Things setting w z y) (clean : Clean w y) (name : ℕ) (has : HasGlobal setting name)
    (v : Value) (word cost : ℕ) (is : word_of w.places v ≡ Some word)
    → IsStored setting w z (on_state (λ (s : State). record s { globals = (text setting.names name, v) ∷ s.globals }) z) y (global_address setting.at name) word cost
new_global setting placed {w} {z} {y} t clean name has v word cost is =
    let at = global_address setting.at name in
    let variable = placed.globals.there name has in
    variable_stored setting t clean at variable has v word cost is ((text setting.names name, v) ∷ z.state.globals) z.state.dynamics
    (λ n there.
    value_stands setting t clean at variable has v word cost is (text setting.names name) (text setting.names n) (global_address setting.at n) z.state.globals
    (λ e. placed.globals.same name n has there e) (λ e. placed.globals.apart name n has there e) (t.globals n there))
    (λ n there.
    slot_stands setting t clean at variable has v word cost is (dynamic_address setting.at n) (under_text (text setting.names n) z.state.dynamics)
    (λ e. placed.globals_apart name n has there e) (t.dynamics n there))
