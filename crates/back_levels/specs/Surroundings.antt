-- **What is around a main form**: the record of the end and no other, no handler and no binding; and where its form begins.
use Rattle.std.specs.Prelude.{◌≡◌, ℕ, ◌<◌, [], ◌∷◌, length, slice_get, Some, None, true}
use Rattle.lang_meaning.specs.State.{Exit, end_exit, main_context}
use Rattle.flat_language.specs.FlatExits.{no_exits}
use Rattle.flat_language.specs.FlatState.{no_environment, FlatState}
use Rattle.mid_code.specs.State.{Registers, MidState}
use Rattle.back_lowering.specs.ControlWords.{current_address, link_address, handlers_address, bindings_address, end_address}
use Rattle.back_lowering.specs.Program.{main_scope}
use Rattle.back_relation.specs.Setting.{Setting}
use Rattle.back_relation.specs.Worlds.{World, for_exit, Standing}
use Rattle.back_relation.specs.StackWords.{HasWordAt, RecordAt}
use Rattle.back_relation.specs.Things.{Things}
use Rattle.back_relation.specs.Around.{RoomFor, AroundStands}
use Rattle.back_relation.specs.Activation.{FormScope}
use Rattle.back_relation.specs.Forms.{Begins}

abbrev pub the_end : Exit
the_end = record { number = 0; kind = end_exit }

-- the record of the end stands as the current one and that of the innermost valid exit, and is known as the end's
pub record EndStands (w : World) (y : MidState) (r : Standing) : Type 0 where
  pub role : r.role ≡ for_exit the_end
  pub there : RecordAt w y r
  pub current : HasWordAt y current_address r.address
  pub link : HasWordAt y link_address r.address
  pub end : HasWordAt y end_address r.address
  pub no_handler : HasWordAt y handlers_address 0
  pub no_binding : HasWordAt y bindings_address 0
  pub end_form : slice_get w.exit_forms 0 ≡ Some None

-- **that is around**
abbrev pub LawOfMainSurroundings : Type 0
LawOfMainSurroundings =
    (setting : Setting) (w : World) (z : FlatState) (y : MidState) (r : Standing) → Things setting w z y → EndStands w y r
    → AroundStands setting w (r ∷ []) (r ∷ []) main_context z y

-- where the form stands: it has no slots, nothing was captured, and no exit is its own
abbrev pub main_form_scope : Setting → FormScope
main_form_scope setting = record {
  flat = record { homes = []; captured = []; exits = 0; in_procedure = true };
  exits = no_exits;
  keeps_method = true;
  code = main_scope setting.names setting.at setting.program;
}

-- **where the form begins**, with so many words
abbrev pub LawOfMainForms : Type 0
LawOfMainForms =
    (setting : Setting) (n : ℕ) (w : World) (z : FlatState) (y : MidState) (r : Standing) (regs : Registers) → Things setting w z y → EndStands w y r
    → RoomFor setting.limit n z.state y → z.frame ≡ [] → 8 < length regs
    → Begins setting (r ∷ []) (r ∷ []) (main_form_scope setting) 8 n w no_environment main_context z regs y
