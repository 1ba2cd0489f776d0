-- The laws of global variables, and of what code does where a name has no value or no function.
use Rattle.std.specs.Prelude.{ℕ, ◌+◌, ◌<◌, [], ◌∷◌}
use Rattle.lang_meaning.specs.Lookup.{text}
use Rattle.lang_meaning.specs.Objects.{unbound_variable_class}
use Rattle.lang_meaning.specs.Values.{symbol, named}
use Rattle.flat_language.specs.FlatForm.{FlatForm, global, set_global, def_global}
use Rattle.flat_language.specs.FlatSignals.{signal}
use Rattle.back_lowering.specs.Leaves.{failing_with}
use Rattle.back_lowering.specs.Placement.{symbol_word}
use Rattle.back_relation.specs.Setting.{Setting}
use Rattle.back_relation.specs.Activation.{FormScope}
use Rattle.back_relation.specs.Forms.{context_at}
use Rattle.back_relation.specs.Placed.{HasGlobal, HasSymbol, IsPlaced}
use Rattle.back_relation.specs.RoutineClaims.{routine_credit}
use Rattle.back_relation.specs.Points.{Point, start_at, run, Here}
use Rattle.back_relation.specs.Starts.{EndsAt}

-- what code pays that signals a condition with the symbol of a name: the site is stored, and the routine is called with two words
abbrev pub named_credit : ℕ
named_credit = routine_credit + 84

-- the code that signals a condition of a class with the symbol of a name does so, at all points of a scope, and costs so much beside its units
abbrev pub FailsHere : (setting : Setting) (s : FormScope) (d m size k turns : ℕ) → (class name : ℕ) → Type 0
FailsHere setting s d m size k turns class name =
    (q : Point setting s d m size)
    → EndsAt setting named_credit (start_at setting s d m size turns q) (signal (context_at setting k) class (symbol (named (text setting.names name)) ∷ []) q.around q.z)
    (run setting s d m size k turns (failing_with setting.at s.code.site d class (symbol_word setting.at name)) q.regs q.y)

-- a global variable: its value, or a condition where it has none
abbrev pub LawOfGlobals : Type 0
LawOfGlobals =
    (setting : Setting) (s : FormScope) (d m size k turns name : ℕ) → IsPlaced setting → HasGlobal setting name → d + 1 < size
    → FailsHere setting s d m size k turns unbound_variable_class name → Here setting s d m size k turns (global name)

-- it is set, where it has a value
abbrev pub LawOfSettingGlobals : Type 0
LawOfSettingGlobals =
    (setting : Setting) (s : FormScope) (d m size k turns name : ℕ) (f : FlatForm) → IsPlaced setting → HasGlobal setting name → d + 2 < size
    → FailsHere setting s d m size k turns unbound_variable_class name → Here setting s d m size k turns f
    → Here setting s d m size k turns (set_global name f)

-- it is defined
abbrev pub LawOfDefinitions : Type 0
LawOfDefinitions =
    (setting : Setting) (s : FormScope) (d m size k turns name : ℕ) (f : FlatForm) → IsPlaced setting → HasGlobal setting name → HasSymbol setting name
    → d + 1 < size → Here setting s d m size k turns f → Here setting s d m size k turns (def_global name f)
