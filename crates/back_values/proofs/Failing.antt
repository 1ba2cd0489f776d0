-- A condition is signalled with the symbol of a name: what the routine is claimed to do, the code of forms does.
use Rattle.std.proofs.Common.{ℕ, ◌+◌, ◌<◌, ◌≤◌, refl, arith}
use Rattle.lang_meaning.specs.Lookup.{text}
use Rattle.lang_meaning.specs.Objects.{unbound_variable_class, undefined_function_class}
use Rattle.lang_meaning.specs.Values.{symbol, named}
use Rattle.back_lowering.specs.ControlWords.{site_address}
use Rattle.back_lowering.specs.Placement.{symbol_word}
use Rattle.back_relation.specs.Setting.{Setting}
use Rattle.back_relation.specs.Activation.{FormScope}
use Rattle.back_relation.specs.Placed.{HasSymbol}
use Rattle.back_relation.specs.Room.{routine_words}
use Rattle.back_relation.specs.RoutineClaims.{IsBuiltInCondition, routine_credit}
use Rattle.back_relation.specs.Points.{start_at}
use Rattle.back_relation.specs.Starts.{Start}
use Rattle.back_calling.specs.Storing.{stored_at, standing_world}
use Rattle.back_calling.proofs.Sited.{failing_law}
use Rattle.back_values.specs.Globals.{FailsHere}
use Rattle.back_values.specs.Wholes.{FailingWithClaims}

-- the classes of the two conditions are built in
pub unbound_built_in : IsBuiltInCondition unbound_variable_class 1
unbound_built_in = record { low = omega arith; high = omega arith; slots = refl }

pub undefined_built_in : IsBuiltInCondition undefined_function_class 1
undefined_built_in = record { low = omega arith; high = omega arith; slots = refl }

-- **the code that signals such a condition** does so at all points, where it has its words
pub fails_here :
    (setting : Setting) (k turns class : ℕ) → FailingWithClaims setting k turns → IsBuiltInCondition class 1 → (s : FormScope) (d m size name : ℕ) → HasSymbol setting name
    → d + 1 < size → routine_words ≤ m → FailsHere setting s d m size k turns class name
fails_here setting k turns class claims built s d m size name has there words q =
    let a : Start setting = start_at setting s d m size turns q in
    (failing_law setting).with_word k routine_credit a d class (symbol_word setting.at name) (symbol (named (text setting.names name))) (omega arith) (omega (arith, there, q.count))
    (omega (arith, words))
    (λ number paid.
    claims a.rs a.valid (standing_world a.w a.y) a.around a.z (stored_at site_address number paid a.y) class (symbol (named (text setting.names name)))
    (symbol_word setting.at name) built (a.begins.call.things.symbols name has))
