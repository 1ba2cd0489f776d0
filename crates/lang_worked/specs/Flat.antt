-- Worked programs, made flat: they end and print as they did.
use Rattle.std.specs.Prelude.{◌≡◌, ℕ, ◌+◌, ◌*◌, pos, false, List, [], ◌∷◌, None}
use Rattle.lang_meaning.specs.declared.program.ProgramRows.{ProgramRows}
use Rattle.lang_meaning.specs.declared.primitive.Primitive.TheVariants.{Add}
use Rattle.lang_meaning.specs.State.{Limit, unlimited}
use Rattle.lang_meaning.specs.Values.{integer}
use Rattle.lang_meaning.specs.Meaning.{Ending, ending_of, ended_value}
use Rattle.flat_language.specs.declared.place.CapturedKind.TheVariants.{Boxed}
use Rattle.flat_language.specs.declared.place.VariablePlace.TheVariants.{CapturedBox}
use Rattle.flat_language.specs.FlatForm.{set_local, prim, sequence, local, literal, no_form, form_and}
use Rattle.flat_language.specs.FlatMeaning.{flat_meaning}
use Rattle.flat_language.specs.Flatten.{flat_program}
use Rattle.lang_worked.specs.Calls.{one_application}
use Rattle.lang_worked.specs.Data.{counting, two_bytes}

-- what is said of a program holds of it when it was made flat: it ends so, and prints that
pub record DoesFlat (names : List (List ℕ)) (program : ProgramRows) (k : ℕ) (limit : Limit) (ending : Ending) (printed : List ℕ) : Type 0 where
  pub ends : ending_of (flat_meaning names (flat_program program) [] k limit).end (flat_meaning names (flat_program program) [] k limit).store ≡ ending
  pub prints : (flat_meaning names (flat_program program) [] k limit).printed ≡ printed

-- the units and the words of an application
abbrev pub OneApplication : Type 0
OneApplication =
    ((flat_meaning [] (flat_program one_application) [] 1 unlimited).units ≡ 3 + (1 + 2) + 1 + 1 + 2)
    × ((flat_meaning [] (flat_program one_application) [] 1 unlimited).peak ≡ (16 + 16 * 5) + 2 + (16 + 16 * 2 + 1))

-- an input of two bytes
abbrev pub TwoBytes : Type 0
TwoBytes = (flat_meaning [] (flat_program two_bytes) (7 ∷ []) 0 unlimited).end ≡ ended_value (integer (pos 8))

-- the words of a function that captures a box
abbrev pub CountingWords : Type 0
CountingWords = (flat_meaning [] (flat_program counting) [] 3 unlimited).peak ≡ (16 + 16 * 20) + 1 + 3 + (16 + 16 * 7)

-- it has one function, in which the variable is the first captured box
abbrev pub CountingFlat : Type 0
CountingFlat =
    (flat_program counting).lambdas
    ≡ record {
      captured = Boxed ∷ [];
      required = [];
      rest = None;
      keeps_method = false;
      body = sequence (form_and
          (set_local (CapturedBox 0) (prim Add (form_and (local (CapturedBox 0)) (form_and (literal 1) no_form)))) no_form);
    } ∷ []
