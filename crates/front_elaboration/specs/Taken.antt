-- Whether a core form takes all the forms that were found.
use Rattle.std.specs.Prelude.{◌≡◌, ℕ, ◌-◌, ◌==◌, Bool, true, false, not, ◌&&◌, ◌||◌, List, [], ◌∷◌, Option, Some, None, Result, IfOk, unwrap_or}
use Rattle.base.specs.declared.faults.NoMemory.{NoMemory}
use Rattle.lang_meaning.specs.declared.capture.Capture.{Capture}
use Rattle.lang_meaning.specs.declared.capture.Capture.TheVariants.{Variable}
use Rattle.lang_meaning.specs.Form.{Form}
use Rattle.lang_meaning.specs.Mentions.{names_part, binds, mentions}
use Rattle.front_profile.specs.declared.elaboration.ElaboratedPart.{ElaboratedPart}
use Rattle.front_profile.specs.declared.elaboration.ElaboratedPart.TheVariants.{Value, Binding, Parameter}
use Rattle.front_profile.specs.declared.elaboration.Elaboration.{Elaboration}
use Rattle.front_profile.specs.declared.elaboration.Elaboration.TheVariants.{Ready, OfOne, OfTwo, OfBody, InSequence, CallOf, CallOfValue, CallOfLocal, CallOfPrimitive, OfClauses, OfVariables, OfDynamics, OfFunction, OfBlock, OfSegments, OfFunctionNamed, OfProcedure, OfAccessor, OfMethods, OfClass}
use Rattle.front_profile.specs.Elaborations.{forms_found, elaborate}

-- whether a part that was found is a form
abbrev pub is_form : ElaboratedPart → Bool
is_form (Value f) = true
is_form (Binding v f) = false
is_form (Parameter v) = false

-- so many forms are left behind clauses, and behind segments
abbrev pub clauses_left : List (Option ℕ) → ℕ → ℕ
clauses_left [] n = n
clauses_left (l ∷ ls) n = clauses_left ls (n - 1 - unwrap_or l 0)

abbrev pub segments_left : List ℕ → ℕ → ℕ
segments_left [] n = n
segments_left (l ∷ ls) n = segments_left ls (n - l)

-- where no variables have values, so many forms are all taken
abbrev pub takes_forms : Elaboration → ℕ → Bool
takes_forms (Ready l) n = n == 0
takes_forms (OfOne k) n = n == 1
takes_forms (OfTwo k) n = n == 2
takes_forms (OfBody k) n = true
takes_forms InSequence n = true
takes_forms (CallOf name) n = true
takes_forms CallOfValue n = true
takes_forms (CallOfLocal v) n = true
takes_forms (CallOfPrimitive p) n = true
takes_forms (OfClauses ls) n = clauses_left ls n == 0
takes_forms OfVariables n = true
takes_forms (OfDynamics ns) n = true
takes_forms (OfFunction r rest parts) n = true
takes_forms (OfBlock x) n = true
takes_forms (OfSegments x ls) n = segments_left ls n == 0
takes_forms (OfFunctionNamed k name r rest of_file l) n = n == 0
takes_forms (OfProcedure name r rest) n = n == 0
takes_forms (OfAccessor name k v l) n = n == 0
takes_forms (OfMethods t hs p of_file l) n = n == 0
takes_forms (OfClass c p of_file l) n = n == 0

-- only `let` takes values of variables
abbrev pub takes_values : Elaboration → Bool
takes_values OfVariables = true
takes_values m = false

-- whether a core form is made of nothing but the forms that were found
abbrev pub takes_only_forms : Elaboration → Bool
takes_only_forms OfVariables = false
takes_only_forms (OfFunction r rest parts) = false
takes_only_forms m = true

-- if so, it is made of these
abbrev pub IsMadeOf : Elaboration → List Form → Result Form NoMemory → Type 0
IsMadeOf m fs result = (found : List ElaboratedPart) → forms_found found ≡ fs → takes_only_forms m ≡ true → IfOk result (λ core. core ≡ elaborate m found)

-- the variable whose value is called
abbrev pub called : Elaboration → Option Capture
called (CallOfLocal v) = Some (Variable v)
called m = None

-- what a form mentions, by whether those outside and those inside of the forms right inside it mention the part
abbrev pub Gathers : Capture → Form → Bool → Bool → Type 0
Gathers p f outer inner = ((names_part p f || outer) || (not (binds p f) && inner)) ≡ mentions p f
