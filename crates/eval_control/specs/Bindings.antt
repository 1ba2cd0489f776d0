-- The innermost binding of a dynamic variable, among the bindings that are around.
use Rattle.std.specs.Prelude.{◌≡◌, ℕ, suc, ◌+◌, Bool, List, length, Option, Some, None, option_map, reverse}
use Rattle.std.specs.Str.{bytes_eq}
use Rattle.lang_meaning.specs.Lookup.{text, passed, numbered}
use Rattle.flat_language.specs.declared.flat_core.FlatDynBinding.{FlatDynBinding}
use Rattle.flat_language.specs.FlatForm.{FlatDynamics}
use Rattle.flat_language.specs.FlatMeaning.{bound_names}
use Rattle.flat_language.specs.FlatState.{charged}
use Rattle.flat_language.specs.model.View.{dynamics_of}
use Rattle.eval_machine.specs.Configuration.{first_that}
use Rattle.eval_store.specs.View.{Beside}
use Rattle.eval_state.specs.declared.frame.ContinuationFrame.{ContinuationFrame}
use Rattle.eval_state.specs.declared.machine.Machine.{Machine}
use Rattle.eval_state.specs.Chains.{Linking, chained}
use Rattle.eval_state.specs.Frames.{binding_link}
use Rattle.eval_state.specs.View.{state, IsGiven}
use Rattle.eval_control.specs.declared.bound.FoundBinding.{FoundBinding}

-- whether a binding is of a name
abbrev pub is_named : List (List ℕ) → ℕ → List ℕ × ℕ → Bool
is_named names n b = bytes_eq (text names n) b.0

-- the number of the variable of the first binding of a name
abbrev pub variable_of : List (List ℕ) → ℕ → List (List ℕ × ℕ) → Option ℕ
variable_of names n bs = option_map (λ (b : List ℕ × ℕ). b.1) (first_that (is_named names n) bs)

-- the bindings of a list, whose variables have numbers from that one on
abbrev pub bindings_in : List (List ℕ) → FlatDynamics → ℕ → List (List ℕ × ℕ)
bindings_in names bs first = numbered (bound_names names bs) first

-- it was found, and so many were passed
pub record IsBound (names : List (List ℕ)) (n : ℕ) (bs : List (List ℕ × ℕ)) (bound : FoundBinding) : Type 0 where
  pub variable : variable_of names n bs ≡ bound.variable
  pub passed_so_many : bound.passed ≡ passed (is_named names n) bs

-- the place of the first binding of a name in a list, wherever the numbers of the variables begin
pub record IsThere (names : List (List ℕ)) (n : ℕ) (bs : List FlatDynBinding) (place : ℕ) : Type 0 where
  pub variable : (first : ℕ) → variable_of names n (bindings_in names (dynamics_of bs) first) ≡ Some (first + place)
  pub passed_so_many : (first : ℕ) → passed (is_named names n) (bindings_in names (dynamics_of bs) first) ≡ suc place

pub record IsNowhere (names : List (List ℕ)) (n : ℕ) (bs : List FlatDynBinding) : Type 0 where
  pub variable : (first : ℕ) → variable_of names n (bindings_in names (dynamics_of bs) first) ≡ None
  pub passed_so_many : (first : ℕ) → passed (is_named names n) (bindings_in names (dynamics_of bs) first) ≡ length bs

abbrev pub IsPlace : List (List ℕ) → ℕ → List FlatDynBinding → Option ℕ → Type 0
IsPlace names n bs (Some place) = IsThere names n bs place
IsPlace names n bs None = IsNowhere names n bs

-- the same for the bindings of a frame, where it has any
pub record IsBoundBy (names : List (List ℕ)) (n : ℕ) (w : ContinuationFrame) (bound : FoundBinding) : Type 0 where
  pub bound_by : (l : Linking (List ℕ × ℕ)) → binding_link names w ≡ Some l → IsBound names n l.items bound

-- it was looked for from a link on, and those that were passed were counted
pub record IsBindingFound (old new : Machine) (n link : ℕ) (variable : Option ℕ) : Type 0 where
  pub same : new ≡ record old { store = new.store }
  pub found : (names : List (List ℕ)) → IsGiven names old.given → variable_of names n (chained (binding_link names) (reverse old.frames.items) link) ≡ variable
  pub counted : (names : List (List ℕ)) (b : Beside) → IsGiven names old.given
      → state names new b ≡ charged (passed (is_named names n) (chained (binding_link names) (reverse old.frames.items) link)) (state names old b)
