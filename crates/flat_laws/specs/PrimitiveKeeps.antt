-- What a primitive leaves of the state as it was.
use Rattle.std.specs.Prelude.{◌≡◌, ◌≤◌, ℕ, List, ◌∷◌, length, slice_get}
use Rattle.lang_meaning.specs.declared.primitive.Primitive.{Primitive}
use Rattle.lang_meaning.specs.declared.primitive.Primitive.TheVariants.{SetCar, SetCdr, SetCharAt, SetVectorRef, SlotSet}
use Rattle.lang_meaning.specs.Values.{Value, nil, object}
use Rattle.lang_meaning.specs.State.{State, charged}
use Rattle.lang_meaning.specs.Prefixes.{IsPrefix, IsLastOf}
use Rattle.lang_meaning.specs.Primitives.{Answer, result, makes, makes_symbol, fails, domain_error}
use Rattle.flat_laws.specs.Blanks.{blank}

abbrev pub second_argument : List Value → Value
second_argument (v ∷ w ∷ us) = w
second_argument vs = nil

-- the object that a primitive sets something in: a setter's second argument; for all others it is none
abbrev pub set_by : Primitive → List Value → Value
set_by SetCar vs = second_argument vs
set_by SetCdr vs = second_argument vs
set_by SetCharAt vs = second_argument vs
set_by SetVectorRef vs = second_argument vs
set_by SlotSet vs = second_argument vs
set_by which vs = nil

-- all but units, bytes and that object is as before, and that object is of the same kind and size
pub record PrimitiveKeeps (set : Value) (before after : State) : Type 0 where
  pub variables : after.variables ≡ before.variables
  pub globals : after.globals ≡ before.globals
  pub dynamics : after.dynamics ≡ before.dynamics
  pub exits : after.exits ≡ before.exits
  pub made : after.made ≡ before.made
  pub symbols : after.symbols ≡ before.symbols
  pub heap : after.heap ≡ before.heap
  pub stack : after.stack ≡ before.stack
  pub peak : after.peak ≡ before.peak
  pub units : before.units ≤ after.units
  pub printed : IsPrefix before.printed after.printed
  pub input : IsLastOf after.input before.input
  pub store : length after.store ≡ length before.store
  pub others : (i : ℕ) → (set ≡ object i → ⊥) → slice_get after.store i ≡ slice_get before.store i
  pub objects : (i : ℕ) → blank (slice_get after.store i) ≡ blank (slice_get before.store i)

-- only units are counted
pub record IsCounted (before after : State) : Type 0 where
  pub units : ℕ
  pub is : after ≡ charged units before

-- what an answer leaves: with a value all that is not the primitive's own; where a condition is to be signalled, all but units;
-- where an object is to be made, or an argument is of another class, all
abbrev pub AnswerKeeps : Value → State → Answer → Type 0
AnswerKeeps set before (result v after) = PrimitiveKeeps set before after
AnswerKeeps set before (makes size besides made after) = after ≡ before
AnswerKeeps set before (makes_symbol after) = after ≡ before
AnswerKeeps set before (fails class slots after) = IsCounted before after
AnswerKeeps set before (domain_error v expected after) = after ≡ before
