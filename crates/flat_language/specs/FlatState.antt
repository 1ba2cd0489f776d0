-- What an evaluation of flat forms changes and comes to. An activation has a frame of slots of its own, which is gone when it ends;
-- a box is a variable of the state, which functions share. A function is a number in the store, and what it captured stands
-- beside the state: so it is known which functions a form made. The combinators are those of the meaning.
use Rattle.std.specs.Prelude.{ℕ, ◌+◌, ◌==◌, List, [], ◌∷◌, ◌++◌, Option, Some, None, length, slice_get, slice_set, take, if◌then◌else◌}
use Rattle.lang_meaning.specs.Values.{Value, nil, object}
use Rattle.lang_meaning.specs.Objects.{Called, Object, function}
use Rattle.lang_meaning.specs.State.{State, DynamicContext, Exit, ExitKind, Landing, Outcome, value, exit, full, more, Limit, exits_from, has_room, room_left, with_words, stored}
use Rattle.lang_meaning.specs.State as base
use Rattle.lang_meaning.specs.Lookup.{value_at, set_at}
use Rattle.lang_meaning.specs.Lookup as lookup
use Rattle.flat_language.specs.declared.place.CapturedKind.{CapturedKind}
use Rattle.flat_language.specs.declared.place.CapturedKind.TheVariants as kind
use Rattle.flat_language.specs.declared.place.Home.{Home}
use Rattle.flat_language.specs.declared.place.Home.TheVariants as home
use Rattle.flat_language.specs.declared.place.VariablePlace.{VariablePlace}
use Rattle.flat_language.specs.declared.place.VariablePlace.TheVariants.{Slot, SlotBox, CapturedValue, CapturedBox}
use Rattle.flat_language.specs.declared.place.ExitPlace.{ExitPlace}
use Rattle.flat_language.specs.declared.place.ExitPlace.TheVariants as exit_place
use Rattle.flat_language.specs.declared.place.MethodPlace.{MethodPlace}
use Rattle.flat_language.specs.declared.place.MethodPlace.TheVariants as method_place
use Rattle.flat_language.specs.declared.place.FlatCapture.{FlatCapture}
use Rattle.flat_language.specs.declared.place.FlatCapture.TheVariants as part

-- a slot of a frame has the value of its variable, or the number of its variable's box
pub data FrameSlot : Type 0 where
  holds : Value → FrameSlot
  holds_box : ℕ → FrameSlot

-- what a function captured: a value; a box, by its number; an exit; or the arguments and the chain of a method
pub data Captured : Type 0 where
  of_value : Value → Captured
  of_box : Option ℕ → Captured
  of_exit : Option ℕ → Captured
  of_method : Option Called → Captured

-- the environment of the code of a procedure: what its function captured; the exits of the blocks and tagbodies around, the
-- outermost first; and what its method was called with
pub record FlatEnvironment : Type 0 where
  pub captured : List Captured
  pub exits : List ℕ
  pub method : Option Called

abbrev pub no_environment : FlatEnvironment
no_environment = record { captured = []; exits = []; method = None }

-- the state, whose variables are the boxes and the variables of dynamic bindings; the frame of the activation that runs, its
-- outermost slot first; and what functions captured, by the numbers of their objects
pub record FlatState : Type 0 where
  pub state : State
  pub frame : List FrameSlot
  pub captured : List (ℕ × List Captured)

pub record FlatEvaluated : Type 0 where
  pub outcome : Outcome
  pub state : FlatState

abbrev pub on_state : (State → State) → FlatState → FlatState
on_state f z = record z { state = f z.state }

abbrev pub charged : ℕ → FlatState → FlatState
charged n z = on_state (λ y. base.charged n y) z

abbrev pub exit_made : FlatState → FlatState
exit_made z = on_state (λ y. base.exit_made y) z

abbrev pub with_values : List Value → FlatState → FlatState
with_values vs z = on_state (λ y. lookup.with_values vs y) z

-- what stands under a number
abbrev pub under : {X : Type 0} → ℕ → List (ℕ × X) → Option X
under n [] = None
under n (x ∷ xs) = if n == x.0 then Some x.1 else under n xs

-- what a function captured, where a form made it
abbrev pub captured_by : Value → FlatState → Option (List Captured)
captured_by (object i) z = under i z.captured
captured_by v z = None

-- frames

-- the slots of new variables with these homes and values, where the next box has that number
abbrev pub new_slots : List Home → List Value → ℕ → List FrameSlot
new_slots [] vs n = []
new_slots (h ∷ hs) [] n = []
new_slots (home.Slot ∷ hs) (v ∷ vs) n = holds v ∷ new_slots hs vs n
new_slots (home.Boxed ∷ hs) (v ∷ vs) n = holds_box n ∷ new_slots hs vs (n + 1)

-- the values of those among them that have boxes
abbrev pub new_boxes : List Home → List Value → List Value
new_boxes [] vs = []
new_boxes (h ∷ hs) [] = []
new_boxes (home.Slot ∷ hs) (v ∷ vs) = new_boxes hs vs
new_boxes (home.Boxed ∷ hs) (v ∷ vs) = v ∷ new_boxes hs vs

-- new variables: their slots stand behind those of the frame, and each that has a box has a new one
abbrev pub with_slots : List Home → List Value → FlatState → FlatState
with_slots hs vs z =
    record (with_values (new_boxes hs vs) z) { frame = z.frame ++ new_slots hs vs (length z.state.variables) }

-- places

-- what a slot holds, and what was captured
abbrev pub value_held : Option FrameSlot → Value
value_held (Some (holds v)) = v
value_held s = nil

abbrev pub box_held : Option FrameSlot → Option ℕ
box_held (Some (holds_box i)) = Some i
box_held s = None

abbrev pub value_in : Option Captured → Value
value_in (Some (of_value v)) = v
value_in c = nil

abbrev pub box_in : Option Captured → Option ℕ
box_in (Some (of_box i)) = i
box_in c = None

abbrev pub exit_in : Option Captured → Option ℕ
exit_in (Some (of_exit e)) = e
exit_in c = None

abbrev pub method_in : Option Captured → Option Called
method_in (Some (of_method m)) = m
method_in c = None

-- the value of a variable
abbrev pub value_of : VariablePlace → FlatEnvironment → FlatState → Value
value_of (Slot n) env z = value_held (slice_get z.frame n)
value_of (SlotBox n) env z = value_at (box_held (slice_get z.frame n)) z.state
value_of (CapturedValue n) env z = value_in (slice_get env.captured n)
value_of (CapturedBox n) env z = value_at (box_in (slice_get env.captured n)) z.state

-- a variable is set, in the frame or in its box; a captured value is never set
abbrev pub set_to : VariablePlace → Value → FlatEnvironment → FlatState → FlatState
set_to (Slot n) v env z = record z { frame = slice_set z.frame n (holds v) }
set_to (SlotBox n) v env z = on_state (λ y. set_at (box_held (slice_get z.frame n)) v y) z
set_to (CapturedValue n) v env z = z
set_to (CapturedBox n) v env z = on_state (λ y. set_at (box_in (slice_get env.captured n)) v y) z

abbrev pub exit_of : ExitPlace → FlatEnvironment → Option ℕ
exit_of (exit_place.Own n) env = slice_get env.exits n
exit_of (exit_place.Captured n) env = exit_in (slice_get env.captured n)

abbrev pub method_of : MethodPlace → FlatEnvironment → Option Called
method_of method_place.Own env = env.method
method_of (method_place.Captured n) env = method_in (slice_get env.captured n)

-- what is captured of a variable: its box where it has one, else its value
abbrev pub captured_variable : VariablePlace → FlatEnvironment → FlatState → Captured
captured_variable (Slot n) env z = of_value (value_held (slice_get z.frame n))
captured_variable (SlotBox n) env z = of_box (box_held (slice_get z.frame n))
captured_variable (CapturedValue n) env z = of_value (value_in (slice_get env.captured n))
captured_variable (CapturedBox n) env z = of_box (box_in (slice_get env.captured n))

abbrev pub captured_part : FlatEnvironment → FlatState → FlatCapture → Captured
captured_part env z (part.Variable p) = captured_variable p env z
captured_part env z (part.Exit p) = of_exit (exit_of p env)
captured_part env z (part.Method p) = of_method (method_of p env)

-- the kind of what is captured of a variable
abbrev pub kind_of_place : VariablePlace → CapturedKind
kind_of_place (Slot n) = kind.Value
kind_of_place (SlotBox n) = kind.Boxed
kind_of_place (CapturedValue n) = kind.Value
kind_of_place (CapturedBox n) = kind.Boxed

-- the combinators

abbrev pub gives : Value → FlatState → FlatEvaluated
gives v z = record { outcome = value v; state = z }

abbrev pub leaves : ℕ → Value → Landing → FlatState → FlatEvaluated
leaves e v landing z = record { outcome = exit e v landing; state = z }

abbrev pub FlatAct : Type 0
FlatAct = DynamicContext → FlatState → FlatEvaluated

abbrev pub go_on_from : Outcome → FlatState → (Value → FlatState → FlatEvaluated) → FlatEvaluated
go_on_from (value v) z next = next v z
go_on_from (exit e v landing) z next = record { outcome = exit e v landing; state = z }
go_on_from (full asked left) z next = record { outcome = full asked left; state = z }
go_on_from more z next = record { outcome = more; state = z }

abbrev pub go_on : FlatEvaluated → (Value → FlatState → FlatEvaluated) → FlatEvaluated
go_on r next = go_on_from r.outcome r.state next

abbrev pub landed_from : ℕ → (Value → Landing → FlatState → FlatEvaluated) → Outcome → FlatState → FlatEvaluated
landed_from e land (value v) z = record { outcome = value v; state = z }
landed_from e land (exit x v landing) z =
    if x == e then land v landing z else record { outcome = exit x v landing; state = z }
landed_from e land (full asked left) z = record { outcome = full asked left; state = z }
landed_from e land more z = record { outcome = more; state = z }

abbrev pub landed : ℕ → (Value → Landing → FlatState → FlatEvaluated) → FlatEvaluated → FlatEvaluated
landed e land r = landed_from e land r.outcome r.state

abbrev pub caught : ℕ → FlatEvaluated → FlatEvaluated
caught e r = landed e (λ v landing z. gives v z) r

abbrev pub cleaned_from : FlatAct → DynamicContext → Outcome → FlatState → FlatEvaluated
cleaned_from cleanup around (value v) z = go_on (cleanup around z) (λ w after. gives v after)
cleaned_from cleanup around (exit e v landing) z =
    go_on (cleanup (record around { exits = exits_from e around.exits }) z) (λ w after. leaves e v landing after)
cleaned_from cleanup around (full asked left) z = record { outcome = full asked left; state = z }
cleaned_from cleanup around more z = record { outcome = more; state = z }

abbrev pub cleaned : FlatAct → DynamicContext → FlatEvaluated → FlatEvaluated
cleaned cleanup around r = cleaned_from cleanup around r.outcome r.state

-- a request of words: Full where heap and stack would pass the limit
abbrev pub request : Limit → ℕ → ℕ → FlatState → (FlatState → FlatEvaluated) → FlatEvaluated
request limit heap stack z next =
    if has_room limit (z.state.heap + z.state.stack + heap + stack) then next (on_state (λ y. with_words heap stack y) z)
    else record { outcome = full (heap + stack) (room_left limit (z.state.heap + z.state.stack)); state = z }

abbrev pub make : Limit → (size besides : ℕ) → Object → FlatState → (Value → FlatState → FlatEvaluated) → FlatEvaluated
make limit size besides made z next =
    request limit size 0 z (λ entered.
    next (object (length entered.state.store)) (on_state (λ y. stored made (base.charged (size + besides) y)) entered))

-- the function of a procedure is made, and what it captured
abbrev pub make_closure : Limit → (procedure : ℕ) → List Captured → FlatState → (Value → FlatState → FlatEvaluated) → FlatEvaluated
make_closure limit p cs z next =
    request limit (2 + length cs) 0 z (λ entered.
    next (object (length entered.state.store)) (record entered {
      state = stored (function p) (base.charged (2 + length cs + 0) entered.state);
      captured = (length entered.state.store, cs) ∷ entered.captured;
    }))

abbrev pub with_stack : ℕ → FlatEvaluated → FlatEvaluated
with_stack stack r = record { outcome = r.outcome; state = on_state (λ y. record y { stack = stack }) r.state }

-- the words of an application, which are given back when it is left
abbrev pub in_frame : Limit → ℕ → (FlatState → FlatEvaluated) → FlatState → FlatEvaluated
in_frame limit size body z = request limit 0 size z (λ entered. with_stack z.state.stack (body entered))

abbrev pub without_slots_from : ℕ → FlatEvaluated → FlatEvaluated
without_slots_from n r = record { outcome = r.outcome; state = record r.state { frame = take n r.state.frame } }

-- a body with new slots: when it is left, by whatever outcome, they are gone, and the slots before them are as it left them
abbrev pub in_new_slots : List Home → List Value → (FlatState → FlatEvaluated) → FlatState → FlatEvaluated
in_new_slots hs vs body z = without_slots_from (length z.frame) (body (with_slots hs vs z))

abbrev pub with_frame : List FrameSlot → FlatEvaluated → FlatEvaluated
with_frame frame r = record { outcome = r.outcome; state = record r.state { frame = frame } }

-- a body in a frame of its own, which has no slots yet: when it is left, by whatever outcome, the frame is the one of before
abbrev pub in_own_frame : (FlatState → FlatEvaluated) → FlatState → FlatEvaluated
in_own_frame body z = with_frame z.frame (body (record z { frame = [] }))
