-- A run of a program beside a run of it made flat: what is alike in the two states, in the two environments and in the
-- two stores. A variable of the program stays a variable of its state; made flat it is in a slot of a frame or in a box.
use Rattle.std.proofs.Common.{◌≡◌, ℕ, ◌+◌, ◌≤◌, Bool, true, false, List, [], ◌∷◌, ◌⊎◌, Option, Some, None, length}
use Rattle.std.specs.Prelude.{⊤, slice_get}
use Rattle.base.specs.AllOf.{AllOf}
use Rattle.lang_meaning.specs.declared.capture.Capture.{Capture}
use Rattle.lang_meaning.specs.declared.capture.Capture.TheVariants.{Variable, Exit, Method}
use Rattle.lang_meaning.specs.Form.{Form, Forms, ClauseForms, MaybeForm, BindingForms, DynamicForms}
use Rattle.lang_meaning.specs.Form as core
use Rattle.lang_meaning.specs.Values.{Value}
use Rattle.lang_meaning.specs.Objects.{Object, Environment, function, closure}
use Rattle.lang_meaning.specs.State.{State, DynamicContext, Landing, Evaluated, Act}
use Rattle.lang_meaning.specs.Lookup.{under_number}
use Rattle.lang_meaning.specs.Meaning.{bound_variables}
use Rattle.flat_language.specs.declared.place.CapturedKind.{CapturedKind}
use Rattle.flat_language.specs.declared.place.VariablePlace.{VariablePlace}
use Rattle.flat_language.specs.declared.place.VariablePlace.TheVariants.{Slot, SlotBox, CapturedValue, CapturedBox}
use Rattle.flat_language.specs.declared.place.ExitPlace.{ExitPlace}
use Rattle.flat_language.specs.declared.place.MethodPlace.{MethodPlace}
use Rattle.flat_language.specs.declared.program.FlatProcedure.{FlatProcedure}
use Rattle.flat_language.specs.FlatState.{FrameSlot, holds, holds_box, Captured, of_value, of_box, FlatEnvironment, FlatState, FlatEvaluated, FlatAct, under, exit_of, method_of}
use Rattle.flat_language.specs.FlatState as flat
use Rattle.flat_language.specs.declared.place.Known.{Known}
use Rattle.flat_language.specs.Scope.{Scope, with_bound, with_around, kinds_of, seen}
use Rattle.flat_language.specs.Flatten.{functions, functions_of_values, functions_of_body, functions_of_dynamics, flat_procedure, body_scope}

-- what is known of a variable of the program in the run of it made flat: it keeps its first value, since nothing sets it; or it
-- has the box of that number; or it has the slot of that number, in the frame of the activation that made it, and in no other
pub data VariableKind : Type 0 where
  constant : Value → VariableKind
  boxed : ℕ → VariableKind
  slot : ℕ → VariableKind

-- the kinds of the variables; which variable has each box; which one has each slot of the frame; and the values of all variables when
-- the activation began
pub record World : Type 0 where
  pub kinds : List VariableKind
  pub holders : List ℕ
  pub own : List ℕ
  pub start : List Value

-- a world in which there is no frame
abbrev pub alone : List VariableKind → World
alone ks = record { kinds = ks; holders = []; own = []; start = [] }

-- what stands in a list stands in another one, at the same place
pub record StandsIn {X : Type 0} (xs ys : List X) : Type 0 where
  pub kept : (i : ℕ) (x : X) → slice_get xs i ≡ Some x → slice_get ys i ≡ Some x

-- a later world of the same activation, with the same slots
pub record Later (w u : World) : Type 0 where
  pub kinds : StandsIn w.kinds u.kinds
  pub own : u.own ≡ w.own
  pub start : u.start ≡ w.start

-- dynamic bindings on both sides: of the same names, each with the box of its variable
abbrev pub SameBindings : List VariableKind → List (List ℕ × ℕ) → List (List ℕ × ℕ) → Type 0
SameBindings ks [] [] = ⊤
SameBindings ks [] (c ∷ cs) = ⊥
SameBindings ks (b ∷ bs) [] = ⊥
SameBindings ks (b ∷ bs) (c ∷ cs) = c.0 ≡ b.0 × slice_get ks b.1 ≡ Some (boxed c.1) × SameBindings ks bs cs

pub record BindingsAlike (ks : List VariableKind) (around : List (List ℕ × ℕ)) : Type 0 where
  pub bindings : List (List ℕ × ℕ)
  pub same : SameBindings ks around bindings

-- what the bindings of a dynamic context are when the program is made flat, and the dynamic context with those
abbrev pub BindingsMatch : World → DynamicContext → Type 0
BindingsMatch w around = BindingsAlike w.kinds around.bindings

abbrev pub flat_around : {ks : List VariableKind} (around : DynamicContext) → BindingsAlike ks around.bindings → DynamicContext
flat_around around bound = record around { bindings = bound.bindings }

-- a variable in a slot: it keeps its value where nothing sets it
abbrev pub InSlot : World → ℕ → Bool → ℕ → Type 0
InSlot w n true i = (v : Value) × slice_get w.kinds i ≡ Some (constant v)
InSlot w n false i = slice_get w.kinds i ≡ Some (slot n)

-- a place is that of the variable of that number; a captured value is the one that the variable keeps
abbrev pub PlaceAt : World → FlatEnvironment → VariablePlace → Bool → ℕ → Type 0
PlaceAt w e (Slot n) fixed i = slice_get w.own n ≡ Some i × InSlot w n fixed i
PlaceAt w e (SlotBox n) fixed i = slice_get w.own n ≡ Some i × ((j : ℕ) × slice_get w.kinds i ≡ Some (boxed j))
PlaceAt w e (CapturedValue n) fixed i =
    (v : Value) × (slice_get e.captured n ≡ Some (of_value v) × slice_get w.kinds i ≡ Some (constant v) × fixed ≡ true)
PlaceAt w e (CapturedBox n) fixed i =
    (j : ℕ) × (slice_get e.captured n ≡ Some (of_box (Some j)) × slice_get w.kinds i ≡ Some (boxed j))

abbrev pub VariableAt : World → FlatEnvironment → Known → Option ℕ → Type 0
VariableAt w e k None = ⊥
VariableAt w e k (Some i) = PlaceAt w e k.place k.fixed i

pub record ExitAt (e : FlatEnvironment) (p : ExitPlace) (o : Option ℕ) : Type 0 where
  pub number : ℕ
  pub one : o ≡ Some number
  pub other : exit_of p e ≡ Some number

-- two environments in a scope
pub record Matches (w : World) (s : Scope) (env : Environment) (e : FlatEnvironment) : Type 0 where
  pub variables : (v : ℕ) (k : Known) → under v s.variables ≡ Some k → VariableAt w e k (under_number v env.variables)
  pub exits : (x : ℕ) (p : ExitPlace) → under x s.exits ≡ Some p → ExitAt e p (under_number x env.exits)
  pub method : (p : MethodPlace) → s.method ≡ Some p → method_of p e ≡ env.method
  pub slots : length w.own ≡ s.slots
  pub own : length e.exits ≡ s.own_exits

-- the value of a variable with a box is that of the box; and that of a variable of another activation is as it was when this one
-- began, where it has a slot
abbrev pub ValueAlike : (holders : List ℕ) (start boxes : List Value) → ℕ → VariableKind → Value → Type 0
ValueAlike holders start boxes i (constant u) v = u ≡ v
ValueAlike holders start boxes i (boxed j) v = slice_get holders j ≡ Some i × slice_get boxes j ≡ Some v
ValueAlike holders start boxes i (slot n) v = (u : Value) → slice_get start i ≡ Some u → u ≡ v

pub record VariableAlike (holders : List ℕ) (start variables boxes : List Value) (i : ℕ) (k : VariableKind) : Type 0 where
  pub now : Value
  pub there : slice_get variables i ≡ Some now
  pub alike : ValueAlike holders start boxes i k now

-- what the slot of a variable holds, and which slot that is
abbrev pub slot_for : VariableKind → Value → FrameSlot
slot_for (constant u) v = holds v
slot_for (boxed j) v = holds_box j
slot_for (slot n) v = holds v

abbrev pub IsInSlot : ℕ → VariableKind → Type 0
IsInSlot n (constant u) = ⊤
IsInSlot n (boxed j) = ⊤
IsInSlot n (slot m) = m ≡ n

-- a slot of the frame has its variable, which is newer than the start of the activation
pub record SlotAlike (kinds : List VariableKind) (start variables : List Value) (frame : List FrameSlot) (n i : ℕ) : Type 0 where
  pub kind : VariableKind
  pub known : slice_get kinds i ≡ Some kind
  pub now : Value
  pub there : slice_get variables i ≡ Some now
  pub here : slice_get frame n ≡ Some (slot_for kind now)
  pub in_slot : IsInSlot n kind
  pub newer : length start ≤ i

-- the variables of the program beside the boxes and the frame
pub record VariablesAlike (w : World) (variables boxes : List Value) (frame : List FrameSlot) : Type 0 where
  pub count : length w.kinds ≡ length variables
  pub box_count : length w.holders ≡ length boxes
  pub slot_count : length frame ≡ length w.own
  pub since : length w.start ≤ length variables
  pub known : (i : ℕ) (k : VariableKind) → slice_get w.kinds i ≡ Some k → VariableAlike w.holders w.start variables boxes i k
  pub slots : (n i : ℕ) → slice_get w.own n ≡ Some i → SlotAlike w.kinds w.start variables frame n i

-- what a form needs of its scope: what it names is bound there
pub record IsKnown (s : Scope) (v : ℕ) : Type 0 where
  pub known : Known
  pub there : under v s.variables ≡ Some known

pub record CanBeSet (s : Scope) (v : ℕ) : Type 0 where
  pub known : Known
  pub there : under v s.variables ≡ Some known
  pub free : known.fixed ≡ false

-- a variable in a slot without a box is captured only where nothing sets it
abbrev pub KeepsValue : VariablePlace → Bool → Type 0
KeepsValue (Slot n) fixed = fixed ≡ true
KeepsValue (SlotBox n) fixed = ⊤
KeepsValue (CapturedValue n) fixed = ⊤
KeepsValue (CapturedBox n) fixed = ⊤

pub record CanBeCaptured (s : Scope) (v : ℕ) : Type 0 where
  pub known : Known
  pub there : under v s.variables ≡ Some known
  pub keeps : KeepsValue known.place known.fixed

pub record IsAround (s : Scope) (x : ℕ) : Type 0 where
  pub place : ExitPlace
  pub there : under x s.exits ≡ Some place

pub record IsInMethod (s : Scope) : Type 0 where
  pub place : MethodPlace
  pub there : s.method ≡ Some place

abbrev pub PartIsThere : Scope → Capture → Type 0
PartIsThere s (Variable v) = CanBeCaptured s v
PartIsThere s (Exit x) = IsAround s x
PartIsThere s Method = IsInMethod s

-- a form that can be made flat in a scope, with the procedures of its functions where they have their numbers
module _ (lambdas : List FlatProcedure) where
  abbrev mutual
    pub Sound : Scope → ℕ → Form → Type 0
    Sound s n (core.literal i) = ⊤
    Sound s n (core.local v) = IsKnown s v
    Sound s n (core.set_local v f) = CanBeSet s v × Sound s n f
    Sound s n (core.global name) = ⊤
    Sound s n (core.set_global name f) = Sound s n f
    Sound s n (core.def_global name f) = Sound s n f
    Sound s n (core.clauses cs) = SoundClauses s n cs
    Sound s n (core.sequence fs) = SoundForms s n fs
    Sound s n (core.let_form bs body) =
        SoundValues s n bs × Sound (with_bound (bound_variables bs) body s) (n + functions_of_values bs) body
    Sound s n (core.lambda required rest body parts) =
        AllOf (PartIsThere s) parts
        × slice_get lambdas n ≡ Some (flat_procedure (seen s parts) (n + 1) (kinds_of s parts) required rest body)
        × Sound (body_scope required rest body (seen s parts)) (n + 1) body
    Sound s n (core.call name fs) = SoundForms s n fs
    Sound s n (core.call_value fs) = SoundForms s n fs
    Sound s n (core.apply f list) = Sound s n f × Sound s (n + functions f) list
    Sound s n (core.prim which fs) = SoundForms s n fs
    Sound s n (core.while_form test body) = Sound s n test × Sound s (n + functions test) body
    Sound s n (core.block x body) = Sound (with_around x s) n body
    Sound s n (core.return_from x f) = IsAround s x × Sound s n f
    Sound s n (core.tagbody x segments) = SoundForms (with_around x s) n segments
    Sound s n (core.go x segment) = IsAround s x
    Sound s n (core.catch_form tag body) = Sound s n tag × Sound s (n + functions tag) body
    Sound s n (core.throw tag f) = Sound s n tag × Sound s (n + functions tag) f
    Sound s n (core.unwind f cleanup) = Sound s n f × Sound s (n + functions f) cleanup
    Sound s n (core.dynamic_let ds body) = SoundDynamics s n ds × Sound s (n + functions_of_dynamics ds) body
    Sound s n (core.dynamic name) = ⊤
    Sound s n (core.set_dynamic name f) = Sound s n f
    Sound s n (core.def_dynamic name f) = Sound s n f
    Sound s n (core.with_handler handler body) = Sound s n handler × Sound s (n + functions handler) body
    Sound s n (core.signal_form condition mark) = Sound s n condition × Sound s (n + functions condition) mark
    Sound s n (core.continue_form condition f) = Sound s n condition × Sound s (n + functions condition) f
    Sound s n core.next_method = IsInMethod s
    Sound s n core.has_next = IsInMethod s
    Sound s n (core.sited site f) = Sound s n f

    pub SoundForms : Scope → ℕ → Forms → Type 0
    SoundForms s n core.no_form = ⊤
    SoundForms s n (core.form_and f fs) = Sound s n f × SoundForms s (n + functions f) fs

    pub SoundClauses : Scope → ℕ → ClauseForms → Type 0
    SoundClauses s n core.no_clause = ⊤
    SoundClauses s n (core.clause_and test body cs) =
        Sound s n test × SoundBody s (n + functions test) body
        × SoundClauses s (n + (functions test + functions_of_body body)) cs

    pub SoundBody : Scope → ℕ → MaybeForm → Type 0
    SoundBody s n core.no_body = ⊤
    SoundBody s n (core.with_body f) = Sound s n f

    pub SoundValues : Scope → ℕ → BindingForms → Type 0
    SoundValues s n core.no_binding = ⊤
    SoundValues s n (core.binding_and v f bs) = Sound s n f × SoundValues s (n + functions f) bs

    pub SoundDynamics : Scope → ℕ → DynamicForms → Type 0
    SoundDynamics s n core.no_dynamic = ⊤
    SoundDynamics s n (core.dynamic_and name f ds) = Sound s n f × SoundDynamics s (n + functions f) ds

  -- a function that was made, and what its flat procedure captured
  pub record ClosureAlike (ks : List VariableKind) (required : List ℕ) (rest : Option ℕ) (body : Form) (env : Environment) (p : ℕ) (cs : List Captured) : Type 0 where
    pub scope : Scope
    pub first : ℕ
    pub kinds : List CapturedKind
    pub there : slice_get lambdas p ≡ Some (flat_procedure scope first kinds required rest body)
    pub sound : Sound (body_scope required rest body scope) first body
    pub environment : Matches (alone ks) scope env (record flat.no_environment { captured = cs })

  -- an object that is the same in both stores, and no function that a form made
  pub record SameObject (o o' : Option Object) (t : Option (List Captured)) : Type 0 where
    pub same : o' ≡ o
    pub plain : (required : List ℕ) (rest : Option ℕ) (body : Form) (env : Environment) → o ≡ Some (closure required rest body env) → ⊥
    pub bare : (p : ℕ) → o ≡ Some (function p) → t ≡ None

  pub record SameFunction (ks : List VariableKind) (o o' : Option Object) (t : Option (List Captured)) : Type 0 where
    pub required : List ℕ
    pub rest : Option ℕ
    pub body : Form
    pub env : Environment
    pub procedure : ℕ
    pub captured : List Captured
    pub one : o ≡ Some (closure required rest body env)
    pub other : o' ≡ Some (function procedure)
    pub under : t ≡ Some captured
    pub alike : ClosureAlike ks required rest body env procedure captured

  abbrev pub ObjectsAlike : List VariableKind → Option Object → Option Object → Option (List Captured) → Type 0
  ObjectsAlike ks o o' t = SameObject o o' t ⊎ SameFunction ks o o' t

  -- variables, boxes and slots; and the stores
  pub record Related (w : World) (variables boxes : List Value) (frame : List FrameSlot) (store flat_store : List Object) (captured : List (ℕ × List Captured)) : Type 0 where
    pub values : VariablesAlike w variables boxes frame
    pub lengths : length flat_store ≡ length store
    pub objects : (i : ℕ) → ObjectsAlike w.kinds (slice_get store i) (slice_get flat_store i) (under i captured)

  -- a flat state beside a state, in a world that is later than another
  abbrev pub twin : State → List Object → List Value → List FrameSlot → List (ℕ × List Captured) → FlatState
  twin z store boxes frame captured = record { state = record z { store = store; variables = boxes }; frame = frame; captured = captured }

  pub record Beside (w : World) (z : State) (y : FlatState) : Type 0 where
    pub world : World
    pub later : Later w world
    pub store : List Object
    pub boxes : List Value
    pub frame : List FrameSlot
    pub captured : List (ℕ × List Captured)
    pub related : Related world z.variables boxes frame z.store store captured
    pub is : y ≡ twin z store boxes frame captured

  -- two evaluations that end alike, in states beside one another
  pub record Sim (w : World) (r : Evaluated) (q : FlatEvaluated) : Type 0 where
    pub beside : Beside w r.state q.state
    pub same : q.outcome ≡ r.outcome

  -- what goes on from values, from states, in every dynamic context, and from transfers that arrive
  abbrev pub Continues : World → (Value → State → Evaluated) → (Value → FlatState → FlatEvaluated) → Type 0
  Continues w next next' = (v : Value) (z : State) (y : FlatState) → Beside w z y → Sim w (next v z) (next' v y)

  abbrev pub Follows : World → (State → Evaluated) → (FlatState → FlatEvaluated) → Type 0
  Follows w next next' = (z : State) (y : FlatState) → Beside w z y → Sim w (next z) (next' y)

  abbrev pub Acts : World → Act → FlatAct → Type 0
  Acts w act act' =
      (around : DynamicContext) (bound : BindingsMatch w around) (z : State) (y : FlatState) → Beside w z y → Sim w (act around z) (act' (flat_around around bound) y)

  abbrev pub Lands : World → (Value → Landing → State → Evaluated) → (Value → Landing → FlatState → FlatEvaluated) → Type 0
  Lands w land land' =
      (v : Value) (landing : Landing) (z : State) (y : FlatState) → Beside w z y → Sim w (land v landing z) (land' v landing y)
