-- What a run keeps: no value is an object of the start that is not kept, so no function is applied whose body was left out.
use Rattle.std.proofs.Common.{◌≡◌, ℕ, zero, suc, ◌≤◌, Bool, false, List, [], ◌∷◌, ◌++◌, length, Option, Some, None}
use Rattle.std.specs.Prelude.{⊤, not, replicate, slice_get, slice_set, slice_index_or}
use Rattle.base.specs.AllOf.{AllOf}
use Rattle.lang_meaning.specs.declared.program.ProgramRows.{ProgramRows}
use Rattle.lang_meaning.specs.Form.{Form, Forms}
use Rattle.lang_meaning.specs.Values.{Value, integer, character, symbol, nil, object}
use Rattle.lang_meaning.specs.Objects.{Chain, Called, Environment, Object, cons, vector, instance, function, closure, generic_function}
use Rattle.lang_meaning.specs.State.{State, DynamicContext, Outcome, value, exit, full, more}
use Rattle.lang_meaning.specs.Signals.{Task, nothing, form, turn, methods}
use Rattle.lang_meaning.specs.Subforms.{forms_list}
use Rattle.lang_reached.specs.declared.kept.Kept.{Kept}
use Rattle.lang_reached.specs.LeftOut.{is_marked, KeepsProcedure, KeepsGeneric, KeepsForm}

-- a program, what is kept of it, and the objects at its start
pub record Setting : Type 0 where
  pub names : List (List ℕ)
  pub program : ProgramRows
  pub kept : Kept
  pub start : List Object

-- an object of the start that is not kept
abbrev pub is_lost : Kept → Option Object → Bool
is_lost kept (Some (function p)) = not (is_marked kept.procedures p)
is_lost kept (Some (generic_function g)) = not (is_marked kept.generics g)
is_lost kept o = false

module _ (t : Setting) where
  abbrev pub is_lost_at : ℕ → Bool
  is_lost_at i = is_lost t.kept (slice_get t.start i)

  abbrev pub Live : Value → Type 0
  Live (object i) = is_lost_at i ≡ false
  Live (integer n) = ⊤
  Live (character c) = ⊤
  Live (symbol s) = ⊤
  Live nil = ⊤

  abbrev pub AllLive : List Value → Type 0
  AllLive vs = AllOf Live vs

  abbrev pub SlotLive : Option Value → Type 0
  SlotLive None = ⊤
  SlotLive (Some v) = Live v

  abbrev pub Keeps : ℕ → Type 0
  Keeps p = KeepsProcedure t.kept p

  pub record ChainFine (c : Chain) : Type 0 where
    pub around : AllOf Keeps c.around
    pub before : AllOf Keeps c.before
    pub primary : AllOf Keeps c.primary
    pub after : AllOf Keeps c.after

  pub record CalledFine (called : Called) : Type 0 where
    pub arguments : AllLive called.arguments
    pub rest : ChainFine called.rest

  abbrev pub MethodFine : Option Called → Type 0
  MethodFine None = ⊤
  MethodFine (Some called) = CalledFine called

  abbrev pub FormFine : Form → Type 0
  FormFine f = KeepsForm t.names t.program t.kept f

  abbrev pub FormsFine : Forms → Type 0
  FormsFine fs = AllOf FormFine (forms_list fs)

  -- an object, by its number: what it holds is live, and a function that is live is kept
  abbrev pub ObjectFine : ℕ → Object → Type 0
  ObjectFine i (cons a d) = Live a × Live d
  ObjectFine i (vector vs) = AllLive vs
  ObjectFine i (instance c slots mark) = AllOf SlotLive slots × Live mark
  ObjectFine i (function p) = is_lost_at i ≡ false → Keeps p
  ObjectFine i (generic_function g) = is_lost_at i ≡ false → KeepsGeneric t.kept g
  ObjectFine i (closure required rest body env) = FormFine body × MethodFine env.method
  ObjectFine i o = ⊤

  pub record StoreFine (store : List Object) : Type 0 where
    pub longer : length t.start ≤ length store
    pub each : (i : ℕ) (o : Object) → slice_get store i ≡ Some o → ObjectFine i o

  abbrev pub NamedLive : List ℕ × Value → Type 0
  NamedLive x = Live x.1

  -- of a state these lists alone count
  pub record PartsFine (objects : List Object) (values : List Value) (outer_globals outer_dynamics : List (List ℕ × Value)) : Type 0 where
    pub store : StoreFine objects
    pub variables : AllLive values
    pub globals : AllOf NamedLive outer_globals
    pub dynamics : AllOf NamedLive outer_dynamics

  abbrev pub StateFine : State → Type 0
  StateFine z = PartsFine z.store z.variables z.globals z.dynamics

  abbrev pub AroundFine : DynamicContext → Type 0
  AroundFine around = AllLive around.handlers

  abbrev pub EnvironmentFine : Environment → Type 0
  EnvironmentFine env = MethodFine env.method

  abbrev pub OutcomeFine : Outcome → Type 0
  OutcomeFine (value v) = Live v
  OutcomeFine (exit e v landing) = Live v
  OutcomeFine (full asked left) = ⊤
  OutcomeFine more = ⊤

  abbrev pub TaskFine : Task → Type 0
  TaskFine nothing = ⊤
  TaskFine (form f) = FormFine f
  TaskFine (turn e rest all) = FormsFine rest × FormsFine all
  TaskFine (methods c vs) = ChainFine c × AllLive vs

-- ---- lists

-- the front and the back of a list
pub all_front : {X : Type 0} (P : X → Type 0) (xs ys : List X) → AllOf P (xs ++ ys) → AllOf P xs
all_front P [] ys h = tt
all_front P (x ∷ xs) ys h = (h.0, all_front P xs ys h.1)

pub all_back : {X : Type 0} (P : X → Type 0) (xs ys : List X) → AllOf P (xs ++ ys) → AllOf P ys
all_back P [] ys h = h
all_back P (x ∷ xs) ys h = all_back P xs ys h.1

pub all_set : {X : Type 0} (P : X → Type 0) (xs : List X) (i : ℕ) (x : X) → AllOf P xs → P x → AllOf P (slice_set xs i x)
all_set P [] i x h p = tt
all_set P (y ∷ ys) zero x h p = (p, h.1)
all_set P (y ∷ ys) (suc i) x h p = (h.0, all_set P ys i x h.1 p)

pub all_same : {X : Type 0} (P : X → Type 0) (n : ℕ) (x : X) → P x → AllOf P (replicate n x)
all_same P zero x p = tt
all_same P (suc n) x p = (p, all_same P n x p)

-- an item, or what stands in its place
pub all_or : {X : Type 0} (P : X → Type 0) (xs : List X) (i : ℕ) (other : X) → AllOf P xs → P other → P (slice_index_or xs i other)
all_or P [] i other h p = p
all_or P (x ∷ xs) zero other h p = h.0
all_or P (x ∷ xs) (suc i) other h p = all_or P xs i other h.1 p
