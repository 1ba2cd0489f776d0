-- Facts between two states of a flat run that each step keeps.
use Rattle.std.proofs.Common.{◌≡◌, ℕ, ◌+◌, List, [], ◌∷◌, ◌++◌, Some, length, take}
use Rattle.std.specs.Prelude.{slice_get, slice_set}
use Rattle.lang_meaning.specs.declared.primitive.Primitive.{Primitive}
use Rattle.lang_meaning.specs.declared.program.ProgramRows.{ProgramRows}
use Rattle.lang_meaning.specs.Values.{Value}
use Rattle.lang_meaning.specs.Objects.{Object, function}
use Rattle.lang_meaning.specs.State.{State, with_words, stored, changed}
use Rattle.lang_meaning.specs.Primitives.{Answer, other_bytes, primitive}
use Rattle.lang_meaning.proofs.Answers.{state_of}
use Rattle.flat_language.specs.FlatState.{FrameSlot, Captured, FlatState, on_state, charged, exit_made, with_values}
use Rattle.flat_laws.specs.Blanks.{blank}
use Rattle.flat_laws.proofs.Answers.{HoldsOfAnswers, primitive_answers}

-- a relation between an earlier and a later state that holds of no step, of two one after another, and of each step that a rule
-- makes. The last three are of a body: what it took of the stack is given back, the slots that it added are gone, and the frame
-- that it was given makes way for the one of before.
pub record IsKeptByFlatRules (R : FlatState → FlatState → Type 0) : Type 0 where
  pub none : (z : FlatState) → R z z
  pub both : {a b c : FlatState} → R a b → R b c → R a c
  pub charge : (n : ℕ) (z : FlatState) → R z (charged n z)
  pub words : (n : ℕ) (z : FlatState) → R z (on_state (λ y. with_words n 0 y) z)
  pub store : (o : Object) (z : FlatState) → R z (on_state (λ y. stored o y) z)
  pub function : (procedure : ℕ) (cs : List Captured) (z : FlatState)
      → R z (record z { state = stored (function procedure) z.state; captured = (length z.state.store, cs) ∷ z.captured })
  pub change : (i : ℕ) (o : Object) (z : FlatState) → blank (slice_get z.state.store i) ≡ blank (Some o)
      → R z (on_state (λ y. changed i o y) z)
  pub print : (c : ℕ) (z : FlatState) → R z (on_state (λ (y : State). record y { printed = y.printed ++ c ∷ [] }) z)
  pub exit : (z : FlatState) → R z (exit_made z)
  pub symbol : (z : FlatState) → R z (on_state (λ (y : State). record y { symbols = y.symbols + 1 }) z)
  pub input : (z : FlatState) → R z (on_state (λ (y : State). record y { input = other_bytes y.input }) z)
  pub values : (vs : List Value) (z : FlatState) → R z (with_values vs z)
  pub set : (i : ℕ) (v : Value) (z : FlatState) → R z (on_state (λ (y : State). record y { variables = slice_set y.variables i v }) z)
  pub globals : (now : List (List ℕ × Value)) (z : FlatState) → R z (on_state (λ (y : State). record y { globals = now }) z)
  pub dynamics : (now : List (List ℕ × Value)) (z : FlatState) → R z (on_state (λ (y : State). record y { dynamics = now }) z)
  pub slot : (n : ℕ) (s : FrameSlot) (z : FlatState) → R z (record z { frame = slice_set z.frame n s })
  pub given_back : (n : ℕ) (z r : FlatState) → R (on_state (λ y. with_words 0 n y) z) r
      → R z (on_state (λ (y : State). record y { stack = z.state.stack }) r)
  pub slots : (new : List FrameSlot) (z r : FlatState) → R (record z { frame = z.frame ++ new }) r
      → R z (record r { frame = take (length z.frame) r.frame })
  pub own_frame : (frame : List FrameSlot) (z r : FlatState) → R (record z { frame = frame }) r → R z (record r { frame = z.frame })

-- the step of a primitive
module _ (R : FlatState → FlatState → Type 0) (k : IsKeptByFlatRules R) (frame : List FrameSlot) (captured : List (ℕ × List Captured)) where
  abbrev around : State → FlatState
  around z = record { state = z; frame = frame; captured = captured }

  abbrev Keeps : Value → State → Answer → Type 0
  Keeps set z a = R (around z) (around (state_of a))

  answers_keep : HoldsOfAnswers Keeps
  answers_keep = record {
    value = λ set v z. k.none (around z);
    counts = λ set v n z. k.charge n (around z);
    changes = λ v i o z h. k.change i o (around z) h;
    prints = λ set v c z. k.print c (around z);
    reads = λ set v z. k.input (around z);
    object_made = λ set size besides o z. k.none (around z);
    symbol_made = λ set z. k.none (around z);
    failed = λ set class vs z. k.none (around z);
    failed_late = λ set class vs n z. k.charge n (around z);
    mistaken = λ set v expected z. k.none (around z);
  }

  primitive_between : (names : List (List ℕ)) (program : ProgramRows) (which : Primitive) (vs : List Value) (z : State)
      → R (around z) (around (state_of (primitive names program which vs z)))
  primitive_between names program which vs z = primitive_answers Keeps answers_keep names program which vs z

pub primitive_step : (R : FlatState → FlatState → Type 0) (k : IsKeptByFlatRules R)
    (names : List (List ℕ)) (program : ProgramRows) (which : Primitive) (vs : List Value) (z : FlatState)
    → R z (record z { state = state_of (primitive names program which vs z.state) })
primitive_step R k names program which vs z = primitive_between R k z.frame z.captured names program which vs z.state
