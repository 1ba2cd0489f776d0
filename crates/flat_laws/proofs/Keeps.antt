-- What the primitives leave of the state, by the shapes of their answers.
use Rattle.std.proofs.Common.{◌≡◌, ◌≤◌, ℕ, ◌+◌, List, [], ◌∷◌, refl, sym, ap, subst, Some, length, arith, le_refl}
use Rattle.std.specs.Prelude.{slice_get}
use Rattle.lang_meaning.specs.declared.primitive.Primitive.{Primitive}
use Rattle.lang_meaning.specs.declared.program.ProgramRows.{ProgramRows}
use Rattle.lang_meaning.specs.Values.{Value, object}
use Rattle.lang_meaning.specs.Objects.{Object}
use Rattle.lang_meaning.specs.State.{State, charged, changed}
use Rattle.lang_meaning.specs.Prefixes.{IsPrefix, IsLastOf}
use Rattle.lang_meaning.specs.Primitives.{Answer, result, makes, makes_symbol, fails, domain_error, other_bytes, primitive}
use Rattle.lang_meaning.proofs.Answers.{state_of}
use Rattle.lang_meaning.proofs.Steps.{prefix_of_itself, prefix_of_longer}
use Rattle.flat_language.proofs.Lists.{other_place, length-changed}
use Rattle.flat_laws.specs.Blanks.{blank}
use Rattle.flat_laws.specs.PrimitiveKeeps.{set_by, PrimitiveKeeps, AnswerKeeps}
use Rattle.flat_laws.specs.Laws.{LawOfPrimitives}
use Rattle.flat_laws.proofs.Blanks.{blank_set}
use Rattle.flat_laws.proofs.Answers.{HoldsOfAnswers, primitive_answers}

pub last_of_itself : (xs : List ℕ) → IsLastOf xs xs
last_of_itself xs = record { front = []; is = refl }

pub last_of_rest : (xs : List ℕ) → IsLastOf (other_bytes xs) xs
last_of_rest [] = record { front = []; is = refl }
last_of_rest (x ∷ xs) = record { front = x ∷ []; is = refl }

-- units and bytes are the primitive's own
keeps_store : {set : Value} {z y : State} → y.store ≡ z.store → y.variables ≡ z.variables → y.globals ≡ z.globals → y.dynamics ≡ z.dynamics
    → y.exits ≡ z.exits → y.made ≡ z.made → y.symbols ≡ z.symbols → y.heap ≡ z.heap → y.stack ≡ z.stack → y.peak ≡ z.peak
    → z.units ≤ y.units → IsPrefix z.printed y.printed → IsLastOf y.input z.input → PrimitiveKeeps set z y
keeps_store {set} {z} {y} s v g d e m f h k p u b i = record {
  variables = v;
  globals = g;
  dynamics = d;
  exits = e;
  made = m;
  symbols = f;
  heap = h;
  stack = k;
  peak = p;
  units = u;
  printed = b;
  input = i;
  store = ap length s;
  others = λ j apart. ap (λ (os : List Object). slice_get os j) s;
  objects = λ j. ap (λ (os : List Object). blank (slice_get os j)) s;
}

-- a state keeps itself
pub keeps_itself : (set : Value) (z : State) → PrimitiveKeeps set z z
keeps_itself set z =
    keeps_store refl refl refl refl refl refl refl refl refl refl (le_refl z.units) (prefix_of_itself z.printed) (last_of_itself z.input)

pub keeps_counted : (set : Value) (n : ℕ) (z : State) → PrimitiveKeeps set z (charged n z)
keeps_counted set n z =
    keeps_store refl refl refl refl refl refl refl refl refl refl (omega arith) (prefix_of_itself z.printed) (last_of_itself z.input)

changed_keeps : (i : ℕ) (o : Object) (z : State) → blank (slice_get z.store i) ≡ blank (Some o) → PrimitiveKeeps (object i) z (changed i o z)
changed_keeps i o z h = record {
  variables = refl;
  globals = refl;
  dynamics = refl;
  exits = refl;
  made = refl;
  symbols = refl;
  heap = refl;
  stack = refl;
  peak = refl;
  units = le_refl z.units;
  printed = prefix_of_itself z.printed;
  input = last_of_itself z.input;
  store = length-changed z.store i o;
  others = λ j apart. other_place z.store i j o (λ e. apart (ap object (sym e)));
  objects = λ j. blank_set z.store i o h j;
}

-- each shape of answer keeps what it is to keep
answers_keep : HoldsOfAnswers AnswerKeeps
answers_keep = record {
  value = λ set v z. keeps_itself set z;
  counts = λ set v n z. keeps_counted set n z;
  changes = λ v i o z h. changed_keeps i o z h;
  prints = λ set v c z.
      keeps_store refl refl refl refl refl refl refl refl refl refl (le_refl z.units) (prefix_of_longer z.printed c) (last_of_itself z.input);
  reads = λ set v z.
      keeps_store refl refl refl refl refl refl refl refl refl refl (le_refl z.units) (prefix_of_itself z.printed) (last_of_rest z.input);
  object_made = λ set size besides o z. refl;
  symbol_made = λ set z. refl;
  failed = λ set class vs z. record { units = 0; is = let e : z.units ≡ z.units + 0 = omega arith in ap (λ (n : ℕ). record z { units = n }) e };
  failed_late = λ set class vs n z. record { units = n; is = refl };
  mistaken = λ set v expected z. refl;
}

pub law_of_primitives : LawOfPrimitives
law_of_primitives names program which vs z = primitive_answers AnswerKeeps answers_keep names program which vs z

-- whatever the answer, its state is kept so
answer_state : (set : Value) (z : State) (a : Answer) → AnswerKeeps set z a → PrimitiveKeeps set z (state_of a)
answer_state set z (result v after) h = h
answer_state set z (makes size besides o after) h = subst (PrimitiveKeeps set z) (sym h) (keeps_itself set z)
answer_state set z (makes_symbol after) h = subst (PrimitiveKeeps set z) (sym h) (keeps_itself set z)
answer_state set z (fails class vs after) h = subst (PrimitiveKeeps set z) (sym h.is) (keeps_counted set h.units z)
answer_state set z (domain_error v expected after) h = subst (PrimitiveKeeps set z) (sym h) (keeps_itself set z)

pub primitive_keeps : (names : List (List ℕ)) (program : ProgramRows) (which : Primitive) (vs : List Value) (z : State)
    → PrimitiveKeeps (set_by which vs) z (state_of (primitive names program which vs z))
primitive_keeps names program which vs z =
    answer_state (set_by which vs) z (primitive names program which vs z) (law_of_primitives names program which vs z)
