-- A store as a state of the meaning.
use Rattle.std.specs.Prelude.{◌≡◌, ℕ, zero, suc, ◌+◌, ◌^◌, ◌≤◌, List, [], ◌∷◌, ◌++◌, length, map, Option, Some, None, option_map, Result, Ok, Err}
use Rattle.lang_meaning.specs.Values.{Value, nil, object}
use Rattle.lang_meaning.specs.State.{State, Limit, words, unlimited, full, stored, first_state}
use Rattle.lang_meaning.specs.State as base
use Rattle.lang_meaning.specs.Classes.{fetch}
use Rattle.flat_language.specs.FlatState.{FrameSlot, FlatState, FlatEvaluated, on_state, gives, go_on, request}
use Rattle.flat_language.specs.FlatState as flat
use Rattle.eval_store.specs.declared.store.Store.{Store}
use Rattle.eval_store.specs.declared.store.Halt.{Halt}
use Rattle.eval_store.specs.declared.store.Halt.TheVariants.{NoMemory, Spent, Full}
use Rattle.eval_store.specs.declared.word.Word.{Word}
use Rattle.eval_store.specs.declared.object.Object.{Object}
use Rattle.eval_store.specs.declared.object.Object.TheVariants.{FreshSymbol}
use Rattle.eval_store.specs.Words.{value_of_word, values_of, object_of, captured_by, under_its_number, captured_from}

-- what stands beside the store: the values of names, the input and the output, and the frame of the activation
-- that runs
pub record Beside : Type 0 where
  pub globals : List (List ℕ × Value)
  pub dynamics : List (List ℕ × Value)
  pub input : List ℕ
  pub printed : List ℕ
  pub frame : List FrameSlot

-- all numbers below that one, the last one first
abbrev pub falling : ℕ → List ℕ
falling zero = []
falling (suc n) = n ∷ falling n

abbrev pub state_of : List (List ℕ) → Store → Beside → State
state_of names s b = record {
  store = map (object_of names) s.objects.items;
  variables = values_of names s.variables.items;
  globals = b.globals;
  dynamics = b.dynamics;
  input = b.input;
  printed = b.printed;
  exits = s.exits;
  made = falling s.exits;
  symbols = s.symbols;
  units = s.units;
  heap = s.heap;
  stack = s.stack;
  peak = s.peak;
}

abbrev pub seen : List (List ℕ) → Store → Beside → FlatState
seen names s b = record {
  state = state_of names s b;
  frame = b.frame;
  captured = captured_from names 0 s.objects.items;
}

-- the store has come to be as the meaning says, whatever stands beside it
abbrev pub Becomes : Store → Store → (List (List ℕ) → Beside → FlatState → FlatState) → Type 0
Becomes old new f = (names : List (List ℕ)) (b : Beside) → seen names new b ≡ f names b (seen names old b)

-- it is as it was
abbrev pub StoreStays : Store → Store → Type 0
StoreStays old new = (names : List (List ℕ)) (b : Beside) → seen names new b ≡ seen names old b

abbrev pub limit_of : Option ℕ → Limit
limit_of None = unlimited
limit_of (Some w) = words w

-- what a request comes to: it is granted; Full; or counts pass 64 bits, which no run does within them. Of a lack of memory nothing is said
abbrev pub ComesTo : {T : Type 0} → Result T Halt → (T → Value) → FlatState → FlatEvaluated → Type 0
ComesTo (Ok x) v z r = r ≡ gives (v x) z
ComesTo (Err (Full asked left)) v z r = r ≡ record { outcome = full asked left; state = z }
ComesTo (Err Spent) v z r = 2 ^ 64 ≤ r.state.state.peak + r.state.state.units + r.state.state.symbols + 1
ComesTo (Err NoMemory) v z r = Unit {0}

-- the same, whatever stands beside the store
abbrev pub Answers : {T : Type 0} → Result T Halt → (List (List ℕ) → T → Value) → Store → Store → (List (List ℕ) → Beside → FlatState → FlatEvaluated) → Type 0
Answers result v old new f =
    (names : List (List ℕ)) (b : Beside) → ComesTo result (v names) (seen names new b) (f names b (seen names old b))

-- the state before the first object
abbrev pub nothing_seen : Beside → FlatState
nothing_seen b = record {
  state = record (first_state [] b.input) { globals = b.globals; dynamics = b.dynamics; printed = b.printed };
  frame = b.frame;
  captured = [];
}

-- a request of words
abbrev pub requested : Limit → (heap stack : ℕ) → FlatState → FlatEvaluated
requested limit heap stack z = request limit heap stack z (λ entered. gives nil entered)

-- an object more, and what it captured if it is a function that a form made
abbrev pub placed : List (List ℕ) → Object → FlatState → FlatState
placed names o z = record z {
  state = stored (object_of names o) z.state;
  captured = under_its_number (length z.state.store) (captured_by names o) ++ z.captured;
}

-- an object of so many words is made: one unit for each word, and so many besides
abbrev pub built : List (List ℕ) → Limit → (size besides : ℕ) → Object → FlatState → FlatEvaluated
built names limit size besides o z =
    request limit size 0 z (λ entered.
    gives (object (length entered.state.store)) (placed names o (on_state (λ y. base.charged (size + besides) y) entered)))

-- what the object of a word captured
abbrev pub captured_in : List (List ℕ) → Option Object → Option (List flat.Captured)
captured_in names None = None
captured_in names (Some o) = captured_by names o

-- what a word fetches: its object, and what that captured if it is a function that a form made
pub record IsFetched (s : Store) (w : Word) (r : Option Object) : Type 0 where
  pub object : (names : List (List ℕ)) (b : Beside) → fetch (state_of names s b) (value_of_word names w) ≡ option_map (object_of names) r
  pub captured : (names : List (List ℕ)) (b : Beside) → flat.captured_by (value_of_word names w) (seen names s b) ≡ captured_in names r

-- a symbol is made, with the next serial
abbrev pub symbol_built : List (List ℕ) → Limit → FlatState → FlatEvaluated
symbol_built names limit z =
    go_on (built names limit 2 0 (FreshSymbol z.state.symbols) z) (λ v after.
    gives v (on_state (λ (y : State). record y { symbols = y.symbols + 1 }) after))
