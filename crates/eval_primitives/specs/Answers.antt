-- What answers of primitives are in the meaning, and what is left of an answer once objects that it asks for are made.
use Rattle.std.specs.Prelude.{◌≡◌, ℕ, ◌+◌, ◌^◌, ◌≤◌, pos, Bool, List, [], Result, Ok, Err}
use Rattle.lang_meaning.specs.declared.primitive.Primitive.{Primitive}
use Rattle.lang_meaning.specs.declared.program.ProgramRows.{ProgramRows}
use Rattle.lang_meaning.specs.Values.{Value, integer}
use Rattle.lang_meaning.specs.Objects.{fresh_symbol}
use Rattle.lang_meaning.specs.State.{State, Limit, full}
use Rattle.lang_meaning.specs.Primitives.{result, makes, makes_symbol, fails, domain_error, primitive, says}
use Rattle.lang_meaning.specs.Primitives as meaning
use Rattle.flat_language.specs.FlatState.{FlatState, FlatEvaluated, on_state, gives, go_on, make}
use Rattle.eval_store.specs.declared.word.Word.{Word}
use Rattle.eval_store.specs.declared.store.Halt.{Halt}
use Rattle.eval_store.specs.declared.store.Halt.TheVariants.{NoMemory, Spent, Full}
use Rattle.eval_store.specs.Words.{value_of_word, values_of}
use Rattle.eval_primitives.specs.declared.answer.Answer.{Answer}
use Rattle.eval_primitives.specs.declared.answer.Answer.TheVariants.{Gives, Fails, DomainError}

-- an answer in the meaning, with the state that it leaves
abbrev pub told : List (List ℕ) → Answer → State → meaning.Answer
told names (Gives w) z = result (value_of_word names w) z
told names (Fails c) z = fails c [] z
told names (DomainError w c) z = domain_error (value_of_word names w) c z

-- a primitive that asks for nothing but its arguments answers so
pub record IsTold (which : Primitive) (arguments : List Word) (a : Answer) : Type 0 where
  pub told : (names : List (List ℕ)) (rows : ProgramRows) (z : State) → primitive names rows which (values_of names arguments) z ≡ told names a z

-- a count is answered so
pub record IsCount (n : ℕ) (a : Answer) : Type 0 where
  pub told : (names : List (List ℕ)) (z : State) → told names a z ≡ result (integer (pos n)) z

-- t or nil is answered
pub record IsSaid (r : Bool) (a : Answer) : Type 0 where
  pub told : (names : List (List ℕ)) (z : State) → says r z ≡ told names a z

-- what is left of an answer: a value, or Full; a condition of a class with its slots that is to be signalled; or an argument
-- that is not of the expected class
pub data Carried : Type 0 where
  evaluated : FlatEvaluated → Carried
  to_signal : (class : ℕ) → List Value → FlatState → Carried
  to_signal_domain : Value → (expected : ℕ) → FlatState → Carried

-- an answer is carried out: the object, or the symbol, that it asks for is made
abbrev pub carried_out : Limit → meaning.Answer → FlatState → Carried
carried_out limit (result v x) z = evaluated (gives v (record z { state = x }))
carried_out limit (makes size besides o x) z = evaluated (make limit size besides o (record z { state = x }) (λ v after. gives v after))
carried_out limit (makes_symbol x) z =
    evaluated
    (go_on (make limit 2 0 (fresh_symbol x.symbols) (record z { state = x }) (λ v after. gives v after)) (λ v after.
    gives v (on_state (λ (y : State). record y { symbols = y.symbols + 1 }) after)))
carried_out limit (fails class slots x) z = to_signal class slots (record z { state = x })
carried_out limit (domain_error v expected x) z = to_signal_domain v expected (record z { state = x })

-- the same of an answer of the code, with all that it leaves
abbrev pub carried : List (List ℕ) → Answer → FlatState → Carried
carried names (Gives w) z = evaluated (gives (value_of_word names w) z)
carried names (Fails c) z = to_signal c [] z
carried names (DomainError w c) z = to_signal_domain (value_of_word names w) c z

abbrev pub state_after : Carried → FlatState
state_after (evaluated r) = r.state
state_after (to_signal class slots z) = z
state_after (to_signal_domain v expected z) = z

-- what a call comes to: its answer; Full; or counts pass 64 bits, which no run does within them. Of a lack of memory nothing is said
abbrev pub AnswersAs : List (List ℕ) → Result Answer Halt → FlatState → Carried → Type 0
AnswersAs names (Ok a) z r = r ≡ carried names a z
AnswersAs names (Err (Full asked left)) z r = r ≡ evaluated (record { outcome = full asked left; state = z })
AnswersAs names (Err Spent) z r = 2 ^ 64 ≤ (state_after r).state.peak + (state_after r).state.units + (state_after r).state.symbols + 1
AnswersAs names (Err NoMemory) z r = Unit {0}
