-- Symbols by their names or serials, and indices.
use Rattle.std.specs.Prelude.{◌≡◌, ℕ, ◌<◌, List, [], ◌∷◌, Option, option_map, Result, Ok, Err}
use Rattle.lang_meaning.specs.State.{State}
use Rattle.lang_meaning.specs.Lookup.{text}
use Rattle.lang_meaning.specs.Primitives.{Spelt, by_name, by_serial, as_symbol, an_integer, an_index}
use Rattle.lang_meaning.specs.Primitives as meaning
use Rattle.eval_store.specs.declared.word.Word.{Word}
use Rattle.eval_store.specs.declared.store.Store.{Store}
use Rattle.eval_store.specs.Words.{value_of_word}
use Rattle.eval_store.specs.View.{Beside, state_of}
use Rattle.eval_primitives.specs.declared.words.Spelt.{Spelt as SpeltWord}
use Rattle.eval_primitives.specs.declared.words.Spelt.TheVariants.{Named, Truth, Nothing, Fresh}
use Rattle.eval_primitives.specs.declared.answer.Answer.{Answer}
use Rattle.eval_primitives.specs.Answers.{told}

abbrev pub spelt_of : List (List ℕ) → SpeltWord → Spelt
spelt_of names (Named n) = by_name (text names n.0)
spelt_of names Truth = by_name (116 ∷ [])
spelt_of names Nothing = by_name (110 ∷ 105 ∷ 108 ∷ [])
spelt_of names (Fresh serial) = by_serial serial

-- a word is a symbol, spelt so, or none
pub record HasSymbol (s : Store) (w : Word) (r : Option SpeltWord) : Type 0 where
  pub seen : (names : List (List ℕ)) (b : Beside) → as_symbol (state_of names s b) (value_of_word names w) ≡ option_map (spelt_of names) r

-- an argument is a place below a count
pub record IsPlace (w : Word) (count at : ℕ) : Type 0 where
  pub inside : at < count
  pub seen : (names : List (List ℕ)) (z : State) (next : ℕ → meaning.Answer) → an_integer (value_of_word names w) z (λ n. an_index n count z next) ≡ next at

-- it is none, and that is answered
pub record IsNoPlace (w : Word) (count : ℕ) (a : Answer) : Type 0 where
  pub seen : (names : List (List ℕ)) (z : State) (next : ℕ → meaning.Answer) → an_integer (value_of_word names w) z (λ n. an_index n count z next) ≡ told names a z

abbrev pub IsIndex : Word → ℕ → Result ℕ Answer → Type 0
IsIndex w count (Ok at) = IsPlace w count at
IsIndex w count (Err a) = IsNoPlace w count a
