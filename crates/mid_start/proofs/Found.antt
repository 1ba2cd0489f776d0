-- What stands for functions of names, and words of values by their places.
use Rattle.std.proofs.Common.{◌≡◌, ℕ, zero, suc, ◌+◌, Bool, true, false, List, [], ◌∷◌, Some, ◌∙◌}
use Rattle.std.specs.Prelude.{if◌then◌else◌, slice_get}
use Rattle.std.specs.Str.{bytes_eq}
use Rattle.lang_meaning.specs.declared.program.FunctionRow.{FunctionRow}
use Rattle.lang_meaning.specs.Values.{Value, object}
use Rattle.lang_meaning.specs.Lookup.{text}
use Rattle.lang_meaning.specs.InitialHeap.{function_of, laid_out, under_key, function_things}
use Rattle.lang_meaning.specs.Recipes.{in_turn, function_recipe}
use Rattle.lang_meaning.proofs.RecipesFound.{value_in}
use Rattle.mid_arena.specs.Places.{Places, word_of}
use Rattle.mid_start.specs.Making.{IsWord, EachStandsFor}
use Rattle.mid_start.specs.StaticData.{word_of_text}

-- functions of names

pub function_found : (names : List (List ℕ)) (places : Places) (rows : List FunctionRow) (ws : List ℕ) (n : ℕ) (name : List ℕ) (w : ℕ)
    → EachStandsFor IsWord places (in_turn function_recipe rows n).1 ws → word_of_text names rows ws name ≡ Some w
    → word_of places (under_key (function_of name) (laid_out (function_things names rows) n) n) ≡ Some w
function_found names places [] ws n name w h e = absurd (cc e)
function_found names places (f ∷ fs) [] n name w h e = absurd h
function_found names places (f ∷ fs) (x ∷ xs) n name w h e = by (bytes_eq name (text names f.name.0)) e (function_found names places fs xs (n + 1) name w h.1)
  where
    by : (b : Bool) → (if b then Some x else word_of_text names fs xs name) ≡ Some w
        → (word_of_text names fs xs name ≡ Some w → word_of places (under_key (function_of name) (laid_out (function_things names fs) (n + 1)) (n + 1)) ≡ Some w)
        → word_of places (if b then object n else under_key (function_of name) (laid_out (function_things names fs) (n + 1)) (n + 1)) ≡ Some w
    by true here others = h.0 ∙ here
    by false here others = others here

-- the words of values by their places
pub word_in : (places : Places) (vs : List Value) (ws : List ℕ) (i w : ℕ) → EachStandsFor IsWord places vs ws → slice_get ws i ≡ Some w → word_of places (value_in vs i) ≡ Some w
word_in places [] [] i w h e = absurd (cc e)
word_in places [] (x ∷ xs) i w h e = absurd h
word_in places (v ∷ vs) [] i w h e = absurd h
word_in places (v ∷ vs) (x ∷ xs) zero w h e = h.0 ∙ e
word_in places (v ∷ vs) (x ∷ xs) (suc i) w h e = word_in places vs xs i w h.1 e
