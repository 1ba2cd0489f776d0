-- The words of classes and of functions of names are those of what stands for them.
use Rattle.std.proofs.Common.{◌≡◌, ℕ, zero, suc, ◌+◌, Bool, true, false, List, [], ◌∷◌, Some, refl}
use Rattle.std.specs.Prelude.{if◌then◌else◌, option_map}
use Rattle.std.specs.Str.{bytes_eq}
use Rattle.lang_meaning.specs.declared.program.FunctionRow.{FunctionRow}
use Rattle.lang_meaning.specs.Values.{object}
use Rattle.lang_meaning.specs.Lookup.{text}
use Rattle.lang_meaning.specs.Literals.{function_row}
use Rattle.lang_meaning.specs.InitialHeap.{function_of, laid_out, under_key, function_things}
use Rattle.eval_store.specs.declared.word.Word.{Word}
use Rattle.eval_store.specs.Words.{value_of_word, values_of}
use Rattle.lang_meaning.specs.Recipes.{in_turn, function_recipe}
use Rattle.lang_meaning.proofs.RecipesFound.{value_in}
use Rattle.eval_store.specs.Tables.{word_at, first_of_text, function_or_nil, callee_or_none}

-- the value of the word at a place
pub word_value : (names : List (List ℕ)) (ws : List Word) (i : ℕ) → value_of_word names (word_at ws i) ≡ value_in (values_of names ws) i
word_value names [] zero = refl
word_value names [] (suc i) = refl
word_value names (w ∷ ws) zero = refl
word_value names (w ∷ ws) (suc i) = word_value names ws i

-- functions of names

pub function_found : (names : List (List ℕ)) (rows : List FunctionRow) (ws : List Word) (n : ℕ) (name : List ℕ)
    → values_of names ws ≡ (in_turn function_recipe rows n).1
    → value_of_word names (function_or_nil (first_of_text names rows ws name)) ≡ under_key (function_of name) (laid_out (function_things names rows) n) n
function_found names [] ws n name e = refl
function_found names (f ∷ fs) [] n name e = absurd (cc)
function_found names (f ∷ fs) (w ∷ ws) n name e =
    by (bytes_eq name (text names f.name.0)) (function_found names fs ws (n + 1) name (cc))
  where
    here : value_of_word names w ≡ object n
    here = cc

    by : (b : Bool)
        → value_of_word names (function_or_nil (first_of_text names fs ws name)) ≡ under_key (function_of name) (laid_out (function_things names fs) (n + 1)) (n + 1)
        → value_of_word names (function_or_nil (if b then Some (record { callee = f.callee; word = w }) else first_of_text names fs ws name))
        ≡ (if b then object n else under_key (function_of name) (laid_out (function_things names fs) (n + 1)) (n + 1))
    by true r = here
    by false r = r

pub callee_found : (names : List (List ℕ)) (rows : List FunctionRow) (ws : List Word) (n : ℕ) (name : List ℕ)
    → values_of names ws ≡ (in_turn function_recipe rows n).1
    → callee_or_none (first_of_text names rows ws name) ≡ option_map (λ (f : FunctionRow). f.callee) (function_row names rows name)
callee_found names [] ws n name e = refl
callee_found names (f ∷ fs) [] n name e = absurd (cc)
callee_found names (f ∷ fs) (w ∷ ws) n name e =
    by (bytes_eq name (text names f.name.0)) (callee_found names fs ws (n + 1) name (cc))
  where
    by : (b : Bool)
        → callee_or_none (first_of_text names fs ws name) ≡ option_map (λ (g : FunctionRow). g.callee) (function_row names fs name)
        → callee_or_none (if b then Some (record { callee = f.callee; word = w }) else first_of_text names fs ws name)
        ≡ option_map (λ (g : FunctionRow). g.callee) (if b then Some f else function_row names fs name)
    by true r = refl
    by false r = r
