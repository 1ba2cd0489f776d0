-- What stands in the tables of an initial heap.
use Rattle.std.specs.Prelude.{◌≡◌, ℕ, List, [], ◌∷◌, Option, Some, None, slice_get, map, if◌then◌else◌}
use Rattle.std.specs.Str.{bytes_eq}
use Rattle.lang_meaning.specs.declared.program.FunctionRow.{FunctionRow}
use Rattle.lang_meaning.specs.declared.program.Callee.{Callee}
use Rattle.lang_meaning.specs.Values.{Value}
use Rattle.lang_meaning.specs.Lookup.{text}
use Rattle.lang_meaning.specs.InitialHeap.{function_object}
use Rattle.eval_store.specs.declared.object.Object.{Object}
use Rattle.eval_store.specs.declared.spellings.Spellings.{Spellings}
use Rattle.eval_store.specs.declared.store.Store.{Store}
use Rattle.eval_store.specs.declared.word.Word.{Word}
use Rattle.eval_store.specs.declared.word.Word.TheVariants.{Nil}
use Rattle.eval_store.specs.Words.{value_of_word, values_of, object_of, captured_by}
use Rattle.eval_store.specs.Spelling.{number_of, IsSpelling}
use Rattle.eval_store.specs.NamedValues.{item_or_none}
use Rattle.eval_store.specs.declared.functions.NamedFunction.{NamedFunction}
use Rattle.eval_store.specs.declared.functions.NamedFunctions.{NamedFunctions}
use Rattle.eval_store.specs.declared.classes.FirstWords.{FirstWords}
use Rattle.eval_store.specs.declared.slots.SlotWords.{SlotWords}
use Rattle.lang_meaning.specs.Recipes.{in_turn, function_recipe}
use Rattle.eval_store.specs.Recipes.{IsMadeBy}

abbrev pub or_nil : Option Word → Word
or_nil None = Nil
or_nil (Some w) = w

-- the word at a place
abbrev pub word_at : List Word → ℕ → Word
word_at ws i = or_nil (slice_get ws i)

-- the words of the classes and of the streams as values
abbrev pub first_values : List (List ℕ) → FirstWords → List Value × Value × Value
first_values names f = (values_of names f.classes, value_of_word names f.input, value_of_word names f.output)

-- the function of a name
abbrev pub entry_of : NamedFunctions → ℕ → Option NamedFunction
entry_of t n = item_or_none (slice_get t.entries (number_of t.spellings n))

abbrev pub callee_or_none : Option NamedFunction → Option Callee
callee_or_none None = None
callee_or_none (Some f) = Some f.callee

abbrev pub function_or_nil : Option NamedFunction → Word
function_or_nil None = Nil
function_or_nil (Some f) = f.word

-- the first row of a text, where each row has that word
abbrev pub first_of_text : List (List ℕ) → List FunctionRow → List Word → List ℕ → Option NamedFunction
first_of_text names [] ws name = None
first_of_text names (f ∷ fs) [] name = None
first_of_text names (f ∷ fs) (w ∷ ws) name =
    if bytes_eq name (text names f.name.0) then Some (record { callee = f.callee; word = w }) else first_of_text names fs ws name

-- a table with the same functions, which may have more room
pub record IsAlike (t u : NamedFunctions) : Type 0 where
  pub entries : (i : ℕ) → item_or_none (slice_get u.entries i) ≡ item_or_none (slice_get t.entries i)
  pub spellings : u.spellings ≡ t.spellings

-- a name has that function, and all others have theirs
pub record IsSet (t : NamedFunctions) (n : ℕ) (f : NamedFunction) (u : NamedFunctions) : Type 0 where
  pub entries : (names : List (List ℕ)) (m : ℕ) → IsSpelling names t.spellings
      → entry_of u m ≡ (if bytes_eq (text names m) (text names n) then Some f else entry_of t m)
  pub spellings : u.spellings ≡ t.spellings

-- so far as rows with these words were noted, by their names
pub record IsNoting (by : Spellings) (rows : List FunctionRow) (words : List Word) (t : NamedFunctions) : Type 0 where
  pub entries : (names : List (List ℕ)) (n : ℕ) → IsSpelling names by → entry_of t n ≡ first_of_text names rows words (text names n)
  pub spellings : t.spellings ≡ by

-- the object of a function that no form made
pub record IsFunctionObject (callee : Callee) (o : Object) : Type 0 where
  pub object : (names : List (List ℕ)) → object_of names o ≡ function_object callee
  pub captured : (names : List (List ℕ)) → captured_by names o ≡ None

-- the functions of all rows are in the store, each with its word, and the table has them by their names
pub record AreNamed (by : Spellings) (rows : List FunctionRow) (old new : Store) (t : NamedFunctions) : Type 0 where
  pub words : List Word
  pub made : IsMadeBy values_of (λ names. in_turn function_recipe rows) old new words
  pub found : IsNoting by rows words t

-- the words of a slot as values
abbrev pub slot_values : List (List ℕ) → SlotWords → Value × Value
slot_values names s = (value_of_word names s.initargs, value_of_word names s.initform)

abbrev pub slots_values : List (List ℕ) → List SlotWords → List (Value × Value)
slots_values names ss = map (slot_values names) ss

abbrev pub initargs_or_nil : Option SlotWords → Word
initargs_or_nil None = Nil
initargs_or_nil (Some s) = s.initargs

abbrev pub initform_or_nil : Option SlotWords → Word
initform_or_nil None = Nil
initform_or_nil (Some s) = s.initform

-- the words of the slot of a class
abbrev pub slot_in : Option (List SlotWords) → ℕ → Option SlotWords
slot_in None i = None
slot_in (Some ss) i = slice_get ss i

abbrev pub slot_at : List (List SlotWords) → (class place : ℕ) → Option SlotWords
slot_at slots c i = slot_in (slice_get slots c) i
