-- The classes of words and objects.
use Rattle.std.specs.Prelude.{◌≡◌, ℕ, List, Some}
use Rattle.lang_meaning.specs.Classes.{class_of, class_of_object}
use Rattle.eval_store.specs.declared.word.Word.{Word}
use Rattle.eval_store.specs.declared.object.Object.{Object}
use Rattle.eval_store.specs.declared.store.Store.{Store}
use Rattle.eval_store.specs.Words.{value_of_word, object_of}
use Rattle.eval_store.specs.View.{Beside, state_of}

-- the class of a word's value
pub record HasClassOf (s : Store) (w : Word) (c : ℕ) : Type 0 where
  pub seen : (names : List (List ℕ)) (b : Beside) → class_of (state_of names s b) (value_of_word names w) ≡ c

-- the class of an object
pub record IsClassed (o : Object) (c : ℕ) : Type 0 where
  pub seen : (names : List (List ℕ)) → class_of_object (Some (object_of names o)) ≡ c
