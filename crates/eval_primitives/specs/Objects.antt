-- The objects of words, as what they are to be in the meaning.
use Rattle.std.specs.Prelude.{◌≡◌, ℕ, List, Option, option_map}
use Rattle.lang_meaning.specs.Values.{Value}
use Rattle.lang_meaning.specs.Classes.{fetch}
use Rattle.lang_meaning.specs.Primitives.{as_cons, as_string, as_vector, as_class, as_instance, fresh_in, by_serial}
use Rattle.eval_store.specs.declared.word.Word.{Word}
use Rattle.eval_store.specs.declared.store.Store.{Store}
use Rattle.eval_store.specs.declared.object.Instance.{Instance}
use Rattle.eval_store.specs.Words.{value_of_word, values_of, slots_of}
use Rattle.eval_store.specs.View.{Beside, state_of}

-- both parts of a cons
abbrev pub pair_of : List (List ℕ) → Word × Word → Value × Value
pair_of names p = (value_of_word names p.0, value_of_word names p.1)

-- the class, the slots and the mark of an instance
abbrev pub instance_parts : List (List ℕ) → Instance → ℕ × List (Option Value) × Value
instance_parts names i = (i.class, slots_of names i.slots, value_of_word names i.mark)

-- a word is a cons with those parts, or none
pub record HasCons (s : Store) (w : Word) (r : Option (Word × Word)) : Type 0 where
  pub seen : (names : List (List ℕ)) (b : Beside) → as_cons (fetch (state_of names s b) (value_of_word names w)) ≡ option_map (pair_of names) r

pub record HasString (s : Store) (w : Word) (r : Option (List ℕ)) : Type 0 where
  pub seen : (names : List (List ℕ)) (b : Beside) → as_string (fetch (state_of names s b) (value_of_word names w)) ≡ r

pub record HasVector (s : Store) (w : Word) (r : Option (List Word)) : Type 0 where
  pub seen : (names : List (List ℕ)) (b : Beside) → as_vector (fetch (state_of names s b) (value_of_word names w)) ≡ option_map (values_of names) r

pub record HasClass (s : Store) (w : Word) (r : Option ℕ) : Type 0 where
  pub seen : (names : List (List ℕ)) (b : Beside) → as_class (fetch (state_of names s b) (value_of_word names w)) ≡ r

pub record HasInstance (s : Store) (w : Word) (r : Option Instance) : Type 0 where
  pub seen : (names : List (List ℕ)) (b : Beside) → as_instance (fetch (state_of names s b) (value_of_word names w)) ≡ option_map (instance_parts names) r

-- a word is a symbol that the program made, with that serial
pub record HasFresh (s : Store) (w : Word) (r : Option ℕ) : Type 0 where
  pub seen : (names : List (List ℕ)) (b : Beside) → fresh_in (fetch (state_of names s b) (value_of_word names w)) ≡ option_map by_serial r
