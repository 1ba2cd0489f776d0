-- Conses are made, read and changed.
use Rattle.std.specs.Prelude.{◌+◌, [], ◌∷◌}
use Rattle.lang_meaning.specs.declared.primitive.Primitive.TheVariants.{Cons, Car, Cdr, SetCar, SetCdr}
use Rattle.lang_meaning.specs.Objects.{cons_class}
use Rattle.mid_arena.specs.Tags.{cons_tag, nil_word, character_word}
use Rattle.mid_examples.specs.Addresses.{cons_at, object_at, number, minus, symbol_x, pair, next_pair, abc, made}
use Rattle.mid_examples.specs.Kinds.{some_conses, others_than}
use Rattle.mid_examples.specs.Rows.{gives, stores, makes, RunsAlways, DoesThen, RefusesEach, FitsError, FitsObject}

pub record ConsRows : Type 0 where
  -- (1 . nil), (abc . (1 x)), (-1 . a)
  pub of_integer : RunsAlways Cons (number 1 ∷ nil_word ∷ []) (makes cons_tag (number 1 ∷ nil_word ∷ []))
  pub of_object : RunsAlways Cons (object_at abc ∷ cons_at pair ∷ []) (makes cons_tag (object_at abc ∷ cons_at pair ∷ []))
  pub of_character : RunsAlways Cons (minus 1 ∷ character_word 97 ∷ []) (makes cons_tag (minus 1 ∷ character_word 97 ∷ []))
  -- two words
  pub fits : FitsObject Cons (number 1 ∷ nil_word ∷ []) cons_tag (number 1 ∷ nil_word ∷ [])
  -- and its parts are those that were given
  pub car : DoesThen (makes cons_tag (object_at abc ∷ cons_at pair ∷ [])) Car (cons_at made ∷ []) (gives (object_at abc))
  pub cdr : DoesThen (makes cons_tag (object_at abc ∷ cons_at pair ∷ [])) Cdr (cons_at made ∷ []) (gives (cons_at pair))

-- of the list (1 x)
pub record PartRows : Type 0 where
  pub car : RunsAlways Car (cons_at pair ∷ []) (gives (number 1))
  pub cdr : RunsAlways Cdr (cons_at pair ∷ []) (gives (cons_at next_pair))
  pub last_car : RunsAlways Car (cons_at next_pair ∷ []) (gives (object_at symbol_x))
  pub last_cdr : RunsAlways Cdr (cons_at next_pair ∷ []) (gives nil_word)
  -- nil is no cons, and neither is another value
  pub car_refused : RefusesEach Car (λ w. w ∷ []) (others_than some_conses) cons_class
  pub cdr_refused : RefusesEach Cdr (λ w. w ∷ []) (others_than some_conses) cons_class
  pub car_fits : FitsError Car (nil_word ∷ []) nil_word cons_class
  pub cdr_fits : FitsError Cdr (nil_word ∷ []) nil_word cons_class

-- The value comes first, and then the cons. The value is given, and the other part is as it was.
pub record SetPartRows : Type 0 where
  pub car : RunsAlways SetCar (object_at abc ∷ cons_at pair ∷ []) (stores (object_at abc) pair (object_at abc ∷ []))
  pub cdr : RunsAlways SetCdr (object_at abc ∷ cons_at pair ∷ []) (stores (object_at abc) (pair + 4) (object_at abc ∷ []))
  -- nil, and the cons itself
  pub car_to_nil : RunsAlways SetCar (nil_word ∷ cons_at next_pair ∷ []) (stores nil_word next_pair (nil_word ∷ []))
  pub cdr_to_itself : RunsAlways SetCdr (cons_at pair ∷ cons_at pair ∷ []) (stores (cons_at pair) (pair + 4) (cons_at pair ∷ []))
  -- what was set is there
  pub car_then : DoesThen (stores (object_at abc) pair (object_at abc ∷ [])) Car (cons_at pair ∷ []) (gives (object_at abc))
  pub cdr_then : DoesThen (stores (object_at abc) (pair + 4) (object_at abc ∷ [])) Cdr (cons_at pair ∷ []) (gives (object_at abc))
  -- the second argument has to be a cons, the first one may be any value
  pub car_refused : RefusesEach SetCar (λ w. nil_word ∷ w ∷ []) (others_than some_conses) cons_class
  pub cdr_refused : RefusesEach SetCdr (λ w. nil_word ∷ w ∷ []) (others_than some_conses) cons_class
  pub car_fits : FitsError SetCar (number 1 ∷ nil_word ∷ []) nil_word cons_class
  pub cdr_fits : FitsError SetCdr (number 1 ∷ nil_word ∷ []) nil_word cons_class
