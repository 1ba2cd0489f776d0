-- Which values are of a kind, and which are the same.
use Rattle.std.specs.Prelude.{ℕ, List, [], ◌∷◌, map}
use Rattle.lang_meaning.specs.declared.primitive.Primitive.{Primitive}
use Rattle.lang_meaning.specs.declared.primitive.Primitive.TheVariants.{Same, IsNull, IsCons, IsInteger, IsSymbol, IsCharacter, IsString, IsVector, IsFunction, IsGeneric}
use Rattle.mid_arena.specs.Tags.{nil_word, character_word}
use Rattle.mid_examples.specs.Addresses.{cons_at, object_at, number, minus, symbol_x, symbol_abcd, symbol_empty, fresh, expanded, next_pair, empty_string, abcd, empty_vector, x_initargs}
use Rattle.mid_examples.specs.Kinds.{some_integers, some_characters, some_conses, some_symbols, some_strings, some_vectors, some_generics, some_functions, values, others_than}
use Rattle.mid_examples.specs.Rows.{gives, RunsAlways, DoesAlike}
use Rattle.mid_examples.specs.Sums.{greatest, least}
use Rattle.mid_examples.specs.Comparisons.{says_so, says_not}

-- a value is the same as itself; integers and characters are so by value, others by identity
pub record SameRows : Type 0 where
  -- each value with itself
  pub itself : DoesAlike Same (map (λ w. w ∷ w ∷ []) values) (gives says_so)
  pub least_itself : RunsAlways Same (least ∷ least ∷ []) (gives says_so)
  pub greatest_itself : RunsAlways Same (greatest ∷ greatest ∷ []) (gives says_so)
  -- each other value with nil, in either order
  pub nil_first : DoesAlike Same (map (λ w. nil_word ∷ w ∷ []) (others_than (nil_word ∷ []))) (gives says_not)
  pub nil_second : DoesAlike Same (map (λ w. w ∷ nil_word ∷ []) (others_than (nil_word ∷ []))) (gives says_not)
  -- integers and characters that differ, and one of each of the same number
  pub integers : RunsAlways Same (number 1 ∷ minus 1 ∷ []) (gives says_not)
  pub ends : RunsAlways Same (least ∷ greatest ∷ []) (gives says_not)
  pub characters : RunsAlways Same (character_word 65 ∷ character_word 97 ∷ []) (gives says_not)
  pub code : RunsAlways Same (number 65 ∷ character_word 65 ∷ []) (gives says_not)
  -- two lists (x), a string and a symbol of the same bytes, two objects without elements, two symbols without a name
  pub lists : RunsAlways Same (cons_at next_pair ∷ cons_at x_initargs ∷ []) (gives says_not)
  pub bytes : RunsAlways Same (object_at abcd ∷ object_at symbol_abcd ∷ []) (gives says_not)
  pub empty : RunsAlways Same (object_at empty_string ∷ object_at empty_vector ∷ []) (gives says_not)
  pub fresh_ones : RunsAlways Same (object_at fresh ∷ object_at expanded ∷ []) (gives says_not)
  pub symbols : RunsAlways Same (object_at symbol_x ∷ object_at symbol_empty ∷ []) (gives says_not)

-- a predicate says so of these values, and of all others not
pub record PredicateTells (which : Primitive) (words : List ℕ) : Type 0 where
  pub these : DoesAlike which (map (λ w. w ∷ []) words) (gives says_so)
  pub others : DoesAlike which (map (λ w. w ∷ []) (others_than words)) (gives says_not)

pub record PredicateRows : Type 0 where
  pub null : PredicateTells IsNull (nil_word ∷ [])
  pub cons : PredicateTells IsCons some_conses
  pub integer : PredicateTells IsInteger some_integers
  pub symbol : PredicateTells IsSymbol some_symbols
  pub character : PredicateTells IsCharacter some_characters
  pub string : PredicateTells IsString some_strings
  pub vector : PredicateTells IsVector some_vectors
  pub function : PredicateTells IsFunction some_functions
  pub generic : PredicateTells IsGeneric some_generics
  -- the ends of the ranges of integers and of characters
  pub least_integer : RunsAlways IsInteger (least ∷ []) (gives says_so)
  pub greatest_integer : RunsAlways IsInteger (greatest ∷ []) (gives says_so)
  pub last_character : RunsAlways IsCharacter (character_word 255 ∷ []) (gives says_so)
