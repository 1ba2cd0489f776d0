-- Integers compared.
use Rattle.std.specs.Prelude.{ℕ, List, [], ◌∷◌}
use Rattle.lang_meaning.specs.declared.primitive.Primitive.{Primitive}
use Rattle.lang_meaning.specs.declared.primitive.Primitive.TheVariants.{NumberEqual, NumberNotEqual, NumberLess, NumberAtMost, NumberGreater, NumberAtLeast}
use Rattle.mid_arena.specs.Tags.{nil_word}
use Rattle.mid_examples.specs.Addresses.{object_at, number, minus, symbol_t}
use Rattle.mid_examples.specs.Rows.{gives, DoesAlike, NeedsIntegers}
use Rattle.mid_examples.specs.Sums.{greatest, least}

-- the words of t and nil
abbrev pub says_so : ℕ
says_so = object_at symbol_t

abbrev pub says_not : ℕ
says_not = nil_word

-- pairs of which the first is less, of the same, and of which the second is less: of either sign, and the ends of the range
abbrev pub rising : List (List ℕ)
rising =
    (number 2 ∷ number 3 ∷ []) ∷ (minus 3 ∷ minus 2 ∷ []) ∷ (minus 1 ∷ number 0 ∷ []) ∷ (least ∷ greatest ∷ []) ∷
    (least ∷ minus 1 ∷ []) ∷ (number 0 ∷ greatest ∷ []) ∷ []

abbrev pub level : List (List ℕ)
level =
    (number 0 ∷ number 0 ∷ []) ∷ (number 3 ∷ number 3 ∷ []) ∷ (minus 3 ∷ minus 3 ∷ []) ∷ (least ∷ least ∷ []) ∷ (greatest ∷ greatest ∷ []) ∷ []

abbrev pub falling : List (List ℕ)
falling =
    (number 3 ∷ number 2 ∷ []) ∷ (minus 2 ∷ minus 3 ∷ []) ∷ (number 0 ∷ minus 1 ∷ []) ∷ (greatest ∷ least ∷ []) ∷
    (minus 1 ∷ least ∷ []) ∷ (greatest ∷ number 0 ∷ []) ∷ []

-- what a comparison says of these, and that it refuses all but integers
pub record Compares (which : Primitive) (of_rising of_level of_falling : ℕ) : Type 0 where
  pub rises : DoesAlike which rising (gives of_rising)
  pub is_level : DoesAlike which level (gives of_level)
  pub falls : DoesAlike which falling (gives of_falling)
  pub integers : NeedsIntegers which

pub record ComparisonRows : Type 0 where
  pub equal : Compares NumberEqual says_not says_so says_not
  pub not_equal : Compares NumberNotEqual says_so says_not says_so
  pub less : Compares NumberLess says_so says_not says_not
  pub at_most : Compares NumberAtMost says_so says_so says_not
  pub greater : Compares NumberGreater says_not says_not says_so
  pub at_least : Compares NumberAtLeast says_not says_so says_so
