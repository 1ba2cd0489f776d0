-- Chains whose words do not fit.
use Rattle.std.proofs.Common.{ℕ, zero, suc, ◌+◌, ◌*◌, ◌^◌, ◌≤◌, List, [], ◌∷◌, ◌++◌, length, inl, arith}
use Rattle.lang_meaning.specs.Objects.{Chain}
use Rattle.back_relation.specs.Chains.{ahead_words, method_words, chain_words}
use Rattle.back_laying.specs.TooLarge.{SomeOf, IsLarge}
use Rattle.back_laying.proofs.Large.{some_front, some_behind}

many_ahead : (n : ℕ) → 2 ^ 26 ≤ n → SomeOf IsLarge (ahead_words n)
many_ahead zero h = absurd (omega arith)
many_ahead (suc n) h = let large : 2 ^ 31 ≤ 8 * (4 * (2 + n)) + 5 = omega arith in inl large

module _ (c : Chain) where
  abbrev last : List ℕ
  last = method_words 3 c.primary ++ 4 ∷ []

  abbrev afters : List ℕ
  afters = method_words 2 c.after ++ last

  abbrev befores : List ℕ
  befores = method_words 1 c.before ++ afters

  abbrev aheads : List ℕ
  aheads = ahead_words (length c.before + length c.after) ++ befores

  pub around_large : SomeOf IsLarge (method_words 0 c.around) → SomeOf IsLarge (chain_words c)
  around_large h = some_front IsLarge (method_words 0 c.around) aheads h

  behind_around : SomeOf IsLarge aheads → SomeOf IsLarge (chain_words c)
  behind_around h = some_behind IsLarge (method_words 0 c.around) aheads h

  pub many_large : 2 ^ 26 ≤ length c.before + length c.after → SomeOf IsLarge (chain_words c)
  many_large h = behind_around (some_front IsLarge (ahead_words (length c.before + length c.after)) befores (many_ahead (length c.before + length c.after) h))

  behind_ahead : SomeOf IsLarge befores → SomeOf IsLarge (chain_words c)
  behind_ahead h = behind_around (some_behind IsLarge (ahead_words (length c.before + length c.after)) befores h)

  pub before_large : SomeOf IsLarge (method_words 1 c.before) → SomeOf IsLarge (chain_words c)
  before_large h = behind_ahead (some_front IsLarge (method_words 1 c.before) afters h)

  behind_before : SomeOf IsLarge afters → SomeOf IsLarge (chain_words c)
  behind_before h = behind_ahead (some_behind IsLarge (method_words 1 c.before) afters h)

  pub after_large : SomeOf IsLarge (method_words 2 c.after) → SomeOf IsLarge (chain_words c)
  after_large h = behind_before (some_front IsLarge (method_words 2 c.after) last h)

  pub primary_large : SomeOf IsLarge (method_words 3 c.primary) → SomeOf IsLarge (chain_words c)
  primary_large h =
      behind_before (some_behind IsLarge (method_words 2 c.after) last (some_front IsLarge (method_words 3 c.primary) (4 ∷ []) h))
