-- The words of a chain: how many there are of each kind, and where they stand.
use Rattle.std.proofs.Common.{◌≡◌, ℕ, zero, suc, ◌+◌, ◌*◌, ◌%◌, ◌/◌, ◌^◌, ◌<◌, List, [], ◌∷◌, ◌++◌, length, refl, ap, subst, arith}
use Rattle.lang_meaning.specs.Objects.{Chain}
use Rattle.back_lowering.specs.ControlWords.{around_method, before_method, after_method, primary_method, chain_end, primary_behind}
use Rattle.back_relation.specs.Setting.{Setting, ConstantsAt}
use Rattle.back_relation.specs.Chains.{ahead_words, method_words, chain_words, ChainAt}
use Rattle.back_values.specs.Chains.{before_at, after_at, primary_at}

-- the words behind others
pub constants_behind : (setting : Setting) (xs ys : List ℕ) (a : ℕ) → ConstantsAt setting a (xs ++ ys) → ConstantsAt setting (a + 4 * length xs) ys
constants_behind setting [] ys a h = let same : a ≡ a + 4 * 0 = omega arith in subst (λ x. ConstantsAt setting x ys) same h
constants_behind setting (x ∷ xs) ys a h =
    let same : a + 4 + 4 * length xs ≡ a + 4 * suc (length xs) = omega arith in subst (λ x. ConstantsAt setting x ys) same (constants_behind setting xs ys (a + 4) h.1)

pub words_count : (kind : ℕ) (ps : List ℕ) → length (method_words kind ps) ≡ length ps
words_count kind [] = refl
words_count kind (p ∷ ps) = ap suc (words_count kind ps)

-- the kind of a method's word, and its procedure
pub kind_of : (p kind : ℕ) → kind < 8 → (8 * p + kind) % 8 ≡ kind
kind_of p kind few = omega (arith, few)

pub procedure_of : (p kind : ℕ) → kind < 8 → (8 * p + kind) / 2 ^ (3 % 32) ≡ p
procedure_of p kind few = omega (arith, few)

-- the words from the methods before on, from those after on, and from the primary ones on
abbrev pub words_from_primary : Chain → List ℕ
words_from_primary c = method_words primary_method c.primary ++ chain_end ∷ []

abbrev pub words_from_after : Chain → List ℕ
words_from_after c = method_words after_method c.after ++ words_from_primary c

abbrev pub words_from_before : Chain → List ℕ
words_from_before c = method_words before_method c.before ++ words_from_after c

module _ (setting : Setting) (address : ℕ) (c : Chain) (at : ChainAt setting address c) (none : c.around ≡ []) where
  pub all_words : ConstantsAt setting address (ahead_words (length c.before + length c.after) ++ words_from_before c)
  all_words =
      subst (λ ps. ConstantsAt setting address (method_words 0 ps ++ (ahead_words (length c.before + length c.after) ++ words_from_before c))) none at.words

  pub before_words : ConstantsAt setting (before_at address c) (words_from_before c)
  before_words = constants_behind setting (ahead_words (length c.before + length c.after)) (words_from_before c) address all_words

  pub after_words : ConstantsAt setting (after_at address c) (words_from_after c)
  after_words =
      let same : before_at address c + 4 * length (method_words before_method c.before) ≡ after_at address c =
      ap (λ n. before_at address c + 4 * n) (words_count before_method c.before) in
      subst (λ x. ConstantsAt setting x (words_from_after c)) same (constants_behind setting (method_words before_method c.before) (words_from_after c) (before_at address c) before_words)

  pub primary_words : ConstantsAt setting (primary_at address c) (words_from_primary c)
  primary_words =
      let same : after_at address c + 4 * length (method_words after_method c.after) ≡ primary_at address c =
      ap (λ n. after_at address c + 4 * n) (words_count after_method c.after) in
      subst (λ x. ConstantsAt setting x (words_from_primary c)) same (constants_behind setting (method_words after_method c.after) (words_from_primary c) (after_at address c) after_words)

-- a list of words that is not empty, whose first one is of a later kind
pub record LaterFirst (kind : ℕ) (words : List ℕ) : Type 0 where
  pub first : ℕ
  pub others : List ℕ
  pub is : words ≡ first ∷ others
  pub later : kind < first % 8

pub primary_first : (c : Chain) → LaterFirst after_method (words_from_primary c)
primary_first c = by c.primary
  where
    by : (ps : List ℕ) → LaterFirst after_method (method_words primary_method ps ++ chain_end ∷ [])
    by [] = record { first = 4; others = []; is = refl; later = omega arith }
    by (p ∷ ps) = record { first = 8 * p + 3; others = method_words primary_method ps ++ chain_end ∷ []; is = refl; later = omega arith }

pub after_first : (c : Chain) → LaterFirst before_method (words_from_after c)
after_first c = by c.after
  where
    by : (qs : List ℕ) → LaterFirst before_method (method_words after_method qs ++ words_from_primary c)
    by [] = let h = primary_first c in record { first = h.first; others = h.others; is = h.is; later = let later = h.later in omega (arith, later) }
    by (q ∷ qs) = record { first = 8 * q + 2; others = method_words after_method qs ++ words_from_primary c; is = refl; later = omega arith }

before_first : (c : Chain) → LaterFirst around_method (words_from_before c)
before_first c = by c.before
  where
    by : (bs : List ℕ) → LaterFirst around_method (method_words before_method bs ++ words_from_after c)
    by [] = let h = after_first c in record { first = h.first; others = h.others; is = h.is; later = let later = h.later in omega (arith, later) }
    by (b ∷ bs) = record { first = 8 * b + 1; others = method_words before_method bs ++ words_from_after c; is = refl; later = omega arith }

-- behind the around methods none follows
pub chain_first : (c : Chain) → LaterFirst around_method (ahead_words (length c.before + length c.after) ++ words_from_before c)
chain_first c = by (length c.before + length c.after)
  where
    by : (n : ℕ) → LaterFirst around_method (ahead_words n ++ words_from_before c)
    by zero = before_first c
    by (suc n) = record { first = 8 * (4 * (2 + n)) + primary_behind; others = words_from_before c; is = refl; later = omega arith }

-- the first word of a chain that has a primary method is not that of the end
pub record HasFirst (words : List ℕ) : Type 0 where
  pub first : ℕ
  pub others : List ℕ
  pub is : words ≡ first ∷ others
  pub no_end : first % 8 ≡ chain_end → ⊥

pub has_first : (c : Chain) → (c.primary ≡ [] → ⊥) → HasFirst (chain_words c)
has_first c some = by c.around
  where
    of_methods : (bs qs ps : List ℕ) → (ps ≡ [] → ⊥) → HasFirst (method_words before_method bs ++ (method_words after_method qs ++ (method_words primary_method ps ++ chain_end ∷ [])))
    of_methods (b ∷ bs) qs ps some = record { first = 8 * b + 1; others = _; is = refl; no_end = λ e. omega (arith, e) }
    of_methods [] (q ∷ qs) ps some = record { first = 8 * q + 2; others = _; is = refl; no_end = λ e. omega (arith, e) }
    of_methods [] [] (p ∷ ps) some = record { first = 8 * p + 3; others = _; is = refl; no_end = λ e. omega (arith, e) }
    of_methods [] [] [] some = absurd (some refl)

    behind_around : (n : ℕ) → HasFirst (ahead_words n ++ words_from_before c)
    behind_around zero = of_methods c.before c.after c.primary some
    behind_around (suc n) = record { first = 8 * (4 * (2 + n)) + primary_behind; others = words_from_before c; is = refl; no_end = λ e. omega (arith, e) }

    by : (ar : List ℕ) → HasFirst (method_words around_method ar ++ (ahead_words (length c.before + length c.after) ++ words_from_before c))
    by [] = behind_around (length c.before + length c.after)
    by (a ∷ ar) = record { first = 8 * a + 0; others = _; is = refl; no_end = λ e. omega (arith, e) }
