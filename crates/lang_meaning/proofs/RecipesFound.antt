-- What stands for classes.
use Rattle.std.proofs.Common.{◌≡◌, ℕ, zero, suc, ◌+◌, ◌<◌, ◌≤◌, ◌==◌, true, false, List, [], ◌∷◌, ◌++◌, length, refl, sym, ◌∙◌, ap, add-zero, zero-add, arith, eq-eqb}
use Rattle.std.specs.List.{range_with_len}
use Rattle.std.proofs.lemmas.Bool.{ne_eqb}
use Rattle.lang_meaning.specs.Values.{Value, nil, object}
use Rattle.lang_meaning.specs.InitialHeap.{class, laid_out, under_key, class_things}
use Rattle.lang_meaning.specs.Recipes.{in_turn, class_recipe}
use Rattle.lang_meaning.proofs.RecipeKeys.{AreOthers}

-- the value at a place; nil where there is none
abbrev pub value_in : List Value → ℕ → Value
value_in [] i = nil
value_in (v ∷ vs) zero = v
value_in (v ∷ vs) (suc i) = value_in vs i

pub value_front : (vs us : List Value) (i : ℕ) → i < length vs → value_in (vs ++ us) i ≡ value_in vs i
value_front [] us i h = absurd (omega arith)
value_front (v ∷ vs) us zero h = refl
value_front (v ∷ vs) us (suc i) h = value_front vs us i (omega arith)

pub value_back : (vs us : List Value) (i : ℕ) → value_in (vs ++ us) (length vs + i) ≡ value_in us i
value_back [] us i = ap (value_in us) (zero-add i)
value_back (v ∷ vs) us i =
    let same : suc (length vs) + i ≡ suc (length vs + i) = omega arith in
    ap (value_in (v ∷ (vs ++ us))) same ∙ value_back vs us i

-- classes

pub range_count : (a len n : ℕ) → length (in_turn class_recipe (range_with_len a len) n).1 ≡ len
range_count a zero n = refl
range_count a (suc len) n = ap (λ k. suc k) (range_count (a + 1) len (n + 1))

pub range_in : (a len i n : ℕ) → i < len → value_in (in_turn class_recipe (range_with_len a len) n).1 i ≡ object (n + i)
range_in a zero i n h = absurd (omega arith)
range_in a (suc len) zero n h = ap object (sym (add-zero n))
range_in a (suc len) (suc i) n h =
    let same : n + 1 + i ≡ n + suc i = omega arith in
    range_in (a + 1) len i (n + 1) (omega arith) ∙ ap object same

pub range_found : (a len i n : ℕ)
    → under_key (class (a + i)) (laid_out (class_things (range_with_len a len)) n) n ≡ value_in (in_turn class_recipe (range_with_len a len) n).1 i
range_found a zero i n = refl
range_found a (suc len) zero n =
    let here : (a + 0 == a) ≡ true = eq-eqb (a + 0) a (add-zero a) in
    rw here refl
range_found a (suc len) (suc i) n =
    let other : (a + suc i == a) ≡ false = ne_eqb (a + suc i) a (λ e. omega arith) in
    let same : a + suc i ≡ a + 1 + i = omega arith in
    rw other
    (ap (λ c. under_key (class c) (laid_out (class_things (range_with_len (a + 1) len)) (n + 1)) (n + 1)) same
    ∙ range_found (a + 1) len i (n + 1))

pub range_before : (c a len : ℕ) → c < a → AreOthers (class c) (class_things (range_with_len a len))
range_before c a zero h = tt
range_before c a (suc len) h = (ne_eqb c a (λ e. omega arith), range_before c (a + 1) len (omega arith))

pub range_behind : (c a len : ℕ) → a + len ≤ c → AreOthers (class c) (class_things (range_with_len a len))
range_behind c a zero h = tt
range_behind c a (suc len) h = (ne_eqb c a (λ e. omega arith), range_behind c (a + 1) len (omega arith))
