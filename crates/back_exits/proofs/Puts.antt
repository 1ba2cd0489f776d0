-- Words that are stored among control words and in a record, by their offsets: what stands at an offset is the last one that was stored there.
use Rattle.std.proofs.Common.{◌≡◌, inl, inr, ℕ, ◌+◌, ◌/◌, ◌<◌, ◌≤◌, Bool, true, false, List, [], ◌∷◌, length, Option, Some, None, refl, sym, ap, ◌∙◌, subst, arith}
use Rattle.std.specs.Prelude.{◌%◌, ◌==◌, ◌&&◌, nat_lt, if◌then◌else◌}
use Rattle.std.proofs.lemmas.Bool.{ne_eqb, eqb-true, eqb-false, ltb-true}
use Rattle.std.proofs.Math.ListN.{length-set}
use Rattle.mid_code.specs.Arena.{Arena, is_lent, word_at, with_word}
use Rattle.mid_code.proofs.WordBounds.{first_true, second_true}
use Rattle.mid_arena.proofs.Memory.{lent_with_word, word_here, word_elsewhere}
use Rattle.back_lowering.specs.ControlWords.{control_address, variables_address}
use Rattle.back_relation.specs.Worlds.{record_bytes}
use Rattle.back_relation.specs.Stores.{stores}
use Rattle.back_exits.specs.Touching.{Touches}

-- a word at an offset from the control words, or from a record
pub data Put : Type 0 where
  of_control : (k w : ℕ) → Put
  of_record : (k w : ℕ) → Put

abbrev pub pair_of : (address : ℕ) → Put → ℕ × ℕ
pair_of address (of_control k w) = (control_address + k, w)
pair_of address (of_record k w) = (address + k, w)

abbrev pub pairs : (address : ℕ) → List Put → List (ℕ × ℕ)
pairs address [] = []
pairs address (p ∷ ps) = pair_of address p ∷ pairs address ps

-- offsets are those of words, of a control word that is stored, or within the record
abbrev pub is_put : Put → Bool
is_put (of_control k w) = (k % 4 == 0) && nat_lt k 32
is_put (of_record k w) = (k % 4 == 0) && nat_lt k 24

abbrev pub are_puts : List Put → Bool
are_puts [] = true
are_puts (p ∷ ps) = is_put p && are_puts ps

-- the last word that was stored at an offset
abbrev pub or_before : Option ℕ → Option ℕ → Option ℕ
or_before (Some w) o = Some w
or_before None o = o

abbrev pub control_put : (k : ℕ) → Put → Option ℕ
control_put k (of_control j w) = if j == k then Some w else None
control_put k (of_record j w) = None

abbrev pub record_put : (k : ℕ) → Put → Option ℕ
record_put k (of_control j w) = None
record_put k (of_record j w) = if j == k then Some w else None

abbrev pub last_control : (k : ℕ) → List Put → Option ℕ
last_control k [] = None
last_control k (p ∷ ps) = or_before (last_control k ps) (control_put k p)

abbrev pub last_record : (k : ℕ) → List Put → Option ℕ
last_record k [] = None
last_record k (p ∷ ps) = or_before (last_record k ps) (record_put k p)

before_twice : (a b c : Option ℕ) → or_before a (or_before b c) ≡ or_before (or_before a b) c
before_twice (Some w) b c = refl
before_twice None b c = refl

put_aligned : (j n : ℕ) → ((j % 4 == 0) && nat_lt j n) ≡ true → j % 4 ≡ 0
put_aligned j n e = eqb-true (j % 4) 0 (first_true _ _ e)

put_low : (j n : ℕ) → ((j % 4 == 0) && nat_lt j n) ≡ true → j < n
put_low j n e = ltb-true j n (second_true _ _ e)

module _ (address : ℕ) (aligned : address % 4 ≡ 0) (above : variables_address ≤ address) where
  pub puts_touch : (ps : List Put) → are_puts ps ≡ true → Touches address (address + record_bytes) (pairs address ps)
  puts_touch [] e = tt
  puts_touch (of_control k w ∷ ps) e =
      let here = first_true (is_put (of_control k w)) (are_puts ps) e in
      let al = put_aligned k 32 here in
      let low = put_low k 32 here in
      (omega (arith, al), inl (omega arith, omega (arith, low)), puts_touch ps (second_true (is_put (of_control k w)) (are_puts ps) e))
  puts_touch (of_record k w ∷ ps) e =
      let here = first_true (is_put (of_record k w)) (are_puts ps) e in
      let al = put_aligned k 24 here in
      let low = put_low k 24 here in
      (omega (arith, al, aligned), inr (omega arith, omega (arith, low)), puts_touch ps (second_true (is_put (of_record k w)) (are_puts ps) e))

  one_control : (k : ℕ) (p : Put) (a : Arena) → is_put p ≡ true → k < 36 → is_lent a (control_address + k) ≡ true → (control_address + k) / 4 < length a.memory
      → word_at (with_word (pair_of address p).0 (pair_of address p).1 a) (control_address + k) ≡ or_before (control_put k p) (word_at a (control_address + k))
  one_control k (of_control j w) a e few lent there = by (j == k) refl
    where
      al : j % 4 ≡ 0
      al = put_aligned j 32 e

      by : (t : Bool) → (j == k) ≡ t → word_at (with_word (control_address + j) w a) (control_address + k) ≡ or_before (if t then Some w else None) (word_at a (control_address + k))
      by true same =
          subst (λ i. word_at (with_word (control_address + i) w a) (control_address + k) ≡ Some w) (sym (eqb-true j k same)) (word_here a (control_address + k) w lent there)
      by false same =
          word_elsewhere a (control_address + j) w (control_address + k) (omega (arith, al))
          (ne_eqb (control_address + j) (control_address + k) (λ f. eqb-false j k same (omega (arith, f))))
  one_control k (of_record j w) a e few lent there =
      let al = put_aligned j 24 e in
      word_elsewhere a (address + j) w (control_address + k) (omega (arith, al, aligned))
      (ne_eqb (address + j) (control_address + k) (λ f. omega (arith, f, above, few)))

  one_record : (k : ℕ) (p : Put) (a : Arena) → is_put p ≡ true → is_lent a (address + k) ≡ true → (address + k) / 4 < length a.memory
      → word_at (with_word (pair_of address p).0 (pair_of address p).1 a) (address + k) ≡ or_before (record_put k p) (word_at a (address + k))
  one_record k (of_control j w) a e lent there =
      let al = put_aligned j 32 e in
      let low = put_low j 32 e in
      word_elsewhere a (control_address + j) w (address + k) (omega (arith, al))
      (ne_eqb (control_address + j) (address + k) (λ f. omega (arith, f, above, low)))
  one_record k (of_record j w) a e lent there = by (j == k) refl
    where
      al : j % 4 ≡ 0
      al = put_aligned j 24 e

      by : (t : Bool) → (j == k) ≡ t → word_at (with_word (address + j) w a) (address + k) ≡ or_before (if t then Some w else None) (word_at a (address + k))
      by true same = subst (λ i. word_at (with_word (address + i) w a) (address + k) ≡ Some w) (sym (eqb-true j k same)) (word_here a (address + k) w lent there)
      by false same =
          word_elsewhere a (address + j) w (address + k) (omega (arith, al, aligned))
          (ne_eqb (address + j) (address + k) (λ f. eqb-false j k same (omega (arith, f))))

  -- **what stands among the control words, and in the record**
  pub control_stands : (k : ℕ) (ps : List Put) (a : Arena) → are_puts ps ≡ true → k < 36 → is_lent a (control_address + k) ≡ true → (control_address + k) / 4 < length a.memory
      → word_at (stores (pairs address ps) a) (control_address + k) ≡ or_before (last_control k ps) (word_at a (control_address + k))
  control_stands k [] a e few lent there = refl
  control_stands k (p ∷ ps) a e few lent there =
      let q : ℕ × ℕ = pair_of address p in
      control_stands k ps (with_word q.0 q.1 a) (second_true (is_put p) (are_puts ps) e) few (lent_with_word a q.0 q.1 (control_address + k) ∙ lent)
      (subst (λ n. (control_address + k) / 4 < n) (sym (length-set a.memory (q.0 / 4) (Some q.1))) there)
      ∙ ap (or_before (last_control k ps)) (one_control k p a (first_true (is_put p) (are_puts ps) e) few lent there)
      ∙ before_twice (last_control k ps) (control_put k p) (word_at a (control_address + k))

  pub record_stands : (k : ℕ) (ps : List Put) (a : Arena) → are_puts ps ≡ true → is_lent a (address + k) ≡ true → (address + k) / 4 < length a.memory
      → word_at (stores (pairs address ps) a) (address + k) ≡ or_before (last_record k ps) (word_at a (address + k))
  record_stands k [] a e lent there = refl
  record_stands k (p ∷ ps) a e lent there =
      let q : ℕ × ℕ = pair_of address p in
      record_stands k ps (with_word q.0 q.1 a) (second_true (is_put p) (are_puts ps) e) (lent_with_word a q.0 q.1 (address + k) ∙ lent)
      (subst (λ n. (address + k) / 4 < n) (sym (length-set a.memory (q.0 / 4) (Some q.1))) there)
      ∙ ap (or_before (last_record k ps)) (one_record k p a (first_true (is_put p) (are_puts ps) e) lent there)
      ∙ before_twice (last_record k ps) (record_put k p) (word_at a (address + k))
