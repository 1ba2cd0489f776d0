-- Words that are loaded and stored at any offset, and at any address that is known.
use Rattle.std.proofs.Common.{◌≡◌, ℕ, ◌+◌, ◌^◌, ◌<◌, ◌≤◌, Bool, true, false, [], ◌∷◌, length, Some, refl, ap, ◌∙◌, arith}
use Rattle.std.specs.Prelude.{nat_le, slice_get, slice_set, if◌then◌else◌}
use Rattle.std.proofs.Math.ListN.{length-set}
use Rattle.std.proofs.lemmas.List.{set-set}
use Rattle.base.specs.Arithmetic.{sum32}
use Rattle.mid_code.specs.declared.operation.Arithmetic.TheVariants as which
use Rattle.mid_code.specs.Arena.{is_lent, word_at, with_word}
use Rattle.mid_code.specs.Meaning.{Context}
use Rattle.mid_code.specs.MidCode.{code_of}
use Rattle.mid_code.specs.State.{Registers, register, falls, ends, charged, with_arena, MidState}
use Rattle.mid_arena.proofs.Lists.{set_elsewhere}
use Rattle.mid_arena.proofs.Registers.{register_here, register_beside}
use Rattle.mid_arena.proofs.Running.{RunsTo, and_then, none_left, constant_falls, compute_known, load_falls, store_falls, address_up, address_here}
use Rattle.back_lowering.specs.Registers.{of_code, enough_for}
use Rattle.back_lowering.specs.Steps.{Steps, constant, compute, load, store, load_far, store_far, load_from, store_to}

-- steps that only bring a word into a register
pub record Loaded (c : Context) (ss : Steps) (d : ℕ) (regs : Registers) (y : MidState) (w : ℕ) : Type 0 where
  pub cost : ℕ
  pub within : cost ≤ 24
  pub run : RunsTo c (code_of ss) regs y (ends falls (slice_set regs d (Some w)) (charged cost y))

-- and steps that store one, with a register that is used
pub record Stored (c : Context) (ss : Steps) (t : ℕ) (regs : Registers) (y : MidState) (x w : ℕ) : Type 0 where
  pub after : Registers
  pub count : length after ≡ length regs
  pub others : (r : ℕ) → (t ≡ r → ⊥) → slice_get after r ≡ slice_get regs r
  pub cost : ℕ
  pub within : cost ≤ 24
  pub run : RunsTo c (code_of ss) regs y (ends falls after (with_arena (with_word x w y.arena) (charged cost y)))

pub charged_twice : (m n k : ℕ) (y : MidState) → m + n ≡ k → charged n (charged m y) ≡ charged k y
charged_twice m n k y e = let same : y.cost + m + n ≡ y.cost + k = omega (arith, e) in ap (λ c. record y { cost = c }) same

module _ (c : Context) (regs : Registers) (y : MidState) where
  -- a constant, and the word at an offset from it
  at_constant :
      (d k offset x w : ℕ) → d < length regs → k + offset ≡ x → x < 2 ^ 32 → word_at y.arena x ≡ Some w → Loaded c (constant d k ∷ load d d offset ∷ []) d regs y w
  at_constant d k offset x w there same low word =
      let run = and_then {c = c} {rs = regs} {z = y} constant_falls
      (and_then (load_falls (register_here regs d k there) (address_up k offset (omega (arith, same, low)) ∙ same) word) none_left) in
      record {
        cost = 14;
        within = omega arith;
        run = record {
          same = run.same ∙ ap (λ rs. ends falls rs (charged 8 (charged 6 y))) (set-set regs d (Some k) (Some w))
              ∙ ap (λ z. ends falls (slice_set regs d (Some w)) z) (charged_twice 6 8 14 y refl);
        };
      }

  -- **a word at an address that is known**
  pub load_from_runs : (d x w : ℕ) → d < length regs → x < 2 ^ 32 → word_at y.arena x ≡ Some w → Loaded c (load_from d d x) d regs y w
  load_from_runs d x w there low word = by (nat_le x 2047)
    where
      by : (t : Bool) → Loaded c (if t then constant d 0 ∷ load d d x ∷ [] else constant d x ∷ load d d 0 ∷ []) d regs y w
      by true = at_constant d 0 x x w there (omega arith) low word
      by false = at_constant d x 0 x w there (omega arith) low word

  stored_at_constant :
      (from t k offset x w : ℕ) → t < length regs → (t ≡ from → ⊥) → register from regs ≡ Some w → k + offset ≡ x → x < 2 ^ 32 → is_lent y.arena x ≡ true
      → Stored c (constant t k ∷ store from t offset ∷ []) t regs y x w
  stored_at_constant from t k offset x w there other here same low lent =
      let run = and_then {c = c} {rs = regs} {z = y} constant_falls
      (and_then
      (store_falls (register_beside regs t from (Some k) other ∙ here) (register_here regs t k there) (address_up k offset (omega (arith, same, low)) ∙ same) lent) none_left) in
      record {
        after = slice_set regs t (Some k);
        count = length-set regs t (Some k);
        others = λ r far. set_elsewhere regs t r (Some k) far;
        cost = 14;
        within = omega arith;
        run = record { same = run.same ∙ ap (λ z. ends falls (slice_set regs t (Some k)) (with_arena (with_word x w y.arena) z)) (charged_twice 6 8 14 y refl) };
      }

  pub store_to_runs :
      (from t x w : ℕ) → t < length regs → (t ≡ from → ⊥) → register from regs ≡ Some w → x < 2 ^ 32 → is_lent y.arena x ≡ true
      → Stored c (store_to from t x) t regs y x w
  store_to_runs from t x w there other here low lent = by (nat_le x 2047)
    where
      by : (b : Bool) → Stored c (if b then constant t 0 ∷ store from t x ∷ [] else constant t x ∷ store from t 0 ∷ []) t regs y x w
      by true = stored_at_constant from t 0 x x w there other here (omega arith) low lent
      by false = stored_at_constant from t x 0 x w there other here (omega arith) low lent

  sum_of : (offset b : ℕ) → b + offset < 2 ^ 32 → sum32 offset b ≡ b + offset
  sum_of offset b low = omega (arith, low)

  -- **a word at any offset from an address**
  pub load_far_runs :
      (d base offset b w : ℕ) → d < length regs → (d ≡ base → ⊥) → register base regs ≡ Some b → b + offset < 2 ^ 32 → word_at y.arena (b + offset) ≡ Some w
      → Loaded c (load_far d base d offset) d regs y w
  load_far_runs d base offset b w there other here low word = by (nat_le offset 2047)
    where
      by :
          (t : Bool)
          → Loaded c (if t then load d base offset ∷ [] else constant d offset ∷ compute d which.Add d base ∷ load d d 0 ∷ []) d regs y w
      by true = record { cost = 8; within = omega arith; run = and_then (load_falls here (address_up b offset low) word) none_left }
      by false =
          let regs1 : Registers = slice_set regs d (Some offset) in
          let regs2 : Registers = slice_set regs1 d (Some (b + offset)) in
          let there1 : d < length regs1 = omega (arith, there, length-set regs d (Some offset)) in
          let run = and_then {c = c} {rs = regs} {z = y} constant_falls
          (and_then (compute_known {how = which.Add} (register_here regs d offset there) (register_beside regs d base (Some offset) other ∙ here) (sum_of offset b low))
          (and_then (load_falls (register_here regs1 d (b + offset) there1) (address_here (b + offset) low) word) none_left)) in
          record {
            cost = 24;
            within = omega arith;
            run = record {
              same = run.same
                  ∙ ap (λ rs. ends falls rs (charged 8 (charged 10 (charged 6 y))))
                  (set-set regs1 d (Some (b + offset)) (Some w) ∙ set-set regs d (Some offset) (Some w))
                  ∙ ap (λ z. ends falls (slice_set regs d (Some w)) (charged 8 z)) (charged_twice 6 10 16 y refl)
                  ∙ ap (λ z. ends falls (slice_set regs d (Some w)) z) (charged_twice 16 8 24 y refl);
            };
          }

  pub store_far_runs :
      (from base t offset b w : ℕ) → enough_for (of_code (code_of (store_far from base t offset))) ≤ length regs → (t ≡ from → ⊥) → (t ≡ base → ⊥) → register from regs ≡ Some w → register base regs ≡ Some b → b + offset < 2 ^ 32
      → is_lent y.arena (b + offset) ≡ true → Stored c (store_far from base t offset) t regs y (b + offset) w
  store_far_runs from base t offset b w fits other apart here at low lent = by (nat_le offset 2047) fits
    where
      by :
          (k : Bool)
          → enough_for (of_code (code_of (if k then store from base offset ∷ [] else constant t offset ∷ compute t which.Add t base ∷ store from t 0 ∷ []))) ≤ length regs
          → Stored c (if k then store from base offset ∷ [] else constant t offset ∷ compute t which.Add t base ∷ store from t 0 ∷ []) t regs y (b + offset) w
      by true fits = record {
        after = regs;
        count = refl;
        others = λ r far. refl;
        cost = 8;
        within = omega arith;
        run = and_then (store_falls here at (address_up b offset low) lent) none_left;
      }
      by false fits =
          let there : t < length regs = omega (arith, fits) in
          let regs1 : Registers = slice_set regs t (Some offset) in
          let regs2 : Registers = slice_set regs1 t (Some (b + offset)) in
          let there1 : t < length regs1 = omega (arith, there, length-set regs t (Some offset)) in
          let run = and_then {c = c} {rs = regs} {z = y} constant_falls
          (and_then (compute_known {how = which.Add} (register_here regs t offset there) (register_beside regs t base (Some offset) apart ∙ at) (sum_of offset b low))
          (and_then
          (store_falls (register_beside regs1 t from (Some (b + offset)) other ∙ register_beside regs t from (Some offset) other ∙ here)
          (register_here regs1 t (b + offset) there1) (address_here (b + offset) low) lent) none_left)) in
          record {
            after = regs2;
            count = length-set regs1 t (Some (b + offset)) ∙ length-set regs t (Some offset);
            others = λ r far. set_elsewhere regs1 t r (Some (b + offset)) far ∙ set_elsewhere regs t r (Some offset) far;
            cost = 24;
            within = omega arith;
            run = record {
              same = run.same
                  ∙ ap (λ z. ends falls regs2 (with_arena (with_word (b + offset) w y.arena) (charged 8 z))) (charged_twice 6 10 16 y refl)
                  ∙ ap (λ z. ends falls regs2 (with_arena (with_word (b + offset) w y.arena) z)) (charged_twice 16 8 24 y refl);
            };
          }
