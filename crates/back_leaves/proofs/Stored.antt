-- Registers one after another, and words stored and loaded one after another.
use Rattle.std.proofs.Common.{◌≡◌, ℕ, zero, suc, ◌+◌, ◌-◌, ◌*◌, ◌<◌, List, [], ◌∷◌, ◌++◌, refl, ap, sym, ◌∙◌, subst, add-zero, add-one, append_assoc, arith}
use Rattle.mid_code.specs.MidCode.{MidStep}
use Rattle.back_lowering.specs.Scope.{registers_from}
use Rattle.back_lowering.specs.Calls.{list_of}
use Rattle.back_leaves.specs.Conses.{consed}
use Rattle.back_lowering.specs.Steps.{Steps, words_stored, words_loaded, store_far, load_far}

-- one register more
pub registers_more : (d n : ℕ) → registers_from d (suc n) ≡ registers_from d n ++ (d + n) ∷ []
registers_more d zero = ap (λ r. r ∷ []) (sym (add-zero d))
registers_more d (suc n) =
    let e : (d + 1) + n ≡ d + suc n = omega arith in
    ap (λ rs. d ∷ rs) (registers_more (d + 1) n ∙ ap (λ r. registers_from (d + 1) n ++ r ∷ []) e)

pub registers_next : (d n : ℕ) → registers_from d (n + 1) ≡ registers_from d n ++ (d + n) ∷ []
registers_next d n = ap (registers_from d) (add-one n) ∙ registers_more d n

-- of words stored, one more is, and the rest behind it
pub stored_next : (left d base t offset : ℕ)
    → words_stored (suc left) d base t offset ≡ store_far d base t offset ++ words_stored left (d + 1) base t (offset + 4)
stored_next left d base t offset = refl

pub stored_step : (total code new : Steps) (count i d base t offset : ℕ)
    → i < count
    → code ++ words_stored (count - i) (d + i) base t (offset + 4 * i) ≡ total
    → new ≡ code ++ store_far (d + i) base t (offset + 4 * i)
    → new ++ words_stored (count - (i + 1)) (d + (i + 1)) base t (offset + 4 * (i + 1)) ≡ total
stored_step total code new count i d base t offset below so is =
    let n : count - i ≡ suc (count - (i + 1)) = omega arith in
    let r : d + (i + 1) ≡ (d + i) + 1 = omega arith in
    let o : offset + 4 * (i + 1) ≡ (offset + 4 * i) + 4 = omega arith in
    ap (λ (c : Steps). c ++ words_stored (count - (i + 1)) (d + (i + 1)) base t (offset + 4 * (i + 1))) is
    ∙ append_assoc code (store_far (d + i) base t (offset + 4 * i)) (words_stored (count - (i + 1)) (d + (i + 1)) base t (offset + 4 * (i + 1)))
    ∙ ap (λ (k : ℕ). code ++ (store_far (d + i) base t (offset + 4 * i) ++ words_stored (count - (i + 1)) k base t (offset + 4 * (i + 1)))) r
    ∙ ap (λ (k : ℕ). code ++ (store_far (d + i) base t (offset + 4 * i) ++ words_stored (count - (i + 1)) ((d + i) + 1) base t k)) o
    ∙ sym (ap (λ (k : ℕ). code ++ words_stored k (d + i) base t (offset + 4 * i)) n)
    ∙ so

-- a list of one word more
pub listed_step : (old code new : Steps) (count i d t : ℕ)
    → i < count
    → code ≡ old ++ list_of i (d + (count - i)) t
    → new ≡ code ++ consed (d + (count - 1 - i)) t
    → new ≡ old ++ list_of (i + 1) (d + (count - (i + 1))) t
listed_step old code new count i d t below so is =
    let r : d + (count - i) ≡ (d + (count - (i + 1))) + 1 = omega arith in
    let q : d + (count - 1 - i) ≡ d + (count - (i + 1)) = omega arith in
    is
    ∙ ap (λ (c : Steps). c ++ consed (d + (count - 1 - i)) t) so
    ∙ append_assoc old (list_of i (d + (count - i)) t) (consed (d + (count - 1 - i)) t)
    ∙ ap (λ (k : ℕ). old ++ (list_of i k t ++ consed (d + (count - 1 - i)) t)) r
    ∙ ap (λ (k : ℕ). old ++ (list_of i ((d + (count - (i + 1))) + 1) t ++ consed k t)) q
    ∙ ap (λ (k : ℕ). old ++ list_of k (d + (count - (i + 1))) t) (sym (add-one i))
