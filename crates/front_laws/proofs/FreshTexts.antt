-- Behind each table there are longer ones, with texts that it has not.
use Rattle.std.specs.Prelude.{◌≡◌, ℕ, zero, suc, ◌+◌, ◌≤◌, Bool, true, false, if◌then◌else◌, List, [], ◌∷◌, ◌++◌, length, Some, slice_get, refl}
use Rattle.std.proofs.Common.{arith, ap, subst, length-append}
use Rattle.base.specs.Names.{IsTable, Extends, Extends-same, Extends-then, has_text, IsTable-with_text, name_of_text}

abbrev head_code : List ℕ → ℕ
head_code [] = 0
head_code (c ∷ cs) = c

-- no text of the table begins with a larger code
abbrev code_bound : List (List ℕ) → ℕ
code_bound [] = 0
code_bound (t ∷ ts) = head_code t + code_bound ts

below_bound : (ts : List (List ℕ)) (i : ℕ) (t : List ℕ) → slice_get ts i ≡ Some t → head_code t ≤ code_bound ts
below_bound [] i t h = absurd (cc)
below_bound (s ∷ ss) zero t h = let same : s ≡ t = cc in let e : head_code s ≡ head_code t = ap head_code same in omega (arith, e)
below_bound (s ∷ ss) (suc i) t h = omega (arith, below_bound ss i t h)

-- a text that the table has not, for each number
abbrev pub new_text : List (List ℕ) → ℕ → List ℕ
new_text ts k = (code_bound ts + 1 + k) ∷ []

new_is_new : (ts : List (List ℕ)) (k : ℕ) → has_text ts (new_text ts k) ≡ false
new_is_new ts k = by (has_text ts (new_text ts k)) refl
  where
    by : (b : Bool) → has_text ts (new_text ts k) ≡ b → has_text ts (new_text ts k) ≡ false
    by false e = e
    by true e = let n = name_of_text ts (new_text ts k) e in absurd (omega (arith, below_bound ts n.0 (new_text ts k) n.1))

abbrev pub with_new : List (List ℕ) → ℕ → List (List ℕ)
with_new ts k = ts ++ new_text ts k ∷ []

pub table_with_new : (ts : List (List ℕ)) (k : ℕ) → IsTable ts → IsTable (with_new ts k)
table_with_new ts k x =
    let short : length (new_text ts k) ≤ 263 = omega arith in
    subst (λ (b : Bool). IsTable (if b then ts else with_new ts k)) (new_is_new ts k) (IsTable-with_text ts (new_text ts k) x short)

pub extends_with_new : (ts : List (List ℕ)) (k : ℕ) → Extends ts (with_new ts k)
extends_with_new ts k = record { added = new_text ts k ∷ []; begins = refl }

-- two of them differ
pub new_differ : (ts : List (List ℕ)) → new_text ts 0 ≡ new_text ts 1 → ⊥
new_differ ts e = let codes : code_bound ts + 1 + 0 ≡ code_bound ts + 1 + 1 = ap head_code e in omega (arith, codes)

-- a table that is longer by so many texts
pub record Longer (ts : List (List ℕ)) (k : ℕ) : Type 0 where
  pub later : List (List ℕ)
  pub extends : Extends ts later
  pub table : IsTable later
  pub long : length later ≡ length ts + k

pub longer : (ts : List (List ℕ)) → IsTable ts → (k : ℕ) → Longer ts k
longer ts x zero = record { later = ts; extends = Extends-same ts; table = x; long = omega arith }
longer ts x (suc k) =
    let before = longer ts x k in
    let long : length before.later ≡ length ts + k = before.long in
    record {
      later = with_new before.later 0;
      extends = Extends-then ts before.later (with_new before.later 0) before.extends (extends_with_new before.later 0);
      table = table_with_new before.later 0 before.table;
      long = omega (arith, long, length-append before.later (new_text before.later 0 ∷ []));
    }
