-- The records of a tree are listed for as many lines as there are.
use Rattle.std.proofs.Common.{◌≡◌, ℕ, ◌+◌, List, [], ◌∷◌, ◌++◌, length, refl, arith, length-append}
use Rattle.mid_code.specs.MidCode.{MidStep, choose, switch, repeat, with_block, lend, MidCode, no_step, step_and, MidCodes, no_code, code_and}
use Rattle.mid_lines.specs.Flattened.{step_line_count, line_count, codes_line_count}
use Rattle.mid_lines.specs.StaticRecords.{StaticRecord, of_landing, only_lent, step_records, code_records, codes_records}

choice_count : {X : Type 0} (a b : List X) (m n : ℕ) (x y z : X) → length a ≡ m → length b ≡ n → length (x ∷ (a ++ (y ∷ (b ++ z ∷ [])))) ≡ 1 + m + 1 + n + 1
choice_count a b m n x y z e f = omega (arith, e, f, length-append a (y ∷ (b ++ z ∷ [])), length-append b (z ∷ []))

loop_count : {X : Type 0} (a b : List X) (m n : ℕ) (x y : X) → length a ≡ m → length b ≡ n → length (a ++ (x ∷ (b ++ y ∷ []))) ≡ m + 1 + n + 1
loop_count a b m n x y e f = omega (arith, e, f, length-append a (x ∷ (b ++ y ∷ [])), length-append b (y ∷ []))

record_count :
    {X : Type 0} (a b : List X) (m n : ℕ) (v w x y z : X) → length a ≡ m → length b ≡ n
    → length (v ∷ (a ++ (w ∷ x ∷ y ∷ (b ++ z ∷ [])))) ≡ 1 + m + 3 + n + 1
record_count a b m n v w x y z e f = omega (arith, e, f, length-append a (w ∷ x ∷ y ∷ (b ++ z ∷ [])), length-append b (z ∷ []))

lent_count : {X : Type 0} (a : List X) (m : ℕ) (x y : X) → length a ≡ m → length (x ∷ (a ++ y ∷ [])) ≡ 1 + m + 1
lent_count a m x y e = omega (arith, e, length-append a (y ∷ []))

mutual
  pub step_count : (s : MidStep) (at : ℕ) (outer : List StaticRecord) → length (step_records at s outer) ≡ step_line_count s
  step_count (choose t first second) at outer =
      choice_count (code_records (at + 1) first outer) (code_records (at + 1 + line_count first + 1) second outer) (line_count first) (line_count second) outer outer outer
      (code_count first (at + 1) outer) (code_count second (at + 1 + line_count first + 1) outer)
  step_count (switch r codes) at outer = omega (arith, codes_count codes (at + 1) outer)
  step_count (repeat counted head t body) at outer =
      loop_count (code_records at head outer) (code_records (at + line_count head + 1) body outer) (line_count head) (line_count body) outer outer
      (code_count head at outer) (code_count body (at + line_count head + 1) outer)
  step_count (with_block block words word inside landing) at outer =
      let own : List StaticRecord = of_landing words (at + 1 + line_count inside + 2) ∷ outer in
      record_count (code_records (at + 1) inside own) (code_records (at + 1 + line_count inside + 3) landing own) (line_count inside) (line_count landing)
      outer own outer own own (code_count inside (at + 1) own) (code_count landing (at + 1 + line_count inside + 3) own)
  step_count (lend block words inside) at outer =
      lent_count (code_records (at + 1) inside (only_lent ∷ outer)) (line_count inside) outer (only_lent ∷ outer) (code_count inside (at + 1) (only_lent ∷ outer))
  step_count s at outer = refl

  pub code_count : (c : MidCode) (at : ℕ) (outer : List StaticRecord) → length (code_records at c outer) ≡ line_count c
  code_count no_step at outer = refl
  code_count (step_and s c) at outer =
      omega (
        arith,
        step_count s at outer,
        code_count c (at + step_line_count s) outer,
        length-append (step_records at s outer) (code_records (at + step_line_count s) c outer),
      )

  pub codes_count : (codes : MidCodes) (at : ℕ) (outer : List StaticRecord) → length (codes_records at codes outer) ≡ codes_line_count codes
  codes_count no_code at outer = refl
  codes_count (code_and c codes) at outer =
      omega (
        arith,
        code_count c at outer,
        codes_count codes (at + line_count c + 1) outer,
        length-append (code_records at c outer) (outer ∷ codes_records (at + line_count c + 1) codes outer),
      )
