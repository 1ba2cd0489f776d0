-- **The first primary method of a chain is found**: the first word says where it is, or is that of a primary method itself.
use Rattle.std.proofs.Common.{◌≡◌, ℕ, zero, suc, ◌+◌, ◌*◌, ◌%◌, ◌/◌, ◌^◌, ◌<◌, ◌≤◌, List, [], ◌∷◌, ◌++◌, length, Option, Some, refl, sym, ap, ◌∙◌, subst, arith}
use Rattle.std.proofs.lemmas.Bool.{eq-eqb, ne_eqb}
use Rattle.lang_meaning.specs.Objects.{Chain}
use Rattle.mid_code.specs.Meaning.{Context, exec}
use Rattle.mid_code.specs.MidCode.{code_of}
use Rattle.mid_code.specs.State.{Registers, MidState, falls, ends}
use Rattle.mid_arena.proofs.Running.{and_then, none_left, move_falls, constant_falls, compute_known, choose_first_falls, choose_second_falls}
use Rattle.mid_arena.proofs.WordFacts.{sum_fits}
use Rattle.back_lowering.specs.ControlWords.{before_method, after_method, primary_method, chain_end, primary_behind}
use Rattle.back_relation.specs.Setting.{Setting, ConstantsAt}
use Rattle.back_relation.specs.Chains.{ahead_words, method_words, ChainAt}
use Rattle.back_relation.specs.Forms.{code_at}
use Rattle.back_values.specs.Chains.{before_at, primary_at, finds_primary, HasConstants, Found, LawOfPrimaries}
use Rattle.back_values.proofs.Words.{procedure_of, words_from_before, primary_words, primary_first}

-- the word of a method, and that of the end, are none that says where the first primary method is
no_method_behind :
    (bs qs ps : List ℕ) (first : ℕ) (others : List ℕ)
    → method_words before_method bs ++ (method_words after_method qs ++ (method_words primary_method ps ++ chain_end ∷ [])) ≡ first ∷ others → first % 8 < primary_behind
no_method_behind (b ∷ bs) qs ps first others e = let same : 8 * b + before_method ≡ first = cc e in omega (arith, same)
no_method_behind [] (q ∷ qs) ps first others e = let same : 8 * q + after_method ≡ first = cc e in omega (arith, same)
no_method_behind [] [] (p ∷ ps) first others e = let same : 8 * p + primary_method ≡ first = cc e in omega (arith, same)
no_method_behind [] [] [] first others e = let same : chain_end ≡ first = cc e in omega (arith, same)

module _ (setting : Setting) (k turns : ℕ) (v : MidState) (c : Chain) (first address : ℕ) (r1 r2 r5 r6 r7 r8 : Option ℕ) (rest : Registers) (all : HasConstants setting v) (at : ChainAt setting address c)
    (none : c.around ≡ []) where
  abbrev context : Context
  context = code_at setting k turns

  abbrev begun : Registers
  begun = Some address ∷ r1 ∷ r2 ∷ Some first ∷ Some (first % 8) ∷ r5 ∷ r6 ∷ r7 ∷ r8 ∷ rest

  abbrev came : (third fifth : Option ℕ) (before primary : ℕ) → Registers
  came third fifth before primary = Some address ∷ r1 ∷ r2 ∷ third ∷ Some (first % 8) ∷ fifth ∷ r6 ∷ Some before ∷ Some primary ∷ rest

  found_so :
      (third fifth : Option ℕ) (before primary total : ℕ) → before ≡ before_at address c → primary ≡ primary_at address c → total ≤ 74
      → exec context (code_of (finds_primary setting.at)) begun v ≡ ends falls (came third fifth before primary) (record v { cost = v.cost + total })
      → Found setting k turns v r1 r2 r5 r6 r7 r8 rest first address c
  found_so third fifth before primary total e f within run = record {
    third = third;
    fifth = fifth;
    total = total;
    runs =
        run ∙ ap (λ x. ends falls (came third fifth x primary) (record v { cost = v.cost + total })) e
        ∙ ap (λ x. ends falls (came third fifth (before_at address c) x) (record v { cost = v.cost + total })) f;
    within = within;
  }

  found_by : (n : ℕ) → length c.before + length c.after ≡ n → (others : List ℕ) → ahead_words n ++ words_from_before c ≡ first ∷ others → Found setting k turns v r1 r2 r5 r6 r7 r8 rest first address c
  found_by zero same others words =
      let early = no_method_behind c.before c.after c.primary first others words in
      let one : length (ahead_words (length c.before + length c.after)) ≡ 0 = ap (λ m. length (ahead_words m)) same in
      found_so (Some first) (Some primary_behind) address address 32 (omega (arith, one)) (omega (arith, one, same)) (omega arith)
      ((and_then (move_falls refl) (and_then (move_falls refl) (and_then constant_falls
      (and_then (choose_second_falls refl refl (ne_eqb (first % 8) primary_behind (λ e. omega (arith, e, early))) none_left) none_left)))).same
      ∙ ap (λ n. ends falls (came (Some first) (Some primary_behind) address address) (record v { cost = n })) (omega arith))
  found_by (suc n) same others words =
      let is : 8 * (4 * (2 + n)) + primary_behind ≡ first = cc words in
      let one : length (ahead_words (length c.before + length c.after)) ≡ 1 = ap (λ m. length (ahead_words m)) same in
      let last = primary_first c in
      let low : primary_at address c + 8 ≤ 2 ^ 32 =
      (all (primary_at address c) last.first (subst (λ l. ConstantsAt setting (primary_at address c) l) last.is (primary_words setting address c at none)).0).1 in
      found_so (Some (4 * (2 + n))) (Some 4) (address + 4) (address + 4 * (2 + n)) 74 (omega (arith, one)) (omega (arith, one, same)) (omega arith)
      ((and_then (move_falls refl) (and_then (move_falls refl) (and_then constant_falls
      (and_then
      (choose_first_falls refl refl (eq-eqb (first % 8) primary_behind (omega (arith, is)))
      (and_then constant_falls
      (and_then (compute_known refl refl (ap (λ m. m / 2 ^ (3 % 32)) (sym is) ∙ procedure_of (4 * (2 + n)) primary_behind (omega arith)))
      (and_then (compute_known refl refl (sum_fits address (4 * (2 + n)) (omega (arith, low, one, same))))
      (and_then constant_falls (and_then (compute_known refl refl (sum_fits address 4 (omega (arith, low, one, same)))) none_left))))))
      none_left)))).same
      ∙ ap (λ m. ends falls (came (Some (4 * (2 + n))) (Some 4) (address + 4) (address + 4 * (2 + n))) (record v { cost = m })) (omega arith))

pub primaries_law : LawOfPrimaries
primaries_law setting k turns v c first others address r1 r2 r5 r6 r7 r8 rest all at none words =
    found_by setting k turns v c first address r1 r2 r5 r6 r7 r8 rest all at none (length c.before + length c.after) refl others
    (ap (λ ps. method_words 0 ps ++ (ahead_words (length c.before + length c.after) ++ words_from_before c)) (sym none) ∙ words)
