-- **The words of a list are copied** behind one another, a turn of the loop for each cons.
use Rattle.std.proofs.Common.{◌≡◌, ℕ, zero, suc, ◌+◌, ◌*◌, ◌%◌, ◌^◌, ◌<◌, ◌≤◌, List, [], ◌∷◌, ◌++◌, length, true, Option, Some, refl, ap, ◌∙◌, subst, arith}
use Rattle.std.specs.Prelude.{not}
use Rattle.std.proofs.lemmas.Bool.{ne_eqb}
use Rattle.mid_code.specs.declared.program.MidProcedure.{MidProcedure}
use Rattle.mid_code.specs.Arena.{Arena, is_lent, word_at, with_word}
use Rattle.mid_code.specs.Meaning.{Task}
use Rattle.mid_code.specs.MidCode.{MidStep}
use Rattle.mid_code.specs.State.{Registers, falls, ends, MidState, MidOutcome}
use Rattle.mid_code.specs.State.{charged as mid_charged}
use Rattle.mid_arena.specs.Tags.{nil_word}
use Rattle.mid_arena.proofs.Memory.{lent_with_word, word_elsewhere}
use Rattle.mid_arena.proofs.Running.{StepsTo, turning, and_then, none_left, costing, constant_falls, compute_known, load_falls, store_falls, repeat_falls, repeat_turn, address_above, address_below}
use Rattle.mid_arena.proofs.WordFacts.{sum_fits}
use Rattle.back_lowering.specs.Primitives.{car_into}
use Rattle.back_lowering.specs.RoutineCodes.{add_to, turns_while}
use Rattle.back_lowering.specs.Steps.{Steps, load, store}
use Rattle.back_relation.specs.Stores.{stores}
use Rattle.back_generics.proofs.ListWords.{first_of, ConsWords, ConsesAt, conses_stay}

-- words, each with the address where it is stored
abbrev pub placed_words : (from : ℕ) → List ℕ → List (ℕ × ℕ)
placed_words from [] = []
placed_words from (w ∷ ws) = (from, w) ∷ placed_words (from + 4) ws

abbrev pub copy_steps : Steps
copy_steps = car_into 6 3 ++ (store 6 4 0 ∷ load 3 3 3 ∷ add_to 4 6 4)

abbrev pub copy_loop : MidStep
copy_loop = turns_while [] 3 5 copy_steps

abbrev pub copying : (r0 r1 r2 : Option ℕ) (now to : ℕ) (r6 r7 r8 r9 r10 r11 : Option ℕ) → Registers
copying r0 r1 r2 now to r6 r7 r8 r9 r10 r11 = r0 ∷ r1 ∷ r2 ∷ Some now ∷ Some to ∷ Some nil_word ∷ r6 ∷ r7 ∷ r8 ∷ r9 ∷ r10 ∷ r11 ∷ []

module _ (procedures : List MidProcedure) (below : Task → MidState → MidOutcome) (r0 r1 r2 r7 r8 r9 r10 r11 : Option ℕ) where
  pub record Copied (t : ℕ) (xs cs : List ℕ) (to : ℕ) (r6 : Option ℕ) (y : MidState) : Type 0 where
    pub to_then : ℕ
    pub r6_then : Option ℕ
    pub total : ℕ
    pub runs :
        StepsTo (turning procedures below t) copy_loop (copying r0 r1 r2 (first_of xs nil_word) to r6 r7 r8 r9 r10 r11) y
        (ends falls (copying r0 r1 r2 nil_word to_then r6_then r7 r8 r9 r10 r11) (record y { arena = stores (placed_words to cs) y.arena; cost = total }))
    pub is : total ≡ y.cost + 54 * length cs + 12

  pub copies :
      (xs cs : List ℕ) (t to : ℕ) (r6 : Option ℕ) (y : MidState) → ConsesAt y.arena xs cs nil_word → y.arena.heap_to ≤ 2 ^ 26 → y.arena.heap_to ≤ to → to % 4 ≡ 0 → to + 4 * length cs < 2 ^ 32
      → ((k : ℕ) → k < 4 * length cs → k % 4 ≡ 0 → is_lent y.arena (to + k) ≡ true) → length xs ≤ t → Copied t xs cs to r6 y
  copies [] [] t to r6 y at low high even small lent enough = record {
    to_then = to;
    r6_then = r6;
    total = y.cost + 12;
    runs = repeat_falls none_left refl refl refl;
    is = omega arith;
  }
  copies [] (c ∷ cs) t to r6 y at low high even small lent enough = absurd at
  copies (x ∷ xs) [] t to r6 y at low high even small lent enough = absurd at
  copies (x ∷ xs) (c ∷ cs) zero to r6 y at low high even small lent enough = absurd (omega (arith, enough))
  copies (x ∷ xs) (c ∷ cs) (suc t) to r6 y at low high even small lent enough =
      let here = at.0.here in
      let aligned = at.0.aligned in
      let inside = at.0.low in
      let from : to + 0 ≡ to = omega arith in
      let rest =
      copies xs cs t (to + 4) (Some 4) (mid_charged 2 (record y { arena = with_word to c y.arena; cost = y.cost + 52 })) (conses_stay y.arena to c xs cs nil_word even high at.1) low (omega (arith, high)) (omega (arith, even))
      (omega (arith, small))
      (λ k few word.
      let same : to + (4 + k) ≡ to + 4 + k = omega arith in
      lent_with_word y.arena to c (to + 4 + k) ∙ subst (λ p. is_lent y.arena p ≡ true) same (lent (4 + k) (omega (arith, few)) (omega (arith, word)))) (omega (arith, enough)) in
      record {
        to_then = rest.to_then;
        r6_then = rest.r6_then;
        total = rest.total;
        runs =
            repeat_turn procedures below t {r = ends falls (copying r0 r1 r2 nil_word rest.to_then rest.r6_then r7 r8 r9 r10 r11) (record y { arena = stores (placed_words (to + 4) cs) (with_word to c y.arena); cost = rest.total })}
            none_left refl refl (ap not (ne_eqb x nil_word (λ e. omega (arith, e, here, aligned))))
            (costing {n = y.cost + 52}
            (and_then (load_falls refl (address_below x 0 at.0.at here (omega (arith, here, inside, low))) at.0.first)
            (and_then (store_falls refl refl (address_above to 0 to from (omega (arith, small))) (subst (λ p. is_lent y.arena p ≡ true) from (lent 0 (omega arith) refl)))
            (and_then
            (load_falls refl (address_above x 3 (at.0.at + 4) (omega (arith, here)) (omega (arith, inside, low)))
            (cdr_stays y.arena to c x c (first_of xs nil_word) even high at.0))
            (and_then constant_falls (and_then (compute_known refl refl (sum_fits to 4 (omega (arith, small)))) none_left)))))
            (omega arith))
            rest.runs;
        is = let sum = rest.is in omega (arith, sum);
      }
    where
      cdr_stays : (a : Arena) (p w x car cdr : ℕ) → p % 4 ≡ 0 → a.heap_to ≤ p → (h : ConsWords a x car cdr) → word_at (with_word p w a) (h.at + 4) ≡ Some cdr
      cdr_stays a p w x car cdr even high h = let low = h.low in word_elsewhere a p w (h.at + 4) even (ne_eqb p (h.at + 4) (λ e. omega (arith, e, low, high))) ∙ h.second
