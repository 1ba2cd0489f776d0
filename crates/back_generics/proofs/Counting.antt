-- **The conses of a list are counted**: the loop falls out with their number, and with what is behind the last one; or with 0 where they go in a circle.
use Rattle.std.proofs.Common.{◌≡◌, ◌⊎◌, inl, inr, ℕ, zero, suc, ◌+◌, ◌*◌, ◌%◌, ◌^◌, ◌<◌, ◌≤◌, List, [], ◌∷◌, ◌++◌, length, Option, Some, refl, sym, ap, ◌∙◌, subst, arith}
use Rattle.std.specs.Prelude.{slice_get}
use Rattle.std.proofs.lemmas.Bool.{cases_eq, eq-eqb, ne_eqb}
use Rattle.std.proofs.lemmas.Nat.{and_mask}
use Rattle.base.specs.Arithmetic.{sum32, difference32}
use Rattle.mid_code.specs.declared.operation.Arithmetic.TheVariants as which
use Rattle.mid_code.specs.declared.operation.Comparison.TheVariants.{Equal}
use Rattle.mid_code.specs.declared.operation.Counted.TheVariants.{Turn}
use Rattle.mid_code.specs.declared.program.MidProcedure.{MidProcedure}
use Rattle.mid_code.specs.Arena.{Arena}
use Rattle.mid_code.specs.Meaning.{Context, Task, exec_step}
use Rattle.mid_code.specs.MidCode.{MidStep, repeat, code_of}
use Rattle.mid_code.specs.State.{Registers, falls, ends, MidState, MidOutcome}
use Rattle.mid_code.specs.State.{charged as mid_charged}
use Rattle.mid_arena.specs.Tags.{cons_tag}
use Rattle.mid_arena.proofs.Running.{RunsTo, StepsTo, turning, and_then, none_left, costing, constant_falls, compute_known, move_falls, load_falls, choose_first_falls, choose_second_falls, repeat_falls, repeat_turn, address_above}
use Rattle.mid_arena.proofs.WordFacts.{sum_fits}
use Rattle.back_lowering.specs.RoutineCodes.{add_to}
use Rattle.back_lowering.specs.Steps.{Steps, move, constant, compute, load, test_of, if_equal}
use Rattle.back_generics.proofs.Circles.{IsNext, Goes, some_bound, few_steps, goes_on, goes_further}
use Rattle.back_generics.proofs.Numbers.{IsNew, AreDifferent}
use Rattle.back_generics.proofs.ListWords.{first_of, ConsWords, ConsesAt}

abbrev pub tag_steps : Steps
tag_steps = constant 7 3 ∷ compute 7 which.And 3 7 ∷ constant 8 cons_tag ∷ []

abbrev doubling_steps : Steps
doubling_steps = move 4 3 ∷ compute 5 which.Add 5 5 ∷ move 6 5 ∷ []

abbrev other_steps : Steps
other_steps = constant 7 1 ∷ compute 6 which.Subtract 6 7 ∷ constant 7 0 ∷ if_equal 6 7 doubling_steps [] ∷ []

abbrev pub count_steps : Steps
count_steps = add_to 2 7 1 ++ (load 3 3 3 ∷ if_equal 3 4 (constant 3 0 ∷ []) other_steps ∷ [])

abbrev pub count_loop : MidStep
count_loop = repeat Turn (code_of tag_steps) (test_of Equal 7 8) (code_of count_steps)

abbrev pub counting : (f list count now began steps left : ℕ) → (r7 r8 r9 r10 r11 : Option ℕ) → Registers
counting f list count now began steps left r7 r8 r9 r10 r11 =
    Some f ∷ Some list ∷ Some count ∷ Some now ∷ Some began ∷ Some steps ∷ Some left ∷ r7 ∷ r8 ∷ r9 ∷ r10 ∷ r11 ∷ []

subtracted : (n : ℕ) → n < 2 ^ 30 → difference32 (suc n) 1 ≡ n
subtracted n h = omega (arith, h)

-- what so many conses cost at most, and the end of the loop
abbrev pub turn_cost : ℕ
turn_cost = 132

abbrev pub ending_cost : ℕ
ending_cost = 34

module _ (procedures : List MidProcedure) (below : Task → MidState → MidOutcome) (f list : ℕ) (r9 r10 r11 : Option ℕ) where
  abbrev at_turns : ℕ → Context
  at_turns t = turning procedures below t

  abbrev file : (count now began steps left : ℕ) → (r7 r8 : Option ℕ) → Registers
  file count now began steps left r7 r8 = counting f list count now began steps left r7 r8 r9 r10 r11

  abbrev Ends : ℕ → Registers → MidState → Registers → ℕ → Type 0
  Ends t g y g' total = StepsTo (at_turns t) count_loop g y (ends falls g' (record y { cost = total }))

  -- the tag of what is there
  tag_runs : (c : Context) (count now began steps left : ℕ) (r7 r8 : Option ℕ) (y : MidState)
      → RunsTo c (code_of tag_steps) (file count now began steps left r7 r8) y (ends falls (file count now began steps left (Some (now % 4)) (Some cons_tag)) (record y { cost = y.cost + 22 }))
  tag_runs c count now began steps left r7 r8 y =
      costing {n = y.cost + 22} (and_then constant_falls (and_then (compute_known refl refl (and_mask now 2)) (and_then constant_falls none_left))) (omega arith)

  -- it is no cons
  pub no_cons : (t count now began steps left : ℕ) (r7 r8 : Option ℕ) (y : MidState) → (now % 4 ≡ cons_tag → ⊥)
      → Ends t (file count now began steps left r7 r8) y (file count now began steps left (Some (now % 4)) (Some cons_tag)) (y.cost + ending_cost)
  no_cons t count now began steps left r7 r8 y other =
      record {
        same =
            (repeat_falls (tag_runs (at_turns t) count now began steps left r7 r8 y) refl refl (ne_eqb (now % 4) cons_tag other)).same
            ∙ ap (λ n. ends falls (file count now began steps left (Some (now % 4)) (Some cons_tag)) (record y { cost = n })) (omega arith);
      }

  -- one turn: the body, and what the loop comes to with a turn less
  module _ (t count now began steps left car next total : ℕ) (r7 r8 : Option ℕ) (y : MidState) (g : Registers) (at : ConsWords y.arena now car next) (low : y.arena.heap_to ≤ 2 ^ 26) where
    abbrev begun : Registers
    begun = file count now began steps left (Some (now % 4)) (Some cons_tag)

    turned : (more : ℕ) (g' : Registers) → RunsTo (at_turns (suc t)) (code_of count_steps) begun (mid_charged 12 (record y { cost = y.cost + 22 })) (ends falls g' (record y { cost = y.cost + 34 + more }))
        → Ends t g' (record y { cost = y.cost + 36 + more }) g total → Ends (suc t) (file count now began steps left r7 r8) y g total
    turned more g' run behind =
        repeat_turn procedures below t {r = ends falls g (record y { cost = total })} (tag_runs (at_turns (suc t)) count now began steps left r7 r8 y) refl refl (eq-eqb (now % 4) cons_tag tag) run
        (record { same = ap (λ n. exec_step (at_turns t) count_loop g' (record y { cost = n })) (omega arith) ∙ behind.same })
      where
        tag : now % 4 ≡ cons_tag
        tag = let here = at.here in let aligned = at.aligned in omega (arith, here, aligned)

    cdr_at : now + 3 ≡ at.at + 4
    cdr_at = let here = at.here in omega (arith, here)

    cdr_low : at.at + 4 < 2 ^ 32
    cdr_low = let inside = at.low in omega (arith, inside, low)

    -- the circle is found
    pub turn_found : (began ≡ next) → Ends t (file (sum32 count 1) 0 began steps left (Some 1) (Some cons_tag)) (record y { cost = y.cost + 80 }) g total → Ends (suc t) (file count now began steps left r7 r8) y g total
    turn_found same behind =
        turned 44 (file (sum32 count 1) 0 began steps left (Some 1) (Some cons_tag))
        (costing {n = y.cost + 34 + 44}
        (and_then constant_falls
        (and_then (compute_known refl refl refl)
        (and_then (load_falls refl (address_above now 3 (at.at + 4) cdr_at cdr_low) at.second)
        (and_then (choose_first_falls refl refl (eq-eqb next began (sym same)) (and_then constant_falls none_left)) none_left))))
        (omega arith))
        (record { same = ap (λ n. exec_step (at_turns t) count_loop (file (sum32 count 1) 0 began steps left (Some 1) (Some cons_tag)) (record y { cost = n })) (omega arith) ∙ behind.same })

    -- steps are left
    pub turn_on :
        (fewer : ℕ) → left ≡ suc (suc fewer) → left < 2 ^ 30 → (next ≡ began → ⊥)
        → Ends t (file (sum32 count 1) next began steps (suc fewer) (Some 0) (Some cons_tag)) (record y { cost = y.cost + 110 }) g total → Ends (suc t) (file count now began steps left r7 r8) y g total
    turn_on fewer is few differ behind =
        turned 74 (file (sum32 count 1) next began steps (suc fewer) (Some 0) (Some cons_tag))
        (costing {n = y.cost + 34 + 74}
        (and_then constant_falls
        (and_then (compute_known refl refl refl)
        (and_then (load_falls refl (address_above now 3 (at.at + 4) cdr_at cdr_low) at.second)
        (and_then
        (choose_second_falls refl refl (ne_eqb next began differ)
        (and_then constant_falls
        (and_then (compute_known refl refl (ap (λ n. difference32 n 1) is ∙ subtracted (suc fewer) (omega (arith, is, few))))
        (and_then constant_falls
        (and_then (choose_second_falls refl refl (ne_eqb (suc fewer) 0 (λ e. omega (arith, e))) none_left) none_left)))))
        none_left))))
        (omega arith))
        (record { same = ap (λ n. exec_step (at_turns t) count_loop (file (sum32 count 1) next began steps (suc fewer) (Some 0) (Some cons_tag)) (record y { cost = n })) (omega arith) ∙ behind.same })

    -- or twice as many begin
    pub turn_further :
        left ≡ 1 → steps < 2 ^ 30 → (next ≡ began → ⊥)
        → Ends t (file (sum32 count 1) next next (steps + steps) (steps + steps) (Some 0) (Some cons_tag)) (record y { cost = y.cost + 132 }) g total → Ends (suc t) (file count now began steps left r7 r8) y g total
    turn_further is few differ behind =
        turned 96 (file (sum32 count 1) next next (steps + steps) (steps + steps) (Some 0) (Some cons_tag))
        (costing {n = y.cost + 34 + 96}
        (and_then constant_falls
        (and_then (compute_known refl refl refl)
        (and_then (load_falls refl (address_above now 3 (at.at + 4) cdr_at cdr_low) at.second)
        (and_then
        (choose_second_falls refl refl (ne_eqb next began differ)
        (and_then constant_falls
        (and_then (compute_known refl refl (ap (λ n. difference32 n 1) is))
        (and_then constant_falls
        (and_then
        (choose_first_falls refl refl refl
        (and_then (move_falls refl) (and_then (compute_known refl refl (sum_fits steps steps (omega (arith, few)))) (and_then (move_falls refl) none_left)))) none_left)))))
        none_left))))
        (omega arith))
        (record { same = ap (λ n. exec_step (at_turns t) count_loop (file (sum32 count 1) next next (steps + steps) (steps + steps) (Some 0) (Some cons_tag)) (record y { cost = n })) (omega arith) ∙ behind.same })

  -- what the loop comes to
  pub record Counted (t : ℕ) (g : Registers) (y : MidState) (count now most : ℕ) : Type 0 where
    pub began : ℕ
    pub steps : ℕ
    pub left : ℕ
    pub r7 : Option ℕ
    pub r8 : Option ℕ
    pub total : ℕ
    pub runs : Ends t g y (file count now began steps left r7 r8) total
    pub least : y.cost ≤ total
    pub within : total ≤ y.cost + most

  -- ---- a list that ends

  -- the cons where the last steps began is not among those behind
  abbrev pub Behind : (began : ℕ) → List ℕ → Type 0
  Behind began [] = Unit {0}
  Behind began (x ∷ xs) = (began % 4 ≡ cons_tag) × IsNew began xs

  module _ (u : ℕ) (u_other : u % 4 ≡ cons_tag → ⊥) where
    next_differs : (began : ℕ) (xs : List ℕ) → began % 4 ≡ cons_tag → IsNew began xs → first_of xs u ≡ began → ⊥
    next_differs began [] tag new same = u_other (ap (λ n. n % 4) same ∙ tag)
    next_differs began (x ∷ xs) tag new same = new.0 (sym same)

    behind_next : (a : Arena) (began : ℕ) (x c : ℕ) (xs cs : List ℕ) → ConsesAt a xs cs u → Behind began (x ∷ xs) → Behind began xs
    behind_next a began x c [] cs at h = tt
    behind_next a began x c (x' ∷ xs) cs at h = (h.0, h.1.1)

    behind_new : (a : Arena) (xs cs : List ℕ) → ConsesAt a xs cs u → AreDifferent xs → Behind (first_of xs u) xs
    behind_new a [] cs at different = tt
    behind_new a (x ∷ xs) [] at different = absurd at
    behind_new a (x ∷ xs) (c ∷ cs) at different = (let here = at.0.here in let aligned = at.0.aligned in omega (arith, here, aligned), different.0)

    pub ending :
        (xs cs : List ℕ) (t count now began steps left : ℕ) (r7 r8 : Option ℕ) (y : MidState) → ConsesAt y.arena xs cs u → y.arena.heap_to ≤ 2 ^ 26 → now ≡ first_of xs u → AreDifferent xs → Behind began xs
        → length xs ≤ t → count + length xs ≤ 2 ^ 26 → count + 1 + left ≡ steps + steps → left ≤ steps → 1 ≤ left
        → Counted t (file count now began steps left r7 r8) y (count + length xs) u (turn_cost * length xs + ending_cost)
    ending [] cs t count now began steps left r7 r8 y at low is different behind enough few sum fewer some =
        record {
          began = began;
          steps = steps;
          left = left;
          r7 = Some (now % 4);
          r8 = Some cons_tag;
          total = y.cost + ending_cost;
          runs =
              subst (λ n. Ends t (file count now began steps left r7 r8) y (file n u began steps left (Some (now % 4)) (Some cons_tag)) (y.cost + ending_cost)) (whole count)
              (subst (λ n. Ends t (file count now began steps left r7 r8) y (file count n began steps left (Some (now % 4)) (Some cons_tag)) (y.cost + ending_cost)) is
              (no_cons t count now began steps left r7 r8 y (λ tag. u_other (ap (λ n. n % 4) (sym is) ∙ tag))));
          least = omega arith;
          within = omega arith;
        }
      where
        whole : (n : ℕ) → n ≡ n + 0
        whole n = omega arith
    ending (x ∷ xs) [] t count now began steps left r7 r8 y at low is different behind enough few sum fewer some = absurd at
    ending (x ∷ xs) (c ∷ cs) zero count now began steps left r7 r8 y at low is different behind enough few sum fewer some = absurd (omega (arith, enough))
    ending (x ∷ xs) (c ∷ cs) (suc t) count now began steps zero r7 r8 y at low is different behind enough few sum fewer some = absurd (omega (arith, some))
    ending (x ∷ xs) (c ∷ cs) (suc t) count now began steps (suc zero) r7 r8 y at low is different behind enough few sum fewer some =
        let next : ℕ = first_of xs u in
        let here : ConsWords y.arena now c next = subst (λ n. ConsWords y.arena n c next) (sym is) at.0 in
        let one : sum32 count 1 ≡ count + 1 = sum_fits count 1 (omega (arith, few)) in
        let rest =
        ending xs cs t (count + 1) next next (steps + steps) (steps + steps) (Some 0) (Some cons_tag) (record y { cost = y.cost + 132 }) at.1 low refl different.1 (behind_new y.arena xs cs at.1 different.1) (omega (arith, enough))
        (omega (arith, few)) (omega (arith, sum)) (omega arith) (omega (arith, fewer)) in
        let many : count + 1 + length xs ≡ count + suc (length xs) = omega arith in
        record {
          began = rest.began;
          steps = rest.steps;
          left = rest.left;
          r7 = rest.r7;
          r8 = rest.r8;
          total = rest.total;
          runs =
              turn_further t count now began steps (suc zero) c next rest.total r7 r8 y (file (count + suc (length xs)) u rest.began rest.steps rest.left rest.r7 rest.r8) here low refl (omega (arith, sum, few))
              (next_differs began xs behind.0 behind.1)
              (subst (λ n. Ends t (file n next next (steps + steps) (steps + steps) (Some 0) (Some cons_tag)) (record y { cost = y.cost + 132 }) (file (count + suc (length xs)) u rest.began rest.steps rest.left rest.r7 rest.r8) rest.total) (sym one)
              (subst (λ n. Ends t (file (count + 1) next next (steps + steps) (steps + steps) (Some 0) (Some cons_tag)) (record y { cost = y.cost + 132 }) (file n u rest.began rest.steps rest.left rest.r7 rest.r8) rest.total) many rest.runs));
          least = let l = rest.least in omega (arith, l);
          within = let l = rest.within in omega (arith, l);
        }
    ending (x ∷ xs) (c ∷ cs) (suc t) count now began steps (suc (suc left)) r7 r8 y at low is different behind enough few sum fewer some =
        let next : ℕ = first_of xs u in
        let here : ConsWords y.arena now c next = subst (λ n. ConsWords y.arena n c next) (sym is) at.0 in
        let one : sum32 count 1 ≡ count + 1 = sum_fits count 1 (omega (arith, few)) in
        let rest =
        ending xs cs t (count + 1) next began steps (suc left) (Some 0) (Some cons_tag) (record y { cost = y.cost + 110 }) at.1 low refl different.1 (behind_next y.arena began x c xs cs at.1 behind) (omega (arith, enough))
        (omega (arith, few)) (omega (arith, sum)) (omega (arith, fewer)) (omega arith) in
        let many : count + 1 + length xs ≡ count + suc (length xs) = omega arith in
        record {
          began = rest.began;
          steps = rest.steps;
          left = rest.left;
          r7 = rest.r7;
          r8 = rest.r8;
          total = rest.total;
          runs =
              turn_on t count now began steps (suc (suc left)) c next rest.total r7 r8 y (file (count + suc (length xs)) u rest.began rest.steps rest.left rest.r7 rest.r8) here low left refl (omega (arith, sum, few, fewer))
              (next_differs began xs behind.0 behind.1)
              (subst (λ n. Ends t (file n next began steps (suc left) (Some 0) (Some cons_tag)) (record y { cost = y.cost + 110 }) (file (count + suc (length xs)) u rest.began rest.steps rest.left rest.r7 rest.r8) rest.total) (sym one)
              (subst (λ n. Ends t (file (count + 1) next began steps (suc left) (Some 0) (Some cons_tag)) (record y { cost = y.cost + 110 }) (file n u rest.began rest.steps rest.left rest.r7 rest.r8) rest.total) many rest.runs));
          least = let l = rest.least in omega (arith, l);
          within = let l = rest.within in omega (arith, l);
        }

  -- ---- a circle

  -- the cons at an index, and where the next one is
  pub record IndexAt (a : Arena) (xs : List ℕ) (front circle i x : ℕ) : Type 0 where
    pub car : ℕ
    pub next : ℕ
    pub index : ℕ
    pub cons : ConsWords a x car next
    pub is_next : IsNext front circle i index
    pub there : slice_get xs index ≡ Some next

  cons_at : (a : Arena) (xs cs : List ℕ) (u i x : ℕ) → ConsesAt a xs cs u → slice_get xs i ≡ Some x
      → (car : ℕ) × (next : ℕ) × ConsWords a x car next × (((suc i < length xs) × (slice_get xs (suc i) ≡ Some next)) ⊎ ((suc i ≡ length xs) × (next ≡ u)))
  cons_at a [] cs u i x at e = absurd (cc e)
  cons_at a (y ∷ ys) [] u i x at e = absurd at
  cons_at a (y ∷ []) (c ∷ cs) u zero x at e = let same : y ≡ x = cc e in (c, u, subst (λ n. ConsWords a n c u) same at.0, inr (refl, refl))
  cons_at a (y ∷ y' ∷ ys) (c ∷ cs) u zero x at e = let same : y ≡ x = cc e in (c, y', subst (λ n. ConsWords a n c y') same at.0, inl (omega arith, refl))
  cons_at a (y ∷ ys) (c ∷ cs) u (suc i) x at e =
      let r = cons_at a ys cs u i x at.1 e in
      (r.0, r.1, r.2, by r.3)
    where
      by : {n : ℕ} → (((suc i < length ys) × (slice_get ys (suc i) ≡ Some n)) ⊎ ((suc i ≡ length ys) × (n ≡ u))) → (((suc (suc i) < suc (length ys)) × (slice_get ys (suc i) ≡ Some n)) ⊎ ((suc (suc i) ≡ suc (length ys)) × (n ≡ u)))
      by (inl h) = inl (let l = h.0 in omega (arith, l), h.1)
      by (inr h) = inr (ap (λ n. suc n) h.0, h.1)

  -- a word is at one index
  not_new : (x : ℕ) (xs : List ℕ) (i : ℕ) → IsNew x xs → slice_get xs i ≡ Some x → ⊥
  not_new x [] i new e = absurd (cc e)
  not_new x (y ∷ ys) zero new e = let same : y ≡ x = cc e in new.0 (sym same)
  not_new x (y ∷ ys) (suc i) new e = not_new x ys i new.1 e

  one_index : (xs : List ℕ) (i j x : ℕ) → AreDifferent xs → slice_get xs i ≡ Some x → slice_get xs j ≡ Some x → i ≡ j
  one_index [] i j x different e h = absurd (cc e)
  one_index (y ∷ ys) zero zero x different e h = refl
  one_index (y ∷ ys) zero (suc j) x different e h = let same : y ≡ x = cc e in absurd (not_new y ys j different.0 (h ∙ ap (λ n. Some n) (sym same)))
  one_index (y ∷ ys) (suc i) zero x different e h = let same : y ≡ x = cc h in absurd (not_new y ys i different.0 (e ∙ ap (λ n. Some n) (sym same)))
  one_index (y ∷ ys) (suc i) (suc j) x different e h = ap (λ n. suc n) (one_index ys i j x different.1 e h)

  module _ (xs cs : List ℕ) (u front circle : ℕ) (some : 1 ≤ circle) (whole : length xs ≡ front + circle) (different : AreDifferent xs) (last_there : slice_get xs front ≡ Some u) (few : length xs ≤ 2 ^ 26) where
    index_at : (a : Arena) (i x : ℕ) → ConsesAt a xs cs u → slice_get xs i ≡ Some x → IndexAt a xs front circle i x
    index_at a i x at e = let r = cons_at a xs cs u i x at e in by r.0 r.1 r.2 r.3
      where
        by : (car next : ℕ) → ConsWords a x car next → (((suc i < length xs) × (slice_get xs (suc i) ≡ Some next)) ⊎ ((suc i ≡ length xs) × (next ≡ u))) → IndexAt a xs front circle i x
        by car next here (inl h) = record { car = car; next = next; index = suc i; cons = here; is_next = inl (refl, (let l = h.0 in omega (arith, l, whole))); there = h.1 }
        by car next here (inr h) = record { car = car; next = next; index = front; cons = here; is_next = inr (refl, (let l = h.0 in omega (arith, l, whole))); there = last_there ∙ ap (λ n. Some n) (sym h.1) }

    -- it comes to 0
    pub record Found (t : ℕ) (g : Registers) (y : MidState) (most : ℕ) : Type 0 where
      pub count : ℕ
      pub counted : Counted t g y count 0 most

    index_below : (ys : List ℕ) (i x : ℕ) → slice_get ys i ≡ Some x → i < length ys
    index_below [] i x e = absurd (cc e)
    index_below (y ∷ ys) zero x e = omega arith
    index_below (y ∷ ys) (suc i) x e = let h = index_below ys i x e in omega (arith, h)

    found_here :
        (t count now began steps left bound car : ℕ) (r7 r8 : Option ℕ) (y : MidState) → ConsWords y.arena now car began → y.arena.heap_to ≤ 2 ^ 26 → Found (suc t) (file count now began steps left r7 r8) y (turn_cost * suc bound + ending_cost)
    found_here t count now began steps left bound car r7 r8 y at low = record {
      count = sum32 count 1;
      counted = record {
        began = began;
        steps = steps;
        left = left;
        r7 = Some (0 % 4);
        r8 = Some cons_tag;
        total = y.cost + 80 + ending_cost;
        runs =
            turn_found t count now began steps left car began (y.cost + 80 + ending_cost) r7 r8 y (file (sum32 count 1) 0 began steps left (Some (0 % 4)) (Some cons_tag)) at low refl
            (no_cons t (sum32 count 1) 0 began steps left (Some 1) (Some cons_tag) (record y { cost = y.cost + 80 }) (λ e. absurd (cc e)));
        least = omega arith;
        within = omega arith;
      };
    }

    pub circling :
        (bound t count i j now began steps left : ℕ) (r7 r8 : Option ℕ) (y : MidState) → ConsesAt y.arena xs cs u → y.arena.heap_to ≤ 2 ^ 26 → slice_get xs i ≡ Some now → slice_get xs j ≡ Some began → bound ≤ t
        → left ≤ steps → 1 ≤ left → Goes front circle i j steps left bound → Found t (file count now began steps left r7 r8) y (turn_cost * bound + ending_cost)
    circling zero t count i j now began steps left r7 r8 y at low e h enough fewer one goes = absurd (some_bound some one fewer goes)
    circling (suc bound) zero count i j now began steps left r7 r8 y at low e h enough fewer one goes = absurd (omega (arith, enough))
    circling (suc bound) (suc t) count i j now began steps zero r7 r8 y at low e h enough fewer one goes = absurd (omega (arith, one))
    circling (suc bound) (suc t) count i j now began steps (suc zero) r7 r8 y at low e h enough fewer one goes =
        let n = index_at y.arena i now at e in
        by n (cases_eq n.next began)
        (λ g. circling bound t (sum32 count 1) n.index n.index n.next n.next (steps + steps) (steps + steps) (Some 0) (Some cons_tag) (record y { cost = y.cost + 132 }) at low n.there n.there (omega (arith, enough)) (omega arith) (omega (arith, fewer)) g)
      where
        by :
            (n : IndexAt y.arena xs front circle i now) → (n.next ≡ began) ⊎ (n.next ≡ began → ⊥)
            → (Goes front circle n.index n.index (steps + steps) (steps + steps) bound
            → Found t (file (sum32 count 1) n.next n.next (steps + steps) (steps + steps) (Some 0) (Some cons_tag)) (record y { cost = y.cost + 132 }) (turn_cost * bound + ending_cost))
            → Found (suc t) (file count now began steps (suc zero) r7 r8) y (turn_cost * suc bound + ending_cost)
        by n (inl same) rest = found_here t count now began steps (suc zero) bound n.car r7 r8 y (subst (λ v. ConsWords y.arena now n.car v) same n.cons) low
        by n (inr differ) rest =
            let below = index_below xs i now e in
            let above = index_below xs j began h in
            let most = few_steps goes in
            let f =
            rest (goes_further front circle some i j n.index steps (omega (arith, below, whole)) (omega (arith, above, whole)) n.is_next
            (λ same. differ (cc (n.there, h, ap (λ v. slice_get xs v) same))) fewer goes) in
            record {
              count = f.count;
              counted = record {
                began = f.counted.began;
                steps = f.counted.steps;
                left = f.counted.left;
                r7 = f.counted.r7;
                r8 = f.counted.r8;
                total = f.counted.total;
                runs =
                    turn_further t count now began steps (suc zero) n.car n.next f.counted.total r7 r8 y (file f.count 0 f.counted.began f.counted.steps f.counted.left f.counted.r7 f.counted.r8) n.cons low refl
                    (omega (arith, most, whole, few)) differ f.counted.runs;
                least = let l = f.counted.least in omega (arith, l);
                within = let l = f.counted.within in omega (arith, l);
              };
            }
    circling (suc bound) (suc t) count i j now began steps (suc (suc left)) r7 r8 y at low e h enough fewer one goes =
        let n = index_at y.arena i now at e in
        by n (cases_eq n.next began)
        (λ g. circling bound t (sum32 count 1) n.index j n.next began steps (suc left) (Some 0) (Some cons_tag) (record y { cost = y.cost + 110 }) at low n.there h (omega (arith, enough)) (omega (arith, fewer)) (omega arith) g)
      where
        by :
            (n : IndexAt y.arena xs front circle i now) → (n.next ≡ began) ⊎ (n.next ≡ began → ⊥)
            → (Goes front circle n.index j steps (suc left) bound
            → Found t (file (sum32 count 1) n.next began steps (suc left) (Some 0) (Some cons_tag)) (record y { cost = y.cost + 110 }) (turn_cost * bound + ending_cost))
            → Found (suc t) (file count now began steps (suc (suc left)) r7 r8) y (turn_cost * suc bound + ending_cost)
        by n (inl same) rest = found_here t count now began steps (suc (suc left)) bound n.car r7 r8 y (subst (λ v. ConsWords y.arena now n.car v) same n.cons) low
        by n (inr differ) rest =
            let below = index_below xs i now e in
            let above = index_below xs j began h in
            let most = few_steps goes in
            let f =
            rest (goes_on front circle some i j n.index steps (omega (arith, below, whole)) (omega (arith, above, whole)) n.is_next
            (λ same. differ (cc (n.there, h, ap (λ v. slice_get xs v) same))) fewer goes) in
            record {
              count = f.count;
              counted = record {
                began = f.counted.began;
                steps = f.counted.steps;
                left = f.counted.left;
                r7 = f.counted.r7;
                r8 = f.counted.r8;
                total = f.counted.total;
                runs =
                    turn_on t count now began steps (suc (suc left)) n.car n.next f.counted.total r7 r8 y (file f.count 0 f.counted.began f.counted.steps f.counted.left f.counted.r7 f.counted.r8) n.cons low left refl
                    (omega (arith, most, whole, few, fewer)) differ f.counted.runs;
                least = let l = f.counted.least in omega (arith, l);
                within = let l = f.counted.within in omega (arith, l);
              };
            }
