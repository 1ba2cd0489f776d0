-- **The classes of the specialised arguments** of a call are added up, one turn of the loop for each, however the words of arguments are found.
use Rattle.std.proofs.Common.{◌≡◌, ℕ, zero, suc, ◌+◌, ◌*◌, ◌^◌, ◌<◌, ◌≤◌, List, [], ◌∷◌, ◌++◌, length, Option, Some, refl, sym, ap, ◌∙◌, subst, arith}
use Rattle.std.specs.Prelude.{◌-◌, slice_get, slice_index_or, map, take, not}
use Rattle.std.proofs.lemmas.Bool.{ne_eqb}
use Rattle.base.specs.AllOf.{AllOf}
use Rattle.base.specs.Arithmetic.{difference32}
use Rattle.lang_meaning.specs.Classes.{class_of}
use Rattle.lang_meaning.specs.State.{DynamicContext}
use Rattle.lang_meaning.specs.Values.{Value, nil}
use Rattle.lang_meaning.specs.Counts.{unit_cost}
use Rattle.flat_language.specs.FlatState.{FlatState, FlatEvaluated, gives}
use Rattle.mid_code.specs.declared.operation.Arithmetic.TheVariants as which
use Rattle.mid_code.specs.declared.operation.Comparison.TheVariants.{Different}
use Rattle.mid_code.specs.declared.operation.Counted.TheVariants.{Turn}
use Rattle.mid_code.specs.Law.{Grown}
use Rattle.mid_code.specs.Meaning.{exec_step}
use Rattle.mid_code.specs.MidCode.{MidStep, code_of}
use Rattle.mid_code.specs.State.{Registers, falls, ends, MidState, MidOutcome, Next}
use Rattle.mid_code.specs.State.{charged as mid_charged, go_on as mid_go_on}
use Rattle.mid_code.proofs.Growth.{go_on_grown}
use Rattle.mid_arena.proofs.Running.{RunsTo, loop_again, and_then, none_left, costing, constant_falls, compute_known, load_falls, repeat_falls, jumped_falls, address_above, go_on_twice}
use Rattle.mid_arena.proofs.WordFacts.{sum_fits}
use Rattle.back_lowering.specs.RoutineCodes.{add_to, turns_while}
use Rattle.back_lowering.specs.Routines.{class_routine}
use Rattle.back_lowering.specs.Steps.{Steps, constant, compute, load, call, test_of}
use Rattle.back_relation.specs.Setting.{Setting, ConstantAt, ConstantsAt}
use Rattle.back_relation.specs.Chains.{Specialised, specialised_words, InOrder, OffsetIs}
use Rattle.back_relation.specs.Placed.{IsPlaced}
use Rattle.back_relation.specs.Room.{entry_words}
use Rattle.back_relation.specs.Things.{Things}
use Rattle.back_relation.specs.Worlds.{World, Standing}
use Rattle.back_relation.specs.Around.{CallBegins, SiteStored}
use Rattle.back_relation.specs.Ends.{WorldKept, Around, CallEnds, Returned, LeftCall}
use Rattle.back_relation.specs.Forms.{code_at}
use Rattle.back_relation.specs.Procedures.{called}
use Rattle.back_relation.specs.RoutineClaims.{WordIs, class_cost}
use Rattle.back_relation.specs.Starts.{FlatGrown}
use Rattle.back_relation.proofs.Straight.{world_cost, around_cost}
use Rattle.back_calling.proofs.Inner.{going_on_law, looked, nothing_because}
use Rattle.back_conditions.proofs.ClassNumbers.{given, given_small, body_finds}
use Rattle.back_conditions.proofs.Finding.{routine_used}
use Rattle.back_conditions.proofs.Signalling.{word_within}
use Rattle.back_values.proofs.Constants.{constants_law}
use Rattle.back_generics.proofs.Loops.{behind_call, loop_calls, again_runs, behind_call_grows}
use Rattle.back_generics.proofs.Looking.{LookThere, looks_called}

-- the class of an argument
class_there :
    (f : Value → ℕ) (n : ℕ) (vs : List Value) (i c : ℕ) → slice_get (map f (take n vs)) i ≡ Some c → i < length vs → f (slice_index_or vs i nil) ≡ c
class_there f zero vs i c e few = absurd (cc e)
class_there f (suc n) [] i c e few = absurd (omega (arith, few))
class_there f (suc n) (v ∷ vs) zero c e few = cc e
class_there f (suc n) (v ∷ vs) (suc i) c e few = class_there f n vs i c e (omega (arith, few))

subtracted : (n : ℕ) → n < 2 ^ 30 → difference32 (suc n) 1 ≡ n
subtracted n h = omega (arith, h)

-- how many there are is bounded by the memory
pub many_words :
    (setting : Setting) (w : World) (z : FlatState) (y : MidState) (x : Specialised) (xs : List Specialised) (a : ℕ) → Things setting w z y → ConstantsAt setting a (specialised_words (x ∷ xs))
    → a + 8 * length (x ∷ xs) ≤ 4 * length y.arena.memory + 8
many_words setting w z y x [] a h at = let there = constants_law setting w z y h a (4 * x.argument) at.0 in let below = word_within y.arena a (4 * x.argument) there.0 in omega (arith, below)
many_words setting w z y x (x' ∷ xs) a h at =
    let same : a + 4 + 4 ≡ a + 8 = omega arith in
    let inner = many_words setting w z y x' xs (a + 8) h (subst (λ b. ConstantsAt setting b (specialised_words (x' ∷ xs))) same at.1.1) in
    omega (arith, inner)

-- arguments that are in order from one on are so from one in front of it
in_order_from : (m n : ℕ) (xs : List Specialised) → m ≤ n → InOrder n xs → InOrder m xs
in_order_from m n [] low h = tt
in_order_from m n (x ∷ xs) low h = (let first = h.0 in omega (arith, first, low), h.1)

-- The registers are r0 to r2, those of the loop, and others, which are what `argument` finds words from; what it has spent is counted up to a place.
module _ (setting : Setting) (placed : IsPlaced setting) (k m : ℕ) (rs valid : List Standing) (w : World) (around : DynamicContext) (z : FlatState) (vs : List Value)
    (r0 r1 r2 : Option ℕ) (argument : Steps) (spent : ℕ → ℕ) (most : ℕ) (Point : MidState → Type 0) (At : ℕ → Registers → Type 0) where
  abbrev pub file : (count a total : ℕ) (r7 r8 : Option ℕ) → Registers → Registers
  file count a total r7 r8 others = r0 ∷ r1 ∷ r2 ∷ Some count ∷ Some a ∷ Some total ∷ Some 0 ∷ r7 ∷ r8 ∷ others

  -- the word of an argument is found, on from a place
  pub record Found (t i from count a total : ℕ) (r8 : Option ℕ) (others : Registers) (y : MidState) : Type 0 where
    pub word : ℕ
    pub of_value : WordIs setting w word (slice_index_or vs i nil)
    pub r8_then : Option ℕ
    pub others_then : Registers
    pub at : At i others_then
    pub cost : ℕ
    pub within : cost + spent from ≤ 22 + spent i
    pub runs : RunsTo (code_at setting k t) (code_of argument) (file count a total (Some (4 * i)) r8 others) y (ends falls (file count a total (Some word) r8_then others_then) (record y { cost = y.cost + cost }))

  -- what is known at each point, and that all arguments are found
  pub record Finding : Type 0 where
    pub call : (y : MidState) → Point y → CallBegins setting rs valid entry_words w around z y
    pub site : (y : MidState) → Point y → SiteStored setting around y
    pub later : (credit : ℕ) (y y' : MidState) → WorldKept setting w w z z y y' → Around setting credit z z y y' → SiteStored setting around y' → Point y → Point y'
    pub spent_up : (i j : ℕ) → i ≤ j → spent i ≤ spent j
    pub finds :
        (t i from count a total : ℕ) (r8 : Option ℕ) (others : Registers) (y : MidState) → Point y → At from others → from ≤ i → i < length vs → most ≤ t
        → Found t i from count a total r8 others y

  module _ (it : Finding) (required : ℕ) (r : FlatEvaluated) (grows : FlatGrown z r.state) where
    point_cost : {y : MidState} (p : ℕ) → Point y → Point (mid_charged p y)
    point_cost {y} p h = it.later p y (mid_charged p y) (world_cost setting p (it.call y h).things) (around_cost setting z y p (omega arith)) (it.site y h) h

    abbrev classes : List ℕ
    classes = map (class_of z.state) (take required vs)

    abbrev pre : Steps
    pre = load 7 4 0 ∷ argument

    abbrev asks : MidStep
    asks = call 7 (class_routine setting.at) (7 ∷ [])

    abbrev post : Steps
    post = load 8 4 4 ∷ compute 7 which.Add 7 8 ∷ load 7 7 0 ∷ compute 5 which.Add 5 7 ∷ (add_to 4 7 8 ++ (constant 7 1 ∷ compute 3 which.Subtract 3 7 ∷ []))

    abbrev pub loop : MidStep
    loop = turns_while [] 3 6 (pre ++ asks ∷ post)

    abbrev Comes : ℕ → MidState → MidOutcome → Type 0
    Comes credit y q = CallEnds setting credit m rs valid w around z y r q

    -- ---- one argument

    module _ (t : ℕ) (x : Specialised) (xs : List Specialised) (a total one : ℕ) (v : Value) (others : Registers) (y : MidState) (h : Point y) where
      goes_on :
          (r8 : Option ℕ) → ConstantsAt setting a (specialised_words (x ∷ xs)) → ConstantAt setting (x.map_address + 4 * class_of z.state v) one → total + one < 2 ^ 32
          → behind_call (code_at setting k (suc t)) Turn [] pre asks post (test_of Different 3 6) (file (suc (length xs)) a total (Some (4 * class_of z.state v)) r8 others) y
          ≡ exec_step (code_at setting k t) loop (file (length xs) (a + 8) (total + one) (Some 1) (Some x.map_address) others) (mid_charged 70 y)
      unfolding mid_go_on
      goes_on r8 at map_is small =
          let things = (it.call y h).things in
          let map_there = constants_law setting w z y things (a + 4) x.map_address at.1.0 in
          let word_there = constants_law setting w z y things (x.map_address + 4 * class_of z.state v) one map_is in
          let map_low = map_there.1 in
          let word_low = word_there.1 in
          let many = many_words setting w z y x xs a things at in
          let size = things.represents.arena.size in
          let run : RunsTo (code_at setting k (suc t)) (code_of post) (file (suc (length xs)) a total (Some (4 * class_of z.state v)) r8 others) y
          (ends falls (file (length xs) (a + 8) (total + one) (Some 1) (Some x.map_address) others) (record y { cost = y.cost + 8 + 10 + 8 + 10 + 6 + 10 + 6 + 10 })) =
          and_then (load_falls refl (address_above a 4 (a + 4) (omega arith) (omega (arith, map_low))) map_there.0)
          (and_then (compute_known refl refl (sum_fits (4 * class_of z.state v) x.map_address (omega (arith, word_low))))
          (and_then (load_falls refl (address_above (4 * class_of z.state v + x.map_address) 0 (x.map_address + 4 * class_of z.state v) (omega arith) (omega (arith, word_low))) word_there.0)
          (and_then (compute_known refl refl (sum_fits total one small))
          (and_then constant_falls
          (and_then (compute_known refl refl (sum_fits a 8 (omega (arith, many, size))))
          (and_then constant_falls
          (and_then (compute_known refl refl (subtracted (length xs) (omega (arith, many, size)))) none_left))))))) in
          ap (λ q. mid_go_on q (loop_again (code_at setting k (suc t)) Turn (code_of []) (test_of Different 3 6) (code_of (pre ++ asks ∷ post)))) (jumped_falls run.same)
          ∙ again_runs setting k t (code_of []) (code_of (pre ++ asks ∷ post)) (test_of Different 3 6) (file (length xs) (a + 8) (total + one) (Some 1) (Some x.map_address) others)
          (mid_charged 2 (record y { cost = y.cost + 8 + 10 + 8 + 10 + 6 + 10 + 6 + 10 }))
          ∙ ap (λ c. exec_step (code_at setting k t) loop (file (length xs) (a + 8) (total + one) (Some 1) (Some x.map_address) others) (record y { cost = c })) (omega arith)

    -- ---- all of them

    abbrev pub Behind : (credit_behind a total : ℕ) → Next → Type 0
    Behind credit_behind a total next =
        (y : MidState) (r7 r8 : Option ℕ) (place : ℕ) (others : Registers) → At place others → Point y → Comes credit_behind y (next (file 0 a total r7 r8 others) y)

    abbrev pub Seeks : List Specialised → ℕ → Type 0
    Seeks xs t =
        (a total offset from credit_behind credit : ℕ) (r7 r8 : Option ℕ) (others : Registers) (y : MidState) (next : Next)
        → length xs + most ≤ t → ConstantsAt setting a (specialised_words xs) → AllOf (λ (x : Specialised). x.argument < length vs) xs → InOrder from xs → from ≤ length vs → At from others
        → OffsetIs setting xs classes offset → total + offset < 2 ^ 32
        → credit_behind + 460 * length xs + spent (length vs) + 12 ≤ credit + spent from → Point y → ((g : Registers) (x : MidState) → Grown x (next g x).state)
        → Behind credit_behind (a + 8 * length xs) (total + offset) next
        → Comes credit y (mid_go_on (exec_step (code_at setting k t) loop (file (length xs) a total r7 r8 others) y) next)

    pub seeks : (xs : List Specialised) (t : ℕ) → Seeks xs t
    unfolding mid_go_on
    seeks [] t a total offset from credit_behind credit r7 r8 others y next enough at few order low here is small paid h grown behind =
        let same_address : a + 8 * 0 ≡ a = omega arith in
        let same_total : total + offset ≡ total = omega (arith, is) in
        let up = it.spent_up from (length vs) low in
        subst (λ q. Comes credit y (mid_go_on q next)) (sym (repeat_falls none_left refl refl refl).same)
        (going_on_law setting 12 credit_behind credit m m rs valid w w around z z y (mid_charged 12 y) r (next (file 0 a total r7 r8 others) (mid_charged 12 y)) (world_cost setting 12 (it.call y h).things)
        (around_cost setting {credit = 12} z y 12 (omega arith)) (omega (arith, paid, up)) (omega arith) refl
        (subst (λ b. Comes credit_behind (mid_charged 12 y) (next (file 0 b total r7 r8 others) (mid_charged 12 y))) same_address
        (subst (λ b. Comes credit_behind (mid_charged 12 y) (next (file 0 (a + 8 * 0) b r7 r8 others) (mid_charged 12 y))) same_total (behind (mid_charged 12 y) r7 r8 from others here (point_cost 12 h)))))
    seeks (x ∷ xs) zero a total offset from credit_behind credit r7 r8 others y next enough at few order low here is small paid h grown behind = absurd (omega (arith, enough))
    seeks (x ∷ xs) (suc t) a total offset from credit_behind credit r7 r8 others y next enough at few order low here is small paid h grown behind =
        subst (λ q. Comes credit y q) (sym code_comes)
        (going_on_law setting before inner credit m m rs valid w w around z z y y1 r (mid_go_on (exec_step (code_at setting k (suc t)) asks regs1 y1) behind_it)
        (world_cost setting before (it.call y h).things) (around_cost setting {credit = before} z y before (omega arith)) (omega (arith, paid, within, up)) (omega arith) refl
        (looked setting class_cost (inner + unit_cost) (λ q. Returned setting inner w z y1 r q) (λ q. LeftCall setting inner rs valid w around z y1 r q)
        (LookThere setting k t m rs valid w around z (mid_charged 46 y1) class_cost answer class_end) (λ c. answer) (code_at setting k (suc t)) m m 7 (class_routine setting.at) (7 ∷ []) (found.word ∷ []) z y1 regs1
        (gives nil z) r behind_it (refl, tt) (omega arith) (omega arith) grows
        (λ g c.
        go_on_grown (behind_call (code_at setting k (suc t)) Turn [] pre asks post (test_of Different 3 6) g c) next c (behind_call_grows setting k (suc t) [] pre asks post (test_of Different 3 6) g c) grown)
        (nothing_because setting r (it.call y h).things grows) (λ asked left_then e. absurd (cc e)) (λ c. c.end)
        (looks_called setting k t m rs valid w around z (mid_charged 46 y1) entry_words class_cost (class_routine setting.at) answer (found.word ∷ []) (given setting) (routine_used setting 20 (given setting) placed refl) refl refl
        (given_small setting) (omega arith) (omega arith) (it.call (mid_charged 46 y1) (point_cost 46 h1))
        (λ frame some. body_finds setting k t frame w z (mid_charged 46 y1) v found.word (it.call (mid_charged 46 y1) (point_cost 46 h1)).things found.of_value some))
        (behind_class (seeks xs t))))
      where
        v : Value
        v = slice_index_or vs x.argument nil

        found : Found (suc t) x.argument from (suc (length xs)) a total r8 others (mid_charged 20 y)
        found = it.finds (suc t) x.argument from (suc (length xs)) a total r8 others (mid_charged 20 y) (point_cost 20 h) here order.0 few.0 (omega (arith, enough))

        within : found.cost + spent from ≤ 22 + spent x.argument
        within = found.within

        up : spent x.argument ≤ spent (length vs)
        up = let first = few.0 in it.spent_up x.argument (length vs) (omega (arith, first))

        answer : ℕ
        answer = 4 * class_of z.state v

        before : ℕ
        before = 20 + found.cost

        y1 : MidState
        y1 = mid_charged before y

        h1 : Point y1
        h1 = point_cost before h

        -- behind the class, and behind it the loop
        left_over : ℕ
        left_over = credit_behind + 460 * length xs + spent (length vs) + 12 - spent x.argument

        inner : ℕ
        inner = left_over + 418

        regs1 : Registers
        regs1 = file (suc (length xs)) a total (Some found.word) found.r8_then found.others_then

        class_end : MidOutcome
        class_end = called (code_at setting k (suc t)) (class_routine setting.at) (found.word ∷ []) (mid_charged 46 y1)

        behind_it : Next
        behind_it g c = mid_go_on (behind_call (code_at setting k (suc t)) Turn [] pre asks post (test_of Different 3 6) g c) next

        one : ℕ
        one = is.1

        others_add : ℕ
        others_add = is.2

        class_is : class_of z.state v ≡ is.0
        class_is = class_there (class_of z.state) required vs x.argument is.0 is.3 few.0

        map_is : ConstantAt setting (x.map_address + 4 * class_of z.state v) one
        map_is = subst (λ c. ConstantAt setting (x.map_address + 4 * c) one) (sym class_is) is.4

        sum_is : total + offset ≡ total + one + others_add
        sum_is = let whole = is.6 in omega (arith, whole)

        code_comes : mid_go_on (exec_step (code_at setting k (suc t)) loop (file (suc (length xs)) a total r7 r8 others) y) next ≡ mid_go_on (exec_step (code_at setting k (suc t)) asks regs1 y1) behind_it
        code_comes =
            let there = constants_law setting w z y (it.call y h).things a (4 * x.argument) at.0 in
            let word_low = there.1 in
            let pre_runs : RunsTo (code_at setting k (suc t)) (code_of pre) (file (suc (length xs)) a total r7 r8 others) (mid_charged 12 y) (ends falls regs1 (record y { cost = y.cost + before })) =
            costing {n = y.cost + before} (and_then (load_falls refl (address_above a 0 a (omega arith) (omega (arith, word_low))) there.0) (at_cost found.runs)) (omega arith) in
            ap (λ q. mid_go_on q next) (loop_calls (code_at setting k (suc t)) Turn [] pre asks post (test_of Different 3 6) none_left refl refl (ap not (ne_eqb (suc (length xs)) 0 (λ e. omega (arith, e)))) pre_runs)
            ∙ go_on_twice (exec_step (code_at setting k (suc t)) asks regs1 (record y { cost = y.cost + before })) (behind_call (code_at setting k (suc t)) Turn [] pre asks post (test_of Different 3 6)) next
          where
            at_cost :
                RunsTo (code_at setting k (suc t)) (code_of argument) (file (suc (length xs)) a total (Some (4 * x.argument)) r8 others) (mid_charged 20 y)
                (ends falls regs1 (record y { cost = (mid_charged 20 y).cost + found.cost }))
                → RunsTo (code_at setting k (suc t)) (code_of argument) (file (suc (length xs)) a total (Some (4 * x.argument)) r8 others) (record y { cost = y.cost + 12 + 8 })
                (ends falls regs1 (record y { cost = (mid_charged 20 y).cost + found.cost }))
            at_cost run =
                let same : (mid_charged 20 y).cost ≡ y.cost + 12 + 8 = omega arith in
                subst
                (λ n. RunsTo (code_at setting k (suc t)) (code_of argument) (file (suc (length xs)) a total (Some (4 * x.argument)) r8 others) (record y { cost = n })
                (ends falls regs1 (record y { cost = (mid_charged 20 y).cost + found.cost }))) same run

        behind_class : Seeks xs t → LookThere setting k t m rs valid w around z (mid_charged 46 y1) class_cost answer class_end
            → CallEnds setting inner m rs valid w around z y1 r (behind_it (file (suc (length xs)) a total (Some answer) found.r8_then found.others_then) class_end.state)
        behind_class more c =
            let y2 : MidState = class_end.state in
            let h2 : Point y2 = it.later class_cost (mid_charged 46 y1) y2 c.world c.back (c.site (it.site (mid_charged 46 y1) (point_cost 46 h1))) (point_cost 46 h1) in
            let same_address : a + 4 + 4 ≡ a + 8 = omega arith in
            let same_end : a + 8 + 8 * length xs ≡ a + 8 * suc (length xs) = omega arith in
            let low_sum : total + one < 2 ^ 32 = omega (arith, small, sum_is) in
            let next_low = few.0 in
            going_on_law setting 46 (inner - 46) inner m m rs valid w w around z z y1 (mid_charged 46 y1) r (behind_it (file (suc (length xs)) a total (Some answer) found.r8_then found.others_then) y2) (world_cost setting 46 (it.call y1 h1).things)
            (around_cost setting {credit = 46} z y1 46 (omega arith)) (omega arith) (omega arith) refl
            (going_on_law setting 302 (inner - 348) (inner - 46) m m rs valid w w around z z (mid_charged 46 y1) y2 r (behind_it (file (suc (length xs)) a total (Some answer) found.r8_then found.others_then) y2) c.world c.back
            (omega arith) (omega arith) refl
            (subst (λ q. Comes (inner - 348) y2 (mid_go_on q next)) (sym (goes_on t x xs a total one v found.others_then y2 h2 found.r8_then at map_is low_sum))
            (going_on_law setting 70 (inner - 418) (inner - 348) m m rs valid w w around z z y2 (mid_charged 70 y2) r
            (mid_go_on (exec_step (code_at setting k t) loop (file (length xs) (a + 8) (total + one) (Some 1) (Some x.map_address) found.others_then) (mid_charged 70 y2)) next) (world_cost setting 70 (it.call y2 h2).things)
            (around_cost setting {credit = 70} z y2 70 (omega arith)) (omega arith) (omega arith) refl
            (more (a + 8) (total + one) others_add x.argument credit_behind (inner - 418) (Some 1) (Some x.map_address) found.others_then (mid_charged 70 y2) next (omega (arith, enough))
            (subst (λ b. ConstantsAt setting b (specialised_words xs)) same_address at.1.1) few.1 (in_order_from x.argument (x.argument + 1) xs (omega arith) order.1) (omega (arith, next_low)) found.at is.5
            (omega (arith, small, sum_is)) (omega (arith, up)) (point_cost 70 h2) grown
            (λ y3 v7 v8 place v9 here3 h3.
            subst (λ b. Comes credit_behind y3 (next (file 0 b (total + one + others_add) v7 v8 v9) y3)) (sym same_end)
            (subst (λ b. Comes credit_behind y3 (next (file 0 (a + 8 * suc (length xs)) b v7 v8 v9) y3)) sum_is (behind y3 v7 v8 place v9 here3 h3)))))))
