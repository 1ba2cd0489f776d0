-- **The methods of a kind are called**, one after another, at the site where the chain runs.
use Rattle.std.proofs.Common.{◌≡◌, ℕ, zero, suc, ◌+◌, ◌*◌, ◌%◌, ◌/◌, ◌^◌, ◌<◌, ◌≤◌, List, [], ◌∷◌, ◌++◌, length, Option, Some, None, refl, sym, ap, ◌∙◌, subst, arith}
use Rattle.std.proofs.lemmas.Bool.{eq-eqb, ne_eqb}
use Rattle.std.proofs.lemmas.Nat.{and_mask}
use Rattle.base.specs.AllOf.{AllOf}
use Rattle.lang_meaning.specs.State.{DynamicContext}
use Rattle.lang_meaning.specs.Values.{Value, nil}
use Rattle.flat_language.specs.FlatSignals.{signal, apply_procedure, apply_each}
use Rattle.flat_language.specs.FlatState.{FlatState, FlatEvaluated, go_on, go_on_from, charged}
use Rattle.lang_meaning.specs.State.{Outcome, value, exit, full, more}
use Rattle.flat_laws.specs.FlatLater.{FlatLater}
use Rattle.flat_laws.proofs.Applied.{signals, each_applies}
use Rattle.flat_laws.proofs.Later.{later_kept}
use Rattle.mid_code.specs.declared.operation.Comparison.TheVariants.{Equal}
use Rattle.mid_code.specs.declared.operation.Counted.TheVariants.{Turn}
use Rattle.mid_code.specs.Arena.{stack_from}
use Rattle.mid_code.specs.Law.{Grown}
use Rattle.mid_code.specs.Meaning.{exec_step}
use Rattle.mid_code.specs.MidCode.{MidStep, repeat, code_of}
use Rattle.mid_code.specs.State.{Registers, falls, ends, MidState, Next}
use Rattle.mid_code.specs.State.{charged as mid_charged, go_on as mid_go_on}
use Rattle.mid_code.proofs.Growth.{go_on_grown}
use Rattle.mid_arena.specs.Places.{word_of}
use Rattle.mid_arena.proofs.Running.{loop_again, RunsTo, and_then, none_left, constant_falls, compute_known, load_falls, store_falls, repeat_falls, address_above, jumped_falls, go_on_twice}
use Rattle.mid_arena.proofs.WordFacts.{sum_fits}
use Rattle.back_lowering.specs.ControlWords.{site_address}
use Rattle.back_lowering.specs.RoutineCodes.{kind_into, number_into, add_to, methods_called}
use Rattle.back_lowering.specs.Steps.{Steps, constant, store, call_number, test_of}
use Rattle.back_relation.specs.Setting.{Setting, ConstantsAt}
use Rattle.back_relation.specs.Chains.{MethodTakes, method_words}
use Rattle.back_relation.specs.Worlds.{World, Later, Standing}
use Rattle.back_relation.specs.Things.{SiteIs}
use Rattle.back_relation.specs.Ends.{CallEnds}
use Rattle.back_relation.specs.Forms.{context_at, code_at}
use Rattle.back_relation.specs.Procedures.{entry_credit}
use Rattle.back_relation.specs.Starts.{FlatGrown}
use Rattle.back_relation.proofs.Cuts.{later_cut}
use Rattle.back_relation.proofs.Growth.{grown_later, then_grown, both_flat}
use Rattle.back_relation.proofs.Straight.{world_cost, around_cost, things_units}
use Rattle.back_relation.proofs.Worlds.{later_same, later_then}
use Rattle.back_calling.specs.Storing.{IsControl, stored_at, standing_world}
use Rattle.back_calling.proofs.Growing.{tasks_below}
use Rattle.back_calling.proofs.Inner.{going_on_law}
use Rattle.back_calling.proofs.Storing.{control_lent, word_stored, world_stored, around_stored}
use Rattle.back_calling.proofs.Units.{calls_recounted}
use Rattle.back_values.proofs.Constants.{constants_law}
use Rattle.back_values.proofs.Words.{kind_of, procedure_of}
use Rattle.back_generics.specs.Methods.{EntriesDo}
use Rattle.back_generics.proofs.Calling.{Here, here_then, method_then}
use Rattle.back_generics.proofs.Loops.{behind_call, loop_calls, again_runs, behind_call_grows}

-- the meaning goes on twice
pub goes_twice : (r : FlatEvaluated) (f g : Value → FlatState → FlatEvaluated) → go_on (go_on r f) g ≡ go_on r (λ v x. go_on (f v x) g)
goes_twice r f g = by r.outcome
  where
    by : (o : Outcome) → go_on (go_on_from o r.state f) g ≡ go_on_from o r.state (λ v x. go_on (f v x) g)
    by (value v) = refl
    by (exit e v landing) = refl
    by (full asked left_then) = refl
    by more = refl

pub site_control : IsControl site_address
site_control = record { low = omega arith; high = omega arith; no_serial = λ same. omega (arith, same) }

module _ (setting : Setting) (k : ℕ) (does : EntriesDo setting k) (rs valid : List Standing) (around : DynamicContext) (vs : List Value) (address : ℕ) (site : ℕ) (site_is : SiteIs setting site around.site) (o0 : Option ℕ) (rest : Registers) where
  abbrev pub IsHere : World → FlatState → MidState → Type 0
  IsHere w z y = Here setting k does rs valid around vs address w z y

  abbrev pub file : (r3 r4 r5 r6 : Option ℕ) (a : ℕ) (r8 : Option ℕ) → Registers
  file r3 r4 r5 r6 a r8 = o0 ∷ Some (length vs) ∷ Some address ∷ r3 ∷ r4 ∷ r5 ∷ r6 ∷ Some a ∷ r8 ∷ Some site ∷ rest

  abbrev pub each : List ℕ → FlatState → FlatEvaluated
  each ms z = apply_each (context_at setting k) (signal (context_at setting k)) ms vs around z

  pub each_grows : (ms : List ℕ) (z : FlatState) → FlatGrown z (each ms z).state
  each_grows ms z =
      grown_later
      (each_applies {R = FlatLater} {k = later_kept} (context_at setting k) (tasks_below setting k) (signal (context_at setting k))
      (signals {R = FlatLater} {k = later_kept} (context_at setting k) (tasks_below setting k)) ms vs around z).grows

  module _ (kind : ℕ) where
    abbrev head : Steps
    head = kind_into setting.at 4 3 7 ++ (constant 5 kind ∷ [])

    abbrev pre : Steps
    pre = number_into setting.at 3 3 5 ++ (constant 5 0 ∷ store 9 5 site_address ∷ [])

    abbrev calls : MidStep
    calls = call_number 6 3 (5 ∷ 5 ∷ 1 ∷ 2 ∷ [])

    abbrev pub loop : MidStep
    loop = repeat Turn (code_of head) (test_of Equal 4 5) (code_of (pre ++ calls ∷ add_to 7 4 4))

    is_loop : loop ∷ [] ≡ methods_called setting.at kind
    is_loop = refl

    -- ---- the word of a method

    module _ (t a word : ℕ) (w : World) (z : FlatState) (y : MidState) (h : IsHere w z y) (at : ConstantsAt setting a (word ∷ [])) (r3 r4 r5 r6 r8 : Option ℕ) where
      abbrev looked : ℕ
      looked = y.cost + 8 + 6 + 10 + 6

      head_runs :
          RunsTo (code_at setting k t) (code_of head) (file r3 r4 r5 r6 a r8) y (ends falls (file (Some word) (Some (word % 8)) (Some kind) r6 a r8) (record y { cost = looked }))
      head_runs =
          let here = constants_law setting w z y h.call.things a word at.0 in
          let below = here.1 in
          and_then (load_falls refl (address_above a 0 a (omega arith) (omega (arith, below))) here.0)
          (and_then constant_falls (and_then (compute_known refl refl (and_mask word 3)) (and_then constant_falls none_left)))

      -- it is none of them: the loop ends
      loop_ends : (word % 8 ≡ kind → ⊥)
          → exec_step (code_at setting k t) loop (file r3 r4 r5 r6 a r8) y ≡ ends falls (file (Some word) (Some (word % 8)) (Some kind) r6 a r8) (mid_charged 42 y)
      loop_ends other =
          (repeat_falls head_runs refl refl (ne_eqb _ _ other)).same
          ∙ ap (λ n. ends falls (file (Some word) (Some (word % 8)) (Some kind) r6 a r8) (record y { cost = n })) (omega arith)

      module _ (p : ℕ) (few : kind < 8) (is : word ≡ 8 * p + kind) where
        abbrev y1 : MidState
        y1 = stored_at site_address site (looked + 12 + 6 + 10 + 6 + 8) y

        pre_runs :
            RunsTo (code_at setting k t) (code_of pre) (file (Some word) (Some (word % 8)) (Some kind) r6 a r8) (mid_charged 12 (record y { cost = looked }))
            (ends falls (file (Some p) (Some (word % 8)) (Some 0) r6 a r8) y1)
        pre_runs =
            and_then constant_falls (and_then (compute_known refl refl (ap (λ n. n / 2 ^ (3 % 32)) is ∙ procedure_of p kind few))
            (and_then constant_falls
            (and_then (store_falls refl refl (address_above 0 site_address site_address (omega arith) (omega arith)) (control_lent setting h.call.things site_address (omega arith) (omega arith) refl))
            none_left)))

        loop_comes : exec_step (code_at setting k t) loop (file r3 r4 r5 r6 a r8) y
            ≡ mid_go_on (exec_step (code_at setting k t) calls (file (Some p) (Some (word % 8)) (Some 0) r6 a r8) y1)
            (behind_call (code_at setting k t) Turn head pre calls (add_to 7 4 4) (test_of Equal 4 5))
        loop_comes =
            loop_calls (code_at setting k t) Turn head pre calls (add_to 7 4 4) (test_of Equal 4 5) head_runs refl refl
            (eq-eqb _ _ (ap (λ n. n % 8) is ∙ kind_of p kind few)) pre_runs

    -- behind a call the loop goes on with the next word
    goes_on :
        (n a : ℕ) (v3 v4 v5 v6 v8 : Option ℕ) (y : MidState) → a + 4 < 2 ^ 32
        → behind_call (code_at setting k (suc n)) Turn head pre calls (add_to 7 4 4) (test_of Equal 4 5) (file v3 v4 v5 v6 a v8) y
        ≡ exec_step (code_at setting k n) loop (file v3 (Some 4) v5 v6 (a + 4) v8) (mid_charged 18 y)
    unfolding mid_go_on
    goes_on n a v3 v4 v5 v6 v8 y small =
        let run : RunsTo (code_at setting k (suc n)) (code_of (add_to 7 4 4)) (file v3 v4 v5 v6 a v8) y (ends falls (file v3 (Some 4) v5 v6 (a + 4) v8) (record y { cost = y.cost + 6 + 10 })) =
        and_then constant_falls (and_then (compute_known refl refl (sum_fits a 4 small)) none_left) in
        ap (λ r. mid_go_on r (loop_again (code_at setting k (suc n)) Turn (code_of head) (test_of Equal 4 5) (code_of (pre ++ calls ∷ add_to 7 4 4)))) (jumped_falls run.same)
        ∙ again_runs setting k n (code_of head) (code_of (pre ++ calls ∷ add_to 7 4 4)) (test_of Equal 4 5) (file v3 (Some 4) v5 v6 (a + 4) v8) (mid_charged 2 (record y { cost = y.cost + 6 + 10 }))
        ∙ ap (λ c. exec_step (code_at setting k n) loop (file v3 (Some 4) v5 v6 (a + 4) v8) (record y { cost = c })) (omega arith)

    -- ---- all methods of the kind

    -- what comes behind the methods, wherever they come to
    abbrev pub Behind : (credit_behind t a : ℕ) (r8 : Option ℕ) (w : World) (f : Value → FlatState → FlatEvaluated) (next : Next) → Type 0
    Behind credit_behind t a r8 w f next =
        (w' : World) (z' : FlatState) (y' : MidState) (m' : ℕ) (r3 r4 r5 r6 : Option ℕ) → Later w w' → IsHere w' z' y' → m' ≤ t + 16
        → CallEnds setting credit_behind m' rs valid w' around z' y' (f nil z') (next (file r3 r4 r5 r6 a r8) y')

    abbrev pub MethodsRun : List ℕ → (t : ℕ) → Type 0
    MethodsRun ms t =
        (last : ℕ) (more_words : List ℕ) (a m credit_behind : ℕ) (r3 r4 r5 r6 r8 : Option ℕ) (w : World) (z : FlatState) (y : MidState)
        (f : Value → FlatState → FlatEvaluated) (next : Next)
        → kind < 8 → (last % 8 ≡ kind → ⊥) → AllOf (MethodTakes setting (length vs)) ms → ConstantsAt setting a (method_words kind ms ++ last ∷ more_words) → length ms ≤ t → t ≤ setting.turns_each
        → m ≤ t + 16 → IsHere w z y → ((v : Value) (x : FlatState) → FlatGrown x (f v x).state) → ((g : Registers) (x : MidState) → Grown x (next g x).state)
        → Behind credit_behind t (a + 4 * length ms) r8 w f next
        → CallEnds setting (credit_behind + 42) m rs valid w around z y (go_on (each ms z) f) (mid_go_on (exec_step (code_at setting k t) loop (file r3 r4 r5 r6 a r8) y) next)

    pub methods_run : (ms : List ℕ) (t : ℕ) → MethodsRun ms t
    unfolding mid_go_on
    methods_run [] t last more_words a m credit_behind r3 r4 r5 r6 r8 w z y f next few other takes at enough fewer turns h f_grown grown behind =
        let same : a + 4 * 0 ≡ a = omega arith in
        let ended = loop_ends t a last w z y h (at.0, tt) r3 r4 r5 r6 r8 other in
        subst (λ q. CallEnds setting (credit_behind + 42) m rs valid w around z y (f nil z) (mid_go_on q next)) (sym ended)
        (going_on_law setting 42 credit_behind (credit_behind + 42) m m rs valid w w around z z y (mid_charged 42 y) (f nil z) (next (file (Some last) (Some (last % 8)) (Some kind) r6 a r8) (mid_charged 42 y))
        (world_cost setting 42 h.call.things) (around_cost setting {credit = 42} z y 42 (omega arith)) (omega arith) (omega arith) refl
        (subst (λ x. CallEnds setting credit_behind m rs valid w around z (mid_charged 42 y) (f nil z) (next (file (Some last) (Some (last % 8)) (Some kind) r6 x r8) (mid_charged 42 y))) same
        (behind w z (mid_charged 42 y) m (Some last) (Some (last % 8)) (Some kind) r6 (later_same w)
        (here_then setting k does rs valid around vs address (world_cost setting 42 h.call.things) (around_cost setting {credit = 42} z y 42 (omega arith)) h) turns)))
    methods_run (p ∷ ms) zero last more_words a m credit_behind r3 r4 r5 r6 r8 w z y f next few other takes at enough fewer turns h f_grown grown behind = absurd (omega (arith, enough))
    methods_run (p ∷ ms) (suc n) last more_words a m credit_behind r3 r4 r5 r6 r8 w z y f next few other takes at enough fewer turns h f_grown grown behind =
        subst (λ r. CallEnds setting (credit_behind + 42) m rs valid w around z y r (mid_go_on (exec_step (code_at setting k (suc n)) loop (file r3 r4 r5 r6 a r8) y) next))
        (sym (goes_twice (apply_procedure (context_at setting k) (signal (context_at setting k)) p None vs around z) (λ v x. each ms x) f))
        (subst (λ q. CallEnds setting (credit_behind + 42) m rs valid w around z y meant q) (sym code_comes)
        (calls_recounted setting {c1 = credit_behind + 42 + 1300} {m1 = suc n} z (z.state.units + 1) z.state.units (omega arith) (omega (arith, turns))
        (going_on_law setting 72 (entry_credit (length vs) + 64 + (credit_behind + 60)) (credit_behind + 42 + 1300) (suc n) (suc n) rs valid w (standing_world w y) around (charged 1 z) (charged 1 z) y stored meant
        (mid_go_on (exec_step (code_at setting k (suc n)) calls (file (Some p) (Some (word % 8)) (Some 0) r6 a r8) stored) behind_it)
        (world_stored setting (things_units setting 1 h.call.things) site_address site cost site_control refl (λ same. omega (arith, same)))
        (around_stored setting (things_units setting 1 h.call.things) site_address site cost site_control refl 72 (omega arith) (λ same. omega (arith, same)) (λ same. omega (arith, same))
        (λ same. omega (arith, same)) (λ same. omega (arith, same)))
        (omega arith) (omega arith) refl
        (method_then setting k does rs valid around vs address (suc n) p 0 6 3 5 5 1 2 (credit_behind + 60) None (standing_world w y) z stored
        (file (Some p) (Some (word % 8)) (Some 0) r6 a r8) (λ v x. go_on (each ms x) f) behind_it fewer takes.0 refl h1 (site, word_stored setting h.call.things site_address site cost site_control refl, site_is)
        refl (refl, (refl, (refl, (refl, tt)))) (λ v x. both_flat (each_grows ms x) (then_grown (each ms x) f f_grown))
        (λ g x.
        go_on_grown (behind_call (code_at setting k (suc n)) Turn head pre calls (add_to 7 4 4) (test_of Equal 4 5) g x) next x
        (behind_call_grows setting k (suc n) head pre calls (add_to 7 4 4) (test_of Equal 4 5) g x) grown)
        (continues (methods_run ms n))))))
      where
        word : ℕ
        word = 8 * p + kind

        cost : ℕ
        cost = y.cost + 8 + 6 + 10 + 6 + 12 + 6 + 10 + 6 + 8

        stored : MidState
        stored = stored_at site_address site cost y

        meant : FlatEvaluated
        meant = go_on (apply_procedure (context_at setting k) (signal (context_at setting k)) p None vs around z) (λ v x. go_on (each ms x) f)

        behind_it : Next
        behind_it g x = mid_go_on (behind_call (code_at setting k (suc n)) Turn head pre calls (add_to 7 4 4) (test_of Equal 4 5) g x) next

        code_comes : mid_go_on (exec_step (code_at setting k (suc n)) loop (file r3 r4 r5 r6 a r8) y) next
            ≡ mid_go_on (exec_step (code_at setting k (suc n)) calls (file (Some p) (Some (word % 8)) (Some 0) r6 a r8) stored) behind_it
        code_comes =
            ap (λ q. mid_go_on q next) (loop_comes (suc n) a word w z y h (at.0, tt) r3 r4 r5 r6 r8 p few refl)
            ∙ go_on_twice (exec_step (code_at setting k (suc n)) calls (file (Some p) (Some (word % 8)) (Some 0) r6 a r8) stored)
            (behind_call (code_at setting k (suc n)) Turn head pre calls (add_to 7 4 4) (test_of Equal 4 5)) next

        h1 : IsHere (standing_world w y) z stored
        h1 =
            here_then setting k does rs valid around vs address
            (world_stored setting h.call.things site_address site cost site_control refl (λ same. omega (arith, same)))
            (around_stored setting h.call.things site_address site cost site_control refl 72 (omega arith) (λ same. omega (arith, same)) (λ same. omega (arith, same)) (λ same. omega (arith, same))
            (λ same. omega (arith, same)))
            h

        small : a + 4 < 2 ^ 32
        small = let below = (constants_law setting w z y h.call.things a word at.0).1 in omega (arith, below)

        same_end : a + 4 + 4 * length ms ≡ a + 4 * suc (length ms)
        same_end = omega arith

        continues : MethodsRun ms n → (w' : World) (z' : FlatState) (y' : MidState) (v : Value) (result : ℕ) → Later (standing_world w y) w' → IsHere w' z' y' → word_of w'.places v ≡ Some result
            → CallEnds setting (credit_behind + 60) (suc n) rs valid w' around z' y' (go_on (each ms z') f) (behind_it (file (Some p) (Some (word % 8)) (Some 0) (Some result) a r8) y')
        continues run w' z' y' v result later h' of_value =
            subst (λ q. CallEnds setting (credit_behind + 60) (suc n) rs valid w' around z' y' (go_on (each ms z') f) (mid_go_on q next))
            (sym (goes_on n a (Some p) (Some (word % 8)) (Some 0) (Some result) r8 y' small))
            (going_on_law setting 18 (credit_behind + 42) (credit_behind + 60) (suc n) (suc n) rs valid w' w' around z' z' y' (mid_charged 18 y') (go_on (each ms z') f)
            (mid_go_on (exec_step (code_at setting k n) loop (file (Some p) (Some 4) (Some 0) (Some result) (a + 4) r8) (mid_charged 18 y')) next)
            (world_cost setting 18 h'.call.things) (around_cost setting {credit = 18} z' y' 18 (omega arith)) (omega arith) (omega arith) refl
            (run last more_words (a + 4) (suc n) credit_behind (Some p) (Some 4) (Some 0) (Some result) r8 w' z' (mid_charged 18 y') f next few other takes.1 at.1 (omega (arith, enough))
            (omega (arith, fewer)) (omega arith)
            (here_then setting k does rs valid around vs address (world_cost setting 18 h'.call.things) (around_cost setting {credit = 18} z' y' 18 (omega arith)) h') f_grown grown
            (λ w'' z'' y'' m'' v3 v4 v5 v6 later' h'' more_turns.
            subst (λ x. CallEnds setting credit_behind m'' rs valid w'' around z'' y'' (f nil z'') (next (file v3 v4 v5 v6 x r8) y'')) (sym same_end)
            (behind w'' z'' y'' m'' v3 v4 v5 v6 (later_then (later_then (later_cut (stack_from y.arena) w) later) later') h'' (omega (arith, more_turns))))))
