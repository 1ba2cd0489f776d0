-- **A chain of methods runs**: the first around method; else the methods before, the first primary one, and the methods after.
use Rattle.std.proofs.Common.{◌≡◌, ◌⊎◌, inl, inr, ℕ, suc, ◌+◌, ◌*◌, ◌%◌, ◌^◌, ◌<◌, ◌≤◌, List, [], ◌∷◌, ◌++◌, length, Option, Some, refl, sym, ap, ◌∙◌, subst, arith}
use Rattle.std.proofs.lemmas.Bool.{cases_lt, eq-eqb, ne_eqb}
use Rattle.std.proofs.lemmas.Nat.{and_mask}
use Rattle.std.proofs.lemmas.Option.{slice_get_within}
use Rattle.lang_meaning.specs.Objects.{Chain, Called}
use Rattle.lang_meaning.specs.State.{DynamicContext}
use Rattle.lang_meaning.specs.Values.{Value}
use Rattle.flat_language.specs.FlatSignals.{signal, apply_method, run_chain}
use Rattle.flat_language.specs.FlatState.{FlatState, FlatEvaluated, gives, go_on, charged}
use Rattle.flat_laws.specs.FlatLater.{FlatLater}
use Rattle.flat_laws.proofs.Applied.{signals, chain_runs}
use Rattle.flat_laws.proofs.Later.{later_kept}
use Rattle.mid_code.specs.declared.operation.Arithmetic.TheVariants as which
use Rattle.mid_code.specs.Arena.{word_at}
use Rattle.mid_code.specs.Law.{Grown}
use Rattle.mid_code.specs.Meaning.{exec, exec_step}
use Rattle.mid_code.specs.MidCode.{MidStep, return_word, code_of}
use Rattle.mid_code.specs.State.{Registers, falls, ends, MidState, MidOutcome, Next, jumped}
use Rattle.mid_code.specs.State.{charged as mid_charged, go_on as mid_go_on}
use Rattle.mid_code.proofs.Growth.{exec_grown, charged_grown, levels_grow, turns_grow}
use Rattle.mid_arena.specs.Places.{of_other, word_of}
use Rattle.mid_arena.proofs.Growing.{spot_below}
use Rattle.mid_arena.proofs.Running.{and_then, none_left, parts_then, constant_falls, compute_known, load_falls, store_falls, choose_first, choose_second_falls, address_above}
use Rattle.mid_arena.proofs.WordFacts.{sum_fits}
use Rattle.back_lowering.specs.ControlWords.{site_address, around_method, before_method, after_method, primary_method}
use Rattle.back_lowering.specs.RoutineCodes.{number_into, methods_called, chain_run}
use Rattle.back_lowering.specs.Steps.{Steps, if_equal, constant, compute, load, store, call_number}
use Rattle.back_relation.specs.Setting.{Setting, ConstantAt, ConstantsAt}
use Rattle.back_relation.specs.Chains.{MethodTakes, ChainTakes, ChainAt, method_words, chain_words}
use Rattle.back_relation.specs.Worlds.{World, Standing}
use Rattle.back_relation.specs.Things.{Things, SiteIs}
use Rattle.back_relation.specs.StackWords.{HasWordAt}
use Rattle.back_relation.specs.Around.{SiteStored}
use Rattle.back_relation.specs.Ends.{few_turns, CallEnds}
use Rattle.back_relation.specs.Forms.{context_at, code_at}
use Rattle.back_relation.specs.Procedures.{entry_credit}
use Rattle.back_relation.specs.Starts.{FlatGrown}
use Rattle.back_relation.proofs.Choices.{go_gives}
use Rattle.back_relation.proofs.Growth.{grown_later, same_flat, then_grown, both_flat}
use Rattle.back_relation.proofs.Parts.{step_then}
use Rattle.back_relation.proofs.Straight.{world_cost, around_cost, things_units}
use Rattle.back_relation.proofs.Worlds.{word_later}
use Rattle.back_calling.specs.Storing.{stored_at, standing_world}
use Rattle.back_calling.proofs.Growing.{tasks_below}
use Rattle.back_calling.proofs.Inner.{going_on_law, passing_law, returns_law}
use Rattle.back_calling.proofs.Storing.{control_lent, word_stored, world_stored, around_stored}
use Rattle.back_calling.proofs.Units.{calls_recounted}
use Rattle.back_values.specs.Chains.{before_at, after_at, primary_at, finds_primary, Found}
use Rattle.back_values.proofs.Constants.{constants_law}
use Rattle.back_values.proofs.Primaries.{primaries_law}
use Rattle.back_values.proofs.Words.{kind_of, procedure_of, words_from_after, before_words, after_words, primary_words, LaterFirst, primary_first, after_first, chain_first}
use Rattle.back_exits.proofs.Within.{call_less}
use Rattle.back_generics.specs.Methods.{EntriesDo}
use Rattle.back_generics.proofs.Calling.{CalledBy, Here, here_then, method_then}
use Rattle.back_generics.proofs.Each.{site_control, each, each_grows, loop, methods_run}

module _ (setting : Setting) (k : ℕ) (does : EntriesDo setting k) (rs valid : List Standing) (around : DynamicContext) (vs : List Value) (address : ℕ) where
  abbrev IsHere : World → FlatState → MidState → Type 0
  IsHere w z y = Here setting k does rs valid around vs address w z y

  abbrev pub runs : Chain → FlatState → FlatEvaluated
  runs c z = run_chain (context_at setting k) (signal (context_at setting k)) c vs around z

  pub runs_grow : (c : Chain) (z : FlatState) → FlatGrown z (runs c z).state
  runs_grow c z =
      grown_later
      (chain_runs {R = FlatLater} {k = later_kept} (context_at setting k) (tasks_below setting k) (signal (context_at setting k))
      (signals {R = FlatLater} {k = later_kept} (context_at setting k) (tasks_below setting k)) c vs around z).grows

  behind_grows : (t : ℕ) (ss : Steps) (g : Registers) (x : MidState) → Grown x (exec (code_at setting k t) (code_of ss) g x).state
  behind_grows t ss g x =
      exec_grown (code_at setting k t) (levels_grow setting.procedures setting.turns_each k)
      (turns_grow setting.procedures _ (levels_grow setting.procedures setting.turns_each k) t) (code_of ss) g x

  here_cost : {w : World} {z : FlatState} {y : MidState} (n : ℕ) → IsHere w z y → IsHere w z (mid_charged n y)
  here_cost {z = z} {y = y} n h =
      here_then setting k does rs valid around vs address (world_cost setting n h.call.things) (around_cost setting {credit = n} z y n (omega arith)) h

  -- ---- an around method

  abbrev around_steps : Steps
  around_steps =
      number_into setting.at 3 3 4 ++ (constant 4 4 ∷ compute 4 which.Add 0 4 ∷ constant 5 0 ∷ call_number 6 3 (5 ∷ 4 ∷ 1 ∷ 2 ∷ []) ∷ return_word 6 ∷ [])

  abbrev primary_call : MidStep
  primary_call = call_number 8 3 (5 ∷ 4 ∷ 1 ∷ 2 ∷ [])

  abbrev last_steps : Steps
  last_steps = methods_called setting.at after_method ++ (return_word 8 ∷ [])

  abbrev primary_steps : Steps
  primary_steps =
      load 3 8 0 ∷ (number_into setting.at 3 3 4 ++ (constant 4 4 ∷ compute 4 which.Add 8 4 ∷ constant 5 0 ∷ store 9 5 site_address ∷ primary_call ∷ last_steps))

  abbrev chain_tail : Steps
  chain_tail = finds_primary setting.at ++ (methods_called setting.at before_method ++ primary_steps)

  module _ (t chain site : ℕ) (few : t ≤ setting.turns_each) (rest : Registers) where
    abbrev around_call : MidStep
    around_call = call_number 6 3 (5 ∷ 4 ∷ 1 ∷ 2 ∷ [])

    around_comes :
        (m p : ℕ) (r5 r6 r7 r8 r9 : Option ℕ) (c : Chain) (w : World) (z : FlatState) (y : MidState) → m ≤ suc t → MethodTakes setting (length vs) p
        → CalledBy setting (chain + 4) vs (Some (record { arguments = vs; rest = c })) → chain + 8 ≤ 2 ^ 32 → IsHere w z y → SiteStored setting around y
        → CallEnds setting 0 m rs valid w around z y (apply_method (context_at setting k) (signal (context_at setting k)) p (record { arguments = vs; rest = c }) around z)
        (exec (code_at setting k t) (code_of around_steps)
        (Some chain ∷ Some (length vs) ∷ Some address ∷ Some (8 * p + around_method) ∷ Some ((8 * p + around_method) % 8) ∷ r5 ∷ r6 ∷ r7 ∷ r8 ∷ r9 ∷ rest) y)
    around_comes m p r5 r6 r7 r8 r9 c w z y turns takes by small h stored =
        subst (λ q. CallEnds setting 0 m rs valid w around z y meant q) (sym code_comes)
        (calls_recounted setting {c1 = 1300} {m1 = t} z (z.state.units + 1) z.state.units (omega arith) (omega (arith, turns))
        (going_on_law setting 38 (entry_credit (length vs) + 64 + 14) 1300 t t rs valid w w around (charged 1 z) (charged 1 z) y (mid_charged 38 y) meant
        (exec (code_at setting k t) (code_of (around_call ∷ return_word 6 ∷ [])) regs' (mid_charged 38 y)) (world_cost setting 38 (things_units setting 1 h.call.things))
        (around_cost setting {credit = 38} (charged 1 z) y 38 (omega arith)) (omega arith) (omega arith) refl
        (subst (λ q. CallEnds setting (entry_credit (length vs) + 64 + 14) t rs valid w around (charged 1 z) (mid_charged 38 y) meant q)
        (sym (step_then (code_at setting k t) around_call (return_word 6 ∷ []) regs' (mid_charged 38 y)))
        (subst
        (λ r. CallEnds setting (entry_credit (length vs) + 64 + 14) t rs valid w around (charged 1 z) (mid_charged 38 y) r (mid_go_on (exec_step (code_at setting k t) around_call regs' (mid_charged 38 y)) returned_then))
        (go_gives meant)
        (method_then setting k does rs valid around vs address t p (chain + 4) 6 3 5 4 1 2 14 (Some (record { arguments = vs; rest = c })) w z (mid_charged 38 y) regs' (λ v x. gives v x)
        returned_then few takes by (here_cost 38 h) stored refl (refl, (refl, (refl, (refl, tt)))) (λ v x. same_flat x) (λ g x. behind_grows t (return_word 6 ∷ []) g x)
        (λ w' z' y' v word later h' of_value.
        returns_law setting (code_at setting k t) 14 t 6 word [] rs valid w' around z' y' (regs_with (Some word)) v h'.call.things refl of_value (omega arith)))))))
      where
        regs_with : Option ℕ → Registers
        regs_with o = Some chain ∷ Some (length vs) ∷ Some address ∷ Some p ∷ Some (chain + 4) ∷ Some 0 ∷ o ∷ r7 ∷ r8 ∷ r9 ∷ rest

        regs' : Registers
        regs' = regs_with r6

        returned_then : Next
        returned_then g x = exec (code_at setting k t) (code_of (return_word 6 ∷ [])) g x

        meant : FlatEvaluated
        meant = apply_method (context_at setting k) (signal (context_at setting k)) p (record { arguments = vs; rest = c }) around z

        code_comes : exec (code_at setting k t) (code_of around_steps)
            (Some chain ∷ Some (length vs) ∷ Some address ∷ Some (8 * p + around_method) ∷ Some ((8 * p + around_method) % 8) ∷ r5 ∷ r6 ∷ r7 ∷ r8 ∷ r9 ∷ rest) y
            ≡ exec (code_at setting k t) (code_of (around_call ∷ return_word 6 ∷ [])) regs' (mid_charged 38 y)
        code_comes =
            (and_then constant_falls (and_then (compute_known refl refl (procedure_of p around_method (omega arith)))
            (and_then constant_falls (and_then (compute_known refl refl (sum_fits chain 4 (omega (arith, small)))) (and_then constant_falls (record { same = refl })))))).same
            ∙ ap (λ n. exec (code_at setting k t) (code_of (around_call ∷ return_word 6 ∷ [])) regs' (record y { cost = n })) (omega arith)

    -- ---- the first kind

    around_runs :
        (m p : ℕ) (ms be pr af : List ℕ) (r3 r4 r5 r6 r7 r8 r9 : Option ℕ) (w : World) (z : FlatState) (y : MidState) → m ≤ suc t
        → ChainAt setting chain (record { around = p ∷ ms; before = be; primary = pr; after = af }) → ChainTakes setting (length vs) (record { around = p ∷ ms; before = be; primary = pr; after = af })
        → IsHere w z y → HasWordAt y site_address site → SiteIs setting site around.site
        → CallEnds setting 56 m rs valid w around z y (runs (record { around = p ∷ ms; before = be; primary = pr; after = af }) z)
        (exec (code_at setting k t) (code_of (chain_run setting.at)) (Some chain ∷ Some (length vs) ∷ Some address ∷ r3 ∷ r4 ∷ r5 ∷ r6 ∷ r7 ∷ r8 ∷ r9 ∷ rest) y)
    around_runs m p ms be pr af r3 r4 r5 r6 r7 r8 r9 w z y turns at takes h site_word site_is =
        subst (λ q. CallEnds setting 56 m rs valid w around z y meant q) (sym code_comes)
        (passing_law setting 56 m rs valid w around z y meant (jumped inner) (λ g x. exec (code_at setting k t) (code_of chain_tail) g x) (λ g x. behind_grows t chain_tail g x)
        (passing_law setting 56 m rs valid w around z y meant inner (λ g x. ends falls g (mid_charged 2 x)) (λ g x. charged_grown 2 x)
        (going_on_law setting 56 0 56 m m rs valid w w around z z y (mid_charged 56 y) meant inner (world_cost setting 56 h.call.things) (around_cost setting {credit = 56} z y 56 (omega arith)) (omega arith)
        (omega arith) refl
        (around_comes m p (Some 0) r6 r7 r8 (Some site) (record { around = ms; before = be; primary = pr; after = af }) w z (mid_charged 56 y) turns takes.around.0 (next_at, next_takes, refl) small
        (here_cost 56 h) (site, site_word, site_is)))))
      where
        meant : FlatEvaluated
        meant = apply_method (context_at setting k) (signal (context_at setting k)) p (record { arguments = vs; rest = record { around = ms; before = be; primary = pr; after = af } }) around z

        word : ℕ
        word = 8 * p + around_method

        regs' : Registers
        regs' = Some chain ∷ Some (length vs) ∷ Some address ∷ Some word ∷ Some (word % 8) ∷ Some 0 ∷ r6 ∷ r7 ∷ r8 ∷ Some site ∷ rest

        inner : MidOutcome
        inner = exec (code_at setting k t) (code_of around_steps) regs' (mid_charged 56 y)

        small : chain + 8 ≤ 2 ^ 32
        small = (constants_law setting w z y h.call.things chain word at.words.0).1

        next_at : ChainAt setting (chain + 4) (record { around = ms; before = be; primary = pr; after = af })
        next_at = record { some = omega arith; no_other = λ e. absurd (cc ((at.no_other e).0)); words = at.words.1 }

        next_takes : ChainTakes setting (length vs) (record { around = ms; before = be; primary = pr; after = af })
        next_takes = record { around = takes.around.1; before = takes.before; primary = takes.primary; after = takes.after }

        code_comes : exec (code_at setting k t) (code_of (chain_run setting.at)) (Some chain ∷ Some (length vs) ∷ Some address ∷ r3 ∷ r4 ∷ r5 ∷ r6 ∷ r7 ∷ r8 ∷ r9 ∷ rest) y
            ≡ mid_go_on (jumped inner) (λ g x. exec (code_at setting k t) (code_of chain_tail) g x)
        code_comes =
            (and_then constant_falls (and_then (load_falls refl (address_above 0 site_address site_address (omega arith) (omega arith)) site_word)
            (and_then (load_falls refl (address_above chain 0 chain (omega arith) (omega (arith, small))) (constants_law setting w z y h.call.things chain word at.words.0).0)
            (and_then constant_falls (and_then (compute_known refl refl (and_mask word 3)) (and_then constant_falls (record { same = refl }))))))).same
            ∙ ap (λ n. exec (code_at setting k t) (code_of (if_equal 4 5 around_steps [] ∷ chain_tail)) regs' (record y { cost = n })) (omega arith)
            ∙ step_then (code_at setting k t) (if_equal 4 5 around_steps []) chain_tail regs' (mid_charged 44 y)
            ∙ ap (λ q. mid_go_on q (λ g x. exec (code_at setting k t) (code_of chain_tail) g x))
            ((choose_first refl refl (eq-eqb _ _ (kind_of p around_method (omega arith))) (record { same = refl })).same
            ∙ ap (λ n. jumped (exec (code_at setting k t) (code_of around_steps) regs' (record y { cost = n }))) (omega arith))

    -- ---- methods before, the first primary one, and methods after

    module _ (p : ℕ) (be ps af : List ℕ) (takes : ChainTakes setting (length vs) (record { around = []; before = be; primary = p ∷ ps; after = af }))
        (at : ChainAt setting chain (record { around = []; before = be; primary = p ∷ ps; after = af })) (site_is : SiteIs setting site around.site) (enough : length be + length af ≤ t) where
      abbrev whole : Chain
      whole = record { around = []; before = be; primary = p ∷ ps; after = af }

      abbrev start_at : ℕ
      start_at = before_at chain whole

      abbrev behind_at : ℕ
      behind_at = after_at chain whole

      abbrev first_at : ℕ
      first_at = primary_at chain whole

      abbrev next_call : Called
      next_call = record { arguments = vs; rest = record { around = []; before = []; primary = ps; after = [] } }

      next_by : CalledBy setting (first_at + 4) vs (Some next_call)
      next_by = (
        record { some = omega arith; no_other = λ e. (refl, refl, refl); words = (primary_words setting chain whole at refl).1 },
        record { around = tt; before = tt; primary = takes.primary.1; after = tt },
        refl,
      )

      abbrev set_file : (r3 r4 r5 r6 : Option ℕ) (a : ℕ) (r8 : Option ℕ) → Registers
      set_file r3 r4 r5 r6 a r8 = Some chain ∷ Some (length vs) ∷ Some address ∷ r3 ∷ r4 ∷ r5 ∷ r6 ∷ Some a ∷ r8 ∷ Some site ∷ rest

      abbrev all_of : List ℕ → FlatState → FlatEvaluated
      all_of ms z = each setting k does rs valid around vs address site site_is (Some chain) rest ms z

      each_grow : (ms : List ℕ) (z : FlatState) → FlatGrown z (all_of ms z).state
      each_grow ms z = each_grows setting k does rs valid around vs address site site_is (Some chain) rest ms z

      -- the value of the primary method is returned, behind the methods after it
      last_comes :
          (m : ℕ) (r3 r4 r5 r6 : Option ℕ) (v : Value) (word : ℕ) (w : World) (z : FlatState) (y : MidState) → m ≤ t + 16 → IsHere w z y → word_of w.places v ≡ Some word
          → CallEnds setting 56 m rs valid w around z y (go_on (all_of af z) (λ ignored x. gives v x)) (exec (code_at setting k t) (code_of last_steps) (set_file r3 r4 r5 r6 behind_at (Some word)) y)
      last_comes m r3 r4 r5 r6 v word w z y turns h of_value =
          let words = primary_first whole in
          let later = words.later in
          subst (λ q. CallEnds setting 56 m rs valid w around z y (go_on (all_of af z) (λ ignored x. gives v x)) q)
          (sym
          (step_then (code_at setting k t) (loop setting k does rs valid around vs address site site_is (Some chain) rest after_method) (return_word 8 ∷ [])
          (set_file r3 r4 r5 r6 behind_at (Some word)) y))
          (methods_run setting k does rs valid around vs address site site_is (Some chain) rest after_method af t words.first words.others behind_at m 14 r3 r4 r5 r6 (Some word) w z y
          (λ ignored x. gives v x) (λ g x. exec (code_at setting k t) (code_of (return_word 8 ∷ [])) g x) (omega arith) (λ e. omega (arith, e, later)) takes.after
          (subst (λ l. ConstantsAt setting behind_at (method_words after_method af ++ l)) words.is (after_words setting chain whole at refl)) (omega (arith, enough)) few turns h (λ ignored x. same_flat x)
          (λ g x. behind_grows t (return_word 8 ∷ []) g x)
          (λ w' z' y' m' q3 q4 q5 q6 grew h' more_turns.
          returns_law setting (code_at setting k t) 14 m' 8 word [] rs valid w' around z' y' (set_file q3 q4 q5 q6 (behind_at + 4 * length af) (Some word)) v h'.call.things refl
          (word_later grew v word of_value) (omega arith)))

      abbrev primary_meant : FlatState → FlatEvaluated
      primary_meant z = go_on (apply_method (context_at setting k) (signal (context_at setting k)) p next_call around z) (λ v x. go_on (all_of af x) (λ ignored x'. gives v x'))

      primary_comes :
          (m : ℕ) (r3 r4 r5 r6 : Option ℕ) (w : World) (z : FlatState) (y : MidState) → m ≤ t + 16 → IsHere w z y
          → CallEnds setting 0 m rs valid w around z y (primary_meant z) (exec (code_at setting k t) (code_of primary_steps) (set_file r3 r4 r5 r6 behind_at (Some first_at)) y)
      primary_comes m r3 r4 r5 r6 w z y turns h =
          subst (λ q. CallEnds setting 0 m rs valid w around z y (primary_meant z) q) (sym code_comes)
          (calls_recounted setting {c1 = 1300} {m1 = t} z (z.state.units + 1) z.state.units (omega arith) (omega (arith, turns))
          (going_on_law setting 54 (entry_credit (length vs) + 64 + 56) 1300 t t rs valid w (standing_world w y) around (charged 1 z) (charged 1 z) y stored (primary_meant z)
          (mid_go_on (exec_step (code_at setting k t) primary_call regs' stored) last_then)
          (world_stored setting (things_units setting 1 h.call.things) site_address site cost site_control refl (λ same. omega (arith, same)))
          (around_stored setting (things_units setting 1 h.call.things) site_address site cost site_control refl 54 (omega arith) (λ same. omega (arith, same)) (λ same. omega (arith, same))
          (λ same. omega (arith, same)) (λ same. omega (arith, same)))
          (omega arith) (omega arith) refl
          (method_then setting k does rs valid around vs address t p (first_at + 4) 8 3 5 4 1 2 56 (Some next_call) (standing_world w y) z stored regs'
          (λ v x. go_on (all_of af x) (λ ignored x'. gives v x')) last_then few takes.primary.0 next_by h1 (site, word_stored setting h.call.things site_address site cost site_control refl, site_is)
          refl (refl, (refl, (refl, (refl, tt)))) (λ v x. both_flat (each_grow af x) (then_grown (all_of af x) (λ ignored x'. gives v x') (λ ignored x'. same_flat x'))) (λ g x. behind_grows t last_steps g x)
          (λ w' z' y' v result later h' of_value. last_comes t (Some p) (Some (first_at + 4)) (Some 0) r6 v result w' z' y' (omega arith) h' of_value))))
        where
          word : ℕ
          word = 8 * p + primary_method

          regs' : Registers
          regs' = set_file (Some p) (Some (first_at + 4)) (Some 0) r6 behind_at (Some first_at)

          cost : ℕ
          cost = y.cost + 8 + 6 + 10 + 6 + 10 + 6 + 8

          stored : MidState
          stored = stored_at site_address site cost y

          last_then : Next
          last_then g x = exec (code_at setting k t) (code_of last_steps) g x

          h1 : IsHere (standing_world w y) z stored
          h1 =
              here_then setting k does rs valid around vs address
              (world_stored setting h.call.things site_address site cost site_control refl (λ same. omega (arith, same)))
              (around_stored setting h.call.things site_address site cost site_control refl 54 (omega arith) (λ same. omega (arith, same)) (λ same. omega (arith, same)) (λ same. omega (arith, same))
              (λ same. omega (arith, same)))
              h

          there : (word_at y.arena first_at ≡ Some word) × (first_at + 8 ≤ 2 ^ 32)
          there = constants_law setting w z y h.call.things first_at word (primary_words setting chain whole at refl).0

          code_comes : exec (code_at setting k t) (code_of primary_steps) (set_file r3 r4 r5 r6 behind_at (Some first_at)) y ≡ mid_go_on (exec_step (code_at setting k t) primary_call regs' stored) last_then
          code_comes =
              let small = there.1 in
              (and_then (load_falls refl (address_above first_at 0 first_at (omega arith) (omega (arith, small))) there.0)
              (and_then constant_falls (and_then (compute_known refl refl (procedure_of p primary_method (omega arith)))
              (and_then constant_falls (and_then (compute_known refl refl (sum_fits first_at 4 (omega (arith, small)))) (and_then constant_falls
              (and_then (store_falls refl refl (address_above 0 site_address site_address (omega arith) (omega arith)) (control_lent setting h.call.things site_address (omega arith) (omega arith) refl))
              (record { same = refl })))))))).same
              ∙ step_then (code_at setting k t) primary_call last_steps regs' stored

      -- **the whole chain**, behind the first kind
      all_comes :
          (m : ℕ) (r3 r4 r5 r6 r7 r8 r9 : Option ℕ) (w : World) (z : FlatState) (y : MidState) → m ≤ suc t → IsHere w z y → HasWordAt y site_address site
          → CallEnds setting 174 m rs valid w around z y (go_on (all_of be z) (λ ignored x. primary_meant x))
          (exec (code_at setting k t) (code_of (chain_run setting.at)) (Some chain ∷ Some (length vs) ∷ Some address ∷ r3 ∷ r4 ∷ r5 ∷ r6 ∷ r7 ∷ r8 ∷ r9 ∷ rest) y)
      all_comes m r3 r4 r5 r6 r7 r8 r9 w z y turns h site_word =
          subst (λ q. CallEnds setting 174 m rs valid w around z y meant q) (sym code_comes)
          (going_on_law setting 132 42 174 m m rs valid w w around z z y (mid_charged paid y) meant
          (mid_go_on (exec_step (code_at setting k t) before_loop found_file (mid_charged paid y)) primary_then)
          (world_cost setting paid h.call.things) (around_cost setting {credit = 132} z y paid (omega (arith, within))) (omega arith) (omega arith) refl
          (methods_run setting k does rs valid around vs address site site_is (Some chain) rest before_method be t words.first words.others start_at m 0 found.third (Some (word % 8)) found.fifth
          r6 (Some first_at) w z (mid_charged paid y) (λ ignored x. primary_meant x) primary_then (omega arith) (λ e. omega (arith, e, later)) takes.before
          (subst (λ l. ConstantsAt setting start_at (method_words before_method be ++ l)) words.is (before_words setting chain whole at refl)) (omega (arith, enough)) few (omega (arith, turns)) (here_cost paid h)
          (λ ignored x. primary_grows x) (λ g x. behind_grows t primary_steps g x)
          (λ w' z' y' m' q3 q4 q5 q6 grew h' more_turns. primary_comes m' q3 q4 q5 q6 w' z' y' more_turns h')))
        where
          words : LaterFirst before_method (words_from_after whole)
          words = after_first whole

          later : before_method < words.first % 8
          later = words.later

          meant : FlatEvaluated
          meant = go_on (all_of be z) (λ ignored x. primary_meant x)

          before_loop : MidStep
          before_loop = loop setting k does rs valid around vs address site site_is (Some chain) rest before_method

          primary_then : Next
          primary_then g x = exec (code_at setting k t) (code_of primary_steps) g x

          start : LaterFirst around_method (chain_words whole)
          start = chain_first whole

          word : ℕ
          word = start.first

          other_kind : word % 8 ≡ around_method → ⊥
          other_kind e = let later_kind = start.later in omega (arith, e, later_kind)

          there : (word_at y.arena chain ≡ Some word) × (chain + 8 ≤ 2 ^ 32)
          there =
              let all : ConstantsAt setting chain (word ∷ start.others) = subst (λ l. ConstantsAt setting chain l) start.is at.words in constants_law setting w z y h.call.things chain word all.0

          seen : MidState
          seen = record y { cost = y.cost + 6 + 8 + 8 + 6 + 10 + 6 + 12 + 2 }

          found : Found setting k t seen (Some (length vs)) (Some address) (Some around_method) r6 r7 r8 (Some site ∷ rest) word chain whole
          found =
              primaries_law setting k t seen whole word start.others chain (Some (length vs)) (Some address) (Some around_method) r6 r7 r8 (Some site ∷ rest) (constants_law setting w z y h.call.things) at refl start.is

          found_file : Registers
          found_file = set_file found.third (Some (word % 8)) found.fifth r6 start_at (Some first_at)

          paid : ℕ
          paid = 58 + found.total

          within : found.total ≤ 74
          within = found.within

          primary_grows : (x : FlatState) → FlatGrown x (primary_meant x).state
          primary_grows x = runs_grow (record { around = []; before = []; primary = p ∷ ps; after = af }) x

          code_comes : exec (code_at setting k t) (code_of (chain_run setting.at)) (Some chain ∷ Some (length vs) ∷ Some address ∷ r3 ∷ r4 ∷ r5 ∷ r6 ∷ r7 ∷ r8 ∷ r9 ∷ rest) y
              ≡ mid_go_on (exec_step (code_at setting k t) before_loop found_file (mid_charged paid y)) primary_then
          code_comes =
              let small = there.1 in
              (and_then constant_falls (and_then (load_falls refl (address_above 0 site_address site_address (omega arith) (omega arith)) site_word)
              (and_then (load_falls refl (address_above chain 0 chain (omega arith) (omega (arith, small))) there.0)
              (and_then constant_falls (and_then (compute_known refl refl (and_mask word 3)) (and_then constant_falls
              (and_then (choose_second_falls refl refl (ne_eqb _ _ other_kind) none_left) (record { same = refl })))))))).same
              ∙ (parts_then (finds_primary setting.at) (methods_called setting.at before_method ++ primary_steps) (record { same = found.runs }) (record { same = refl })).same
              ∙ ap (λ n. exec (code_at setting k t) (code_of (before_loop ∷ primary_steps)) found_file (record y { cost = n })) (omega arith)
              ∙ step_then (code_at setting k t) before_loop primary_steps found_file (mid_charged paid y)

  -- ---- few turns

  -- a constant is a word of the memory
  constant_within : {w : World} {z : FlatState} {y : MidState} (a word : ℕ) → Things setting w z y → ConstantAt setting a word → a + 4 ≤ 4 * length y.arena.memory
  constant_within {y = y} a word things h =
      let further = things.further h.number word h.found in
      let within = slice_get_within setting.further h.number word h.found in
      let stands = things.represents.arena in
      let below = spot_below stands (things.represents.spots (of_other 2) (record { address = setting.further_at; words = length setting.further; tag = 0 }) further.0) in
      omega (arith, h.here, within, below, stands.room)

  chain_within :
      {w : World} {z : FlatState} {y : MidState} (chain p : ℕ) (be ps af : List ℕ) → Things setting w z y → ChainAt setting chain (record { around = []; before = be; primary = p ∷ ps; after = af })
      → length be + length af + 1 ≤ length y.arena.memory
  chain_within {w} {z} {y} chain p be ps af things at =
      let whole : Chain = record { around = []; before = be; primary = p ∷ ps; after = af } in
      let here = constant_within {w = w} {z = z} {y = y} (primary_at chain whole) (8 * p + primary_method) things (primary_words setting chain whole at refl).0 in
      omega (arith, here)

  -- **a chain runs**, with registers of its own and where its site is stored
  pub chain_comes :
      (t chain m : ℕ) (c : Chain) (r3 r4 r5 r6 r7 r8 r9 : Option ℕ) (rest : Registers) (w : World) (z : FlatState) (y : MidState) → t ≤ setting.turns_each → m ≤ suc t → (c.primary ≡ [] → ⊥)
      → ChainAt setting chain c → ChainTakes setting (length vs) c → IsHere w z y → SiteStored setting around y
      → CallEnds setting 174 m rs valid w around z y (runs c z)
      (exec (code_at setting k t) (code_of (chain_run setting.at)) (Some chain ∷ Some (length vs) ∷ Some address ∷ r3 ∷ r4 ∷ r5 ∷ r6 ∷ r7 ∷ r8 ∷ r9 ∷ rest) y)
  chain_comes t chain m c r3 r4 r5 r6 r7 r8 r9 rest w z y few turns some at takes h site =
      by c.around c.before c.primary c.after some at takes
    where
      by : (ar be pr af : List ℕ) → (pr ≡ [] → ⊥) → ChainAt setting chain (record { around = ar; before = be; primary = pr; after = af })
          → ChainTakes setting (length vs) (record { around = ar; before = be; primary = pr; after = af })
          → CallEnds setting 174 m rs valid w around z y (runs (record { around = ar; before = be; primary = pr; after = af }) z)
          (exec (code_at setting k t) (code_of (chain_run setting.at)) (Some chain ∷ Some (length vs) ∷ Some address ∷ r3 ∷ r4 ∷ r5 ∷ r6 ∷ r7 ∷ r8 ∷ r9 ∷ rest) y)
      by (p ∷ ms) be pr af some at takes =
          call_less setting (omega arith) (omega arith) (around_runs t chain site.0 few rest m p ms be pr af r3 r4 r5 r6 r7 r8 r9 w z y turns at takes h site.1 site.2)
      by [] be [] af some at takes = absurd (some refl)
      by [] be (p ∷ ps) af some at takes = turn (cases_lt t (length be + length af))
        where
          turn : (t < length be + length af) ⊎ (length be + length af ≤ t)
              → CallEnds setting 174 m rs valid w around z y (runs (record { around = []; before = be; primary = p ∷ ps; after = af }) z)
              (exec (code_at setting k t) (code_of (chain_run setting.at)) (Some chain ∷ Some (length vs) ∷ Some address ∷ r3 ∷ r4 ∷ r5 ∷ r6 ∷ r7 ∷ r8 ∷ r9 ∷ rest) y)
          turn (inl short) =
              let grown = (runs_grow (record { around = []; before = be; primary = p ∷ ps; after = af }) z).units in
              few_turns (omega (arith, short, turns, grown, chain_within {w = w} {z = z} {y = y} chain p be ps af h.call.things at))
          turn (inr enough) = all_comes t chain site.0 few rest p be ps af takes at site.2 enough m r3 r4 r5 r6 r7 r8 r9 w z y turns h site.1
