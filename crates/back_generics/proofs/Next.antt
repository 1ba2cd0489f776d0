-- **The routine of the next method**: without a chain, or at its end, there is none; else the chain runs, at the same level.
use Rattle.std.proofs.Common.{◌≡◌, inl, inr, ℕ, suc, ◌+◌, ◌%◌, ◌^◌, ◌<◌, ◌≤◌, false, List, [], ◌∷◌, ◌++◌, length, Option, Some, None, refl, sym, ap, ◌∙◌, subst, arith}
use Rattle.std.specs.Prelude.{slice_get}
use Rattle.std.proofs.lemmas.Bool.{eq-eqb, ne_eqb}
use Rattle.std.proofs.lemmas.Nat.{and_mask}
use Rattle.lang_meaning.specs.Objects.{Called, control_error_class}
use Rattle.lang_meaning.specs.State.{DynamicContext}
use Rattle.lang_meaning.specs.Values.{Value}
use Rattle.flat_language.specs.FlatMeaning.{mean_next}
use Rattle.flat_language.specs.FlatSignals.{signal, run_chain}
use Rattle.flat_language.specs.FlatState.{FlatState, FlatEvaluated}
use Rattle.mid_code.specs.declared.operation.Counted.TheVariants.{Turn}
use Rattle.mid_code.specs.declared.program.MidProcedure.{MidProcedure}
use Rattle.mid_code.specs.Arena.{word_at}
use Rattle.mid_code.specs.Law.{Grown}
use Rattle.mid_code.specs.Meaning.{exec, exec_step}
use Rattle.mid_code.specs.MidCode.{MidStep, return_word, code_of}
use Rattle.mid_code.specs.State.{Registers, ends, falls, MidState, MidOutcome, Next, jumped}
use Rattle.mid_code.specs.State.{charged as mid_charged, go_on as mid_go_on}
use Rattle.mid_code.proofs.Growth.{exec_grown, charged_grown, levels_grow, turns_grow}
use Rattle.mid_arena.proofs.Running.{and_then, none_left, constant_falls, compute_known, load_falls, choose_first, choose_second, choose_second_falls, address_above}
use Rattle.back_lowering.specs.ControlWords.{site_address, chain_end}
use Rattle.back_lowering.specs.Program.{procedure_with, framed, chain_frame, lowered}
use Rattle.back_lowering.specs.RoutineCodes.{signals, kind_into, chain_run, next_code}
use Rattle.back_lowering.specs.Routines.{failing_routine, next_routine}
use Rattle.back_lowering.specs.Steps.{Steps, constant, call, if_equal}
use Rattle.back_relation.specs.Setting.{Setting, ConstantsAt}
use Rattle.back_relation.specs.Placed.{IsPlaced}
use Rattle.back_relation.specs.Chains.{ChainTakes, ChainAt}
use Rattle.back_relation.specs.Room.{entry_words, failing_words, next_words}
use Rattle.back_relation.specs.Worlds.{World, Standing}
use Rattle.back_relation.specs.Around.{CallBegins, SiteStored}
use Rattle.back_relation.specs.Activation.{ArgumentsHeld, in_heap, on_stack, ArgumentsThere, MethodHeld, MethodThere}
use Rattle.back_relation.specs.Ends.{CallEnds}
use Rattle.back_relation.specs.Forms.{context_at, code_at}
use Rattle.back_relation.specs.Procedures.{called, as_registers, ArgumentsGiven}
use Rattle.back_relation.specs.RoutineClaims.{next_credit}
use Rattle.back_relation.specs.Starts.{FlatGrown}
use Rattle.back_relation.proofs.Growth.{grown_later}
use Rattle.back_relation.proofs.Parts.{step_then}
use Rattle.back_relation.proofs.Straight.{world_cost, around_cost}
use Rattle.back_calling.specs.Entering.{Inside}
use Rattle.back_calling.proofs.Entered.{turns_entered}
use Rattle.back_calling.proofs.Growing.{signal_later}
use Rattle.back_calling.proofs.Inner.{going_on_law, passing_law, returned}
use Rattle.back_calling.proofs.Numbers.{numbers_law}
use Rattle.back_exits.proofs.Points.{point_begins}
use Rattle.back_exits.proofs.Within.{call_less, begins_less}
use Rattle.back_conditions.specs.Law.{ConditionsDo}
use Rattle.back_values.proofs.Constants.{constants_law}
use Rattle.back_values.proofs.Words.{has_first}
use Rattle.back_generics.specs.Methods.{EntriesDo, LawOfNext}
use Rattle.back_generics.proofs.Given.{given_inside}
use Rattle.back_generics.proofs.Running.{chain_comes, runs_grow}

module _ (setting : Setting) (k : ℕ) (around : DynamicContext) (fails : ConditionsDo setting k 1 around) where
  abbrev meant_failing : FlatState → FlatEvaluated
  meant_failing z = signal (context_at setting k) control_error_class [] around z

  behind_grows : (t : ℕ) (ss : Steps) (g : Registers) (x : MidState) → Grown x (exec (code_at setting k t) (code_of ss) g x).state
  behind_grows t ss g x =
      exec_grown (code_at setting k t) (levels_grow setting.procedures setting.turns_each k)
      (turns_grow setting.procedures _ (levels_grow setting.procedures setting.turns_each k) t) (code_of ss) g x

  begins_at : {rs valid : List Standing} {n : ℕ} {w : World} {z : FlatState} {y : MidState} (cost : ℕ) → CallBegins setting rs valid n w around z y → CallBegins setting rs valid n w around z (mid_charged cost y)
  begins_at {z = z} {y = y} cost b = point_begins setting (world_cost setting cost b.things) (around_cost setting {credit = cost} z y cost (omega arith)) b

  -- there is no next method
  fails_here :
      (t : ℕ) → t ≤ setting.turns_each → (rs valid : List Standing) (w : World) (z : FlatState) (y : MidState) (o0 o1 o2 o3 o4 : Option ℕ) (rest : Registers) → CallBegins setting rs valid entry_words w around z y
      → SiteStored setting around y
      → CallEnds setting 116 (suc t) rs valid w around z y (meant_failing z)
      (exec (code_at setting k t) (code_of (signals setting.at 4 control_error_class)) (o0 ∷ o1 ∷ o2 ∷ o3 ∷ o4 ∷ rest) y)
  fails_here t few rs valid w z y o0 o1 o2 o3 o4 rest begins site =
      subst (λ q. CallEnds setting 116 (suc t) rs valid w around z y (meant_failing z) q) (sym (and_then constant_falls (record { same = refl })).same)
      (going_on_law setting 6 110 116 (suc t) (suc t) rs valid w w around z z y (mid_charged 6 y) (meant_failing z)
      (exec (code_at setting k t) (code_of (call 4 (failing_routine setting.at) (4 ∷ []) ∷ return_word 4 ∷ [])) (o0 ∷ o1 ∷ o2 ∷ o3 ∷ Some control_error_class ∷ rest) (mid_charged 6 y))
      (world_cost setting 6 begins.things) (around_cost setting {credit = 6} z y 6 (omega arith)) (omega arith) (omega arith) refl
      (returned setting k t 50 (suc t) 4 (failing_routine setting.at) (4 ∷ []) (control_error_class ∷ []) [] rs valid w around z (mid_charged 6 y) (o0 ∷ o1 ∷ o2 ∷ o3 ∷ Some control_error_class ∷ rest)
      (meant_failing z) (refl, tt) (omega arith) (begins_at 6 begins).things
      (call_less setting (omega arith) (omega arith)
      ((fails t rs valid w z (mid_charged 46 (mid_charged 6 y)) few).class_alone control_error_class (record { low = omega arith; high = omega arith; slots = refl }) site
      (begins_less setting failing_words (omega arith) (begins_at 46 (begins_at 6 begins)))))))

-- the arguments of a call
given_of :
    (setting : Setting) (w : World) (y : MidState) (address : ℕ) (c : Called) → ArgumentsHeld w y.arena address c → ArgumentsThere w y.arena address c
    → ArgumentsGiven setting w y.arena address c.arguments
given_of setting w y address c (in_heap kept) there = inr kept
given_of setting w y address c (on_stack values plain) (inl kept) = inr kept
given_of setting w y address c (on_stack values plain) (inr low) = inl (record { low = low.0; is_word = low.1; values = values low.0; plain = plain })

module _ (setting : Setting) (k : ℕ) (around : DynamicContext) (fails : ConditionsDo setting k 1 around)
    (does : EntriesDo setting k) (rs valid : List Standing) where
  abbrev failing : Steps
  failing = signals setting.at 4 control_error_class

  abbrev at_end : Steps
  at_end = kind_into setting.at 4 3 0 ++ (constant 5 chain_end ∷ if_equal 4 5 failing [] ∷ [])

  abbrev run_steps : Steps
  run_steps = chain_run setting.at

  abbrev first_choice : MidStep
  first_choice = if_equal 0 3 failing at_end

  abbrev nothing_yet : Registers
  nothing_yet = None ∷ None ∷ None ∷ None ∷ None ∷ []

  abbrev behind : (t : ℕ) → Next
  behind t g x = exec (code_at setting k t) (code_of run_steps) g x

  -- code that fails, behind which code does not run
  passes :
      (t credit : ℕ) (w : World) (z : FlatState) (y : MidState) (r : FlatEvaluated) (q : MidOutcome) → CallEnds setting credit (suc t) rs valid w around z y r q
      → CallEnds setting credit (suc t) rs valid w around z y r (mid_go_on (jumped q) (behind t))
  passes t credit w z y r q e =
      passing_law setting credit (suc t) rs valid w around z y r (jumped q) (behind t) (λ g x. behind_grows setting k around fails t run_steps g x)
      (passing_law setting credit (suc t) rs valid w around z y r q (λ g x. ends falls g (mid_charged 2 x)) (λ g x. charged_grown 2 x) e)

  -- the code comes to its first choice
  begins_code :
      (t chain count address : ℕ) (y : MidState)
      → exec (code_at setting k t) (code_of (next_code setting.at)) (Some chain ∷ Some count ∷ Some address ∷ None ∷ None ∷ nothing_yet) y
      ≡ mid_go_on (exec_step (code_at setting k t) first_choice (Some chain ∷ Some count ∷ Some address ∷ Some 0 ∷ None ∷ nothing_yet) (mid_charged 6 y)) (behind t)
  unfolding next_code
  begins_code t chain count address y =
      (and_then constant_falls (record { same = refl })).same ∙ step_then (code_at setting k t) first_choice run_steps (Some chain ∷ Some count ∷ Some address ∷ Some 0 ∷ None ∷ nothing_yet) (mid_charged 6 y)

  without_chain :
      (t count address : ℕ) → t ≤ setting.turns_each → (w : World) (z : FlatState) (y : MidState) → CallBegins setting rs valid entry_words w around z y → SiteStored setting around y
      → CallEnds setting 134 (suc t) rs valid w around z y (meant_failing setting k around fails z)
      (exec (code_at setting k t) (code_of (next_code setting.at)) (Some 0 ∷ Some count ∷ Some address ∷ None ∷ None ∷ nothing_yet) y)
  without_chain t count address few w z y begins site =
      let regs : Registers = Some 0 ∷ Some count ∷ Some address ∷ Some 0 ∷ None ∷ nothing_yet in
      let inner : MidOutcome = exec (code_at setting k t) (code_of failing) regs (mid_charged 18 y) in
      let chosen : exec_step (code_at setting k t) first_choice regs (mid_charged 6 y) ≡ jumped inner =
      (choose_first refl refl (eq-eqb 0 0 refl) (record { same = refl })).same ∙ ap (λ n. jumped (exec (code_at setting k t) (code_of failing) regs (record y { cost = n }))) (omega arith) in
      subst (λ q. CallEnds setting 134 (suc t) rs valid w around z y (meant_failing setting k around fails z) q)
      (sym (begins_code t 0 count address y ∙ ap (λ q. mid_go_on q (behind t)) chosen))
      (passes t 134 w z y (meant_failing setting k around fails z) inner
      (going_on_law setting 18 116 134 (suc t) (suc t) rs valid w w around z z y (mid_charged 18 y) (meant_failing setting k around fails z) inner (world_cost setting 18 begins.things)
      (around_cost setting {credit = 18} z y 18 (omega arith)) (omega arith) (omega arith) refl
      (fails_here setting k around fails t few rs valid w z (mid_charged 18 y) (Some 0) (Some count) (Some address) (Some 0) None nothing_yet (begins_at setting k around fails 18 begins) site)))

  -- the first word of the chain says whether it is its end
  module _ (t chain count address word : ℕ) (few : t ≤ setting.turns_each) (w : World) (z : FlatState) (y : MidState) (begins : CallBegins setting rs valid entry_words w around z y) (some : 1 ≤ chain)
      (at : ConstantsAt setting chain (word ∷ [])) where
    abbrev seen : Registers
    seen = Some chain ∷ Some count ∷ Some address ∷ Some word ∷ Some (word % 8) ∷ Some 4 ∷ None ∷ None ∷ None ∷ None ∷ []

    there : (word_at y.arena chain ≡ Some word) × (chain + 8 ≤ 2 ^ 32)
    there = constants_law setting w z y begins.things chain word at.0

    abbrev last_choice : MidStep
    last_choice = if_equal 4 5 failing []

    second_choice :
        exec_step (code_at setting k t) first_choice (Some chain ∷ Some count ∷ Some address ∷ Some 0 ∷ None ∷ nothing_yet) (mid_charged 6 y)
        ≡ jumped (exec (code_at setting k t) (code_of (last_choice ∷ [])) seen (mid_charged 48 y))
    second_choice =
        let small = there.1 in
        (choose_second refl refl (ne_eqb chain 0 (λ e. omega (arith, e, some)))
        (and_then (load_falls refl (address_above chain 0 chain (omega arith) (omega (arith, small))) there.0)
        (and_then constant_falls (and_then (compute_known refl refl (and_mask word 3)) (and_then constant_falls (record { same = refl })))))).same
        ∙ ap (λ n. jumped (exec (code_at setting k t) (code_of (last_choice ∷ [])) seen (record y { cost = n }))) (omega arith)

    goes_to_chain : (word % 8 ≡ chain_end → ⊥)
        → exec (code_at setting k t) (code_of (next_code setting.at)) (Some chain ∷ Some count ∷ Some address ∷ None ∷ None ∷ nothing_yet) y
        ≡ exec (code_at setting k t) (code_of run_steps) seen (mid_charged 64 y)
    unfolding mid_go_on
    goes_to_chain other =
        let fell : exec (code_at setting k t) (code_of (last_choice ∷ [])) seen (mid_charged 48 y) ≡ ends falls seen (mid_charged 62 y) =
        (and_then (choose_second_falls refl refl (ne_eqb _ _ other) none_left) none_left).same ∙ ap (λ n. ends falls seen (record y { cost = n })) (omega arith) in
        begins_code t chain count address y ∙ ap (λ q. mid_go_on q (behind t)) (second_choice ∙ ap jumped fell)
        ∙ ap (λ n. exec (code_at setting k t) (code_of run_steps) seen (record y { cost = n })) (omega arith)

    at_its_end : word % 8 ≡ chain_end → SiteStored setting around y
        → CallEnds setting 176 (suc t) rs valid w around z y (meant_failing setting k around fails z)
        (exec (code_at setting k t) (code_of (next_code setting.at)) (Some chain ∷ Some count ∷ Some address ∷ None ∷ None ∷ nothing_yet) y)
    at_its_end is site =
        let inner : MidOutcome = exec (code_at setting k t) (code_of failing) seen (mid_charged 60 y) in
        let chosen : exec_step (code_at setting k t) last_choice seen (mid_charged 48 y) ≡ jumped inner =
        (choose_first refl refl (eq-eqb _ _ is) (record { same = refl })).same ∙ ap (λ n. jumped (exec (code_at setting k t) (code_of failing) seen (record y { cost = n }))) (omega arith) in
        let last : MidOutcome = exec (code_at setting k t) (code_of (last_choice ∷ [])) seen (mid_charged 48 y) in
        let ended : CallEnds setting 116 (suc t) rs valid w around z (mid_charged 60 y) (meant_failing setting k around fails z) inner =
        fails_here setting k around fails t few rs valid w z (mid_charged 60 y) (Some chain) (Some count) (Some address) (Some word) (Some (word % 8)) (Some 4 ∷ None ∷ None ∷ None ∷ None ∷ [])
        (begins_at setting k around fails 60 begins) site in
        let here : CallEnds setting 176 (suc t) rs valid w around z y (meant_failing setting k around fails z) inner =
        going_on_law setting 60 116 176 (suc t) (suc t) rs valid w w around z z y (mid_charged 60 y) (meant_failing setting k around fails z) inner (world_cost setting 60 begins.things)
        (around_cost setting {credit = 60} z y 60 (omega arith)) (omega arith) (omega arith) refl ended in
        let comes : CallEnds setting 176 (suc t) rs valid w around z y (meant_failing setting k around fails z) last =
        subst (λ q. CallEnds setting 176 (suc t) rs valid w around z y (meant_failing setting k around fails z) q)
        (sym (step_then (code_at setting k t) last_choice [] seen (mid_charged 48 y) ∙ ap (λ q. mid_go_on q (λ g x. exec (code_at setting k t) (code_of []) g x)) chosen))
        (passing_law setting 176 (suc t) rs valid w around z y (meant_failing setting k around fails z) (jumped inner) (λ g x. exec (code_at setting k t) (code_of []) g x)
        (λ g x. behind_grows setting k around fails t [] g x)
        (passing_law setting 176 (suc t) rs valid w around z y (meant_failing setting k around fails z) inner (λ g x. ends falls g (mid_charged 2 x)) (λ g x. charged_grown 2 x) here)) in
        subst (λ q. CallEnds setting 176 (suc t) rs valid w around z y (meant_failing setting k around fails z) q)
        (sym (begins_code t chain count address y ∙ ap (λ q. mid_go_on q (behind t)) second_choice)) (passes t 176 w z y (meant_failing setting k around fails z) last comes)

  -- ---- the call of a method

  chain_of :
      (t : ℕ) (c : Called) (chain address : ℕ) (w : World) (z : FlatState) (y : MidState) → t ≤ setting.turns_each → ChainAt setting chain c.rest
      → ChainTakes setting (length c.arguments) c.rest → ArgumentsGiven setting w y.arena address c.arguments → CallBegins setting rs valid entry_words w around z y → SiteStored setting around y
      → CallEnds setting 238 (suc t) rs valid w around z y
      (run_chain (context_at setting k) (signal (context_at setting k)) c.rest c.arguments around z)
      (exec (code_at setting k t) (code_of (next_code setting.at)) (Some chain ∷ Some (length c.arguments) ∷ Some address ∷ None ∷ None ∷ nothing_yet) y)
  chain_of t c chain address w z y few at takes given begins site = by c.rest.around c.rest.before c.rest.primary c.rest.after at takes
    where
      vs : List Value
      vs = c.arguments

      by : (ar be pr af : List ℕ) → ChainAt setting chain (record { around = ar; before = be; primary = pr; after = af })
          → ChainTakes setting (length vs) (record { around = ar; before = be; primary = pr; after = af })
          → CallEnds setting 238 (suc t) rs valid w around z y
          (run_chain (context_at setting k) (signal (context_at setting k)) (record { around = ar; before = be; primary = pr; after = af }) vs around z)
          (exec (code_at setting k t) (code_of (next_code setting.at)) (Some chain ∷ Some (length vs) ∷ Some address ∷ None ∷ None ∷ nothing_yet) y)
      by [] [] [] [] at takes = call_less setting (omega arith) (omega arith) (at_its_end t chain (length vs) address chain_end few w z y begins at.some (at.words.0, tt) refl site)
      by (p ∷ ps) be [] af at takes = absurd (cc ((at.no_other refl).0))
      by [] (p ∷ ps) [] af at takes = absurd (cc ((at.no_other refl).1))
      by [] [] [] (p ∷ ps) at takes = absurd (cc ((at.no_other refl).2))
      by ar be (p ∷ ps) af at takes =
          let first = has_first (record { around = ar; before = be; primary = p ∷ ps; after = af }) (λ e. absurd (cc e)) in
          let all : ConstantsAt setting chain (first.first ∷ first.others) = subst (λ l. ConstantsAt setting chain l) first.is at.words in
          subst
          (λ q.
          CallEnds setting 238 (suc t) rs valid w around z y
          (run_chain (context_at setting k) (signal (context_at setting k)) (record { around = ar; before = be; primary = p ∷ ps; after = af }) vs around z) q)
          (sym (goes_to_chain t chain (length vs) address first.first few w z y begins at.some (all.0, tt) first.no_end))
          (going_on_law setting 64 174 238 (suc t) (suc t) rs valid w w around z z y (mid_charged 64 y)
          (run_chain (context_at setting k) (signal (context_at setting k)) (record { around = ar; before = be; primary = p ∷ ps; after = af }) vs around z)
          (exec (code_at setting k t) (code_of run_steps) (seen t chain (length vs) address first.first few w z y begins at.some (all.0, tt)) (mid_charged 64 y)) (world_cost setting 64 begins.things)
          (around_cost setting {credit = 64} z y 64 (omega arith)) (omega arith) (omega arith) refl
          (chain_comes setting k does rs valid around vs address t chain (suc t) (record { around = ar; before = be; primary = p ∷ ps; after = af })
          (Some first.first) (Some (first.first % 8)) (Some 4) None None None None [] w z (mid_charged 64 y) few (omega arith) (λ e. absurd (cc e)) at takes
          (record { call = begins_at setting k around fails 64 begins; given = given }) site))

  -- ---- the routine

  abbrev routine : MidProcedure
  routine = framed chain_frame (procedure_with Turn 3 (next_code setting.at))

  found : IsPlaced setting → slice_get (lowered setting.names setting.at setting.program) (next_routine setting.at) ≡ Some routine
  found placed = (numbers_law setting).routine 14 routine placed refl

  entered :
      (turns cost chain count address : ℕ) (w : World) (z : FlatState) (y : MidState) (r : FlatEvaluated) → IsPlaced setting → FlatGrown z r.state → CallBegins setting rs valid next_words w around z y
      → ((t : ℕ) → turns ≡ suc t → (y' : MidState) → Inside setting rs valid entry_words 38 w around z y y'
      → CallEnds setting cost (suc t) rs valid w around z y' r
      (exec (code_at setting k t) (code_of (next_code setting.at)) (Some chain ∷ Some count ∷ Some address ∷ None ∷ None ∷ nothing_yet) y'))
      → CallEnds setting (cost + 38) turns rs valid w around z y r (called (code_at setting k turns) (next_routine setting.at) (chain ∷ count ∷ address ∷ []) y)
  unfolding next_code
  entered turns cost chain count address w z y r placed grown begins body =
      let units = grown.units in
      turns_entered setting k turns (next_routine setting.at) turns next_words entry_words cost routine (chain ∷ count ∷ address ∷ []) rs valid w around z y r (found placed) refl refl (omega arith)
      (omega (arith, units)) grown.printed (λ ended. omega (arith, units)) begins
      (λ t e y' here. subst (λ m. CallEnds setting cost m rs valid w around z y' r (exec (code_at setting k t) (code_of (next_code setting.at)) (Some chain ∷ Some count ∷ Some address ∷ None ∷ None ∷ nothing_yet) y')) (sym e) (body t e y' here))

  next_does :
      (turns : ℕ) (called_as : Option Called) (chain count address : ℕ) (w : World) (z : FlatState) (y : MidState) → IsPlaced setting → turns ≤ suc setting.turns_each
      → MethodHeld setting w y.arena false (as_registers (chain ∷ count ∷ address ∷ [])) (Some 0) called_as
      → MethodThere setting w y.arena (as_registers (chain ∷ count ∷ address ∷ [])) (Some 0) called_as → SiteStored setting around y → CallBegins setting rs valid next_words w around z y
      → CallEnds setting next_credit turns rs valid w around z y (mean_next (context_at setting k) called_as around z)
      (called (code_at setting k turns) (next_routine setting.at) (chain ∷ count ∷ address ∷ []) y)
  next_does turns None chain count address w z y placed few held there site begins =
      let none : chain ≡ 0 = cc held.2 in
      call_less setting (omega arith) (omega arith)
      (entered turns 134 chain count address w z y (meant_failing setting k around fails z) placed (grown_later (signal_later setting k control_error_class [] around z)) begins
      (λ t e y' here.
      subst (λ x. CallEnds setting 134 (suc t) rs valid w around z y' (meant_failing setting k around fails z) (exec (code_at setting k t) (code_of (next_code setting.at)) (Some x ∷ Some count ∷ Some address ∷ None ∷ None ∷ nothing_yet) y')) (sym none)
      (without_chain t count address (omega (arith, e, few)) w z y' here.call (site.0, here.words site_address ∙ site.1, site.2))))
  next_does turns (Some c) chain count address w z y placed few held there site begins =
      subst (λ n. CallEnds setting next_credit turns rs valid w around z y meant (called (code_at setting k turns) (next_routine setting.at) (chain ∷ n ∷ address ∷ []) y)) (sym same_count)
      (call_less setting (omega arith) (omega arith)
      (entered turns 238 chain (length c.arguments) address w z y meant placed grows begins
      (λ t e y' here.
      chain_of t c chain address w z y' (omega (arith, e, few)) chain_stands held.takes (given_inside setting here.words here.from (given_of setting w y address c arguments_held (there address refl))) here.call
      (site.0, here.words site_address ∙ site.1, site.2))))
    where
      meant : FlatEvaluated
      meant = run_chain (context_at setting k) (signal (context_at setting k)) c.rest c.arguments around z

      grows : FlatGrown z meant.state
      grows = runs_grow setting k does rs valid around c.arguments address c.rest z

      same_count : count ≡ length c.arguments
      same_count = cc held.count_word

      chain_stands : ChainAt setting chain c.rest
      chain_stands = let same : held.chain ≡ chain = cc (sym held.chain_word) in subst (λ x. ChainAt setting x c.rest) same held.chain_stands

      arguments_held : ArgumentsHeld w y.arena address c
      arguments_held = let same : held.arguments ≡ address = cc (sym held.arguments_word) in subst (λ x. ArgumentsHeld w y.arena x c) same held.held

pub next_law : LawOfNext
next_law setting k turns rs valid w around z y placed few does fails called_as chain count address held there site begins =
    next_does setting k around fails does rs valid turns called_as chain count address w z y placed few held there site begins
