-- Levels are judged: by the routine that does nothing a level below, which leaves all words as they are, and by what calls it.
use Rattle.std.proofs.Common.{◌≡◌, ◌⊎◌, inl, inr, ℕ, zero, suc, ◌+◌, ◌*◌, ◌<◌, ◌≤◌, List, [], ◌∷◌, length, Some, refl, sym, ap, ◌∙◌, subst, arith}
use Rattle.std.specs.Prelude.{slice_set}
use Rattle.std.proofs.lemmas.Bool.{cases_lt}
use Rattle.lang_meaning.specs.Prefixes.{IsPrefix}
use Rattle.lang_meaning.specs.State.{DynamicContext, Limit, words, unlimited, more, value}
use Rattle.lang_meaning.specs.Values.{nil}
use Rattle.lang_meaning.specs.Counts.{unit_cost}
use Rattle.flat_language.specs.FlatMeaning.{flat_meaning_at}
use Rattle.flat_language.specs.FlatSignals.{nothing, descend}
use Rattle.flat_language.specs.FlatState.{FlatEnvironment, no_environment, FlatState, FlatEvaluated, gives, go_on}
use Rattle.mid_code.specs.declared.operation.Counted.TheVariants.{Level}
use Rattle.mid_code.specs.declared.program.MidProcedure.{MidProcedure}
use Rattle.mid_code.specs.Arena.{left, with_blocks}
use Rattle.mid_code.specs.Costs.{return_cost}
use Rattle.mid_code.specs.Law.{Grown}
use Rattle.mid_code.specs.Meaning.{Context, run_procedure, exec_step}
use Rattle.mid_code.specs.MidCode.{code_of}
use Rattle.mid_code.specs.State.{Registers, returns, ends, first_registers, with_arena, MidState, MidOutcome, Next}
use Rattle.mid_code.specs.State.{charged as mid_charged, go_on as mid_go_on}
use Rattle.mid_arena.proofs.Leaving.{leaves_returned}
use Rattle.mid_arena.proofs.Running.{RunsTo, and_then, and_ends, costing, constant_falls, return_ends, entered}
use Rattle.back_lowering.specs.ControlWords.{site_address}
use Rattle.back_lowering.specs.Program.{procedure_with}
use Rattle.back_lowering.specs.RoutineCodes.{level_code}
use Rattle.back_lowering.specs.Routines.{level_routine}
use Rattle.back_lowering.specs.Steps.{call}
use Rattle.back_relation.specs.Setting.{Setting}
use Rattle.back_relation.specs.Room.{level_words, words_for_handler}
use Rattle.back_relation.specs.Placed.{IsPlaced}
use Rattle.back_relation.specs.Things.{WithinLimit}
use Rattle.back_relation.specs.Worlds.{World, Standing}
use Rattle.back_relation.specs.Around.{RoomFor, CallBegins, SiteStored}
use Rattle.back_relation.specs.Ends.{WorldKept, Around, Ends, RoomEnded, done, stopped, Fell, Left, Returned, LeftCall}
use Rattle.back_relation.specs.Forms.{below_at, code_at}
use Rattle.back_relation.specs.Procedures.{called}
use Rattle.back_relation.specs.RoutineClaims.{level_credit, LevelThere}
use Rattle.back_relation.specs.Starts.{FlatGrown, ReachedFrom}
use Rattle.back_relation.proofs.Activations.{activation_later}
use Rattle.back_relation.proofs.Growth.{same_flat}
use Rattle.back_relation.proofs.Straight.{set_beside, registers_set, world_cost, around_cost}
use Rattle.back_relation.proofs.Then.{same_world, world_then, back_then, call_then}
use Rattle.back_calling.proofs.Entered.{framed, with_room, without_room, RunsAt, level_runs, no_level_ends, untouched_words, untouched_world, untouched_around}
use Rattle.back_calling.proofs.Inner.{looked, nothing_because, going_on_law}
use Rattle.back_calling.proofs.Numbers.{numbers_law}
use Rattle.back_calling.specs.Applying.{judging_cost, LawOfLevelsThere, LawOfJudgedLevels, LawOfFormLevels}

module _ (setting : Setting) where
  level_gives : (j : ℕ) (env : FlatEnvironment) (around : DynamicContext) (z : FlatState) → below_at setting (suc j) nothing env around z ≡ gives nil z
  unfolding flat_meaning_at
  level_gives zero env around z = refl
  level_gives (suc j) env around z = refl

  -- where there is a level, what comes behind it
  pub level_there : (j : ℕ) (next : FlatState → FlatEvaluated) (around : DynamicContext) (z : FlatState) → descend (below_at setting (suc j)) next around z ≡ next z
  level_there j next around z = ap (λ s. go_on s (λ v after. next after)) (level_gives j no_environment around z)

  abbrev routine : MidProcedure
  routine = procedure_with Level 0 (level_code setting.at)

  frame_small : routine.frame ≤ level_words
  unfolding level_code
  frame_small = omega arith

  abbrev routine_cost : ℕ
  routine_cost = 6 + return_cost

  -- behind the routine, which cost so much beside its entry
  abbrev given_back : (frame : ℕ) → MidState → MidState
  given_back f y = with_arena (with_blocks y.arena.blocks (entered (framed routine f) y).arena) (mid_charged routine_cost (entered (framed routine f) y))

  -- what the routine does where there is room for its frame
  routine_runs :
      (c : Context) (f : ℕ) (y : MidState) → f ≤ left y.arena → run_procedure c (framed routine f) [] y ≡ ends (returns 0) (Some 0 ∷ []) (given_back f y)
  unfolding level_code
  routine_runs c f y some =
      let run : RunsTo c (code_of (level_code setting.at)) (first_registers routine.registers []) (entered (framed routine f) y) (ends (returns 0) (Some 0 ∷ []) (mid_charged routine_cost (entered (framed routine f) y))) =
      costing (and_then constant_falls (and_ends tt (return_ends refl))) (omega arith) in
      with_room c (framed routine f) [] y refl some ∙ leaves_returned y.arena.blocks _ (ap (λ (q : MidOutcome). q.end) run.same)
      ∙ ap (λ (q : MidOutcome). ends (returns 0) q.registers (with_arena (with_blocks y.arena.blocks q.state.arena) q.state)) run.same

  module _ (j turns m : ℕ) (rs valid : List Standing) (w : World) (around : DynamicContext) (z : FlatState) (y : MidState) where
    abbrev IsThere : MidOutcome → Type 0
    IsThere q = LevelThere setting (suc j) turns rs valid w around z y q

    abbrev below_it : Context
    below_it = code_at setting j setting.turns_each

    -- with a frame that is within its own
    with_frame :
        (f : ℕ) → f ≤ level_words → CallBegins setting rs valid level_words w around z y → (left y.arena < f) ⊎ (f ≤ left y.arena)
        → Ends setting level_credit (IsThere (run_procedure below_it (framed routine f) [] y)) ⊥ m z y (gives nil z) (run_procedure below_it (framed routine f) [] y)
    with_frame f within b (inl few) =
        subst (λ q. Ends setting level_credit (IsThere q) ⊥ m z y (gives nil z) q) (sym (without_room below_it (framed routine f) [] y refl few))
        (stopped (record {
          because = (wanting setting.limit b.room b.things.within_limit, few);
          printed = subst (λ ps. IsPrefix ps z.state.printed) (sym b.things.represents.printed) (same_flat z).printed;
          paid = λ ended. omega arith;
        }))
      where
        wanting : (l : Limit) → RoomFor l (level_words + words_for_handler * length around.handlers) z.state y → WithinLimit l z.state → RoomEnded setting l (value nil)
        wanting unlimited h k = tt
        wanting (words n) h k = absurd (omega (arith, h, k, few, within))
    with_frame f within b (inr some) =
        subst (λ q. Ends setting level_credit (IsThere q) ⊥ m z y (gives nil z) q) (sym (routine_runs below_it f y some))
        (done (record {
          word = 0;
          end = refl;
          world = untouched_world setting (framed routine f) b.things some routine_cost;
          back = record {
            control = (untouched_around setting (framed routine f) b.things some routine_cost).control;
            blocks = (untouched_around setting (framed routine f) b.things some routine_cost).blocks;
            charged = (untouched_around setting (framed routine f) b.things some routine_cost).charged;
            paid = let paid = (untouched_around setting (framed routine f) b.things some routine_cost).paid in omega (arith, paid);
          };
          site = λ stored. (stored.0, untouched_words setting (framed routine f) b.things some routine_cost site_address ∙ stored.1, stored.2);
        }))

  -- whatever turns are asked for
  pub levels_there_at :
      (j turns m : ℕ) (rs valid : List Standing) (w : World) (around : DynamicContext) (z : FlatState) (y : MidState) → IsPlaced setting
      → CallBegins setting rs valid level_words w around z y
      → Ends setting level_credit (LevelThere setting (suc j) turns rs valid w around z y (called (code_at setting (suc j) turns) (level_routine setting.at) [] y)) ⊥ m z y (gives nil z)
      (called (code_at setting (suc j) turns) (level_routine setting.at) [] y)
  levels_there_at j turns m rs valid w around z y placed b =
      let at : RunsAt setting j turns (level_routine setting.at) routine [] y = level_runs setting j turns (level_routine setting.at) routine [] y ((numbers_law setting).routine 15 _ placed refl) refl in
      subst (λ q. Ends setting level_credit (IsThere j turns m rs valid w around z y q) ⊥ m z y (gives nil z) q) (sym at.runs)
      (with_frame j turns m rs valid w around z y at.frame (let within = at.within in omega (arith, within, frame_small)) b (cases_lt (left y.arena) at.frame))

  pub levels_there_law : LawOfLevelsThere setting
  levels_there_law zero turns rs valid w around z y placed b =
      no_level_ends setting turns (level_routine setting.at) turns routine [] w z y y _ ((numbers_law setting).routine 15 _ placed refl) refl refl (same_flat z) b.things
  levels_there_law (suc j) turns rs valid w around z y placed b =
      let code_end : MidOutcome = called (code_at setting (suc j) turns) (level_routine setting.at) [] y in
      subst (λ r. Ends setting level_credit (IsThere j turns turns rs valid w around z y code_end) ⊥ turns z y r code_end) (sym (level_there j (λ entered. gives nil entered) around z))
      (levels_there_at j turns turns rs valid w around z y placed b)

  -- ---- what comes behind a level

  abbrev level_called : (k turns : ℕ) → MidState → MidOutcome
  level_called k turns y = called (code_at setting k turns) (level_routine setting.at) [] (mid_charged 40 y)

  abbrev behind_level : (k turns t : ℕ) → Registers → MidState → Next → MidOutcome
  behind_level k turns t regs y next = mid_go_on (exec_step (code_at setting k turns) (call t (level_routine setting.at) []) regs y) next

  abbrev IsJudged : (k turns : ℕ) → (rs valid : List Standing) → World → DynamicContext → FlatState → MidState → Type 0
  IsJudged k turns rs valid w around z y = LevelThere setting k turns rs valid w around z (mid_charged 40 y) (level_called k turns y)

  -- the level is judged behind the cost of the call
  judged :
      (j turns : ℕ) (rs valid : List Standing) (w : World) (around : DynamicContext) (z : FlatState) (y : MidState) → IsPlaced setting → CallBegins setting rs valid level_words w around z y
      → Ends setting level_credit (IsJudged (suc j) turns rs valid w around z y) ⊥ turns z (mid_charged 40 y) (gives nil z) (level_called (suc j) turns y)
  judged j turns rs valid w around z y placed b =
      subst (λ r. Ends setting level_credit (IsJudged (suc j) turns rs valid w around z y) ⊥ turns z (mid_charged 40 y) r (level_called (suc j) turns y))
      (level_there j (λ entered. gives nil entered) around z)
      (levels_there_law (suc j) turns rs valid w around z (mid_charged 40 y) placed
      (call_then setting (world_cost setting 40 b.things) (around_cost setting {credit = 40} z y 40 (omega arith)) level_words b (room setting.limit b.room)))
    where
      room : (l : Limit) → RoomFor l (level_words + words_for_handler * length around.handlers) z.state y → RoomFor l (level_words + words_for_handler * length around.handlers) z.state (mid_charged 40 y)
      room unlimited h = tt
      room (words n) h = h

  -- whatever it comes to
  judged_by :
      (credit : ℕ) (Done Left : FlatEvaluated → MidOutcome → Type 0) (k turns m t : ℕ) (rs valid : List Standing) (w : World) (around : DynamicContext) (z : FlatState) (y : MidState) (regs : Registers)
      (f : FlatState → FlatEvaluated) (next : Next)
      → IsPlaced setting → CallBegins setting rs valid level_words w around z y → m ≤ turns → judging_cost ≤ credit → FlatGrown z (f z).state
      → ((g : Registers) (x : MidState) → Grown x (next g x).state)
      → ((j : ℕ) → k ≡ suc j → (word : ℕ) (y' : MidState) → WorldKept setting w w z z y y' → Around setting judging_cost z z y y' → (SiteStored setting around y → SiteStored setting around y')
      → Ends setting credit (Done (f z) (next (slice_set regs t (Some word)) y')) (Left (f z) (next (slice_set regs t (Some word)) y')) m z y (f z) (next (slice_set regs t (Some word)) y'))
      → Ends setting credit (Done (descend (below_at setting k) f around z) (behind_level k turns t regs y next)) (Left (descend (below_at setting k) f around z) (behind_level k turns t regs y next)) m z y
      (descend (below_at setting k) f around z) (behind_level k turns t regs y next)
  judged_by credit Done Left zero turns m t rs valid w around z y regs f next placed b fewer enough flat_grown grown h =
      let none : FlatEvaluated = record { outcome = more; state = z } in
      looked setting level_credit credit (λ q. Done none q) (λ q. Left none q) ⊥ (λ x. 0) (code_at setting zero turns) turns m t (level_routine setting.at) [] [] z y regs none none next tt fewer (omega (arith, enough)) (same_flat z) grown
      (λ end because. because) (λ asked left_then e. absurd (cc e)) (λ x. absurd x)
      (no_level_ends setting turns (level_routine setting.at) turns routine [] w z (mid_charged 40 y) (mid_charged 40 y) none ((numbers_law setting).routine 15 _ placed refl) refl refl (same_flat z)
      (world_cost setting 40 b.things).things)
      (λ x. absurd x)
  judged_by credit Done Left (suc j) turns m t rs valid w around z y regs f next placed b fewer enough flat_grown grown h =
      subst
      (λ r. Ends setting credit (Done r (behind_level (suc j) turns t regs y next)) (Left r (behind_level (suc j) turns t regs y next)) m z y r (behind_level (suc j) turns t regs y next))
      (sym (level_there j f around z))
      (looked setting level_credit credit (λ q. Done (f z) q) (λ q. Left (f z) q) (IsJudged (suc j) turns rs valid w around z y) (λ x. x.word) (code_at setting (suc j) turns) turns m t (level_routine setting.at) [] [] z y
      regs (gives nil z) (f z) next tt fewer (omega (arith, enough)) flat_grown grown (nothing_because setting (f z) b.things flat_grown) (λ asked left_then e. absurd (cc e)) (λ x. x.end)
      (judged j turns rs valid w around z y placed b)
      (λ x.
      h j refl x.word (level_called (suc j) turns y).state (world_then setting (world_cost setting 40 b.things) (around_cost setting {credit = 40} z y 40 (omega arith)) x.world)
      (back_then setting (world_cost setting 40 b.things) (around_cost setting {credit = 40} z y 40 (omega arith)) (omega arith) x.back) (λ stored. x.site stored)))

  -- in a procedure
  pub judged_levels_law : LawOfJudgedLevels setting
  judged_levels_law k turns m t c2 credit rs valid w around z y regs f next placed b fewer enough flat_grown grown h =
      judged_by (credit + unit_cost) (λ r q. Returned setting credit w z y r q) (λ r q. LeftCall setting credit rs valid w around z y r q) k turns m t rs valid w around z y regs f next placed b fewer (omega (arith, enough)) flat_grown grown
      (λ j same word y' world back site.
      going_on_law setting judging_cost c2 credit m m rs valid w w around z z y y' (f z) (next (slice_set regs t (Some word)) y') world back enough (omega arith) refl (h j same word y' world back site))

  -- in a form
  pub form_levels_law : LawOfFormLevels setting
  form_levels_law k credit a d t f next placed room low there enough flat_grown grown h =
      judged_by (credit + unit_cost) (λ r q. Fell setting credit a.rs a.valid a.s d a.w a.env a.around a.z a.regs a.y r q) (λ r q. Left setting credit a.rs a.valid a.s d a.w a.env a.around a.z a.regs a.y r q) k a.turns a.turns t
      a.rs a.valid a.w a.around a.z a.y a.regs f next placed (record { things = a.begins.call.things; around_stands = a.begins.call.around_stands; room = fewer setting.limit a.begins.call.room }) (omega arith) (omega (arith, enough)) flat_grown grown
      (λ j same word y' world back site. h j same word y' (reached word y' world back) site)
    where
      fewer : (l : Limit) → RoomFor l (a.n + words_for_handler * length a.around.handlers) a.z.state a.y → RoomFor l (level_words + words_for_handler * length a.around.handlers) a.z.state a.y
      fewer unlimited h = tt
      fewer (words n) h = omega (arith, h, room)

      reached :
          (word : ℕ) (y' : MidState) → WorldKept setting a.w a.w a.z a.z a.y y' → Around setting judging_cost a.z a.z a.y y'
          → ReachedFrom setting judging_cost a t a.w a.z (slice_set a.regs t (Some word)) y'
      reached word y' world back = record {
        kept = record {
          world = world;
          activation =
              activation_later setting {d = a.d} {z = a.z} {z' = a.z} {y = a.y} {y' = y'} world.later (same_world setting world back) refl (λ n cs k. k) (set_beside a.regs t word low) a.begins.scope
              a.begins.activation;
          registers = registers_set a.regs t word (omega arith);
        };
        back = back;
      }
