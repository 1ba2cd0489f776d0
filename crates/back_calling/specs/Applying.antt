-- **A function is applied to words**: a level is needed, the words of the application are charged, and its body does what it means. And a level is
-- judged before words are asked for.
use Rattle.std.specs.Prelude.{◌*◌, ◌≡◌, ℕ, suc, ◌<◌, ◌≤◌, true, List, [], ◌++◌, Some, None, length, slice_get, slice_set, ◌+◌}
use Rattle.lang_meaning.specs.Counts.{unit_cost}
use Rattle.lang_meaning.specs.State.{DynamicContext}
use Rattle.lang_meaning.specs.Values.{Value}
use Rattle.flat_language.specs.declared.program.FlatProcedure.{FlatProcedure}
use Rattle.flat_language.specs.FlatSignals.{FlatSignals, descend, enter}
use Rattle.flat_language.specs.FlatState.{Captured, FlatState, FlatEvaluated}
use Rattle.mid_code.specs.Law.{Grown}
use Rattle.mid_code.specs.Meaning.{exec_step}
use Rattle.mid_code.specs.State.{Registers, MidState, Next}
use Rattle.mid_code.specs.State.{charged as mid_charged, go_on as mid_go_on}
use Rattle.mid_arena.specs.Places.{WordsOf}
use Rattle.back_lowering.specs.Placement.{body_of_procedure}
use Rattle.back_lowering.specs.Program.{Extra, body_of, lowered}
use Rattle.back_lowering.specs.Routines.{level_routine}
use Rattle.back_lowering.specs.Sites.{asks_site}
use Rattle.back_lowering.specs.Steps.{call}
use Rattle.back_relation.specs.Setting.{Setting}
use Rattle.back_relation.specs.Room.{routine_words, level_words}
use Rattle.back_relation.specs.Placed.{IsPlaced}
use Rattle.back_relation.specs.Worlds.{World, Standing}
use Rattle.back_relation.specs.Things.{Things}
use Rattle.back_relation.specs.Around.{CallBegins, SiteStored}
use Rattle.back_relation.specs.Ends.{WorldKept, Around, CallEnds, SparingCall}
use Rattle.back_relation.specs.Forms.{below_at, context_at, code_at}
use Rattle.back_relation.specs.Procedures.{called, body_credit, IsFunction, CapturedFits, ExtraGiven, BodyDoes}
use Rattle.back_relation.specs.RoutineClaims.{LevelDoes}
use Rattle.back_relation.specs.Starts.{FlatGrown, Start, EndsFrom, ReachedFrom}

-- what it costs to judge a level: the call, and the routine
abbrev pub judging_cost : ℕ
judging_cost = 80

module _ (setting : Setting) where
  -- A function that takes no further arguments and is called with as many as it requires is entered at its body, where the reserve is left. So much
  -- was paid for the call; the units of the arguments pay too, and something of the first unit of the body is left.
  abbrev pub LawOfApplyingBodies : Type 0
  LawOfApplyingBodies =
      (k turns m n entry paid credit : ℕ) (extra : Extra) (q : FlatProcedure) (wrong : FlatSignals) (cs : List Captured) (vs : List Value) (ws more : List ℕ) (rs valid : List Standing) (w : World)
      (around : DynamicContext) (z : FlatState) (y : MidState)
      → slice_get (lowered setting.names setting.at setting.program) (body_of_procedure setting.at entry) ≡ Some (body_of setting.names setting.at setting.program extra q)
      → IsFunction setting entry extra q → CapturedFits setting w entry extra q cs → q.rest ≡ None → length vs ≡ length q.required → m ≤ setting.turns_each
      → body_credit q + paid ≤ unit_cost * length vs + credit → ((j : ℕ) → k ≡ suc j → BodyDoes setting j entry extra q) → routine_words ≤ n
      → CallBegins setting rs valid n w around z (mid_charged paid y) → Things setting w z y → WordsOf w.places vs ws
      → ExtraGiven setting w z (mid_charged paid y) extra q cs None more → (asks_site q.body ≡ true → SiteStored setting around (mid_charged paid y))
      → SparingCall setting credit m rs valid w around z y
      (descend (below_at setting k) (λ entered. enter (context_at setting k) wrong q cs None vs around entered) around z)
      (called (code_at setting k turns) (body_of_procedure setting.at entry) (ws ++ more) (mid_charged paid y))

  -- the routine that does nothing a level below returns where there is a level
  abbrev pub LawOfLevelsThere : Type 0
  LawOfLevelsThere =
      (k turns : ℕ) (rs valid : List Standing) (w : World) (around : DynamicContext) (z : FlatState) (y : MidState) → IsPlaced setting → LevelDoes setting k turns rs valid w around z y

  -- a level is judged by a procedure, and what goes on where there is one: only a register changed, and the site is as it was stored
  abbrev pub LawOfJudgedLevels : Type 0
  LawOfJudgedLevels =
      (k turns m t c2 credit : ℕ) (rs valid : List Standing) (w : World) (around : DynamicContext) (z : FlatState) (y : MidState) (regs : Registers) (f : FlatState → FlatEvaluated) (next : Next)
      → IsPlaced setting → CallBegins setting rs valid level_words w around z y → m ≤ turns → judging_cost + c2 ≤ credit → FlatGrown z (f z).state
      → ((g : Registers) (x : MidState) → Grown x (next g x).state)
      → ((j : ℕ) → k ≡ suc j → (word : ℕ) (y' : MidState) → WorldKept setting w w z z y y' → Around setting judging_cost z z y y' → (SiteStored setting around y → SiteStored setting around y')
      → CallEnds setting c2 m rs valid w around z y' (f z) (next (slice_set regs t (Some word)) y'))
      → CallEnds setting credit m rs valid w around z y (descend (below_at setting k) f around z)
      (mid_go_on (exec_step (code_at setting k turns) (call t (level_routine setting.at) []) regs y) next)

  -- and by a form
  abbrev pub LawOfFormLevels : Type 0
  LawOfFormLevels =
      (k credit : ℕ) (a : Start setting) (d t : ℕ) (f : FlatState → FlatEvaluated) (next : Next)
      → IsPlaced setting → level_words ≤ a.n → a.d ≤ t → t < length a.regs → judging_cost ≤ credit → FlatGrown a.z (f a.z).state → ((g : Registers) (x : MidState) → Grown x (next g x).state)
      → ((j : ℕ) → k ≡ suc j → (word : ℕ) (y' : MidState) → ReachedFrom setting judging_cost a t a.w a.z (slice_set a.regs t (Some word)) y' → (SiteStored setting a.around a.y → SiteStored setting a.around y')
      → EndsFrom setting credit a d (f a.z) (next (slice_set a.regs t (Some word)) y'))
      → EndsFrom setting credit a d (descend (below_at setting k) f a.around a.z)
      (mid_go_on (exec_step (code_at setting k a.turns) (call t (level_routine setting.at) []) a.regs a.y) next)
