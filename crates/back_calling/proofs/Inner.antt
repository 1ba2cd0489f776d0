-- Inside a routine: each point of its body is where the rest of a call begins.
use Rattle.std.proofs.Common.{◌≡◌, ℕ, ◌+◌, ◌*◌, ◌<◌, ◌≤◌, List, ◌∷◌, length, Some, refl, sym, ap, ◌∙◌, subst, arith}
use Rattle.std.specs.Prelude.{slice_set}
use Rattle.lang_meaning.specs.Prefixes.{IsPrefix}
use Rattle.lang_meaning.specs.State.{DynamicContext, Limit, words, unlimited}
use Rattle.lang_meaning.specs.State as meaning
use Rattle.lang_meaning.specs.Values.{nil}
use Rattle.lang_meaning.specs.Counts.{unit_cost}
use Rattle.flat_language.specs.FlatState.{FlatState, FlatEvaluated, gives, go_on}
use Rattle.mid_code.specs.Costs.{return_cost}
use Rattle.mid_code.specs.Law.{Grown}
use Rattle.mid_code.specs.Meaning.{Context, exec, exec_step}
use Rattle.mid_code.specs.Meaning.{called as mid_called}
use Rattle.mid_code.specs.MidCode.{return_word, code_of}
use Rattle.mid_code.specs.State.{Registers, End, falls, returns, cuts, no_room, no_level, no_turn, halts, unhandled, exhausted, stuck, MidState, MidOutcome, Next, ends}
use Rattle.mid_code.specs.State.{charged as mid_charged, go_on as mid_go_on}
use Rattle.mid_code.proofs.Growth.{go_on_grown, same_grown, exec_grown, levels_grow, turns_grow}
use Rattle.mid_arena.proofs.Registers.{register_here}
use Rattle.mid_arena.proofs.Running.{RunsTo, and_ends, return_ends}
use Rattle.back_lowering.specs.Steps.{Steps, call}
use Rattle.back_relation.specs.Setting.{Setting}
use Rattle.back_relation.specs.Worlds.{World, Standing}
use Rattle.back_relation.specs.Things.{Things}
use Rattle.back_relation.specs.Ends.{WorldKept, Around, RoomEnded, Because, Ends, done, left_by, full_there, stopped, few_turns, Fell, Left, Returned, LeftCall, CallEnds}
use Rattle.back_relation.specs.Forms.{code_at}
use Rattle.back_relation.specs.Procedures.{called}
use Rattle.back_relation.specs.RoutineClaims.{Looks}
use Rattle.back_relation.specs.Starts.{FlatGrown, ReachedFrom}
use Rattle.back_relation.proofs.Activations.{activation_later}
use Rattle.back_relation.proofs.Growth.{both_prefix, then_value, then_other, then_grown, same_flat}
use Rattle.back_relation.proofs.Parts.{go_on_falls, go_on_last, step_then}
use Rattle.back_relation.proofs.Stops.{stopped_before}
use Rattle.back_relation.proofs.Straight.{set_beside, registers_set, world_cost, around_cost}
use Rattle.back_relation.proofs.Then.{same_world, world_then, back_then, stopped_last, because_then}
use Rattle.back_relation.proofs.Choices.{go_gives}
use Rattle.back_calling.specs.Calling.{WordsIn, call_cost}
use Rattle.back_calling.specs.Inner.{LawOfGoingOn, LawOfPassing, LawOfReturns, LawOfReturning, LawOfCallsThen, LawOfLooking, LawOfFormLooking}
use Rattle.back_calling.proofs.Formed.{called_state, called_costs, called_returned, called_cut, called_because, call_comes}
use Rattle.back_calling.proofs.Transferring.{transfers_behind, transfers_as}

-- what a call comes to behind its cost
abbrev after : Context → (number : ℕ) → (arguments ws : List ℕ) → MidState → MidOutcome
after c number arguments ws y = called c number ws (mid_charged (call_cost arguments) y)

module _ (setting : Setting) where
  abbrev EndsBy : (credit : ℕ) → (Done Left : MidOutcome → Type 0) → ℕ → FlatState → MidState → FlatEvaluated → MidOutcome → Type 0
  EndsBy credit Done Left m z y r p = Ends setting credit (Done p) (Left p) m z y r p

  -- a result behind what was done
  abbrev pub returned_behind :
      {c1 c2 credit : ℕ} {w w1 : World} {z z1 : FlatState} {y y1 : MidState} {r : FlatEvaluated} {q : MidOutcome} → WorldKept setting w w1 z z1 y y1 → Around setting c1 z z1 y y1
      → c1 + c2 ≤ credit → z1.frame ≡ z.frame → Returned setting c2 w1 z1 y1 r q → Returned setting credit w z y r q
  returned_behind k a enough frame x = record {
    result = x.result;
    outcome = x.outcome;
    word = x.word;
    end = x.end;
    w' = x.w';
    world = world_then setting k a x.world;
    back = back_then setting k a enough x.back;
    of_value = x.of_value;
    frame = x.frame ∙ frame;
  }

  -- **what was done, and what the rest comes to**
  pub going_on_law : LawOfGoingOn setting
  going_on_law c1 c2 credit m1 m rs valid w w1 around z z1 y y1 r q k a enough fewer frame e = by e
    where
      by : CallEnds setting c2 m1 rs valid w1 around z1 y1 r q → CallEnds setting credit m rs valid w around z y r q
      by (done x) = done (returned_behind k a enough frame x)
      by (left_by x) = left_by (record { transfer = transfers_behind setting k a enough x.transfer; frame = x.frame ∙ frame })
      by (full_there x) = full_there x
      by (stopped x) = stopped (stopped_before setting (omega (arith, a.paid, enough)) x)
      by (few_turns x) = few_turns (omega (arith, x, fewer, k.same_size))

  -- **no routine falls out of its end**
  pub passing_law : LawOfPassing setting
  passing_law credit m rs valid w around z y r q next grown e = by e
    where
      later : Grown q.state (mid_go_on q next).state
      later = go_on_grown q next q.state (same_grown q.state) grown

      same : mid_go_on q next ≡ q → CallEnds setting credit m rs valid w around z y r q → CallEnds setting credit m rs valid w around z y r (mid_go_on q next)
      same is h = subst (λ p. CallEnds setting credit m rs valid w around z y r p) (sym is) h

      by : CallEnds setting credit m rs valid w around z y r q → CallEnds setting credit m rs valid w around z y r (mid_go_on q next)
      by (done x) = same (go_on_last (returns x.word) q next x.end tt) (done x)
      by (left_by x) = same (go_on_last (cuts x.transfer.to.outside x.transfer.word) q next x.transfer.end tt) (left_by x)
      by (full_there x) =
          full_there (record {
            asked = x.asked;
            left_then = x.left_then;
            outcome = x.outcome;
            printed = both_prefix x.printed (record { rest = later.printed.0; is = sym later.printed.1 });
          })
      by (stopped x) = same (go_on_last q.end q next refl (stopped_last setting r q.end x.because)) (stopped x)
      by (few_turns x) = few_turns x

  -- **a word is returned**
  pub returns_law : LawOfReturns setting
  returns_law c credit m of word ss rs valid w around z y regs v t there is enough =
      let run : RunsTo c (code_of (return_word of ∷ ss)) regs y (ends (returns word) regs (mid_charged return_cost y)) = and_ends tt (return_ends there) in
      subst (λ q. CallEnds setting credit m rs valid w around z y (gives v z) q) (sym run.same)
      (done (record {
        result = v;
        outcome = refl;
        word = word;
        end = refl;
        w' = w;
        world = world_cost setting return_cost t;
        back = around_cost setting z y return_cost enough;
        of_value = is;
        frame = refl;
      }))

  -- **a call, and what goes on with its result**
  pub calls_then_law : LawOfCallsThen setting
  calls_then_law c c1 c2 credit m1 m2 m t number arguments ws rs valid w around z y regs r f next there things enough fewer paying flat_grown grown e h = by e
    where
      k : WorldKept setting w w z z y (mid_charged (call_cost arguments) y)
      k = world_cost setting (call_cost arguments) things

      a : Around setting (call_cost arguments) z z y (mid_charged (call_cost arguments) y)
      a = around_cost setting z y (call_cost arguments) (omega arith)

      stepped : mid_go_on (exec_step c (call t number arguments) regs y) next ≡ mid_go_on (mid_called (after c number arguments ws y) t regs) next
      stepped = ap (λ p. mid_go_on p next) (call_comes c regs y t number arguments ws there)

      later : Grown (mid_called (after c number arguments ws y) t regs).state (mid_go_on (mid_called (after c number arguments ws y) t regs) next).state
      later = go_on_grown (mid_called (after c number arguments ws y) t regs) next (mid_called (after c number arguments ws y) t regs).state (same_grown (mid_called (after c number arguments ws y) t regs).state) grown

      flat_later : FlatGrown r.state (go_on r f).state
      flat_later = then_grown r f flat_grown

      as_r : go_on r f ≡ r → CallEnds setting credit m rs valid w around z y r (mid_go_on (mid_called (after c number arguments ws y) t regs) next) → CallEnds setting credit m rs valid w around z y (go_on r f) (mid_go_on (mid_called (after c number arguments ws y) t regs) next)
      as_r same x = subst (λ p. CallEnds setting credit m rs valid w around z y p (mid_go_on (mid_called (after c number arguments ws y) t regs) next)) (sym same) x

      cases : CallEnds setting c1 m1 rs valid w around z (mid_charged (call_cost arguments) y) r (after c number arguments ws y) → CallEnds setting credit m rs valid w around z y (go_on r f) (mid_go_on (mid_called (after c number arguments ws y) t regs) next)
      cases (done x) =
          let x' : Returned setting (c1 + (call_cost arguments)) w z y r (after c number arguments ws y) = returned_behind k a (omega arith) refl x in
          subst (λ p. CallEnds setting credit m rs valid w around z y p (mid_go_on (mid_called (after c number arguments ws y) t regs) next)) (sym (then_value r f x.result x.outcome))
          (subst (λ p. CallEnds setting credit m rs valid w around z y (f x.result r.state) p)
          (sym (ap (λ p. mid_go_on p next) (called_returned (after c number arguments ws y) t regs x.end) ∙ go_on_falls (ends falls (slice_set regs t (Some x.word)) (after c number arguments ws y).state) next refl))
          (going_on_law (c1 + (call_cost arguments)) c2 credit m2 m rs valid w x.w' around z r.state y (after c number arguments ws y).state (f x.result r.state) (next (slice_set regs t (Some x.word)) (after c number arguments ws y).state) x'.world x'.back
          enough paying x'.frame (h x')))
      cases (left_by x) =
          let passed : mid_go_on (mid_called (after c number arguments ws y) t regs) next ≡ ends (after c number arguments ws y).end regs (after c number arguments ws y).state =
          ap (λ p. mid_go_on p next) (called_cut (after c number arguments ws y) t regs x.transfer.end)
          ∙ go_on_last (cuts x.transfer.to.outside x.transfer.word) (ends (after c number arguments ws y).end regs (after c number arguments ws y).state) next x.transfer.end tt in
          as_r (then_other r f _ x.transfer.outcome tt)
          (subst (λ p. CallEnds setting credit m rs valid w around z y r p) (sym passed)
          (left_by (record { transfer = transfers_as setting regs (transfers_behind setting k a (omega (arith, enough)) x.transfer); frame = x.frame })))
      cases (full_there x) =
          as_r (then_other r f _ x.outcome tt)
          (full_there (record {
            asked = x.asked;
            left_then = x.left_then;
            outcome = x.outcome;
            printed =
                both_prefix (subst (λ (s : MidState). IsPrefix r.state.state.printed s.printed) (sym (called_state (after c number arguments ws y) t regs)) x.printed)
                (record { rest = later.printed.0; is = sym later.printed.1 });
          }))
      cases (stopped x) =
          let because : Because setting r (mid_called (after c number arguments ws y) t regs).end = called_because setting r (after c number arguments ws y) t regs x.because in
          subst (λ p. CallEnds setting credit m rs valid w around z y (go_on r f) p)
          (sym (go_on_last (mid_called (after c number arguments ws y) t regs).end (mid_called (after c number arguments ws y) t regs) next refl (stopped_last setting r (mid_called (after c number arguments ws y) t regs).end because)))
          (stopped (record {
            because = because_then setting r f (mid_called (after c number arguments ws y) t regs).end flat_later because;
            printed = both_prefix (subst (λ (s : MidState). IsPrefix s.printed r.state.state.printed) (sym (called_state (after c number arguments ws y) t regs)) x.printed) flat_later.printed;
            paid = λ ended.
                omega (arith, enough, x.paid (λ none. ended (because_then setting r f no_level flat_later none)), flat_later.units, called_costs (after c number arguments ws y) t regs);
          }))
      cases (few_turns x) = few_turns (omega (arith, x, fewer, flat_later.units))

      by : CallEnds setting c1 m1 rs valid w around z (mid_charged (call_cost arguments) y) r (after c number arguments ws y) → CallEnds setting credit m rs valid w around z y (go_on r f) (mid_go_on (exec_step c (call t number arguments) regs y) next)
      by x = subst (λ p. CallEnds setting credit m rs valid w around z y (go_on r f) p) (sym stepped) (cases x)

  -- **what a call comes to is returned**
  behind_grows : (k n : ℕ) (ss : Steps) (g : Registers) (x : MidState) → Grown x (exec (code_at setting k n) (code_of ss) g x).state
  behind_grows k n ss g x =
      exec_grown (code_at setting k n) (levels_grow setting.procedures setting.turns_each k)
      (turns_grow setting.procedures _ (levels_grow setting.procedures setting.turns_each k) n) (code_of ss) g x

  -- whatever units were charged
  pub returned :
      (k n credit m t number : ℕ) (arguments ws : List ℕ) (ss : Steps) (rs valid : List Standing) (w : World) (around : DynamicContext) (z : FlatState) (y : MidState)
      (regs : Registers) (r : FlatEvaluated)
      → WordsIn regs arguments ws → t < length regs → Things setting w z y
      → CallEnds setting credit m rs valid w around z (mid_charged (call_cost arguments) y) r
      (called (code_at setting k n) number ws (mid_charged (call_cost arguments) y))
      → CallEnds setting (credit + call_cost arguments + return_cost) m rs valid w around z y r
      (exec (code_at setting k n) (code_of (call t number arguments ∷ return_word t ∷ ss)) regs y)
  returned k n credit m t number arguments ws ss rs valid w around z y regs r there low things e =
      subst (λ q. CallEnds setting (credit + call_cost arguments + return_cost) m rs valid w around z y r q)
      (sym (step_then (code_at setting k n) (call t number arguments) (return_word t ∷ ss) regs y))
      (subst
      (λ p. CallEnds setting (credit + call_cost arguments + return_cost) m rs valid w around z y p
      (mid_go_on (exec_step (code_at setting k n) (call t number arguments) regs y) (λ g x. exec (code_at setting k n) (code_of (return_word t ∷ ss)) g x)))
      (go_gives r)
      (calls_then_law (code_at setting k n) credit return_cost (credit + call_cost arguments + return_cost) m (m + 16 * z.state.units) m t number arguments ws rs valid w around z y regs r (λ v x. gives v x)
      (λ g x. exec (code_at setting k n) (code_of (return_word t ∷ ss)) g x) there things (omega arith) (omega arith) (omega arith) (λ v x. same_flat x) (λ g x. behind_grows k n (return_word t ∷ ss) g x) e
      (λ x.
      returns_law (code_at setting k n) return_cost (m + 16 * z.state.units) t x.word ss rs valid x.w' around r.state (called (code_at setting k n) number ws (mid_charged (call_cost arguments) y)).state (slice_set regs t (Some x.word)) x.result
      x.world.things (register_here regs t x.word low) x.of_value (omega arith))))

  pub returning_law : LawOfReturning setting
  returning_law k n credit m t number arguments ws ss rs valid w around z y regs r there low things up e =
      returned k n credit m t number arguments ws ss rs valid w around z y regs r there low things e

  -- **a routine that only looks**: it returns a word, or what comes to r1 stops there, which is nothing else but what r comes to
  pub looked :
      (c1 credit : ℕ) (Done Left : MidOutcome → Type 0) (There : Type 0) (word_of : There → ℕ) (c : Context) (turns m t number : ℕ) (arguments ws : List ℕ) (z : FlatState) (y : MidState) (regs : Registers)
      (r1 r : FlatEvaluated) (next : Next)
      → WordsIn regs arguments ws → m ≤ turns → c1 + call_cost arguments ≤ credit → FlatGrown r1.state r.state → ((g : Registers) (x : MidState) → Grown x (next g x).state)
      → ((end : End) → Because setting r1 end → Because setting r end) → ((asked left_then : ℕ) → r1.outcome ≡ meaning.full asked left_then → ⊥)
      → ((x : There) → (after c number arguments ws y).end ≡ returns (word_of x))
      → Ends setting c1 There ⊥ turns z (mid_charged (call_cost arguments) y) r1 (after c number arguments ws y)
      → ((x : There) → EndsBy credit Done Left m z y r (next (slice_set regs t (Some (word_of x))) (after c number arguments ws y).state))
      → EndsBy credit Done Left m z y r (mid_go_on (exec_step c (call t number arguments) regs y) next)
  looked c1 credit Done Left There word_of c turns m t number arguments ws z y regs r1 r next there fewer enough flat_grown grown because_of never_full returned e h = by e
    where
      stepped : mid_go_on (exec_step c (call t number arguments) regs y) next ≡ mid_go_on (mid_called (after c number arguments ws y) t regs) next
      stepped = ap (λ p. mid_go_on p next) (call_comes c regs y t number arguments ws there)

      cases : Ends setting c1 There ⊥ turns z (mid_charged (call_cost arguments) y) r1 (after c number arguments ws y) → EndsBy credit Done Left m z y r (mid_go_on (mid_called (after c number arguments ws y) t regs) next)
      cases (done x) =
          subst (λ p. EndsBy credit Done Left m z y r p)
          (sym (ap (λ p. mid_go_on p next) (called_returned (after c number arguments ws y) t regs (returned x)) ∙ go_on_falls (ends falls (slice_set regs t (Some (word_of x))) (after c number arguments ws y).state) next refl))
          (h x)
      cases (left_by x) = absurd x
      cases (full_there x) = absurd (never_full x.asked x.left_then x.outcome)
      cases (stopped x) =
          let because : Because setting r (mid_called (after c number arguments ws y) t regs).end = called_because setting r (after c number arguments ws y) t regs (because_of (after c number arguments ws y).end x.because) in
          subst (λ p. EndsBy credit Done Left m z y r p)
          (sym (go_on_last (mid_called (after c number arguments ws y) t regs).end (mid_called (after c number arguments ws y) t regs) next refl (stopped_last setting r (mid_called (after c number arguments ws y) t regs).end because)))
          (stopped (record {
            because = because;
            printed = both_prefix (subst (λ (s : MidState). IsPrefix s.printed r1.state.state.printed) (sym (called_state (after c number arguments ws y) t regs)) x.printed) flat_grown.printed;
            paid = λ ended.
                omega (arith, enough, x.paid (λ none. ended (because_of no_level none)), flat_grown.units, called_costs (after c number arguments ws y) t regs);
          }))
      cases (few_turns x) = few_turns (omega (arith, x, fewer, flat_grown.units))

      by : Ends setting c1 There ⊥ turns z (mid_charged (call_cost arguments) y) r1 (after c number arguments ws y) → EndsBy credit Done Left m z y r (mid_go_on (exec_step c (call t number arguments) regs y) next)
      by x = subst (λ p. EndsBy credit Done Left m z y r p) (sym stepped) (cases x)

  -- where the meaning does nothing, code stops for nothing but room that nobody counts
  pub nothing_because :
      {w : World} {z : FlatState} {y : MidState} (r : FlatEvaluated) → Things setting w z y → FlatGrown z r.state → (end : End) → Because setting (gives nil z) end → Because setting r end
  nothing_because r things flat_grown (no_room asked left_then) b = (room setting.limit b.0, b.1)
    where
      room : (l : Limit) → RoomEnded setting l (meaning.value nil) → RoomEnded setting l r.outcome
      room unlimited b = tt
      room (words n) b = absurd b
  nothing_because r things flat_grown no_level b = absurd (cc b)
  nothing_because {z = z} r things flat_grown exhausted b = let s = things.serials in let exits = flat_grown.exits in absurd (omega (arith, b, s.2, s.3))
  nothing_because r things flat_grown falls b = absurd b
  nothing_because r things flat_grown (returns x) b = absurd b
  nothing_because r things flat_grown (cuts n x) b = absurd b
  nothing_because r things flat_grown no_turn b = absurd b
  nothing_because r things flat_grown (halts x) b = absurd b
  nothing_because r things flat_grown (unhandled class site condition) b = absurd b
  nothing_because r things flat_grown stuck b = absurd b

  pub looking :
      (credit : ℕ) (Done Left : MidOutcome → Type 0) (c : Context) (k turns m t number most word : ℕ) (arguments ws : List ℕ) (rs valid : List Standing) (w : World) (around : DynamicContext) (z : FlatState)
      (y : MidState) (regs : Registers) (r : FlatEvaluated) (next : Next)
      → WordsIn regs arguments ws → Things setting w z y → m ≤ turns → most + call_cost arguments ≤ credit → FlatGrown z r.state → ((g : Registers) (x : MidState) → Grown x (next g x).state)
      → Ends setting most (Looks setting k turns rs valid w around z (mid_charged (call_cost arguments) y) most word (after c number arguments ws y)) ⊥ turns z
      (mid_charged (call_cost arguments) y) (gives nil z) (after c number arguments ws y)
      → (WorldKept setting w w z z y (after c number arguments ws y).state → Around setting (most + call_cost arguments) z z y (after c number arguments ws y).state
      → EndsBy credit Done Left m z y r (next (slice_set regs t (Some word)) (after c number arguments ws y).state))
      → EndsBy credit Done Left m z y r (mid_go_on (exec_step c (call t number arguments) regs y) next)
  looking credit Done Left c k turns m t number most word arguments ws rs valid w around z y regs r next there things fewer enough flat_grown grown e h =
      looked most credit Done Left (Looks setting k turns rs valid w around z (mid_charged (call_cost arguments) y) most word (after c number arguments ws y)) (λ x. word) c turns m t number arguments ws z
      y regs (gives nil z) r next there fewer enough flat_grown grown (nothing_because r things flat_grown) (λ asked left_then e. absurd (cc e)) (λ x. x.end) e
      (λ x.
      h (world_then setting (world_cost setting (call_cost arguments) things) (around_cost setting {credit = call_cost arguments} z y (call_cost arguments) (omega arith)) x.world)
      (back_then setting (world_cost setting (call_cost arguments) things) (around_cost setting {credit = call_cost arguments} z y (call_cost arguments) (omega arith)) (omega arith) x.back))

  -- in a routine
  pub looking_law : LawOfLooking setting
  looking_law c k turns m t number most word c2 credit arguments ws rs valid w around z y regs r next there things fewer enough flat_grown grown e h =
      looking (credit + unit_cost) (λ p. Returned setting credit w z y r p) (λ p. LeftCall setting credit rs valid w around z y r p) c k turns m t number most word arguments ws rs valid w around z y regs r
      next there things fewer (omega (arith, enough)) flat_grown grown e
      (λ world back.
      going_on_law (most + call_cost arguments) c2 credit m m rs valid w w around z z y (after c number arguments ws y).state r
      (next (slice_set regs t (Some word)) (after c number arguments ws y).state) world back enough (omega arith) refl (h world back))

  -- in a form
  pub form_looking_law : LawOfFormLooking setting
  form_looking_law c a k d t number most word credit arguments ws r next low there enough held flat_grown grown e h =
      looking (credit + unit_cost) (λ p. Fell setting credit a.rs a.valid a.s d a.w a.env a.around a.z a.regs a.y r p) (λ p. Left setting credit a.rs a.valid a.s d a.w a.env a.around a.z a.regs a.y r p) c k a.turns
      a.turns t number most word arguments ws a.rs a.valid a.w a.around a.z a.y a.regs r next held a.begins.call.things (omega arith) (omega (arith, enough)) flat_grown grown e
      (λ world back. h (reached world back))
    where
      reached :
          WorldKept setting a.w a.w a.z a.z a.y (after c number arguments ws a.y).state
          → Around setting (most + call_cost arguments) a.z a.z a.y (after c number arguments ws a.y).state
          → ReachedFrom setting (most + call_cost arguments) a t a.w a.z (slice_set a.regs t (Some word)) (after c number arguments ws a.y).state
      reached world back = record {
        kept = record {
          world = world;
          activation =
              activation_later setting {d = a.d} {z = a.z} {z' = a.z} {y = a.y} {y' = (after c number arguments ws a.y).state} world.later (same_world setting world back) refl (λ n cs k. k)
              (set_beside a.regs t word low) a.begins.scope a.begins.activation;
          registers = registers_set a.regs t word (omega arith);
        };
        back = back;
      }
