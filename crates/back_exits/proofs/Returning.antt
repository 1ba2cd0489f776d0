-- One routine calls another and returns what that comes to.
use Rattle.std.proofs.Common.{◌≡◌, ℕ, ◌+◌, ◌*◌, ◌<◌, ◌≤◌, true, false, List, [], ◌∷◌, length, Some, refl, sym, ap, ◌∙◌, subst, arith}
use Rattle.std.specs.Prelude.{slice_get, slice_set}
use Rattle.lang_meaning.specs.Counts.{unit_cost}
use Rattle.lang_meaning.specs.State.{DynamicContext, value}
use Rattle.lang_meaning.specs.Values.{Value}
use Rattle.lang_meaning.specs.Prefixes.{IsPrefix}
use Rattle.flat_language.specs.FlatState.{FlatState, FlatEvaluated}
use Rattle.mid_code.specs.declared.operation.Test.{Test}
use Rattle.mid_code.specs.declared.program.MidProcedure.{MidProcedure}
use Rattle.mid_code.specs.MidCode.{MidCode, choose, no_step, step_and, return_word, code_of}
use Rattle.mid_code.specs.Meaning.{Context, exec, exec_step, called_from}
use Rattle.mid_code.specs.Meaning.{called as mid_called}
use Rattle.mid_code.specs.State.{Registers, register, End, falls, returns, cuts, no_room, no_level, no_turn, halts, unhandled, exhausted, stuck, ends, charged, go_on, with_registers, MidState, MidOutcome, Next}
use Rattle.mid_code.specs.Words.{compares}
use Rattle.mid_arena.proofs.Registers.{register_here}
use Rattle.mid_arena.proofs.Running.{some_found, and_ends, return_ends, choose_first, choose_second}
use Rattle.back_lowering.specs.RoutineCodes.{returning}
use Rattle.back_lowering.specs.declared.placement.Placement.{Placement}
use Rattle.back_lowering.specs.Steps.{call}
use Rattle.back_relation.specs.Setting.{Setting}
use Rattle.back_relation.specs.Worlds.{World, Standing}
use Rattle.back_relation.specs.Things.{Things}
use Rattle.mid_code.specs.Arena.{blocks_from}
use Rattle.back_relation.specs.Ends.{WorldKept, Around, Transfers, CallEnds, done, left_by, full_there, stopped, few_turns}
use Rattle.back_relation.specs.Procedures.{called}
use Rattle.back_relation.proofs.Parts.{IsLast, go_on_last}
use Rattle.back_relation.proofs.Stops.{stopped_before}
use Rattle.back_relation.proofs.Straight.{world_cost, around_cost}
use Rattle.back_relation.proofs.Then.{from_same, world_then, back_then}
use Rattle.back_exits.proofs.Bodies.{Passes, stopped_passes}

-- ---- what goes on from a point

module _ (setting : Setting) where
  module _ {c1 : ℕ} {w w1 : World} {z z1 : FlatState} {y y1 : MidState} (k : WorldKept setting w w1 z z1 y y1) (a : Around setting c1 z z1 y y1) {c2 c : ℕ}
      (paid : y1.cost + unit_cost * z.state.units + c2 ≤ y.cost + unit_cost * z1.state.units + c) where
    transfer_behind :
        {rs valid : List Standing} {around : DynamicContext} {r : FlatEvaluated} {q : MidOutcome} → Transfers setting c2 rs valid w1 around z1 y1 r q
        → Transfers setting c rs valid w around z y r q
    transfer_behind t = record {
      exit_number = t.exit_number;
      result = t.result;
      landing = t.landing;
      outcome = t.outcome;
      target = t.target;
      valid_target = t.valid_target;
      to = t.to;
      outer = t.outer;
      stop = t.stop;
      word = t.word;
      end = t.end;
      blocks =
          ap (λ n. blocks_from n y.arena.blocks t.to.address) (sym k.same_size)
          ∙ ap (λ bs. blocks_from (length y1.arena.memory) bs t.to.address) (sym a.blocks) ∙ t.blocks;
      w' = t.w';
      of_value = t.of_value;
      world = world_then setting k a t.world;
      charged = omega (arith, a.charged, t.charged, from_same setting k a);
      paid = omega (arith, t.paid, paid);
      pending = t.pending;
      landing_word = t.landing_word;
      landing_stands = t.landing_stands;
      landing_is = t.landing_is;
      lands = t.lands;
    }

    around_behind : {z2 : FlatState} {y2 : MidState} → Around setting c2 z1 z2 y1 y2 → Around setting c z z2 y y2
    around_behind b = record {
      control = record {
        current = λ n e. b.control.current n (a.control.current n e);
        link = λ n e. b.control.link n (a.control.link n e);
        handlers = λ n e. b.control.handlers n (a.control.handlers n e);
        bindings = λ n e. b.control.bindings n (a.control.bindings n e);
      };
      blocks = b.blocks ∙ a.blocks;
      charged = omega (arith, a.charged, b.charged);
      paid = omega (arith, b.paid, paid);
    }

    -- what a call comes to that begins where a part was done
    pub call_behind :
        {t t' : ℕ} {rs valid : List Standing} {around : DynamicContext} {r : FlatEvaluated} {q : MidOutcome} → z1.frame ≡ z.frame
        → t + 16 * z.state.units ≤ t' + 16 * z1.state.units → CallEnds setting c2 t' rs valid w1 around z1 y1 r q → CallEnds setting c t rs valid w around z y r q
    call_behind same turns (done x) =
        done (record {
          result = x.result;
          outcome = x.outcome;
          word = x.word;
          end = x.end;
          w' = x.w';
          world = world_then setting k a x.world;
          back = around_behind x.back;
          of_value = x.of_value;
          frame = x.frame ∙ same;
        })
    call_behind same turns (left_by x) = left_by (record { transfer = transfer_behind x.transfer; frame = x.frame ∙ same })
    call_behind same turns (full_there x) = full_there x
    call_behind same turns (stopped x) = stopped (stopped_before setting (omega (arith, a.paid, paid)) x)
    call_behind same turns (few_turns x) = few_turns (omega (arith, x, turns, k.same_size))

-- ---- a call step

-- registers hold words
abbrev pub HoldAll : List ℕ → Registers → List ℕ → Type 0
HoldAll [] regs [] = Unit {0}
HoldAll [] regs (w ∷ ws) = ⊥
HoldAll (r ∷ rs) regs [] = ⊥
HoldAll (r ∷ rs) regs (w ∷ ws) = (register r regs ≡ Some w) × HoldAll rs regs ws

pub registers_held : (args ws : List ℕ) (next : List ℕ → Next) (regs : Registers) (y : MidState) → HoldAll args regs ws → with_registers args next regs y ≡ next ws regs y
unfolding with_registers
registers_held [] [] next regs y h = refl
registers_held [] (w ∷ ws) next regs y h = absurd h
registers_held (r ∷ args) [] next regs y h = absurd h
registers_held (r ∷ args) (w ∷ ws) next regs y h =
    some_found (λ v. with_registers args (λ vs. next (v ∷ vs))) regs y h.0 ∙ registers_held args ws (λ vs. next (w ∷ vs)) regs y h.1

abbrev pub call_cost : List ℕ → ℕ
call_cost args = 40 + 6 * length args

pub call_steps :
    (c : Context) {p : MidProcedure} (to number : ℕ) (args ws : List ℕ) (regs : Registers) (y : MidState) → slice_get c.procedures number ≡ Some p → HoldAll args regs ws
    → exec_step c (call to number args) regs y ≡ mid_called (called c number ws (charged (call_cost args) y)) to regs
unfolding exec
call_steps c to number args ws regs y there h =
    registers_held args ws _ regs (charged (call_cost args) y) h
    ∙ some_found _ regs (charged (call_cost args) y) there
    ∙ ap (λ q. mid_called q to regs) (sym (some_found _ [] (charged (call_cost args) y) there))

-- ---- what is returned

module _ (c : Context) (to : ℕ) (regs : Registers) (there : to < length regs) where
  -- what comes behind the call
  abbrev pub tail : MidOutcome → MidOutcome
  tail q = go_on (mid_called q to regs) (λ rs x. exec c (code_of (return_word to ∷ [])) rs x)

  tail_from : MidOutcome → End → MidOutcome
  tail_from q e = go_on (called_from e to regs q.state) (λ rs x. exec c (code_of (return_word to ∷ [])) rs x)

  tail_is : (q : MidOutcome) (e : End) → q.end ≡ e → tail q ≡ tail_from q e
  unfolding mid_called tail_from
  tail_is q e same = ap (λ x. go_on (called_from x to regs q.state) (λ rs x. exec c (code_of (return_word to ∷ [])) rs x)) same

  pub tail_returns : (q : MidOutcome) (w : ℕ) → q.end ≡ returns w → tail q ≡ ends (returns w) (slice_set regs to (Some w)) (charged 14 q.state)
  unfolding go_on tail_from
  tail_returns q w e = tail_is q (returns w) e ∙ (and_ends tt (return_ends (register_here regs to w there))).same

  pub tail_passes : (q : MidOutcome) (e : End) → q.end ≡ e → Passes e → tail q ≡ ends e regs q.state
  unfolding go_on tail_from
  tail_passes q falls same h = absurd h
  tail_passes q (returns w) same h = absurd h
  tail_passes q (cuts n w) same h = tail_is q (cuts n w) same
  tail_passes q (no_room asked left_then) same h = tail_is q (no_room asked left_then) same
  tail_passes q no_level same h = tail_is q no_level same
  tail_passes q no_turn same h = tail_is q no_turn same
  tail_passes q (halts w) same h = tail_is q (halts w) same
  tail_passes q (unhandled class site condition) same h = tail_is q (unhandled class site condition) same
  tail_passes q exhausted same h = tail_is q exhausted same
  tail_passes q stuck same h = tail_is q stuck same

  tail_falls : (q : MidOutcome) → q.end ≡ falls → tail q ≡ ends stuck regs q.state
  unfolding go_on tail_from
  tail_falls q same = tail_is q falls same

  -- what is known of it in any case
  pub record TailKnown (q p : MidOutcome) : Type 0 where
    pub printed : p.state.printed ≡ q.state.printed
    pub last : IsLast p.end

  passing : (q : MidOutcome) (e : End) → q.end ≡ e → Passes e → IsLast e → TailKnown q (tail q)
  passing q e same h l = subst (λ (p : MidOutcome). TailKnown q p) (sym (tail_passes q e same h)) (record { printed = refl; last = l })

  pub tail_known : (q : MidOutcome) → TailKnown q (tail q)
  tail_known q = by q.end refl
    where
      by : (e : End) → q.end ≡ e → TailKnown q (tail q)
      by falls same = subst (λ (p : MidOutcome). TailKnown q p) (sym (tail_falls q same)) (record { printed = refl; last = tt })
      by (returns w) same = subst (λ (p : MidOutcome). TailKnown q p) (sym (tail_returns q w same)) (record { printed = refl; last = tt })
      by (cuts n w) same = passing q (cuts n w) same tt tt
      by (no_room asked left_then) same = passing q (no_room asked left_then) same tt tt
      by no_level same = passing q no_level same tt tt
      by no_turn same = passing q no_turn same tt tt
      by (halts w) same = passing q (halts w) same tt tt
      by (unhandled class site condition) same = passing q (unhandled class site condition) same tt tt
      by exhausted same = passing q exhausted same tt tt
      by stuck same = passing q stuck same tt tt

  module _ (setting : Setting) {credit c' turns : ℕ} {rs valid : List Standing} {w : World} {around : DynamicContext} {z : FlatState} {y : MidState} {r : FlatEvaluated} {q : MidOutcome}
      (enough : credit ≤ c') (returning : (v : Value) → r.outcome ≡ value v → credit + 14 ≤ c') where
    -- **what was called is returned**, which costs 14 where it has a value
    pub tail_comes : CallEnds setting credit turns rs valid w around z y r q → CallEnds setting c' turns rs valid w around z y r (tail q)
    tail_comes (done x) =
        subst (λ p. CallEnds setting c' turns rs valid w around z y r p) (sym (tail_returns q x.word x.end))
        (done (record {
          result = x.result;
          outcome = x.outcome;
          word = x.word;
          end = refl;
          w' = x.w';
          world = world_then setting x.world x.back (world_cost setting 14 x.world.things);
          back = back_then setting x.world x.back (returning x.result x.outcome) (around_cost setting r.state q.state 14 (omega arith));
          of_value = x.of_value;
          frame = x.frame;
        }))
    tail_comes (left_by x) =
        subst (λ p. CallEnds setting c' turns rs valid w around z y r p) (sym (tail_passes q _ x.transfer.end tt))
        (left_by (record {
          transfer = record {
            exit_number = x.transfer.exit_number;
            result = x.transfer.result;
            landing = x.transfer.landing;
            outcome = x.transfer.outcome;
            target = x.transfer.target;
            valid_target = x.transfer.valid_target;
            to = x.transfer.to;
            outer = x.transfer.outer;
            stop = x.transfer.stop;
            word = x.transfer.word;
            end = refl;
            blocks = x.transfer.blocks;
            w' = x.transfer.w';
            of_value = x.transfer.of_value;
            world = x.transfer.world;
            charged = x.transfer.charged;
            paid = let p = x.transfer.paid in omega (arith, p, enough);
            pending = x.transfer.pending;
            landing_word = x.transfer.landing_word;
            landing_stands = x.transfer.landing_stands;
            landing_is = x.transfer.landing_is;
            lands = x.transfer.lands;
          };
          frame = x.frame;
        }))
    tail_comes (full_there x) =
        full_there (record {
          asked = x.asked;
          left_then = x.left_then;
          outcome = x.outcome;
          printed = subst (λ (p : List ℕ). IsPrefix r.state.state.printed p) (sym (tail_known q).printed) x.printed;
        })
    tail_comes (stopped x) =
        subst (λ p. CallEnds setting c' turns rs valid w around z y r p) (sym (tail_passes q q.end refl (stopped_passes setting r q.end x.because)))
        (stopped (record { because = x.because; printed = x.printed; paid = λ ended. let p = x.paid ended in omega (arith, p, enough) }))
    tail_comes (few_turns x) = few_turns x

-- **one routine calls another and returns what that comes to**
pub returning_is :
    (at : Placement) (c : Context) {p : MidProcedure} (to number : ℕ) (args ws : List ℕ) (regs : Registers) (y : MidState) → slice_get c.procedures number ≡ Some p → HoldAll args regs ws
    → (there : to < length regs) → exec c (code_of (returning at to number args)) regs y ≡ tail c to regs there (called c number ws (charged (call_cost args) y))
unfolding exec
returning_is at c to number args ws regs y there h low = ap (λ q. go_on q (λ rs x. exec c (code_of (return_word to ∷ [])) rs x)) (call_steps c to number args ws regs y there h)

pub returning_comes :
    (setting : Setting) (at : Placement) (c : Context) {p : MidProcedure} (to number : ℕ) (args ws : List ℕ) (regs : Registers) {credit c' turns : ℕ} {rs valid : List Standing} {w : World} {around : DynamicContext} {z : FlatState} (y : MidState)
    {r : FlatEvaluated} → slice_get c.procedures number ≡ Some p → HoldAll args regs ws → to < length regs → call_cost args + (credit + 14) ≤ c' → Things setting w z y
    → CallEnds setting credit turns rs valid w around z (charged (call_cost args) y) r (called c number ws (charged (call_cost args) y))
    → CallEnds setting c' turns rs valid w around z y r (exec c (code_of (returning at to number args)) regs y)
returning_comes setting at c to number args ws regs {credit = credit} {c' = c'} {turns = turns} {rs = rs} {valid = valid} {w = w} {around = around} {z = z} y {r = r} there h low enough t e =
    subst (λ q. CallEnds setting c' turns rs valid w around z y r q) (sym (returning_is at c to number args ws regs y there h low))
    (call_behind setting {c1 = call_cost args} (world_cost setting (call_cost args) t) (around_cost setting z y (call_cost args) (omega arith)) {c2 = credit + 14} (omega arith) refl (omega arith)
    (tail_comes c to regs low setting (omega arith) (λ v f. omega arith) e))

-- where it never returns, nothing is paid for that
pub returning_leaves :
    (setting : Setting) (at : Placement) (c : Context) {p : MidProcedure} (to number : ℕ) (args ws : List ℕ) (regs : Registers) {credit c' turns : ℕ} {rs valid : List Standing} {w : World} {around : DynamicContext} {z : FlatState} (y : MidState)
    {r : FlatEvaluated} → slice_get c.procedures number ≡ Some p → HoldAll args regs ws → to < length regs → call_cost args + credit ≤ c' → Things setting w z y → ((v : Value) → r.outcome ≡ value v → ⊥)
    → CallEnds setting credit turns rs valid w around z (charged (call_cost args) y) r (called c number ws (charged (call_cost args) y))
    → CallEnds setting c' turns rs valid w around z y r (exec c (code_of (returning at to number args)) regs y)
returning_leaves setting at c to number args ws regs {credit = credit} {c' = c'} {turns = turns} {rs = rs} {valid = valid} {w = w} {around = around} {z = z} y {r = r} there h low enough t never e =
    subst (λ q. CallEnds setting c' turns rs valid w around z y r q) (sym (returning_is at c to number args ws regs y there h low))
    (call_behind setting {c1 = call_cost args} (world_cost setting (call_cost args) t) (around_cost setting z y (call_cost args) (omega arith)) {c2 = credit} (omega arith) refl (omega arith)
    (tail_comes c to regs low setting (omega arith) (λ v f. absurd (never v f)) e))

-- ---- the branch of a choice that is the end of the code

pub first_alone :
    (c : Context) (t : Test) (first second : MidCode) {a b : ℕ} (rs : Registers) (z : MidState) → register t.first rs ≡ Some a → register t.second rs ≡ Some b
    → compares t.comparison a b ≡ true → IsLast (exec c first rs (charged 12 z)).end → exec c (step_and (choose t first second) no_step) rs z ≡ exec c first rs (charged 12 z)
unfolding exec
first_alone c t first second rs z e f h l =
    ap (λ q. go_on q (λ rs y. exec c no_step rs y))
    ((choose_first {c = c} {t = t} {first = first} {second = second} e f h (record { same = refl })).same ∙ go_on_last (exec c first rs (charged 12 z)).end (exec c first rs (charged 12 z)) _ refl l)
    ∙ go_on_last (exec c first rs (charged 12 z)).end (exec c first rs (charged 12 z)) _ refl l

pub second_alone :
    (c : Context) (t : Test) (first second : MidCode) {a b : ℕ} (rs : Registers) (z : MidState) → register t.first rs ≡ Some a → register t.second rs ≡ Some b
    → compares t.comparison a b ≡ false → IsLast (exec c second rs (charged 12 z)).end → exec c (step_and (choose t first second) no_step) rs z ≡ exec c second rs (charged 12 z)
unfolding exec
second_alone c t first second rs z e f h l =
    ap (λ q. go_on q (λ rs y. exec c no_step rs y))
    ((choose_second {c = c} {t = t} {first = first} {second = second} e f h (record { same = refl })).same ∙ go_on_last (exec c second rs (charged 12 z)).end (exec c second rs (charged 12 z)) _ refl l)
    ∙ go_on_last (exec c second rs (charged 12 z)).end (exec c second rs (charged 12 z)) _ refl l
