-- A procedure that a form calls: the form goes on where it returned, and every other end passes.
use Rattle.std.proofs.Common.{◌≡◌, ℕ, ◌+◌, ◌<◌, ◌≤◌, List, [], ◌∷◌, length, Option, Some, None, refl, sym, ap, ◌∙◌, subst, arith}
use Rattle.std.specs.Prelude.{slice_get, slice_set}
use Rattle.lang_meaning.specs.Prefixes.{IsPrefix}
use Rattle.flat_language.specs.FlatState.{FlatEvaluated}
use Rattle.flat_laws.specs.FlatLater.{FlatLater}
use Rattle.mid_code.specs.declared.program.MidProcedure.{MidProcedure}
use Rattle.mid_code.specs.declared.operation.Callee.TheVariants.{Procedure, Word}
use Rattle.mid_code.specs.Meaning.{Context, enter, count, called_from, exec, exec_step, with_callee}
use Rattle.mid_code.specs.Meaning.{called as mid_called}
use Rattle.mid_code.specs.State.{Registers, register, End, falls, returns, cuts, no_room, no_level, no_turn, halts, unhandled, exhausted, stuck, MidState, MidOutcome, Next, ends, with_some, with_registers}
use Rattle.mid_code.specs.State.{charged as mid_charged}
use Rattle.mid_arena.proofs.Registers.{register_here}
use Rattle.mid_arena.proofs.Running.{some_found}
use Rattle.back_lowering.specs.Steps.{call, call_number}
use Rattle.back_relation.specs.Setting.{Setting}
use Rattle.back_relation.specs.Ends.{WorldKept, Around, Because, done, left_by, full_there, stopped, few_turns, Returned, LeftCall, CallEnds}
use Rattle.back_relation.specs.Procedures.{called}
use Rattle.back_relation.specs.Starts.{Start, EndsFrom}
use Rattle.back_relation.proofs.Activations.{activation_later}
use Rattle.back_relation.proofs.Cuts.{words_fewer}
use Rattle.back_relation.proofs.Straight.{same_here, set_beside, registers_set, world_cost, around_cost}
use Rattle.back_relation.proofs.Then.{same_world, world_then, back_then}
use Rattle.back_relation.proofs.Worlds.{later_same, stack_same}
use Rattle.back_calling.specs.Calling.{WordsIn, call_cost, LawOfFormCalls}
use Rattle.back_calling.proofs.Transferring.{transfers_behind, transfers_as}
use Rattle.back_calling.proofs.Outward.{Outward, captured_later, activation_out}

-- ---- the end of a call

pub called_state : (q : MidOutcome) (to : ℕ) (rs : Registers) → (mid_called q to rs).state ≡ q.state
unfolding mid_called
called_state q to rs = from q.end
  where
    from : (e : End) → (called_from e to rs q.state).state ≡ q.state
    from falls = refl
    from e = refl

-- it costs nothing
pub called_costs : (q : MidOutcome) (to : ℕ) (rs : Registers) → (mid_called q to rs).state.cost ≡ q.state.cost
called_costs q to rs = ap (λ (s : MidState). s.cost) (called_state q to rs)

pub called_returned : (q : MidOutcome) (to : ℕ) (rs : Registers) {word : ℕ} → q.end ≡ returns word → mid_called q to rs ≡ ends falls (slice_set rs to (Some word)) q.state
unfolding mid_called
called_returned q to rs e = ap (λ l. called_from l to rs q.state) e

pub called_cut : (q : MidOutcome) (to : ℕ) (rs : Registers) {n word : ℕ} → q.end ≡ cuts n word → mid_called q to rs ≡ ends q.end rs q.state
unfolding mid_called
called_cut q to rs e = ap (λ l. called_from l to rs q.state) e ∙ ap (λ l. ends l rs q.state) (sym e)

pub called_because : (setting : Setting) (r : FlatEvaluated) (q : MidOutcome) (to : ℕ) (rs : Registers) → Because setting r q.end → Because setting r (mid_called q to rs).end
unfolding mid_called
called_because setting r q to rs h = from q.end h
  where
    from : (e : End) → Because setting r e → Because setting r (called_from e to rs q.state).end
    from (no_room asked left_then) h = h
    from no_level h = h
    from exhausted h = h
    from falls h = absurd h
    from (returns word) h = absurd h
    from (cuts n word) h = absurd h
    from no_turn h = absurd h
    from (halts word) h = absurd h
    from (unhandled class site condition) h = absurd h
    from stuck h = absurd h

-- ---- the step

pub words_read : (regs : Registers) (arguments ws : List ℕ) (next : List ℕ → Next) (y : MidState) → WordsIn regs arguments ws → with_registers arguments next regs y ≡ next ws regs y
unfolding with_registers
words_read regs [] [] next y h = refl
words_read regs [] (w ∷ ws) next y h = absurd h
words_read regs (r ∷ rs) [] next y h = absurd h
words_read regs (r ∷ rs) (w ∷ ws) next y h =
    some_found (λ v. with_registers rs (λ vs. next (v ∷ vs))) regs y h.0 ∙ words_read regs rs ws (λ vs. next (w ∷ vs)) y h.1

module _ (c : Context) (regs : Registers) (y : MidState) (d number : ℕ) (arguments ws : List ℕ) (there : WordsIn regs arguments ws) where
  abbrev paid : MidState
  paid = mid_charged (call_cost arguments) y

  abbrev entering : List ℕ → MidProcedure → Next
  entering vs p rs x = mid_called (count c p.counted (enter p vs) x) d rs

  found_or_not : (o : Option MidProcedure) → with_some o (entering ws) regs paid ≡ mid_called (with_some o (λ p rs x. count c p.counted (enter p ws) x) [] paid) d regs
  unfolding with_some mid_called
  found_or_not None = refl
  found_or_not (Some p) = refl

  pub call_comes : exec_step c (call d number arguments) regs y ≡ mid_called (called c number ws paid) d regs
  unfolding exec
  call_comes =
      words_read regs arguments ws (λ vs. with_callee c (Procedure number) (entering vs)) paid there ∙ found_or_not (slice_get c.procedures number)

  pub call_number_comes : (of : ℕ) → register of regs ≡ Some number → exec_step c (call_number d of arguments) regs y ≡ mid_called (called c number ws paid) d regs
  unfolding exec
  call_number_comes of e =
      words_read regs arguments ws (λ vs. with_callee c (Word of) (entering vs)) paid there
      ∙ some_found (λ n. with_some (slice_get c.procedures n) (entering ws)) regs paid e ∙ found_or_not (slice_get c.procedures number)

-- ---- what it comes to

module _ (setting : Setting) (a : Start setting) (cost : ℕ) where
  abbrev y1 : MidState
  y1 = mid_charged cost a.y

  paid_world : WorldKept setting a.w a.w a.z a.z a.y y1
  paid_world = world_cost setting cost a.begins.call.things

  paid_around : Around setting cost a.z a.z a.y y1
  paid_around = around_cost setting a.z a.y cost (omega arith)

module _ (setting : Setting) (a : Start setting) (cost credit d : ℕ) (low : a.d ≤ d) (there : d < length a.regs) {r : FlatEvaluated} {q : MidOutcome} (grows : FlatLater a.z r.state) where
  came_back : Returned setting credit a.w a.z (y1 setting a cost) r q → EndsFrom setting (credit + cost) a d r (mid_called q d a.regs)
  came_back x =
      let world : WorldKept setting a.w x.w' a.z r.state a.y q.state = world_then setting (paid_world setting a cost) (paid_around setting a cost) x.world in
      let around : Around setting (credit + cost) a.z r.state a.y q.state = back_then setting (paid_world setting a cost) (paid_around setting a cost) (omega arith) x.back in
      let out : Outward a.w x.w' a.y q.state = record { from = omega (arith, stack_same (same_world setting world around)); stack = world.stack } in
      let set = slice_set a.regs d (Some x.word) in
      subst (λ p. EndsFrom setting (credit + cost) a d r p) (sym (called_returned q d a.regs x.end))
      (done (record {
        result = x.result;
        outcome = x.outcome;
        end = refl;
        w' = x.w';
        reached = record {
          kept = record {
            world = world;
            activation =
                activation_later setting {d = a.d} {z = r.state} {z' = r.state} {y = q.state} {y' = q.state} (later_same x.w') (same_here x.w' refl) refl (λ n cs k. k)
                (set_beside a.regs d x.word low) a.begins.scope
                (activation_out setting world.later out x.frame (captured_later setting a.begins.call.things grows) a.begins.activation);
            registers = registers_set a.regs d x.word (omega arith);
          };
          back = around;
        };
        word = x.word;
        in_register = register_here a.regs d x.word there;
        of_value = x.of_value;
      }))

  passed : LeftCall setting credit a.rs a.valid a.w a.around a.z (y1 setting a cost) r q → EndsFrom setting (credit + cost) a d r (mid_called q d a.regs)
  passed x =
      let t = transfers_behind setting (paid_world setting a cost) (paid_around setting a cost) {c = credit + cost} (omega arith) x.transfer in
      let fewer = words_fewer (length a.y.arena.memory) t.to.address a.y.arena.blocks q.state.arena.blocks t.blocks in
      let size = t.world.same_size in
      let out : Outward a.w t.w' a.y q.state = record { from = omega (arith, fewer, size); stack = t.world.stack } in
      subst (λ p. EndsFrom setting (credit + cost) a d r p) (sym (called_cut q d a.regs t.end))
      (left_by (record {
        transfer = transfers_as setting a.regs t;
        activation = activation_out setting t.world.later out x.frame (captured_later setting a.begins.call.things grows) a.begins.activation;
        registers = record { count = refl; same = λ i few n. refl };
      }))

  -- **what the call comes to, the form comes to**
  pub form_ends : CallEnds setting credit a.turns a.rs a.valid a.w a.around a.z (y1 setting a cost) r q → EndsFrom setting (credit + cost) a d r (mid_called q d a.regs)
  form_ends (done x) = came_back x
  form_ends (left_by x) = passed x
  form_ends (full_there x) =
      full_there (record {
        asked = x.asked;
        left_then = x.left_then;
        outcome = x.outcome;
        printed = subst (λ (s : MidState). IsPrefix r.state.state.printed s.printed) (sym (called_state q d a.regs)) x.printed;
      })
  form_ends (stopped x) =
      stopped (record {
        because = called_because setting r q d a.regs x.because;
        printed = subst (λ (s : MidState). IsPrefix s.printed r.state.state.printed) (sym (called_state q d a.regs)) x.printed;
        paid = λ ended. omega (arith, x.paid ended, called_costs q d a.regs);
      })
  form_ends (few_turns x) = few_turns x

pub form_calls_law : (setting : Setting) → LawOfFormCalls setting
form_calls_law setting = record {
  by_number = λ c a credit d number arguments ws r low there words grows e.
      subst (λ q. EndsFrom setting (credit + call_cost arguments) a d r q) (sym (call_comes c a.regs a.y d number arguments ws words))
      (form_ends setting a (call_cost arguments) credit d low there grows e);
  by_register = λ c a credit d of number arguments ws r low there found words grows e.
      subst (λ q. EndsFrom setting (credit + call_cost arguments) a d r q) (sym (call_number_comes c a.regs a.y d number arguments ws words of found))
      (form_ends setting a (call_cost arguments) credit d low there grows e);
}
