-- Code of a form in words of an application: the words are given back, and units that were charged pay.
use Rattle.std.proofs.Common.{◌≡◌, ℕ, ◌+◌, ◌*◌, ◌≤◌, refl, arith}
use Rattle.lang_meaning.specs.Counts.{unit_cost}
use Rattle.lang_meaning.specs.State.{Limit, words, unlimited}
use Rattle.flat_language.specs.FlatState.{FlatEvaluated, charged, with_stack}
use Rattle.mid_code.specs.State.{Registers, MidState, MidOutcome}
use Rattle.back_relation.specs.Setting.{Setting}
use Rattle.back_relation.specs.Worlds.{World}
use Rattle.back_relation.specs.Things.{Things, WithinLimit}
use Rattle.back_relation.specs.Activation.{ActivationStands}
use Rattle.back_relation.specs.Ends.{WorldKept, done, left_by, full_there, stopped, few_turns}
use Rattle.back_relation.specs.Forms.{FormEnds}
use Rattle.back_relation.specs.Starts.{Start, EndsAt}
use Rattle.back_relation.proofs.Activations.{activation_later}
use Rattle.back_relation.proofs.Worlds.{later_same}
use Rattle.back_relation.proofs.Straight.{same_here}
use Rattle.back_calling.proofs.Charging.{asked, things_charged}

module _ (setting : Setting) (a : Start setting) (size u : ℕ) (r : FlatEvaluated) (kept : r.state.state.stack ≡ a.z.state.stack + size) where
  abbrev after : FlatEvaluated
  after = with_stack a.z.state.stack r

  things_after : {w' : World} {x : MidState} → Things setting w' r.state x → Things setting w' after.state x
  things_after t = things_charged setting after.state t refl refl refl refl refl (within setting.limit t.within_limit)
    where
      within : (l : Limit) → WithinLimit l r.state.state → WithinLimit l after.state.state
      within unlimited h = tt
      within (words n) h = omega (arith, h, kept)

  world_after : {w' : World} {x : MidState} → WorldKept setting a.w w' (charged u (asked size a.z)) r.state a.y x → WorldKept setting a.w w' a.z after.state a.y x
  world_after k = record { later = k.later; things = things_after k.things; stack = k.stack; end = k.end; more_exits = k.more_exits; same_size = k.same_size }

  activation_after : {w' : World} {regs : Registers} {x : MidState} → ActivationStands setting a.s a.rs a.valid w' a.env a.around r.state regs x
      → ActivationStands setting a.s a.rs a.valid w' a.env a.around after.state regs x
  activation_after {w'} {regs} {x} t =
      activation_later setting {d = a.d} {y = x} {y' = x} (later_same w') (same_here w' {y = x} {y' = x} refl) refl (λ n cs k. k) (λ n few. refl) a.begins.scope t

  pub form_framed :
      {c1 c2 : ℕ} {q : MidOutcome} → c1 ≤ unit_cost * u + c2
      → FormEnds setting c1 a.turns a.rs a.valid a.s a.d a.w a.env a.around (charged u (asked size a.z)) a.regs a.y r q → EndsAt setting c2 a after q
  form_framed enough (done f) =
      let b = f.reached.back in
      done (record {
        result = f.result;
        outcome = f.outcome;
        end = f.end;
        w' = f.w';
        reached = record {
          kept = record { world = world_after f.reached.kept.world; activation = activation_after f.reached.kept.activation; registers = f.reached.kept.registers };
          back = record { control = b.control; blocks = b.blocks; charged = omega (arith, b.charged, kept); paid = omega (arith, b.paid, enough) };
        };
        word = f.word;
        in_register = f.in_register;
        of_value = f.of_value;
      })
  form_framed enough (left_by f) =
      let t = f.transfer in
      left_by (record {
        transfer = record {
          exit_number = t.exit_number;
          result = t.result;
          landing = t.landing;
          outcome = t.outcome;
          target = t.target;
          valid_target = t.valid_target;
          to = t.to;
          outer = t.outer;
          stop = t.stop;
          word = t.word;
          end = t.end;
          blocks = t.blocks;
          w' = t.w';
          of_value = t.of_value;
          world = world_after t.world;
          charged = omega (arith, t.charged, kept);
          paid = omega (arith, t.paid, enough);
          pending = t.pending;
          landing_word = t.landing_word;
          landing_stands = t.landing_stands;
          landing_is = t.landing_is;
          lands = t.lands;
        };
        activation = activation_after f.activation;
        registers = f.registers;
      })
  form_framed enough (full_there x) = full_there (record { asked = x.asked; left_then = x.left_then; outcome = x.outcome; printed = x.printed })
  form_framed enough (stopped x) = stopped (record { because = x.because; printed = x.printed; paid = λ ended. omega (arith, enough, x.paid ended) })
  form_framed enough (few_turns x) = few_turns (omega (arith, x))
