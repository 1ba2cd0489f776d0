-- Outside the record of a cleanup, before, in and behind the cleanup: what was kept since the form began.
use Rattle.std.proofs.Common.{◌≡◌, ℕ, ◌+◌, ◌*◌, ◌<◌, ◌≤◌, List, length, Some, sym, ap, ◌∙◌, subst, arith}
use Rattle.std.specs.Prelude.{slice_get}
use Rattle.lang_meaning.specs.declared.scope.ExitForm.{ExitForm}
use Rattle.lang_meaning.specs.State.{DynamicContext, Exit}
use Rattle.flat_language.specs.FlatState.{FlatState, FlatEvaluated}
use Rattle.mid_code.specs.Arena.{stack_from, blocks_from, word_in}
use Rattle.mid_code.specs.State.{Registers, MidState, MidOutcome}
use Rattle.back_lowering.specs.declared.scope.OwnExit.{OwnExit}
use Rattle.back_lowering.specs.declared.scope.Reach.TheVariants.{BySearch}
use Rattle.back_relation.specs.Setting.{Setting}
use Rattle.back_relation.specs.Room.{words_for_handler}
use Rattle.back_relation.specs.Worlds.{World, Later, Standing, record_of_exit}
use Rattle.back_relation.specs.Around.{AroundStands}
use Rattle.back_relation.specs.Activation.{RegistersKept, ExitReached, ActivationStands, in_cleanup}
use Rattle.back_relation.specs.Ends.{ChargedFrom, TakenCharged, PaidFrom, WorldKept, Transfers}
use Rattle.back_relation.specs.Forms.{Begins}
use Rattle.back_relation.specs.Starts.{Start, FellFrom, ReachedFrom, LeftFrom}
use Rattle.back_relation.proofs.Starts.{room_after, scope_later}
use Rattle.back_relation.proofs.Then.{registers_then, method_there_again, same_world}
use Rattle.back_relation.proofs.Worlds.{Same, stack_same, around_again}
use Rattle.back_exits.specs.Inside.{scope_with, environment_with, around_with, ExitsStand, around_at}
use Rattle.back_exits.proofs.Inside.{world_both, exits_of, activation_with}
use Rattle.back_exits.proofs.Scopes.{scope_mapped, searched_exits}

-- from a point to a later one in its own activation, with the same blocks
pub record Came (setting : Setting) (a : Start setting) (credit : ℕ) (w : World) (z : FlatState) (g : Registers) (y : MidState) : Type 0 where
  pub world : WorldKept setting a.w w a.z z a.y y
  pub registers : RegistersKept a.s.code a.d a.regs g
  pub blocks : y.arena.blocks ≡ a.y.arena.blocks
  pub charged : ChargedFrom a.z a.y z y
  pub paid : PaidFrom credit a.z a.y z y
  pub activation : ActivationStands setting a.s a.rs a.valid w a.env a.around z g y

module _ (setting : Setting) (a : Start setting) where
  -- the exits of the activation are as they were
  pub exits_kept : {w : World} {g : Registers} → Later a.w w → RegistersKept a.s.code a.d a.regs g → ExitsStand a.s.code.exits a.s.flat.exits a.s.exits.own a.env.exits a.rs a.valid a.around.exits w g
  exits_kept {w} {g} later kept =
      let t = a.begins.activation in
      record {
        exit_count = t.exit_count;
        flat_count = t.flat_count;
        reached = λ i x e.
            let old = t.exits i x e in
            let own = a.begins.scope.exits i x e in (
              old.0,
              old.1,
              ap word_in (kept.same x.serial own.0.0 own.0.1) ∙ old.2,
              subst (λ o. ExitReached x.reach a.rs a.valid a.around.exits old.0 o) (sym (ap word_in (kept.same x.record_register own.1.0 own.1.1))) old.3,
            );
        exit_forms = λ i e f. later.exit_forms e (slice_get a.s.exits.own i) (t.exit_forms i e f);
      }

  pub came_of : {credit : ℕ} {w : World} {z : FlatState} {g : Registers} {y : MidState} → ReachedFrom setting credit a a.d w z g y → Came setting a credit w z g y
  came_of x = record {
    world = x.kept.world;
    registers = x.kept.registers;
    blocks = x.back.blocks;
    charged = x.back.charged;
    paid = x.back.paid;
    activation = x.kept.activation;
  }

  pub around_of : {credit : ℕ} {w : World} {z : FlatState} {g : Registers} {y : MidState} → ReachedFrom setting credit a a.d w z g y → AroundStands setting w a.rs a.valid a.around z y
  around_of x = around_again setting x.kept.world.later (same_world setting x.kept.world x.back) x.back.control x.kept.world.end x.kept.world.more_exits (around_at setting a)

  module _ {credit : ℕ} {w : World} {z : FlatState} {g : Registers} {y : MidState} (came : Came setting a credit w z g y) where
    pub came_same : Same a.w w a.y y
    came_same = record { blocks = came.blocks; size = came.world.same_size; stack = came.world.stack }

    pub from_came : stack_from y.arena ≡ stack_from a.y.arena
    from_came = stack_same came_same

    -- where the cleanup begins
    module _ {valid : List Standing} {exits : List Exit} (around_stands : AroundStands setting w a.rs valid (around_with exits a.around) z y) (m : ℕ) (fewer : m ≤ a.n) (there : a.d + 3 < length a.regs) where
      pub cleanup_begins : Begins setting a.rs valid (in_cleanup a.s) (a.d + 3) m w a.env (around_with exits a.around) z g y
      cleanup_begins = record {
        call = record {
          things = came.world.things;
          around_stands = around_stands;
          room =
              room_after setting.limit (m + words_for_handler * length a.around.handlers) (a.n + words_for_handler * length a.around.handlers) a.z z a.y y (omega (arith, fewer)) came.charged
              a.begins.call.room;
        };
        activation = activation_with setting {y' = y} came.activation (searched_exits (exits_of came.activation)) came.activation.method;
        scope = scope_mapped (λ r. BySearch) a.s.code (a.d + 3) (scope_later a.s.code a.d (a.d + 3) (omega arith) a.begins.scope);
        method_there =
            method_there_again setting a.y.arena y.arena a.regs g a.s.code.method a.env.method came.world.later (let from = from_came in omega (arith, from))
            (λ i e. let own = (a.begins.scope.method i e).2 in ap word_in (came.registers.same (i + 2) own.0 own.1)) a.begins.method_there;
        first = subst (λ n. a.d + 3 < n) (sym came.registers.count) there;
      }

      abbrev pub cleanup_start : Start setting
      cleanup_start = record {
        turns = a.turns;
        rs = a.rs;
        valid = valid;
        s = in_cleanup a.s;
        d = a.d + 3;
        n = m;
        w = w;
        env = a.env;
        around = around_with exits a.around;
        z = z;
        regs = g;
        y = y;
        begins = cleanup_begins;
      }

      -- and where it fell out
      pub came_behind : {c1 : ℕ} {r : FlatEvaluated} {q : MidOutcome} (f : FellFrom setting c1 cleanup_start (a.d + 3) r q) → Came setting a (credit + c1) f.w' r.state q.registers q.state
      came_behind {c1} {r} {q} f =
          let kept : RegistersKept a.s.code a.d a.regs q.registers = record {
            count = f.reached.kept.registers.count ∙ came.registers.count;
            same = λ i low none. f.reached.kept.registers.same i (omega (arith, low)) none ∙ came.registers.same i low none;
          } in
          let world : WorldKept setting a.w f.w' a.z r.state a.y q.state = world_both setting came.world f.reached.kept.world (λ x low high. let from = from_came in omega (arith, low, from)) in
          record {
            world = world;
            registers = kept;
            blocks = f.reached.back.blocks ∙ came.blocks;
            charged = let first = came.charged in let then = f.reached.back.charged in omega (arith, first, then);
            paid = let first = came.paid in let then = f.reached.back.paid in omega (arith, first, then);
            activation = activation_with setting {y' = q.state} f.reached.kept.activation (exits_kept world.later kept) f.reached.kept.activation.method;
          }

    -- **a transfer from there leaves the form**
    module _ {c2 : ℕ} (c : ℕ) {valid : List Standing} {around : DynamicContext} {r : FlatEvaluated} {q : MidOutcome} (enough : credit + c2 ≤ c) (t : Transfers setting c2 a.rs valid w around z y r q)
        (valid_target : record_of_exit t.exit_number a.around.exits a.valid ≡ Some t.target) (charged : TakenCharged z y r.state q.state) (kept : RegistersKept a.s.code a.d g q.registers)
        {own : List OwnExit} {count : ℕ} {forms : List ExitForm} {numbers : List ℕ} {rs valid' : List Standing} {exits : List Exit}
        (activation : ActivationStands setting (scope_with count forms own a.s) rs valid' t.w' (environment_with numbers a.env) (around_with exits a.around) r.state q.registers q.state) where
      world_out : WorldKept setting a.w t.w' a.z r.state a.y q.state
      world_out = world_both setting came.world t.world (λ x low high. let from = from_came in omega (arith, low, from))

      transfer_out : Transfers setting c a.rs a.valid a.w a.around a.z a.y r q
      transfer_out = record {
        exit_number = t.exit_number;
        result = t.result;
        landing = t.landing;
        outcome = t.outcome;
        target = t.target;
        valid_target = valid_target;
        to = t.to;
        outer = t.outer;
        stop = t.stop;
        word = t.word;
        end = t.end;
        blocks =
            ap (λ n. blocks_from n a.y.arena.blocks t.to.address) (sym came.world.same_size) ∙ ap (λ bs. blocks_from (length y.arena.memory) bs t.to.address) (sym came.blocks) ∙ t.blocks;
        w' = t.w';
        of_value = t.of_value;
        world = world_out;
        charged = let first = came.charged in let from = from_came in omega (arith, first, charged, from);
        paid = let first = came.paid in let then = t.paid in omega (arith, first, then, enough);
        pending = t.pending;
        landing_word = t.landing_word;
        landing_stands = t.landing_stands;
        landing_is = t.landing_is;
        lands = t.lands;
      }

      pub left_outside : LeftFrom setting c a a.d r q
      unfolding transfer_out
      left_outside =
          let all : RegistersKept a.s.code a.d a.regs q.registers = registers_then (omega arith) came.registers kept in
          record {
            transfer = transfer_out;
            activation = activation_with setting {y' = q.state} activation (exits_kept world_out.later all) activation.method;
            registers = all;
          }

    -- behind a cleanup that ran because the form fell out
    pub reached_behind :
        (around_stands : AroundStands setting w a.rs a.valid a.around z y) (m : ℕ) (fewer : m ≤ a.n) (there : a.d + 3 < length a.regs) (x : ReachedFrom setting credit a a.d w z g y) {r : FlatEvaluated} {q : MidOutcome}
        (f : FellFrom setting 0 (cleanup_start {valid = a.valid} {exits = a.around.exits} around_stands m fewer there) (a.d + 3) r q) → ReachedFrom setting credit a a.d f.w' r.state q.registers q.state
    reached_behind around_stands m fewer there x {r} {q} f =
        let behind : Came setting a (credit + 0) f.w' r.state q.registers q.state = came_behind {valid = a.valid} {exits = a.around.exits} around_stands m fewer there f in
        let first = x.back.control in
        let then = f.reached.back.control in
        record {
          kept = record { world = behind.world; activation = behind.activation; registers = behind.registers };
          back = record {
            control = record {
              current = λ n e. then.current n (first.current n e);
              link = λ n e. then.link n (first.link n e);
              handlers = λ n e. then.handlers n (first.handlers n e);
              bindings = λ n e. then.bindings n (first.bindings n e);
            };
            blocks = behind.blocks;
            charged = behind.charged;
            paid = let paid = behind.paid in omega (arith, paid);
          };
        }
