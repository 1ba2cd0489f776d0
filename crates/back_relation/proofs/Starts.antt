-- A point where code begins, in one record, and the combinators over such points.
use Rattle.std.proofs.Common.{◌≡◌, ℕ, ◌+◌, ◌*◌, ◌<◌, ◌≤◌, List, length, Some, refl, sym, subst, arith}
use Rattle.std.specs.Prelude.{slice_set}
use Rattle.lang_meaning.specs.Counts.{unit_cost}
use Rattle.lang_meaning.specs.Values.{Value}
use Rattle.lang_meaning.specs.State.{DynamicContext, Limit, words, unlimited}
use Rattle.flat_language.specs.FlatState.{FlatState, FlatEvaluated, go_on, gives, charged}
use Rattle.mid_code.specs.State.{Registers, register, falls, ends, MidState, MidOutcome, Next}
use Rattle.mid_code.specs.State.{charged as mid_charged, go_on as mid_go_on}
use Rattle.mid_code.specs.declared.operation.Test.{Test}
use Rattle.mid_code.specs.Law.{Grown}
use Rattle.mid_code.specs.Meaning.{Context, exec}
use Rattle.mid_code.specs.MidCode.{MidCode}
use Rattle.mid_arena.specs.Places.{word_of}
use Rattle.mid_arena.proofs.Registers.{register_here}
use Rattle.mid_arena.proofs.Running.{RunsTo}
use Rattle.back_lowering.specs.declared.scope.Scope.{Scope}
use Rattle.back_relation.specs.Setting.{Setting}
use Rattle.back_relation.specs.Worlds.{World, Standing}
use Rattle.back_relation.specs.Around.{RoomFor}
use Rattle.back_relation.specs.Activation.{IsOwn, ScopeStands}
use Rattle.back_relation.specs.Ends.{ChargedFrom, WorldKept, Around, Transfers, done, left_by, full_there, stopped, few_turns, form_spare, form_credit}
use Rattle.back_relation.specs.Forms.{FormEnds, TestEnds, SparingTest, judged_credit}
use Rattle.back_relation.specs.Starts.{FlatGrown, Start, EndsFrom, EndsAt, SparingAt, EndsBy, FellFrom, ReachedFrom}
use Rattle.back_relation.proofs.Activations.{activation_later}
use Rattle.back_relation.proofs.Straight.{same_here, set_beside, registers_set, world_units, world_cost, around_units, around_cost}
use Rattle.back_relation.proofs.Stops.{stopped_before}
use Rattle.back_relation.proofs.Then.{ends_then, begins_then, ends_two}
use Rattle.back_relation.proofs.Worlds.{later_same}

-- room that is left is left behind what was charged
pub room_after :
    (l : Limit) (m n : ℕ) (z z' : FlatState) (y y' : MidState) → m ≤ n → ChargedFrom z y z' y' → RoomFor l n z.state y → RoomFor l m z'.state y'
room_after unlimited m n z z' y y' h c r = tt
room_after (words k) m n z z' y y' h c r = omega (arith, h, c, r)

-- a scope stands where code may use later registers only
own_later : (s : Scope) {d e r : ℕ} → d ≤ e → IsOwn s d r → IsOwn s e r
own_later s l own = (omega (arith, l, own.0), own.1)

pub scope_later : (s : Scope) (d e : ℕ) → d ≤ e → ScopeStands s d → ScopeStands s e
scope_later s d e l t = record {
  slots_below = λ n r h. omega (arith, l, t.slots_below n r h);
  slots_apart = t.slots_apart;
  exits = λ n x h. let own = t.exits n x h in (own_later s l own.0, own_later s l own.1);
  self = own_later s l t.self;
  method = λ m h. let own = t.method m h in (own_later s l own.0, own_later s l own.1, own_later s l own.2);
  site = λ r h. own_later s l (t.site r h);
}

module _ (setting : Setting) where
  -- the start where code goes on, with the first register e
  abbrev pub start_after :
      {credit : ℕ} (a : Start setting) (d1 e m : ℕ) {w : World} {z : FlatState} {regs : Registers} {y : MidState} → a.d ≤ d1 → a.d ≤ e → m ≤ a.n → e < length a.regs
      → ReachedFrom setting credit a d1 w z regs y → Start setting
  start_after a d1 e m {w} {z} {regs} {y} l k h there x = record {
    turns = a.turns;
    rs = a.rs;
    valid = a.valid;
    s = a.s;
    d = e;
    n = m;
    w = w;
    env = a.env;
    around = a.around;
    z = z;
    regs = regs;
    y = y;
    begins =
        begins_then setting l x e m a.begins (scope_later a.s.code a.d e k a.begins.scope)
        (room_after setting.limit _ _ a.z z a.y y (omega arith) x.back.charged a.begins.call.room) there;
  }

  -- units were charged, of which the code knows nothing
  pub reached_units : (a : Start setting) (u : ℕ) → ReachedFrom setting 0 a a.d a.w (charged u a.z) a.regs a.y
  reached_units a u = record {
    kept = record {
      world = world_units setting u a.begins.call.things;
      activation =
          activation_later setting {d = a.d} {y = a.y} (later_same a.w) (same_here a.w refl) refl (λ n cs k. k) (λ r few. refl) a.begins.scope
          a.begins.activation;
      registers = record { count = refl; same = λ i few n. refl };
    };
    back = around_units setting a.z a.y u;
  }

  -- a cost that was paid before
  pub reached_cost : {credit : ℕ} (a : Start setting) (e cost : ℕ) → cost ≤ credit → ReachedFrom setting credit a e a.w a.z a.regs (mid_charged cost a.y)
  reached_cost a e cost h = record {
    kept = record {
      world = world_cost setting cost a.begins.call.things;
      activation =
          activation_later setting {d = a.d} {y = a.y} (later_same a.w) (same_here a.w refl) refl (λ n cs k. k) (λ r few. refl) a.begins.scope
          a.begins.activation;
      registers = record { count = refl; same = λ i few n. refl };
    };
    back = around_cost setting a.z a.y cost h;
  }

  -- a register behind the first ones was set too
  pub reached_set :
      {credit : ℕ} (a : Start setting) (e r word cost : ℕ) → e ≤ r → a.d ≤ r → cost ≤ credit
      → ReachedFrom setting credit a e a.w a.z (slice_set a.regs r (Some word)) (mid_charged cost a.y)
  reached_set a e r word cost l k h = record {
    kept = record {
      world = world_cost setting cost a.begins.call.things;
      activation =
          activation_later setting {d = a.d} {y = a.y} (later_same a.w) (same_here a.w refl) refl (λ n cs k. k) (set_beside a.regs r word k) a.begins.scope
          a.begins.activation;
      registers = registers_set a.regs r word l;
    };
    back = around_cost setting a.z a.y cost h;
  }

  -- nothing was done
  pub reached_same : {credit : ℕ} (a : Start setting) (e : ℕ) → ReachedFrom setting credit a e a.w a.z a.regs a.y
  reached_same a e = record {
    kept = record {
      world = record {
        later = later_same a.w;
        things = a.begins.call.things;
        stack = (same_here a.w {y = a.y} {y' = a.y} refl).stack;
        end = λ k e. e;
        more_exits = omega arith;
        same_size = refl;
      };
      activation = a.begins.activation;
      registers = record { count = refl; same = λ i few n. refl };
    };
    back = record {
      control = record { current = λ k e. e; link = λ k e. e; handlers = λ k e. e; bindings = λ k e. e };
      blocks = refl;
      charged = omega arith;
      paid = omega arith;
    };
  }

  -- ---- the units of a form pay for what follows

  abbrev pub start_charged : Start setting → ℕ → Start setting
  start_charged a u = start_after a a.d a.d a.n (omega arith) (omega arith) (omega arith) a.begins.first (reached_units a u)

  uncharged : {w w' : World} {z z' : FlatState} {y y' : MidState} (u : ℕ) → WorldKept setting w w' (charged u z) z' y y' → WorldKept setting w w' z z' y y'
  uncharged u k = record { later = k.later; things = k.things; stack = k.stack; end = k.end; more_exits = k.more_exits; same_size = k.same_size }

  repaid : {c1 c2 : ℕ} {z z' : FlatState} {y y' : MidState} (u : ℕ) → c1 ≤ unit_cost * u + c2 → Around setting c1 (charged u z) z' y y' → Around setting c2 z z' y y'
  repaid u h a = record { control = a.control; blocks = a.blocks; charged = a.charged; paid = omega (arith, h, a.paid) }

  transfers_repaid :
      {c1 c2 : ℕ} {rs valid : List Standing} {w : World} {around : DynamicContext} {z : FlatState} {y : MidState} {r : FlatEvaluated} {q : MidOutcome} (u : ℕ)
      → c1 ≤ unit_cost * u + c2 → Transfers setting c1 rs valid w around (charged u z) y r q → Transfers setting c2 rs valid w around z y r q
  transfers_repaid u h t = record {
    exit_number = t.exit_number;
    result = t.result;
    landing = t.landing;
    outcome = t.outcome;
    target = t.target;
    valid_target = t.valid_target;
    to = t.to;
    outer = t.outer;
    stop = t.stop;
    word = t.word;
    end = t.end;
    blocks = t.blocks;
    w' = t.w';
    of_value = t.of_value;
    world = uncharged u t.world;
    charged = t.charged;
    paid = omega (arith, h, t.paid);
    pending = t.pending;
    landing_word = t.landing_word;
    landing_stands = t.landing_stands;
    landing_is = t.landing_is;
    lands = t.lands;
  }

  pub reached_repaid :
      {c1 c2 : ℕ} (a : Start setting) (u : ℕ) {e : ℕ} {w : World} {z : FlatState} {regs : Registers} {y : MidState} → c1 ≤ unit_cost * u + c2
      → ReachedFrom setting c1 (start_charged a u) e w z regs y → ReachedFrom setting c2 a e w z regs y
  reached_repaid a u h x = record {
    kept = record { world = uncharged u x.kept.world; activation = x.kept.activation; registers = x.kept.registers };
    back = repaid u h x.back;
  }

  pub ends_charged_by :
      {D E : Type 0} {c1 c2 : ℕ} (a : Start setting) (u : ℕ) {r : FlatEvaluated} {q : MidOutcome} → (D → E) → c1 ≤ unit_cost * u + c2
      → EndsBy setting D c1 (start_charged a u) r q → EndsBy setting E c2 a r q
  unfolding transfers_repaid
  ends_charged_by a u f h (done x) = done (f x)
  ends_charged_by a u f h (left_by x) =
      left_by (record { transfer = transfers_repaid u h x.transfer; activation = x.activation; registers = x.registers })
  ends_charged_by a u f h (full_there x) = full_there x
  ends_charged_by a u f h (stopped x) = stopped (stopped_before setting (omega (arith, h)) x)
  ends_charged_by a u f h (few_turns x) = few_turns (omega (arith, x))

  pub ends_charged :
      {c1 c2 : ℕ} (a : Start setting) (u : ℕ) {r : FlatEvaluated} {q : MidOutcome} → c1 ≤ unit_cost * u + c2 → EndsAt setting c1 (start_charged a u) r q
      → EndsAt setting c2 a r q
  ends_charged a u h e =
      ends_charged_by a u
      (λ x. record {
        result = x.result;
        outcome = x.outcome;
        end = x.end;
        w' = x.w';
        reached = reached_repaid a u h x.reached;
        word = x.word;
        in_register = x.in_register;
        of_value = x.of_value;
      })
      h e

  -- ---- what a form leaves of its first unit

  respent : {w w' : World} (z : FlatState) {z' : FlatState} {y y' : MidState} (u : ℕ) → WorldKept setting w w' (charged u z) z' y y' → WorldKept setting w w' (charged 1 z) z' y y'
  respent z u k = record { later = k.later; things = k.things; stack = k.stack; end = k.end; more_exits = k.more_exits; same_size = k.same_size }

  spares :
      {c1 c2 : ℕ} (z : FlatState) {z' : FlatState} {y y' : MidState} (u : ℕ) → c1 + unit_cost ≤ unit_cost * u + c2 → Around setting c1 (charged u z) z' y y'
      → Around setting c2 (charged 1 z) z' y y'
  spares z u h a = record { control = a.control; blocks = a.blocks; charged = a.charged; paid = omega (arith, h, a.paid) }

  transfers_spare :
      {c1 c2 : ℕ} {rs valid : List Standing} {w : World} {around : DynamicContext} (z : FlatState) {y : MidState} {r : FlatEvaluated} {q : MidOutcome} (u : ℕ)
      → c1 + unit_cost ≤ unit_cost * u + c2 → Transfers setting c1 rs valid w around (charged u z) y r q → Transfers setting c2 rs valid w around (charged 1 z) y r q
  transfers_spare z u h t = record {
    exit_number = t.exit_number;
    result = t.result;
    landing = t.landing;
    outcome = t.outcome;
    target = t.target;
    valid_target = t.valid_target;
    to = t.to;
    outer = t.outer;
    stop = t.stop;
    word = t.word;
    end = t.end;
    blocks = t.blocks;
    w' = t.w';
    of_value = t.of_value;
    world = respent z u t.world;
    charged = t.charged;
    paid = omega (arith, h, t.paid);
    pending = t.pending;
    landing_word = t.landing_word;
    landing_stands = t.landing_stands;
    landing_is = t.landing_is;
    lands = t.lands;
  }

  -- **what is charged at least one unit, and costs so much less than all of them, leaves so much of the first one**
  pub ends_sparing :
      {c1 : ℕ} (a : Start setting) (u : ℕ) {r : FlatEvaluated} {q : MidOutcome} → 1 ≤ u → c1 + form_spare ≤ unit_cost * u → EndsAt setting c1 (start_charged a u) r q
      → SparingAt setting a r q
  unfolding transfers_spare
  ends_sparing a u some h (done x) =
      done (record {
        result = x.result;
        outcome = x.outcome;
        end = x.end;
        w' = x.w';
        reached = record {
          kept = record { world = respent a.z u x.reached.kept.world; activation = x.reached.kept.activation; registers = x.reached.kept.registers };
          back = spares a.z u (omega (arith, h)) x.reached.back;
        };
        word = x.word;
        in_register = x.in_register;
        of_value = x.of_value;
      })
  ends_sparing a u some h (left_by x) =
      left_by (record { transfer = transfers_spare a.z u (omega (arith, h)) x.transfer; activation = x.activation; registers = x.registers })
  ends_sparing a u some h (full_there x) = full_there x
  ends_sparing a u some h (stopped x) = stopped (stopped_before setting (omega (arith, h)) x)
  ends_sparing a u some h (few_turns x) = few_turns (omega (arith, x, some))

  -- and the whole unit pays for it, as a part of other code
  pub ends_spared : (a : Start setting) {r : FlatEvaluated} {q : MidOutcome} → SparingAt setting a r q → EndsAt setting 0 a r q
  ends_spared a e = ends_charged {c1 = form_credit} a 1 (omega arith) e

  pub tests_spared :
      (a : Start setting) {t : Test} {r : FlatEvaluated} {q : MidOutcome} → SparingTest setting a.turns a.rs a.valid a.s a.d a.w a.env a.around a.z a.regs a.y t r q
      → TestEnds setting judged_credit a.turns a.rs a.valid a.s a.d a.w a.env a.around a.z a.regs a.y t r q
  tests_spared a e =
      ends_charged_by {c1 = form_credit + judged_credit} {c2 = judged_credit} a 1
      (λ x. record {
        result = x.result;
        outcome = x.outcome;
        end = x.end;
        w' = x.w';
        reached = reached_repaid {c1 = form_credit + judged_credit} {c2 = judged_credit} a 1 (omega arith) x.reached;
        first = x.first;
        second = x.second;
        first_word = x.first_word;
        second_word = x.second_word;
        judged = x.judged;
      })
      (omega arith) e

  -- what is said with fewer turns is said with up of them
  abbrev pub with_turns : ℕ → Start setting → Start setting
  with_turns n a = record a { turns = n }

  -- ---- words in the result's register

  -- **a word in the result's register**
  pub gives_word :
      {credit : ℕ} (a : Start setting) (cost word : ℕ) (v : Value) → cost ≤ credit → word_of a.w.places v ≡ Some word
      → EndsAt setting credit a (gives v a.z) (ends falls (slice_set a.regs a.d (Some word)) (mid_charged cost a.y))
  gives_word a cost word v h is = done (record {
    result = v;
    outcome = refl;
    end = refl;
    w' = a.w;
    reached = reached_set a a.d a.d word cost (omega arith) (omega arith) h;
    word = word;
    in_register = register_here a.regs a.d word a.begins.first;
    of_value = is;
  })

  -- the same of code that runs so
  pub gives_run :
      {credit : ℕ} {c : Context} {code : MidCode} {cost word : ℕ} (a : Start setting) (v : Value) → cost ≤ credit → word_of a.w.places v ≡ Some word
      → RunsTo c code a.regs a.y (ends falls (slice_set a.regs a.d (Some word)) (mid_charged cost a.y)) → EndsAt setting credit a (gives v a.z) (exec c code a.regs a.y)
  gives_run {credit} {c} {code} {cost} {word} a v h is run = subst (λ q. EndsAt setting credit a (gives v a.z) q) (sym run.same) (gives_word a cost word v h is)

  -- the value is there already
  pub given_already :
      {credit : ℕ} (a : Start setting) (v : Value) (word : ℕ) → register a.d a.regs ≡ Some word → word_of a.w.places v ≡ Some word
      → EndsAt setting credit a (gives v a.z) (ends falls a.regs a.y)
  given_already a v word e is = done (record {
    result = v;
    outcome = refl;
    end = refl;
    w' = a.w;
    reached = reached_same a a.d;
    word = word;
    in_register = e;
    of_value = is;
  })

  -- **two parts** from a start
  pub two :
      {c1 c2 c : ℕ} (a : Start setting) (d1 : ℕ) {r : FlatEvaluated} {q : MidOutcome} (f : Value → FlatState → FlatEvaluated) (next : Next) → a.d ≤ d1 → c1 + c2 ≤ c
      → a.z.state.units ≤ r.state.state.units → EndsFrom setting c1 a d1 r q
      → ((v : Value) (z : FlatState) → FlatGrown z (f v z).state) → ((g : Registers) (y : MidState) → Grown y (next g y).state)
      → ((x : FellFrom setting c1 a d1 r q)
      → FormEnds setting c2 a.turns a.rs a.valid a.s a.d x.w' a.env a.around r.state q.registers q.state (f x.result r.state) (next q.registers q.state))
      → EndsAt setting c a (go_on r f) (mid_go_on q next)
  two a d1 f next l enough up x grown mid_grown h = ends_two setting f next l enough up x grown mid_grown h

  -- **what comes behind what was reached**
  pub behind :
      {c1 c2 c : ℕ} (a : Start setting) (d1 : ℕ) {w : World} {z : FlatState} {regs : Registers} {y : MidState} {r : FlatEvaluated} {q : MidOutcome} → a.d ≤ d1
      → ReachedFrom setting c1 a d1 w z regs y → c1 + c2 ≤ c → a.z.state.units ≤ z.state.units
      → FormEnds setting c2 a.turns a.rs a.valid a.s a.d w a.env a.around z regs y r q → EndsAt setting c a r q
  behind a d1 l x enough up e = ends_then setting l x enough up e
