-- What a call comes to where other units were charged before: each unit pays for what was done, and for turns.
use Rattle.std.proofs.Common.{◌≡◌, ℕ, ◌+◌, ◌*◌, ◌≤◌, List, length, refl, arith}
use Rattle.lang_meaning.specs.Counts.{unit_cost}
use Rattle.lang_meaning.specs.State.{DynamicContext, Limit, words, unlimited}
use Rattle.flat_language.specs.FlatNodes.{tables}
use Rattle.flat_language.specs.FlatState.{FlatState, FlatEvaluated, charged}
use Rattle.mid_code.specs.State.{MidState, MidOutcome}
use Rattle.mid_arena.proofs.Representing.{represents_same}
use Rattle.back_relation.specs.Setting.{Setting}
use Rattle.back_relation.specs.Worlds.{World, Standing}
use Rattle.back_relation.specs.Things.{Things, WithinLimit}
use Rattle.back_relation.specs.Room.{words_for_handler}
use Rattle.back_relation.specs.Around.{RoomFor, CallBegins}
use Rattle.back_relation.specs.Ends.{WorldKept, Around, Transfers, done, left_by, full_there, stopped, few_turns, Returned, LeftCall, CallEnds, SparingCall}
use Rattle.back_relation.proofs.Stops.{stopped_before}
use Rattle.back_relation.proofs.Straight.{same_here, things_units}
use Rattle.back_relation.proofs.Then.{call_then}
use Rattle.back_relation.proofs.Worlds.{later_same}

-- the same state with so many units
abbrev pub with_units : ℕ → FlatState → FlatState
with_units n z = record z { state = record z.state { units = n } }

module _ (setting : Setting) where
  -- ---- what words say does not hang on units

  things_recounted : {w : World} {z : FlatState} {y : MidState} (n : ℕ) → Things setting w z y → Things setting w (with_units n z) y
  things_recounted {w} {z} {y} n t = record {
    represents = represents_same setting.names (tables setting.program) w.places z.state (with_units n z).state y refl refl refl refl t.represents;
    within_limit = limit_same setting.limit t.within_limit;
    control = t.control;
    further = t.further;
    serials = t.serials;
    globals = t.globals;
    dynamics = t.dynamics;
    literals = t.literals;
    symbols = t.symbols;
    laid_symbols = t.laid_symbols;
    fresh_symbols = t.fresh_symbols;
    box_count = t.box_count;
    boxes_apart = t.boxes_apart;
    boxes = λ i b e. t.boxes i b e;
    methods = t.methods;
    exit_forms = t.exit_forms;
    functions = λ i p s e f. t.functions i p s e f;
    captured = t.captured;
    generics = t.generics;
  }
    where
      limit_same : (l : Limit) → WithinLimit l z.state → WithinLimit l (with_units n z).state
      limit_same unlimited h = tt
      limit_same (words m) h = h

  -- so calls begin there too
  pub begins_recounted :
      {rs valid : List Standing} {room : ℕ} {w : World} {around : DynamicContext} {z : FlatState} {y : MidState} (n : ℕ) → CallBegins setting rs valid room w around z y
      → CallBegins setting rs valid room w around (with_units n z) y
  begins_recounted {room = room} {w = w} {around = around} {z = z} {y = y} n b =
      call_then setting {c1 = unit_cost * z.state.units}
      (record {
        later = later_same w;
        things = things_recounted n b.things;
        stack = (same_here w {y = y} {y' = y} refl).stack;
        end = λ k e. e;
        more_exits = omega arith;
        same_size = refl;
      })
      (record {
        control = record { current = λ k e. e; link = λ k e. e; handlers = λ k e. e; bindings = λ k e. e };
        blocks = refl;
        charged = omega arith;
        paid = omega arith;
      })
      room b (room_same setting.limit b.room)
    where
      room_same : (l : Limit) → RoomFor l (room + words_for_handler * length around.handlers) z.state y → RoomFor l (room + words_for_handler * length around.handlers) (with_units n z).state y
      room_same unlimited h = tt
      room_same (words m) h = h

  -- what was done from there on
  pub world_both : {w w' : World} {z z' : FlatState} {y y' : MidState} (u : ℕ) → WorldKept setting w w' z z' y y' → WorldKept setting w w' (charged u z) (charged u z') y y'
  world_both u k = record { later = k.later; things = things_units setting u k.things; stack = k.stack; end = k.end; more_exits = k.more_exits; same_size = k.same_size }

  pub around_both : {c : ℕ} {z z' : FlatState} {y y' : MidState} (u : ℕ) → Around setting c z z' y y' → Around setting c (charged u z) (charged u z') y y'
  around_both u a = record { control = a.control; blocks = a.blocks; charged = a.charged; paid = omega (arith, a.paid) }

  -- ---- what a call comes to

  world_recounted : {w w' : World} (x : FlatState) (a b : ℕ) {z' : FlatState} {y y' : MidState} → WorldKept setting w w' (with_units a x) z' y y' → WorldKept setting w w' (with_units b x) z' y y'
  world_recounted x a b k = record { later = k.later; things = k.things; stack = k.stack; end = k.end; more_exits = k.more_exits; same_size = k.same_size }

  around_recounted :
      {c1 c2 : ℕ} (x : FlatState) (a b : ℕ) {z' : FlatState} {y y' : MidState} → c1 + unit_cost * b ≤ unit_cost * a + c2 → Around setting c1 (with_units a x) z' y y'
      → Around setting c2 (with_units b x) z' y y'
  around_recounted x a b h k = record { control = k.control; blocks = k.blocks; charged = k.charged; paid = omega (arith, h, k.paid) }

  transfers_recounted :
      {c1 c2 : ℕ} {rs valid : List Standing} {w : World} {around : DynamicContext} (x : FlatState) (a b : ℕ) {y : MidState} {r : FlatEvaluated} {q : MidOutcome}
      → c1 + unit_cost * b ≤ unit_cost * a + c2 → Transfers setting c1 rs valid w around (with_units a x) y r q → Transfers setting c2 rs valid w around (with_units b x) y r q
  transfers_recounted x a b h t = record {
    exit_number = t.exit_number;
    result = t.result;
    landing = t.landing;
    outcome = t.outcome;
    target = t.target;
    valid_target = t.valid_target;
    to = t.to;
    outer = t.outer;
    stop = t.stop;
    word = t.word;
    end = t.end;
    blocks = t.blocks;
    w' = t.w';
    of_value = t.of_value;
    world = world_recounted x a b t.world;
    charged = t.charged;
    paid = omega (arith, h, t.paid);
    pending = t.pending;
    landing_word = t.landing_word;
    landing_stands = t.landing_stands;
    landing_is = t.landing_is;
    lands = t.lands;
  }

  -- **units that were charged pay**, and where fewer were charged before, so much more was paid
  pub calls_recounted :
      {c1 c2 m1 m2 : ℕ} {rs valid : List Standing} {w : World} {around : DynamicContext} (x : FlatState) (a b : ℕ) {y : MidState} {r : FlatEvaluated} {q : MidOutcome}
      → c1 + unit_cost * b ≤ unit_cost * a + c2 → m2 + 16 * b ≤ m1 + 16 * a → CallEnds setting c1 m1 rs valid w around (with_units a x) y r q
      → CallEnds setting c2 m2 rs valid w around (with_units b x) y r q
  unfolding transfers_recounted
  calls_recounted x a b h turns (done k) =
      done (record {
        result = k.result;
        outcome = k.outcome;
        word = k.word;
        end = k.end;
        w' = k.w';
        world = world_recounted x a b k.world;
        back = around_recounted x a b h k.back;
        of_value = k.of_value;
        frame = k.frame;
      })
  calls_recounted x a b h turns (left_by k) = left_by (record { transfer = transfers_recounted x a b h k.transfer; frame = k.frame })
  calls_recounted x a b h turns (full_there k) = full_there k
  calls_recounted x a b h turns (stopped k) = stopped (stopped_before setting (omega (arith, h)) k)
  calls_recounted x a b h turns (few_turns k) = few_turns (omega (arith, k, turns))

  -- what is charged some units comes to what it comes to before them
  pub calls_charged :
      {c1 c2 m : ℕ} {rs valid : List Standing} {w : World} {around : DynamicContext} {z : FlatState} {y : MidState} {r : FlatEvaluated} {q : MidOutcome} (u : ℕ)
      → c1 ≤ unit_cost * u + c2 → CallEnds setting c1 m rs valid w around (charged u z) y r q → CallEnds setting c2 m rs valid w around z y r q
  calls_charged {z = z} u enough e = calls_recounted z (z.state.units + u) z.state.units (omega (arith, enough)) (omega arith) e

  -- **what leaves something of its first unit**, where that unit and so much pay for it
  pub calls_spared :
      {credit c m : ℕ} {rs valid : List Standing} {w : World} {around : DynamicContext} {z : FlatState} {y : MidState} {r : FlatEvaluated} {q : MidOutcome}
      → credit ≤ unit_cost + c → SparingCall setting credit m rs valid w around z y r q → CallEnds setting c m rs valid w around z y r q
  calls_spared enough e = calls_charged 1 (omega (arith, enough)) e

  -- and what is charged at least one unit leaves what it does not cost
  pub calls_sparing :
      {c1 c2 m : ℕ} {rs valid : List Standing} {w : World} {around : DynamicContext} (z : FlatState) {y : MidState} {r : FlatEvaluated} {q : MidOutcome} (u : ℕ) → 1 ≤ u
      → c1 + unit_cost ≤ unit_cost * u + c2 → CallEnds setting c1 m rs valid w around (charged u z) y r q → SparingCall setting c2 m rs valid w around z y r q
  calls_sparing z u some enough e = calls_recounted z (z.state.units + u) (z.state.units + 1) (omega (arith, enough)) (omega (arith, some)) e
