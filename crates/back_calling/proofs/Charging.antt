-- The words of an application: what a call comes to there is what it comes to before.
use Rattle.std.proofs.Common.{◌≡◌, ℕ, ◌+◌, ◌≤◌, Bool, true, false, List, refl, sym, subst, arith}
use Rattle.std.specs.Prelude.{if◌then◌else◌}
use Rattle.std.proofs.lemmas.Bool.Decides.{nat_tests}
use Rattle.lang_meaning.specs.Prefixes.{IsPrefix}
use Rattle.lang_meaning.specs.State.{DynamicContext, Limit, words, unlimited, has_room, room_left, with_words, full}
use Rattle.flat_language.specs.FlatNodes.{tables}
use Rattle.flat_language.specs.FlatState.{FlatState, FlatEvaluated, on_state, charged, with_stack, in_frame}
use Rattle.mid_code.specs.Law.{Grown}
use Rattle.mid_code.specs.State.{MidState, MidOutcome}
use Rattle.mid_arena.proofs.Representing.{represents_same}
use Rattle.back_relation.specs.Setting.{Setting}
use Rattle.back_relation.specs.Worlds.{World, Standing}
use Rattle.back_relation.specs.Things.{Things, WithinLimit}
use Rattle.back_relation.specs.Around.{AroundStands}
use Rattle.back_relation.specs.Ends.{WorldKept, done, left_by, full_there, stopped, few_turns, CallEnds}

-- a state with other words charged
abbrev pub asked : (stack : ℕ) → FlatState → FlatState
asked stack z = on_state (λ y. with_words 0 stack y) z

module _ (setting : Setting) where
  -- what words say does not hang on the words that were charged
  pub things_charged :
      {w : World} {z : FlatState} {y : MidState} (z' : FlatState) → Things setting w z y → z'.state.store ≡ z.state.store → z'.state.symbols ≡ z.state.symbols
      → z'.state.printed ≡ z.state.printed → z'.state.input ≡ z.state.input → z' ≡ record z { state = record z.state { heap = z'.state.heap; stack = z'.state.stack; peak = z'.state.peak } }
      → WithinLimit setting.limit z'.state → Things setting w z' y
  things_charged {w} {z} {y} z' t store symbols printed input same within =
      subst (λ x. Things setting w x y) (sym same)
      (record {
        represents = represents_same setting.names (tables setting.program) w.places z.state _ y refl refl refl refl t.represents;
        within_limit = limits setting.limit within;
        control = t.control;
        further = t.further;
        serials = t.serials;
        globals = t.globals;
        dynamics = t.dynamics;
        literals = t.literals;
        symbols = t.symbols;
        laid_symbols = t.laid_symbols;
        fresh_symbols = t.fresh_symbols;
        box_count = t.box_count;
        boxes_apart = t.boxes_apart;
        boxes = λ i b e. t.boxes i b e;
        methods = t.methods;
        exit_forms = t.exit_forms;
        functions = λ i p s e f. t.functions i p s e f;
        captured = t.captured;
        generics = t.generics;
      })
    where
      limits : (l : Limit) → WithinLimit l z'.state → WithinLimit l (record z.state { heap = z'.state.heap; stack = z'.state.stack; peak = z'.state.peak })
      limits unlimited h = tt
      limits (words m) h = h

  pub around_charged :
      {rs valid : List Standing} {w : World} {around : DynamicContext} {z : FlatState} {y : MidState} (z' : FlatState) → z'.state.exits ≡ z.state.exits
      → AroundStands setting w rs valid around z y → AroundStands setting w rs valid around z' y
  around_charged z' same t = record {
    current = t.current;
    link = t.link;
    handlers_cell = t.handlers_cell;
    bindings_cell = t.bindings_cell;
    current_word = t.current_word;
    link_word = t.link_word;
    handlers_word = t.handlers_word;
    bindings_word = t.bindings_word;
    chain = t.chain;
    records = t.records;
    links = rw same t.links;
    handlers = t.handlers;
    bindings = t.bindings;
    ends_at_end = t.ends_at_end;
    end_record = t.end_record;
    end_valid = t.end_valid;
    end_word = t.end_word;
    end_form = t.end_form;
    tags_land = t.tags_land;
  }

  -- ---- words

  abbrev after : FlatState → FlatEvaluated → FlatEvaluated
  after z r = with_stack z.state.stack r

  things_after : {w' : World} {x : MidState} (z : FlatState) (r : FlatEvaluated) (size : ℕ) → r.state.state.stack ≡ z.state.stack + size → Things setting w' r.state x → Things setting w' (after z r).state x
  things_after z r size kept t = things_charged (after z r).state t refl refl refl refl refl (within setting.limit t.within_limit)
    where
      within : (l : Limit) → WithinLimit l r.state.state → WithinLimit l (after z r).state.state
      within unlimited h = tt
      within (words n) h = omega (arith, h, kept)

  world_after :
      {w w' : World} {y x : MidState} (z : FlatState) (r : FlatEvaluated) (size : ℕ) → r.state.state.stack ≡ z.state.stack + size → WorldKept setting w w' (asked size z) r.state y x
      → WorldKept setting w w' z (after z r).state y x
  world_after z r size kept k =
      record { later = k.later; things = things_after z r size kept k.things; stack = k.stack; end = k.end; more_exits = k.more_exits; same_size = k.same_size }

  -- **the words of an application are given back**
  pub stack_back :
      {credit m : ℕ} {rs valid : List Standing} {w : World} {around : DynamicContext} {y : MidState} {q : MidOutcome} (z : FlatState) (r : FlatEvaluated) (size : ℕ)
      → r.state.state.stack ≡ z.state.stack + size → CallEnds setting credit m rs valid w around (asked size z) y r q → CallEnds setting credit m rs valid w around z y (after z r) q
  stack_back z r size kept (done x) =
      let a = x.back in
      done (record {
        result = x.result;
        outcome = x.outcome;
        word = x.word;
        end = x.end;
        w' = x.w';
        world = world_after z r size kept x.world;
        back = record { control = a.control; blocks = a.blocks; charged = omega (arith, a.charged, kept); paid = omega (arith, a.paid) };
        of_value = x.of_value;
        frame = x.frame;
      })
  stack_back z r size kept (left_by x) =
      let t = x.transfer in
      left_by (record {
        transfer = record {
          exit_number = t.exit_number;
          result = t.result;
          landing = t.landing;
          outcome = t.outcome;
          target = t.target;
          valid_target = t.valid_target;
          to = t.to;
          outer = t.outer;
          stop = t.stop;
          word = t.word;
          end = t.end;
          blocks = t.blocks;
          w' = t.w';
          of_value = t.of_value;
          world = world_after z r size kept t.world;
          charged = omega (arith, t.charged, kept);
          paid = omega (arith, t.paid);
          pending = t.pending;
          landing_word = t.landing_word;
          landing_stands = t.landing_stands;
          landing_is = t.landing_is;
          lands = t.lands;
        };
        frame = x.frame;
      })
  stack_back z r size kept (full_there x) = full_there (record { asked = x.asked; left_then = x.left_then; outcome = x.outcome; printed = x.printed })
  stack_back z r size kept (stopped x) =
      stopped (record { because = x.because; printed = x.printed; paid = λ ended. omega (arith, x.paid ended) })
  stack_back z r size kept (few_turns x) = few_turns (omega (arith, x))

  -- **an application in words of its own**, behind so many units
  pub framed_ends :
      {credit m : ℕ} {rs valid : List Standing} {w : World} {around : DynamicContext} {z : FlatState} {y : MidState} {q : MidOutcome} (u size : ℕ) (body : FlatState → FlatEvaluated)
      → y.printed ≡ z.state.printed → Grown y q.state
      → (has_room setting.limit (z.state.heap + z.state.stack + 0 + size) ≡ true
      → ((body (asked size z)).state.state.stack ≡ z.state.stack + size) × CallEnds setting credit m rs valid w around (charged u (asked size z)) y (body (asked size z)) q)
      → CallEnds setting credit m rs valid w around (charged u z) y (in_frame setting.limit size body z) q
  framed_ends {credit} {m} {rs} {valid} {w} {around} {z} {y} {q} u size body same grown h = by (has_room setting.limit (z.state.heap + z.state.stack + 0 + size)) refl
    where
      by : (b : Bool) → has_room setting.limit (z.state.heap + z.state.stack + 0 + size) ≡ b
          → CallEnds setting credit m rs valid w around (charged u z) y
          (if b then with_stack z.state.stack (body (asked size z))
          else record { outcome = full (0 + size) (room_left setting.limit (z.state.heap + z.state.stack)); state = z }) q
      by true e = let inner = h e in stack_back (charged u z) (body (asked size z)) size inner.0 inner.1
      by false e =
          full_there (record {
            asked = 0 + size;
            left_then = room_left setting.limit (z.state.heap + z.state.stack);
            outcome = refl;
            printed = subst (λ ps. IsPrefix ps q.state.printed) same (record { rest = grown.printed.0; is = sym grown.printed.1 });
          })

  pub within_asked : (size : ℕ) (z : FlatState) → has_room setting.limit (z.state.heap + z.state.stack + 0 + size) ≡ true → WithinLimit setting.limit (asked size z).state
  within_asked size z = by setting.limit
    where
      by : (l : Limit) → has_room l (z.state.heap + z.state.stack + 0 + size) ≡ true → WithinLimit l (asked size z).state
      by unlimited e = tt
      by (words m) e = let h : z.state.heap + z.state.stack + 0 + size ≤ m = grind (arith, nat_tests) in omega (arith, h)
