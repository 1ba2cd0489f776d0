-- One thing after another: the combinator of all forms with parts.
use Rattle.std.proofs.Common.{◌≡◌, inl, inr, ℕ, ◌+◌, ◌*◌, ◌<◌, ◌≤◌, List, length, Option, Some, None, refl, sym, ap, ◌∙◌, subst, arith}
use Rattle.lang_meaning.specs.Values.{Value}
use Rattle.lang_meaning.specs.Objects.{Called}
use Rattle.lang_meaning.specs.State.{DynamicContext, Outcome, value, exit, full, more, Limit, words, unlimited}
use Rattle.lang_meaning.specs.Counts.{unit_cost}
use Rattle.flat_language.specs.FlatState.{FlatEnvironment, FlatState, FlatEvaluated, go_on}
use Rattle.mid_code.specs.declared.operation.Test.{Test}
use Rattle.mid_code.specs.Arena.{Arena, word_in, stack_from, blocks_from}
use Rattle.mid_code.specs.State.{Registers, register, End, falls, returns, cuts, no_room, no_level, no_turn, halts, unhandled, exhausted, stuck, MidState, MidOutcome, Next}
use Rattle.mid_code.specs.State.{go_on as mid_go_on}
use Rattle.mid_code.specs.Law.{Grown}
use Rattle.mid_code.proofs.Growth.{go_on_grown, same_grown}
use Rattle.back_lowering.specs.declared.scope.Scope.{Scope}
use Rattle.back_relation.specs.Setting.{Setting}
use Rattle.back_relation.specs.Worlds.{World, Later, Standing}
use Rattle.back_relation.specs.Around.{RoomFor, CallBegins}
use Rattle.back_relation.specs.Activation.{FormScope, ScopeStands, RegistersKept, ArgumentsThere, MethodThere}
use Rattle.back_relation.specs.Ends.{WorldKept, Around, Reached, Transfers, IsFull, RoomEnded, Because, Ends, done, left_by, full_there, stopped, few_turns, Fell, Left}
use Rattle.back_relation.specs.Forms.{Begins, FormEnds, FellJudged, TestEnds}
use Rattle.back_relation.specs.Room.{words_for_handler}
use Rattle.back_relation.specs.Starts.{FlatGrown}
use Rattle.back_relation.proofs.Activations.{kept_later}
use Rattle.back_relation.proofs.Growth.{both_prefix, then_value, then_other, then_grown, IsNoValue}
use Rattle.back_relation.proofs.Parts.{IsLast, go_on_falls, go_on_last}
use Rattle.back_relation.proofs.Stops.{stopped_before}
use Rattle.back_relation.proofs.Worlds.{later_then, plain_later, Same, stack_same, around_again}

pub registers_then :
    {s : Scope} {d d1 : ℕ} {g g1 g2 : Registers} → d ≤ d1 → RegistersKept s d1 g g1 → RegistersKept s d g1 g2 → RegistersKept s d g g2
registers_then l h k = record { count = k.count ∙ h.count; same = λ i u n. k.same i u n ∙ h.same i (omega arith) n }

pub registers_less : {s : Scope} {d d1 : ℕ} {g g1 : Registers} → d ≤ d1 → RegistersKept s d1 g g1 → RegistersKept s d g g1
registers_less l h = record { count = h.count; same = λ i u n. h.same i (omega arith) n }

-- the call of a method is there as before
pub method_there_again :
    (setting : Setting) {w w' : World} (a a' : Arena) (regs regs' : Registers) (m : Option ℕ) (called : Option Called) → Later w w'
    → stack_from a' ≤ stack_from a → ((r : ℕ) → m ≡ Some r → register (r + 2) regs' ≡ register (r + 2) regs)
    → MethodThere setting w a regs m called → MethodThere setting w' a' regs' m called
method_there_again setting {w} {w'} a a' regs regs' (Some m) (Some c) l from same h = λ address e. by address (h address (sym (same m refl) ∙ e))
  where
    by : (address : ℕ) → ArgumentsThere w a address c → ArgumentsThere w' a' address c
    by address (inl k) = inl (kept_later l k)
    by address (inr k) = inr (omega (arith, k.0, from), k.1)
method_there_again setting a a' regs regs' (Some m) None l from same h = tt
method_there_again setting a a' regs regs' None (Some c) l from same h = tt
method_there_again setting a a' regs regs' None None l from same h = tt

module _ (setting : Setting) where
  pub same_world :
      {credit : ℕ} {w w' : World} {z z' : FlatState} {y y' : MidState} → WorldKept setting w w' z z' y y' → Around setting credit z z' y y' → Same w w' y y'
  same_world k a = record { blocks = a.blocks; size = k.same_size; stack = k.stack }

  -- ---- worlds, one after another

  module _ {c1 : ℕ} {w w1 : World} {z z1 : FlatState} {y y1 : MidState} (k1 : WorldKept setting w w1 z z1 y y1) (a1 : Around setting c1 z z1 y y1) where
    pub from_same : stack_from y1.arena ≡ stack_from y.arena
    from_same = stack_same (same_world k1 a1)

    pub world_then : {w2 : World} {z2 : FlatState} {y2 : MidState} → WorldKept setting w1 w2 z1 z2 y1 y2 → WorldKept setting w w2 z z2 y y2
    world_then {w2} {z2} {y2} k = record {
      later = later_then k1.later k.later;
      things = k.things;
      stack = record {
        words = λ x low high plain.
            k.stack.words x (omega (arith, low, from_same)) high (plain_later x k1.later plain) ∙ k1.stack.words x low (omega (arith, low, from_same)) plain;
        bindings = λ i a e low high.
            k.stack.bindings i a (k1.stack.bindings i a e low (omega (arith, low, from_same))) (omega (arith, low, from_same)) high;
      };
      end = λ n e. k.end n (k1.end n e);
      more_exits = omega (arith, k1.more_exits, k.more_exits);
      same_size = k.same_size ∙ k1.same_size;
    }

    pub back_then : {c2 c : ℕ} {z2 : FlatState} {y2 : MidState} → c1 + c2 ≤ c → Around setting c2 z1 z2 y1 y2 → Around setting c z z2 y y2
    back_then enough a = record {
      control = record {
        current = λ n e. a.control.current n (a1.control.current n e);
        link = λ n e. a.control.link n (a1.control.link n e);
        handlers = λ n e. a.control.handlers n (a1.control.handlers n e);
        bindings = λ n e. a.control.bindings n (a1.control.bindings n e);
      };
      blocks = a.blocks ∙ a1.blocks;
      charged = omega (arith, a1.charged, a.charged);
      paid = omega (arith, a1.paid, a.paid);
    }

    pub transfers_then :
        {c2 c : ℕ} {rs valid : List Standing} {around : DynamicContext} {r : FlatEvaluated} {q : MidOutcome} → c1 + c2 ≤ c
        → Transfers setting c2 rs valid w1 around z1 y1 r q → Transfers setting c rs valid w around z y r q
    transfers_then enough t = record {
      exit_number = t.exit_number;
      result = t.result;
      landing = t.landing;
      outcome = t.outcome;
      target = t.target;
      valid_target = t.valid_target;
      to = t.to;
      outer = t.outer;
      stop = t.stop;
      word = t.word;
      end = t.end;
      blocks =
          ap (λ n. blocks_from n y.arena.blocks t.to.address) (sym k1.same_size)
          ∙ ap (λ bs. blocks_from (length y1.arena.memory) bs t.to.address) (sym a1.blocks) ∙ t.blocks;
      w' = t.w';
      of_value = t.of_value;
      world = world_then t.world;
      charged = omega (arith, a1.charged, t.charged, from_same);
      paid = omega (arith, a1.paid, t.paid);
      pending = t.pending;
      landing_word = t.landing_word;
      landing_stands = t.landing_stands;
      landing_is = t.landing_is;
      lands = t.lands;
    }

    -- where the next call begins
    pub call_then :
        {rs valid : List Standing} {n : ℕ} {around : DynamicContext} (n1 : ℕ) → CallBegins setting rs valid n w around z y
        → RoomFor setting.limit (n1 + words_for_handler * length around.handlers) z1.state y1 → CallBegins setting rs valid n1 w1 around z1 y1
    call_then n1 b room = record {
      things = k1.things;
      around_stands = around_again setting k1.later (same_world k1 a1) a1.control k1.end k1.more_exits b.around_stands;
      room = room;
    }

  pub transfers_less :
      {c1 c : ℕ} {rs valid : List Standing} {w : World} {around : DynamicContext} {z : FlatState} {y : MidState} {r : FlatEvaluated} {q : MidOutcome} → c1 ≤ c
      → Transfers setting c1 rs valid w around z y r q → Transfers setting c rs valid w around z y r q
  transfers_less enough t = record {
    exit_number = t.exit_number;
    result = t.result;
    landing = t.landing;
    outcome = t.outcome;
    target = t.target;
    valid_target = t.valid_target;
    to = t.to;
    outer = t.outer;
    stop = t.stop;
    word = t.word;
    end = t.end;
    blocks = t.blocks;
    w' = t.w';
    of_value = t.of_value;
    world = t.world;
    charged = t.charged;
    paid = omega (arith, t.paid);
    pending = t.pending;
    landing_word = t.landing_word;
    landing_stands = t.landing_stands;
    landing_is = t.landing_is;
    lands = t.lands;
  }

  -- ---- parts of the code of an activation

  module _ {c1 : ℕ} {rs valid : List Standing} {s : FormScope} {d d1 : ℕ} {w w1 : World} {env : FlatEnvironment} {around : DynamicContext} {z z1 : FlatState} {regs regs1 : Registers} {y y1 : MidState}
      (lower_first : d ≤ d1) (f1 : Reached setting c1 s d1 rs valid w w1 env around z z1 regs regs1 y y1) where
    pub reached_then :
        {c2 c : ℕ} {w2 : World} {z2 : FlatState} {regs2 : Registers} {y2 : MidState} → c1 + c2 ≤ c
        → Reached setting c2 s d rs valid w1 w2 env around z1 z2 regs1 regs2 y1 y2 → Reached setting c s d rs valid w w2 env around z z2 regs regs2 y y2
    reached_then enough f = record {
      kept = record {
        world = world_then f1.kept.world f1.back f.kept.world;
        activation = f.kept.activation;
        registers = registers_then lower_first f1.kept.registers f.kept.registers;
      };
      back = back_then f1.kept.world f1.back enough f.back;
    }

    pub left_behind :
        {c2 c : ℕ} {r : FlatEvaluated} {q : MidOutcome} → c1 + c2 ≤ c → Left setting c2 rs valid s d w1 env around z1 regs1 y1 r q
        → Left setting c rs valid s d w env around z regs y r q
    unfolding transfers_then
    left_behind enough x = record {
      transfer = transfers_then f1.kept.world f1.back enough x.transfer;
      activation = x.activation;
      registers = registers_then lower_first f1.kept.registers x.registers;
    }

    -- what came to an end behind a part that was done; D says what came there, and E what the whole comes to
    pub ends_behind :
        {D E : Type 0} {c2 c turns : ℕ} {r : FlatEvaluated} {q : MidOutcome} → (D → E) → c1 + c2 ≤ c → z.state.units ≤ z1.state.units
        → Ends setting (c2 + unit_cost) D (Left setting c2 rs valid s d w1 env around z1 regs1 y1 r q) turns z1 y1 r q
        → Ends setting (c + unit_cost) E (Left setting c rs valid s d w env around z regs y r q) turns z y r q
    ends_behind h enough up (done f) = done (h f)
    ends_behind h enough up (left_by x) = left_by (left_behind enough x)
    ends_behind h enough up (full_there f) = full_there f
    ends_behind h enough up (stopped f) = stopped (stopped_before setting (omega (arith, f1.back.paid, enough)) f)
    ends_behind h enough up (few_turns f) = few_turns (omega (arith, f, up, f1.kept.world.same_size))

    pub ends_then :
        {c2 c turns : ℕ} {r : FlatEvaluated} {q : MidOutcome} → c1 + c2 ≤ c → z.state.units ≤ z1.state.units
        → FormEnds setting c2 turns rs valid s d w1 env around z1 regs1 y1 r q → FormEnds setting c turns rs valid s d w env around z regs y r q
    ends_then enough up e =
        ends_behind
        (λ f. record {
          result = f.result;
          outcome = f.outcome;
          end = f.end;
          w' = f.w';
          reached = reached_then enough f.reached;
          word = f.word;
          in_register = f.in_register;
          of_value = f.of_value;
        })
        enough up e

    -- where the next part begins
    pub begins_then :
        {n : ℕ} (e n1 : ℕ) → Begins setting rs valid s d n w env around z regs y → ScopeStands s.code e
        → RoomFor setting.limit (n1 + words_for_handler * length around.handlers) z1.state y1 → e < length regs
        → Begins setting rs valid s e n1 w1 env around z1 regs1 y1
    begins_then {n} e n1 b scope room there = record {
      call = call_then f1.kept.world f1.back n1 b.call room;
      activation = f1.kept.activation;
      scope = scope;
      method_there =
          method_there_again setting y.arena y1.arena regs regs1 s.code.method env.method f1.kept.world.later (omega (arith, from_same f1.kept.world f1.back))
          (λ m e. let own = (b.scope.method m e).2 in ap word_in (f1.kept.registers.same (m + 2) (omega (arith, own.0)) own.1)) b.method_there;
      first = subst (λ m. e < m) (sym f1.kept.registers.count) there;
    }

  left_less :
      {c1 c : ℕ} {rs valid : List Standing} {s : FormScope} {d d1 : ℕ} {w : World} {env : FlatEnvironment} {around : DynamicContext} {z : FlatState} {regs : Registers} {y : MidState}
      {r : FlatEvaluated} {q : MidOutcome} → d ≤ d1 → c1 ≤ c → Left setting c1 rs valid s d1 w env around z regs y r q → Left setting c rs valid s d w env around z regs y r q
  unfolding transfers_less
  left_less l enough x = record { transfer = transfers_less enough x.transfer; activation = x.activation; registers = registers_less l x.registers }

  -- what stopped is no end from which code goes on
  pub stopped_last : (r : FlatEvaluated) (e : End) → Because setting r e → IsLast e
  stopped_last r falls h = absurd h
  stopped_last r e h = tt

  full_there_is : (o : Outcome) → IsFull setting o → IsNoValue o
  full_there_is (value v) h = absurd h
  full_there_is (exit e v landing) h = absurd h
  full_there_is (full asked left_then) h = tt
  full_there_is more h = tt

  -- the reason stays where the meaning goes on
  pub because_then :
      (r : FlatEvaluated) (f : Value → FlatState → FlatEvaluated) (e : End) → FlatGrown r.state (go_on r f).state → Because setting r e → Because setting (go_on r f) e
  because_then r f (no_room asked left_then) g h = (by setting.limit h.0, h.1)
    where
      by : (l : Limit) → RoomEnded setting l r.outcome → RoomEnded setting l (go_on r f).outcome
      by unlimited k = tt
      by (words m) k = subst (λ (p : FlatEvaluated). IsFull setting p.outcome) (sym (then_other r f r.outcome refl (full_there_is r.outcome k))) k
  because_then r f no_level g h = ap (λ (p : FlatEvaluated). p.outcome) (then_other r f more h tt) ∙ h
  because_then r f exhausted g h = omega (arith, h, g.exits)
  because_then r f falls g h = h
  because_then r f no_turn g h = h
  because_then r f (returns w) g h = h
  because_then r f (cuts n w) g h = h
  because_then r f (halts w) g h = h
  because_then r f (unhandled class site condition) g h = h
  because_then r f stuck g h = h

  -- **one thing after another**: a part, and what goes on where it is done; D says what that is, and E what the whole comes to
  pub ends_go_on :
      {D E : Type 0} {c1 c turns : ℕ} {rs valid : List Standing} {s : FormScope} {d d1 : ℕ} {w : World} {env : FlatEnvironment} {around : DynamicContext} {z : FlatState} {regs : Registers} {y : MidState}
      {r : FlatEvaluated} {q : MidOutcome} (f : Value → FlatState → FlatEvaluated) (next : Next) → d ≤ d1 → c1 ≤ c
      → Ends setting (c1 + unit_cost) D (Left setting c1 rs valid s d1 w env around z regs y r q) turns z y r q
      → ((v : Value) (z : FlatState) → FlatGrown z (f v z).state) → ((g : Registers) (y : MidState) → Grown y (next g y).state)
      → (D → Ends setting (c + unit_cost) E (Left setting c rs valid s d w env around z regs y (go_on r f) (mid_go_on q next)) turns z y (go_on r f) (mid_go_on q next))
      → Ends setting (c + unit_cost) E (Left setting c rs valid s d w env around z regs y (go_on r f) (mid_go_on q next)) turns z y (go_on r f) (mid_go_on q next)
  ends_go_on f next l enough (done x) grown mid_grown h = h x
  ends_go_on {D} {E} {c1} {c} {turns} {rs} {valid} {s} {d} {d1} {w} {env} {around} {z} {regs} {y} {r} {q} f next l enough (left_by x) grown mid_grown h =
      subst (λ p. Ends setting (c + unit_cost) E (Left setting c rs valid s d w env around z regs y p (mid_go_on q next)) turns z y p (mid_go_on q next))
      (sym (then_other r f _ x.transfer.outcome tt))
      (subst (λ p. Ends setting (c + unit_cost) E (Left setting c rs valid s d w env around z regs y r p) turns z y r p) (sym (go_on_last _ q next x.transfer.end tt))
      (left_by (left_less l enough x)))
  ends_go_on {D} {E} {c1} {c} {turns} {rs} {valid} {s} {d} {d1} {w} {env} {around} {z} {regs} {y} {r} {q} f next l enough (full_there x) grown mid_grown h =
      let g : Grown q.state (mid_go_on q next).state = go_on_grown q next q.state (same_grown q.state) mid_grown in
      subst (λ p. Ends setting (c + unit_cost) E (Left setting c rs valid s d w env around z regs y p (mid_go_on q next)) turns z y p (mid_go_on q next))
      (sym (then_other r f _ x.outcome tt))
      (full_there (record {
        asked = x.asked;
        left_then = x.left_then;
        outcome = x.outcome;
        printed = both_prefix x.printed (record { rest = g.printed.0; is = sym g.printed.1 });
      }))
  ends_go_on {D} {E} {c1} {c} {turns} {rs} {valid} {s} {d} {d1} {w} {env} {around} {z} {regs} {y} {r} {q} f next l enough (stopped x) grown mid_grown h =
      let g : FlatGrown r.state (go_on r f).state = then_grown r f grown in
      subst (λ p. Ends setting (c + unit_cost) E (Left setting c rs valid s d w env around z regs y (go_on r f) p) turns z y (go_on r f) p)
      (sym (go_on_last q.end q next refl (stopped_last r q.end x.because)))
      (stopped (record {
        because = because_then r f q.end g x.because;
        printed = both_prefix x.printed g.printed;
        paid = λ ended. omega (arith, enough, x.paid (λ none. ended (because_then r f no_level g none)), g.units);
      }))
  ends_go_on {r} f next l enough (few_turns x) grown mid_grown h =
      let g : FlatGrown r.state (go_on r f).state = then_grown r f grown in few_turns (omega (arith, x, g.units))

  -- a part whose value comes in a register
  pub ends_two :
      {c1 c2 c turns : ℕ} {rs valid : List Standing} {s : FormScope} {d d1 : ℕ} {w : World} {env : FlatEnvironment} {around : DynamicContext} {z : FlatState} {regs : Registers} {y : MidState}
      {r : FlatEvaluated} {q : MidOutcome} (f : Value → FlatState → FlatEvaluated) (next : Next) → d ≤ d1 → c1 + c2 ≤ c → z.state.units ≤ r.state.state.units
      → FormEnds setting c1 turns rs valid s d1 w env around z regs y r q
      → ((v : Value) (z : FlatState) → FlatGrown z (f v z).state) → ((g : Registers) (y : MidState) → Grown y (next g y).state)
      → ((x : Fell setting c1 rs valid s d1 w env around z regs y r q)
      → FormEnds setting c2 turns rs valid s d x.w' env around r.state q.registers q.state (f x.result r.state) (next q.registers q.state))
      → FormEnds setting c turns rs valid s d w env around z regs y (go_on r f) (mid_go_on q next)
  ends_two {c1} {c2} {c} {turns} {rs} {valid} {s} {d} {d1} {w} {env} {around} {z} {regs} {y} {r} {q} f next l enough up e grown mid_grown h =
      ends_go_on f next l (omega arith) e grown mid_grown
      (λ x.
      subst (λ p. FormEnds setting c turns rs valid s d w env around z regs y p (mid_go_on q next)) (sym (then_value r f x.result x.outcome))
      (subst (λ p. FormEnds setting c turns rs valid s d w env around z regs y (f x.result r.state) p) (sym (go_on_falls q next x.end))
      (ends_then l x.reached enough up (h x))))

  -- a part that is judged
  pub ends_judged :
      {c1 c2 c turns : ℕ} {rs valid : List Standing} {s : FormScope} {d d1 : ℕ} {w : World} {env : FlatEnvironment} {around : DynamicContext} {z : FlatState} {regs : Registers} {y : MidState} {test : Test}
      {r : FlatEvaluated} {q : MidOutcome} (f : Value → FlatState → FlatEvaluated) (next : Next) → d ≤ d1 → c1 + c2 ≤ c → z.state.units ≤ r.state.state.units
      → TestEnds setting c1 turns rs valid s d1 w env around z regs y test r q
      → ((v : Value) (z : FlatState) → FlatGrown z (f v z).state) → ((g : Registers) (y : MidState) → Grown y (next g y).state)
      → ((x : FellJudged setting c1 rs valid s d1 w env around z regs y test r q)
      → FormEnds setting c2 turns rs valid s d x.w' env around r.state q.registers q.state (f x.result r.state) (next q.registers q.state))
      → FormEnds setting c turns rs valid s d w env around z regs y (go_on r f) (mid_go_on q next)
  ends_judged {c1} {c2} {c} {turns} {rs} {valid} {s} {d} {d1} {w} {env} {around} {z} {regs} {y} {test} {r} {q} f next l enough up e grown mid_grown h =
      ends_go_on f next l (omega arith) e grown mid_grown
      (λ x.
      subst (λ p. FormEnds setting c turns rs valid s d w env around z regs y p (mid_go_on q next)) (sym (then_value r f x.result x.outcome))
      (subst (λ p. FormEnds setting c turns rs valid s d w env around z regs y (f x.result r.state) p) (sym (go_on_falls q next x.end))
      (ends_then l x.reached enough up (h x))))
