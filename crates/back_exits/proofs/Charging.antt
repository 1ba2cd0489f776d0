-- One thing after another, from a start to what the whole comes to.
use Rattle.std.proofs.Common.{ℕ, ◌+◌, ◌*◌, ◌<◌, ◌≤◌, length, refl, sym, subst, arith}
use Rattle.lang_meaning.specs.Counts.{unit_cost}
use Rattle.lang_meaning.specs.Values.{Value}
use Rattle.flat_language.specs.FlatState.{FlatState, FlatEvaluated, go_on, charged}
use Rattle.mid_code.specs.Law.{Grown}
use Rattle.mid_code.specs.State.{Registers, no_level, MidState, MidOutcome, Next}
use Rattle.mid_code.specs.State.{go_on as mid_go_on}
use Rattle.mid_code.proofs.Growth.{go_on_grown, same_grown}
use Rattle.back_relation.specs.Setting.{Setting}
use Rattle.back_relation.specs.Worlds.{World}
use Rattle.back_relation.specs.Ends.{Transfers, Ends, done, left_by, full_there, stopped, few_turns}
use Rattle.back_relation.specs.Starts.{FlatGrown, Start, FellFrom, ReachedFrom, LeftFrom, EndsBy, EndsAt}
use Rattle.back_relation.proofs.Growth.{both_prefix, then_value, then_other, then_grown}
use Rattle.back_relation.proofs.Parts.{go_on_falls, go_on_last}
use Rattle.back_relation.proofs.Starts.{start_after, start_charged, reached_repaid}
use Rattle.back_relation.proofs.Stops.{stopped_before}
use Rattle.back_relation.proofs.Then.{reached_then, left_behind, because_then, stopped_last, registers_less}

module _ (setting : Setting) where
  -- ---- behind what was reached

  module _ {c1 : ℕ} (c2 c : ℕ) (a : Start setting) (d1 e m : ℕ) (low : a.d ≤ d1) (later : a.d ≤ e) (fewer : m ≤ a.n) (there : e < length a.regs) {w : World} {z : FlatState} {regs : Registers} {y : MidState}
      (x : ReachedFrom setting c1 a d1 w z regs y) (enough : c1 + c2 ≤ c) where
    abbrev pub next_start : Start setting
    next_start = start_after setting a d1 e m low later fewer there x

    -- a transfer that leaves what comes behind, with registers kept from the first one on
    pub left_then : {r : FlatEvaluated} {q : MidOutcome} → LeftFrom setting c2 next_start a.d r q → LeftFrom setting c a a.d r q
    left_then t = left_behind setting low x enough t

    pub ends_then : {D E : Type 0} {r : FlatEvaluated} {q : MidOutcome} → a.z.state.units ≤ z.state.units → (D → E) → Ends setting (c2 + unit_cost) D (LeftFrom setting c2 next_start a.d r q) a.turns z y r q
        → EndsBy setting E c a r q
    ends_then up f (done k) = done (f k)
    ends_then up f (left_by t) = left_by (left_then t)
    ends_then up f (full_there k) = full_there k
    ends_then up f (stopped k) = stopped (stopped_before setting (omega (arith, x.back.paid, enough)) k)
    ends_then up f (few_turns k) = let size = x.kept.world.same_size in few_turns (omega (arith, k, up, size))

    fell_then : {r : FlatEvaluated} {q : MidOutcome} → FellFrom setting c2 next_start a.d r q → FellFrom setting c a a.d r q
    fell_then f = record {
      result = f.result;
      outcome = f.outcome;
      end = f.end;
      w' = f.w';
      reached = reached_then setting low x enough f.reached;
      word = f.word;
      in_register = f.in_register;
      of_value = f.of_value;
    }

    pub whole_then :
        {r : FlatEvaluated} {q : MidOutcome} → a.z.state.units ≤ z.state.units
        → Ends setting (c2 + unit_cost) (FellFrom setting c2 next_start a.d r q) (LeftFrom setting c2 next_start a.d r q) a.turns z y r q → EndsAt setting c a r q
    whole_then up h = ends_then up fell_then h

  -- ---- the units of a form pay for what follows

  module _ (c1 c2 : ℕ) (a : Start setting) (u : ℕ) (enough : c1 ≤ unit_cost * u + c2) {r : FlatEvaluated} {q : MidOutcome} where
    transfers_paid :
        Transfers setting c1 a.rs a.valid a.w a.around (charged u a.z) a.y r q → Transfers setting c2 a.rs a.valid a.w a.around a.z a.y r q
    transfers_paid t = record {
      exit_number = t.exit_number;
      result = t.result;
      landing = t.landing;
      outcome = t.outcome;
      target = t.target;
      valid_target = t.valid_target;
      to = t.to;
      outer = t.outer;
      stop = t.stop;
      word = t.word;
      end = t.end;
      blocks = t.blocks;
      w' = t.w';
      of_value = t.of_value;
      world = record { later = t.world.later; things = t.world.things; stack = t.world.stack; end = t.world.end; more_exits = t.world.more_exits; same_size = t.world.same_size };
      charged = t.charged;
      paid = let paid = t.paid in omega (arith, paid, enough);
      pending = t.pending;
      landing_word = t.landing_word;
      landing_stands = t.landing_stands;
      landing_is = t.landing_is;
      lands = t.lands;
    }

    left_paid : LeftFrom setting c1 (start_charged setting a u) a.d r q → LeftFrom setting c2 a a.d r q
    unfolding transfers_paid
    left_paid t = record {
      transfer = transfers_paid t.transfer;
      activation = t.activation;
      registers = t.registers;
    }

    pub units_then : EndsAt setting c1 (start_charged setting a u) r q → EndsAt setting c2 a r q
    units_then (done f) = done (record {
      result = f.result;
      outcome = f.outcome;
      end = f.end;
      w' = f.w';
      reached = reached_repaid setting a u enough f.reached;
      word = f.word;
      in_register = f.in_register;
      of_value = f.of_value;
    })
    units_then (left_by t) = left_by (left_paid t)
    units_then (full_there k) = full_there k
    units_then (stopped k) = stopped (stopped_before setting (omega (arith, enough)) k)
    units_then (few_turns k) = few_turns (omega (arith, k))

  -- ---- **one thing after another**

  module _ (E : FlatEvaluated → MidOutcome → Type 0) (c1 c : ℕ) (a : Start setting) (d1 : ℕ) (r : FlatEvaluated) (q : MidOutcome) (f : Value → FlatState → FlatEvaluated) (next : Next) (low : a.d ≤ d1) (less : c1 ≤ c)
      (grown : (v : Value) (z : FlatState) → FlatGrown z (f v z).state) (mid_grown : (g : Registers) (y : MidState) → Grown y (next g y).state) where
    abbrev Whole : FlatEvaluated → MidOutcome → Type 0
    Whole p s = EndsBy setting (E p s) c a p s

    transfers_lower : Transfers setting c1 a.rs a.valid a.w a.around a.z a.y r q → Transfers setting c a.rs a.valid a.w a.around a.z a.y r q
    transfers_lower t = record {
      exit_number = t.exit_number;
      result = t.result;
      landing = t.landing;
      outcome = t.outcome;
      target = t.target;
      valid_target = t.valid_target;
      to = t.to;
      outer = t.outer;
      stop = t.stop;
      word = t.word;
      end = t.end;
      blocks = t.blocks;
      w' = t.w';
      of_value = t.of_value;
      world = t.world;
      charged = t.charged;
      paid = let paid = t.paid in omega (arith, paid, less);
      pending = t.pending;
      landing_word = t.landing_word;
      landing_stands = t.landing_stands;
      landing_is = t.landing_is;
      lands = t.lands;
    }

    left_lower : LeftFrom setting c1 a d1 r q → LeftFrom setting c a a.d r q
    unfolding transfers_lower
    left_lower t = record {
      transfer = transfers_lower t.transfer;
      activation = t.activation;
      registers = registers_less low t.registers;
    }

    pub part_then :
        {D : Type 0} → Ends setting (c1 + unit_cost) D (LeftFrom setting c1 a d1 r q) a.turns a.z a.y r q → (D → Whole (go_on r f) (mid_go_on q next)) → Whole (go_on r f) (mid_go_on q next)
    part_then (done k) h = h k
    part_then (left_by t) h =
        subst (λ p. Whole p (mid_go_on q next)) (sym (then_other r f _ t.transfer.outcome tt))
        (subst (λ s. Whole r s) (sym (go_on_last _ q next t.transfer.end tt)) (left_by (left_lower t)))
    part_then (full_there k) h =
        let g : Grown q.state (mid_go_on q next).state = go_on_grown q next q.state (same_grown q.state) mid_grown in
        subst (λ p. Whole p (mid_go_on q next)) (sym (then_other r f _ k.outcome tt))
        (full_there (record { asked = k.asked; left_then = k.left_then; outcome = k.outcome; printed = both_prefix k.printed (record { rest = g.printed.0; is = sym g.printed.1 }) }))
    part_then (stopped k) h =
        let g : FlatGrown r.state (go_on r f).state = then_grown r f grown in
        subst (λ s. Whole (go_on r f) s) (sym (go_on_last q.end q next refl (stopped_last setting r q.end k.because)))
        (stopped (record {
          because = because_then setting r f q.end g k.because;
          printed = both_prefix k.printed g.printed;
          paid = λ ended. let paid = k.paid (λ none. ended (because_then setting r f no_level g none)) in omega (arith, paid, less, g.units);
        }))
    part_then (few_turns k) h =
        let g : FlatGrown r.state (go_on r f).state = then_grown r f grown in few_turns (omega (arith, k, g.units))

    -- where the part's value comes in a register
    pub value_then :
        Ends setting (c1 + unit_cost) (FellFrom setting c1 a d1 r q) (LeftFrom setting c1 a d1 r q) a.turns a.z a.y r q
        → ((x : FellFrom setting c1 a d1 r q) → Whole (f x.result r.state) (next q.registers q.state)) → Whole (go_on r f) (mid_go_on q next)
    value_then e h =
        part_then e
        (λ x. subst (λ p. Whole p (mid_go_on q next)) (sym (then_value r f x.result x.outcome))
        (subst (λ s. Whole (f x.result r.state) s) (sym (go_on_falls q next x.end)) (h x)))
