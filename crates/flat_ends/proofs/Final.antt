-- A signal whose mark is nil has no value, by induction on the handlers.
use Rattle.std.proofs.Common.{◌≡◌, ◌≤◌, ℕ, suc, ◌+◌, Bool, true, false, List, [], ◌∷◌, length, refl, ap, arith}
use Rattle.std.proofs.lemmas.Bool.{eqb-true}
use Rattle.std.specs.Prelude.{◌==◌, ⊤, if◌then◌else◌}
use Rattle.lang_meaning.specs.Objects.{control_error_class}
use Rattle.lang_meaning.specs.Primitives.{instance_words}
use Rattle.lang_meaning.specs.State.{DynamicContext, Exit, signal_exit, Outcome, value, exit, full, more, has_room}
use Rattle.lang_meaning.specs.Values.{Value, nil}
use Rattle.flat_language.specs.FlatNodes.{tables}
use Rattle.flat_language.specs.FlatState.{FlatState, FlatEvaluated, gives, go_on, go_on_from, landed_from, charged, exit_made}
use Rattle.flat_language.specs.FlatSignals.{FlatContext, inside, marked, apply_value, new_condition, signal_under, signal}
use Rattle.flat_ends.specs.Leaving.{at_level, NeverLeft, AreMade, AllMade, NoValue, LawOfFinalSignals, LawOfSignalsBehind}
use Rattle.flat_ends.proofs.Combined.{Kept, Hidden, Tasks, kept_later}
use Rattle.flat_ends.proofs.Applied.{wrong_under, handler_applies, handled, signals_under, marks_same}
use Rattle.flat_ends.proofs.Runs.{levels_below}
use Rattle.flat_ends.proofs.Leaving.{NoExit, none_hidden, IsIt, never_left, made_kept, captured_made, application_comes}

-- ---- outcomes that are no values

no_value_then : (o : Outcome) (z : FlatState) (next : Value → FlatState → FlatEvaluated) → ((v : Value) → NoValue (next v z).outcome) → NoValue (go_on_from o z next).outcome
no_value_then (value v) z next h = h v
no_value_then (exit e v landing) z next h = λ u same. absurd (cc same)
no_value_then (full asked left_then) z next h = λ u same. absurd (cc same)
no_value_then more z next h = λ u same. absurd (cc same)

no_value_caught : (e : ℕ) (o : Outcome) (z : FlatState) → NoValue o → NeverLeft e o → NoValue (landed_from e (λ v landing y. gives v y) o z).outcome
no_value_caught e (value v) z none never u same = absurd (none v refl)
no_value_caught e (exit x v landing) z none never u same = by (x == e) refl same
  where
    by : (b : Bool) → (x == e) ≡ b → (if b then gives v z else record { outcome = exit x v landing; state = z }).outcome ≡ value u → ⊥
    by true is h = never v landing (ap (λ (n : ℕ). exit n v landing) (eqb-true x e is))
    by false is h = absurd (cc h)
no_value_caught e (full asked left_then) z none never u same = absurd (cc same)
no_value_caught e more z none never u same = absurd (cc same)

no_value_chosen : (b : Bool) (r q : FlatEvaluated) → NoValue r.outcome → NoValue q.outcome → NoValue (if b then r else q).outcome
no_value_chosen true r q h k = h
no_value_chosen false r q h k = k

-- ---- what is made

made_later : (z z' : FlatState) (xs : List Exit) → z.state.exits ≤ z'.state.exits → AreMade z xs → AreMade z' xs
made_later z z' [] up h = tt
made_later z z' (x ∷ xs) up h = ((let few = h.0 in omega (arith, few, up)), made_later z z' xs up h.1)

-- later, where functions captured what was made
all_later : {R : ℕ → Type 0} {around : DynamicContext} {z z' : FlatState} → AllMade around z → Kept R ⊤ z.state.exits z' → AllMade around z'
all_later {R} {around} {z} {z'} h k = record {
  some = (let some = h.some in let up = k.up in omega (arith, some, up));
  captured = captured_made k;
  valid = made_later z z' around.exits k.up h.valid;
}

all_kept : {around : DynamicContext} {z : FlatState} → AllMade around z → Kept NoExit ⊤ z.state.exits z
all_kept {around} {z} h = made_kept z h.captured

-- ---- signals

module _ (context : FlatContext) (w : (R : ℕ → Type 0) → (R 0 → ⊥) → Tasks R ⊤ context.below) where
  -- a new condition is made, or there is no room for it
  no_value_made : (class : ℕ) (slots : List Value) (around : DynamicContext) (z : FlatState) (next : Value → FlatState → FlatEvaluated) → AllMade around z
      → ((v : Value) (y : FlatState) → AllMade around y → NoValue (next v y).outcome) → NoValue (new_condition context class slots z next).outcome
  no_value_made class slots around z next h c =
      no_value_chosen (has_room context.limit (z.state.heap + z.state.stack + instance_words (tables context.program) class (length slots) + 0))
      _ _ (c _ _ (all_later h (kept_later (all_kept h) (omega arith) refl))) (λ u same. absurd (cc same))

  -- what the inside of the exit of a signal comes to
  module _ (x : Value) (hs : List Value) (c : Value) (around : DynamicContext) (z : FlatState) (h : AllMade around z) where
    abbrev within : DynamicContext
    within = record (inside (signal_exit c nil) around z) { handlers = hs }

    abbrev z1 : FlatState
    z1 = charged 1 (exit_made (marked c nil z))

    abbrev applied : FlatEvaluated
    applied = apply_value context (wrong_under context hs) x (c ∷ []) within z1

    abbrev outside : Value → FlatState → FlatEvaluated
    outside condition y = signal_under context hs condition nil within y

    abbrev returned : Value → FlatState → FlatEvaluated
    returned v after = new_condition context control_error_class [] after outside

    made1 : AllMade within z1
    made1 = record {
      some = omega arith;
      captured = λ i cs is n e found. (let few = h.captured i cs is n e found in let same = marks_same c nil z in omega (arith, few, same));
      valid = ((let same = marks_same c nil z in omega (arith, same)), made_later z z1 around.exits (let same = marks_same c nil z in omega (arith, same)) h.valid);
    }

    behind : AllMade within applied.state
    behind =
        all_later made1
        (handler_applies context (w NoExit (λ r. r)) hs (signals_under context (w NoExit (λ r. r)) hs) x (c ∷ []) within (none_hidden within.exits) z1 (all_kept made1)).kept

    -- nothing names the exit of the signal
    own_kept : Kept (IsIt z.state.exits) ⊤ (suc z.state.exits) z1
    own_kept = record {
      up = (let same = marks_same c nil z in omega (arith, same));
      first = λ e same. omega (arith, same);
      captured = λ i cs is n e found. record {
        free = λ same. (let few = h.captured i cs is n e found in absurd (omega (arith, few, same)));
        made = λ t. (let few = h.captured i cs is n e found in let same = marks_same c nil z in omega (arith, few, same));
      };
    }

    own_hidden : Hidden (IsIt z.state.exits) within.exits
    own_hidden = ((λ same. refl), by around.exits h.valid)
      where
        by : (xs : List Exit) → AreMade z xs → Hidden (IsIt z.state.exits) xs
        by [] few = tt
        by (y ∷ ys) few = ((λ same. let one = few.0 in absurd (omega (arith, one, same))), by ys few.1)

    own_left : NeverLeft z.state.exits (go_on applied returned).outcome
    own_left =
        let some = h.some in let tasks = w (IsIt z.state.exits) (λ same. absurd (omega (arith, same, some))) in
        never_left z.state.exits (go_on applied returned).outcome (go_on applied returned).state h.some (handled context tasks hs (signals_under context tasks hs) x c within own_hidden z1 own_kept).goes

  -- **a signal under handlers**
  pub no_value_under : (hs : List Value) (c : Value) (around : DynamicContext) (z : FlatState) → AllMade around z → NoValue (signal_under context hs c nil around z).outcome
  no_value_under [] c around z h = λ u same. absurd (cc same)
  no_value_under (x ∷ hs) c around z h =
      no_value_caught z.state.exits (go_on (applied x hs c around z h) (returned x hs c around z h)).outcome (go_on (applied x hs c around z h) (returned x hs c around z h)).state
      (no_value_then (applied x hs c around z h).outcome (applied x hs c around z h).state (returned x hs c around z h) (λ v.
      no_value_made control_error_class [] (within x hs c around z h) (applied x hs c around z h).state (outside x hs c around z h) (behind x hs c around z h) (λ condition made_then hm.
      no_value_under hs condition (within x hs c around z h) made_then hm)))
      (own_left x hs c around z h)

  pub no_value : (class : ℕ) (slots : List Value) (around : DynamicContext) (z : FlatState) → AllMade around z → NoValue (signal context class slots around z).outcome
  no_value class slots around z h =
      no_value_made class slots around z (λ c made_then. signal_under context around.handlers c nil around made_then) h (λ c made_then hm. no_value_under around.handlers c around made_then hm)

-- ---- at any level

pub law_of_final_signals : LawOfFinalSignals
law_of_final_signals names program limit k around z h =
    let w = λ (R : ℕ → Type 0) (none : R 0 → ⊥). levels_below {R = R} {C = ⊤} names program limit (λ r. absurd (none r)) k in (
      (λ hs c. no_value_under (at_level names program limit k) w hs c around z h),
      (λ class slots. no_value (at_level names program limit k) w class slots around z h),
    )

pub law_of_signals_behind : LawOfSignalsBehind
law_of_signals_behind names program limit k around z h f vs class slots =
    (law_of_final_signals names program limit k around (apply_value (at_level names program limit k) (signal (at_level names program limit k)) f vs around z).state
    (all_later h (application_comes {R = NoExit} {C = ⊤} names program limit (λ r. r) k around z (none_hidden around.exits) (all_kept h) f vs).kept)).1 class slots
