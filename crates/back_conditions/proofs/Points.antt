-- From one point of a form's code to the next, where some registers were set; and a routine that seeks a binding.
use Rattle.std.proofs.Common.{◌≡◌, ℕ, ◌+◌, ◌*◌, ◌^◌, ◌<◌, ◌≤◌, List, [], ◌∷◌, length, Some, refl, sym, ap, ◌∙◌, subst, arith}
use Rattle.std.specs.Prelude.{slice_get, slice_set}
use Rattle.std.proofs.Math.ListN.{length-set}
use Rattle.std.specs.Str.{bytes_eq}
use Rattle.lang_meaning.specs.Lookup.{text, passed}
use Rattle.lang_meaning.specs.Values.{Value}
use Rattle.lang_meaning.specs.State.{DynamicContext}
use Rattle.flat_language.specs.FlatState.{FlatEvaluated, gives, FlatEnvironment, FlatState, go_on}
use Rattle.mid_code.specs.Arena.{word_in}
use Rattle.mid_code.specs.Law.{Grown}
use Rattle.mid_code.specs.Meaning.{Context, exec}
use Rattle.mid_code.specs.MidCode.{MidCode, code_of}
use Rattle.mid_code.specs.State.{Registers, register, falls, ends, MidState, MidOutcome, Next}
use Rattle.mid_code.specs.State.{charged as mid_charged, go_on as mid_go_on}
use Rattle.mid_code.proofs.Growth.{exec_grown, levels_grow, turns_grow}
use Rattle.mid_arena.specs.Places.{word_of}
use Rattle.mid_arena.proofs.Registers.{register_here}
use Rattle.mid_arena.proofs.Running.{step_falls, constant_falls}
use Rattle.back_lowering.specs.Placement.{dynamic_address}
use Rattle.back_lowering.specs.Routines.{binding_routine}
use Rattle.back_lowering.specs.Steps.{Steps, constant, call}
use Rattle.back_relation.specs.Setting.{Setting}
use Rattle.back_relation.specs.Placed.{IsPlaced, HasDynamic}
use Rattle.back_relation.specs.Ends.{done, form_spare, form_credit}
use Rattle.back_relation.specs.Forms.{FormEnds, code_at, Begins, SparingForm}
use Rattle.back_relation.specs.Room.{looking_words}
use Rattle.back_relation.specs.Worlds.{World, Standing}
use Rattle.back_relation.specs.Activation.{FormScope}
use Rattle.back_relation.specs.Starts.{FlatGrown, Start, EndsAt, ReachedFrom, EndsFrom, FellFrom}
use Rattle.back_relation.proofs.Activations.{activation_later}
use Rattle.back_relation.proofs.Parts.{step_then, go_on_falls}
use Rattle.back_relation.proofs.Starts.{start_after, reached_cost, reached_set, behind, ends_spared, start_charged, ends_charged}
use Rattle.back_relation.proofs.Straight.{same_here, world_cost, around_cost}
use Rattle.back_relation.proofs.Then.{reached_then, ends_go_on, ends_then}
use Rattle.back_relation.proofs.Worlds.{later_same}
use Rattle.back_relation.proofs.Growth.{then_value}
use Rattle.back_calling.proofs.Inner.{form_looking_law}
use Rattle.back_conditions.specs.Looking.{LooksAnywhere, PlaceOf, binding_under, binding_most}
use Rattle.back_conditions.proofs.BindingWalk.{bindings_law}

module _ (setting : Setting) where
  pub code_grows : (k turns : ℕ) (code : MidCode) (g : Registers) (v : MidState) → Grown v (exec (code_at setting k turns) code g v).state
  code_grows k turns code g v =
      exec_grown (code_at setting k turns) (levels_grow setting.procedures setting.turns_each k) (turns_grow setting.procedures _ (levels_grow setting.procedures setting.turns_each k) turns) code g v

  -- the start of code that begins so, and what a form there comes to, whose whole first unit pays
  abbrev pub begun_at :
      (turns : ℕ) {rs valid : List Standing} {s : FormScope} {d n : ℕ} {w : World} {env : FlatEnvironment} {around : DynamicContext} {z : FlatState} {regs : Registers} {y : MidState}
      → Begins setting rs valid s d n w env around z regs y → Start setting
  begun_at turns {rs} {valid} {s} {d} {n} {w} {env} {around} {z} {regs} {y} b = record {
    turns = turns;
    rs = rs;
    valid = valid;
    s = s;
    d = d;
    n = n;
    w = w;
    env = env;
    around = around;
    z = z;
    regs = regs;
    y = y;
    begins = b;
  }

  pub form_spared :
      (turns : ℕ) {rs valid : List Standing} {s : FormScope} {d n : ℕ} {w : World} {env : FlatEnvironment} {around : DynamicContext} {z : FlatState} {regs : Registers} {y : MidState}
      → Begins setting rs valid s d n w env around z regs y → {r : FlatEvaluated} {q : MidOutcome} → SparingForm setting turns rs valid s d w env around z regs y r q
      → FormEnds setting 0 turns rs valid s d w env around z regs y r q
  form_spared turns b e = ends_spared setting (begun_at turns b) e

  -- **a form and what comes behind it**, which what the form leaves of its first unit pays too
  pub two_paying :
      {c2 c : ℕ} (a : Start setting) (d1 : ℕ) {r : FlatEvaluated} {q : MidOutcome} (f : Value → FlatState → FlatEvaluated) (next : Next) → a.d ≤ d1 → c2 ≤ c + form_spare
      → a.y.cost ≤ q.state.cost → EndsFrom setting form_credit (start_charged setting a 1) d1 r q → ((v : Value) (z : FlatState) → FlatGrown z (f v z).state)
      → ((g : Registers) (y : MidState) → Grown y (next g y).state)
      → ((x : FellFrom setting form_credit (start_charged setting a 1) d1 r q)
      → FormEnds setting c2 a.turns a.rs a.valid a.s a.d x.w' a.env a.around r.state q.registers q.state (f x.result r.state) (next q.registers q.state))
      → EndsAt setting c a (go_on r f) (mid_go_on q next)
  two_paying {c2} {c} a d1 {r} {q} f next l enough costs e grown mid_grown h =
      ends_charged setting {c1 = form_credit + c2} {c2 = c} a 1 (omega (arith, enough))
      (ends_go_on setting {D = FellFrom setting form_credit (start_charged setting a 1) d1 r q} {c1 = form_credit} {d1 = d1} f next l (omega arith) e grown mid_grown
      (λ x.
      subst (λ p. EndsAt setting (form_credit + c2) (start_charged setting a 1) p (mid_go_on q next)) (sym (then_value r f x.result x.outcome))
      (subst (λ p. EndsAt setting (form_credit + c2) (start_charged setting a 1) (f x.result r.state) p) (sym (go_on_falls q next x.end))
      (ends_then setting l x.reached {c2 = c2} {c = form_credit + c2} (omega arith) (omega (arith, x.reached.back.paid, costs)) (h x)))))

  -- registers at or behind the first one were set, and this was paid
  pub reached_registers :
      {credit : ℕ} (a : Start setting) (regs : Registers) (cost : ℕ) → length regs ≡ length a.regs → ((i : ℕ) → i < a.d → slice_get regs i ≡ slice_get a.regs i) → cost ≤ credit
      → ReachedFrom setting credit a a.d a.w a.z regs (mid_charged cost a.y)
  reached_registers a regs cost count same h = record {
    kept = record {
      world = world_cost setting cost a.begins.call.things;
      activation =
          activation_later setting {d = a.d} {y = a.y} (later_same a.w) (same_here a.w refl) refl (λ n cs k. k) (λ r few. ap word_in (same r few)) a.begins.scope
          a.begins.activation;
      registers = record { count = count; same = λ i few none. same i few };
    };
    back = around_cost setting a.z a.y cost h;
  }

  -- a value's word is in the result's register then
  pub gives_registers :
      {credit : ℕ} (a : Start setting) (regs : Registers) (cost word : ℕ) (v : Value) → length regs ≡ length a.regs → ((i : ℕ) → i < a.d → slice_get regs i ≡ slice_get a.regs i) → cost ≤ credit
      → register a.d regs ≡ Some word → word_of a.w.places v ≡ Some word → EndsAt setting credit a (gives v a.z) (ends falls regs (mid_charged cost a.y))
  gives_registers a regs cost word v count same h there is =
      done (record {
        result = v;
        outcome = refl;
        end = refl;
        w' = a.w;
        reached = reached_registers a regs cost count same h;
        word = word;
        in_register = there;
        of_value = is;
      })

  module _ (placed : IsPlaced setting) (k : ℕ) where
    abbrev pub sought : (a : Start setting) → (n : ℕ) → ℕ
    sought a n = passed (λ (b : List ℕ × ℕ). bytes_eq (text setting.names n) b.0) a.around.bindings

    -- **the place of a dynamic variable's value comes to t**, and the code goes on
    pub binding_goes :
        (a : Start setting) (n t credit c2 : ℕ) (rest : Steps) {r : FlatEvaluated} → HasDynamic setting n → a.d ≤ t → t < length a.regs → looking_words ≤ a.n → FlatGrown a.z r.state
        → 150 + 70 * sought a n + c2 ≤ credit
        → ((address : ℕ) (y2 : MidState) → address + 4 ≤ 2 ^ 32 → PlaceOf setting a.w n address (binding_under (text setting.names n) a.around.bindings)
        → ReachedFrom setting (150 + 70 * sought a n) a t a.w a.z (slice_set (slice_set a.regs t (Some (dynamic_address setting.at n))) t (Some address)) y2
        → FormEnds setting c2 a.turns a.rs a.valid a.s a.d a.w a.env a.around a.z (slice_set (slice_set a.regs t (Some (dynamic_address setting.at n))) t (Some address)) y2 r
        (exec (code_at setting k a.turns) (code_of rest) (slice_set (slice_set a.regs t (Some (dynamic_address setting.at n))) t (Some address)) y2))
        → EndsAt setting credit a r
        (exec (code_at setting k a.turns) (code_of (constant t (dynamic_address setting.at n) ∷ call t (binding_routine setting.at) (t ∷ []) ∷ rest)) a.regs a.y)
    binding_goes a n t credit c2 rest {r} has low there room grown enough h =
        subst (λ q. EndsAt setting credit a r q)
        (sym
        (step_falls c (constant t (dynamic_address setting.at n)) (code_of (call t (binding_routine setting.at) (t ∷ []) ∷ rest)) a.regs set a.y (mid_charged 6 a.y) (constant_falls).same
        ∙ step_then c (call t (binding_routine setting.at) (t ∷ [])) rest set (mid_charged 6 a.y)))
        (behind setting {c1 = 6} {c2 = 98 + 70 * sought a n + 46 + c2} a t low (reached_set setting a t t (dynamic_address setting.at n) 6 (omega arith) low (omega arith)) (omega (arith, enough)) (omega arith)
        (form_looking_law setting c b k a.d t (binding_routine setting.at) (98 + 70 * sought a n) address (98 + 70 * sought a n + 46 + c2) (t ∷ []) (dynamic_address setting.at n ∷ []) r
        (λ g v. exec c (code_of rest) g v) low (omega (arith, there, size)) (omega arith) (register_here a.regs t (dynamic_address setting.at n) there, tt) grown
        (λ g v. code_grows k a.turns (code_of rest) g v) (found.3 room paid.begins.call)
        (λ x.
        behind setting {c1 = 98 + 70 * sought a n + 46} {c2 = c2} b t low x (omega arith) (omega arith)
        (h address _ found.1 found.2
        (reached_then setting {c1 = 6} {d = t} {d1 = t} (omega arith) (reached_set setting {credit = 6} a t t (dynamic_address setting.at n) 6 (omega arith) low (omega arith)) {c2 = 98 + 70 * sought a n + 46} {c = 150 + 70 * sought a n} (omega arith) x)))))
      where
        c : Context
        c = code_at setting k a.turns

        set : Registers
        set = slice_set a.regs t (Some (dynamic_address setting.at n))

        size : length set ≡ length a.regs
        size = length-set a.regs t (Some (dynamic_address setting.at n))

        b : Start setting
        b = start_after setting a t a.d a.n low (omega arith) (omega arith) a.begins.first (reached_set setting {credit = 6} a t t (dynamic_address setting.at n) 6 (omega arith) low (omega arith))

        paid : Start setting
        paid = start_after setting b b.d b.d b.n (omega arith) (omega arith) (omega arith) b.begins.first (reached_cost setting {credit = 46} b b.d 46 (omega arith))

        found :
            (address : ℕ) × (address + 4 ≤ 2 ^ 32) × PlaceOf setting a.w n address (binding_under (text setting.names n) a.around.bindings)
            × LooksAnywhere setting k a.turns a.rs a.valid a.w a.around a.z paid.y a.n (binding_most (text setting.names n) a.around.bindings) (binding_routine setting.at)
            (dynamic_address setting.at n ∷ []) address
        found = bindings_law setting k a.turns a.rs a.valid a.w a.around a.z paid.y a.n placed paid.begins.call.things paid.begins.call.around_stands n has

        address : ℕ
        address = found.0
