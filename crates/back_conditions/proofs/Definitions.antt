-- **Dynamic variables are defined.**
use Rattle.std.proofs.Common.{◌≡◌, ℕ, ◌+◌, ◌<◌, Bool, true, false, nat_le, [], ◌∷◌, ◌++◌, length, Some, refl, sym, ap, subst, arith}
use Rattle.std.specs.Prelude.{slice_get, if◌then◌else◌}
use Rattle.lang_meaning.specs.Lookup.{text}
use Rattle.lang_meaning.specs.State.{State}
use Rattle.lang_meaning.specs.Values.{Value, symbol, named}
use Rattle.flat_language.specs.FlatMeaning.{mean}
use Rattle.flat_language.specs.FlatState.{FlatState, FlatEvaluated, on_state, charged, gives, go_on}
use Rattle.mid_code.specs.Arena.{word_in, with_word}
use Rattle.mid_code.specs.Meaning.{Context, exec}
use Rattle.mid_code.specs.MidCode.{code_of}
use Rattle.mid_code.specs.State.{Registers, register, MidState, with_arena}
use Rattle.mid_code.specs.State.{charged as mid_charged}
use Rattle.mid_arena.specs.Places.{word_of}
use Rattle.mid_arena.proofs.Running.{RunsTo, and_then, none_left, constant_falls, parts_then, in_two_parts}
use Rattle.back_lowering.specs.Codes.{lower, def_dynamic_code}
use Rattle.back_lowering.specs.Placement.{symbol_word, dynamic_address}
use Rattle.back_lowering.specs.Registers.{of_code, enough_for}
use Rattle.back_lowering.specs.Steps.{Steps, constant, store, store_to}
use Rattle.back_relation.specs.Setting.{Setting}
use Rattle.back_relation.specs.Ends.{WorldKept, Around, form_credit}
use Rattle.back_relation.specs.Placed.{IsPlaced, HasDynamic, HasSymbol}
use Rattle.back_relation.specs.Forms.{context_at, code_at}
use Rattle.back_relation.specs.Starts.{Start, EndsAt, ReachedFrom}
use Rattle.back_relation.proofs.Activations.{activation_later}
use Rattle.back_relation.proofs.Fitting.{registers_front, registers_behind}
use Rattle.back_relation.proofs.FormGrowth.{form_grows}
use Rattle.back_relation.proofs.Growth.{same_prefix}
use Rattle.back_relation.proofs.Starts.{start_after, start_charged, behind, two, gives_run, ends_sparing}
use Rattle.back_relation.proofs.Then.{same_world}
use Rattle.back_relation.proofs.Worlds.{later_same}
use Rattle.back_values.specs.Boxes.{Clean}
use Rattle.back_values.proofs.Cleaning.{is_clean, reached_clean, start_clean}
use Rattle.back_values.proofs.Far.{Stored, store_to_runs}
use Rattle.back_conditions.proofs.DynamicForms.{from_here}
use Rattle.back_conditions.proofs.Points.{code_grows, form_spared}
use Rattle.back_conditions.specs.ValueForms.{LawOfDynamicDefinitions}
use Rattle.back_conditions.proofs.NewOutermost.{new_outermost}

-- the storing of a word at an address names the register that it uses
names_far : (from t x : ℕ) → t < enough_for (of_code (code_of (store_to from t x)))
names_far from t x = by (nat_le x 2047)
  where
    by : (b : Bool) → t < enough_for (of_code (code_of (if b then constant t 0 ∷ store from t x ∷ [] else constant t x ∷ store from t 0 ∷ [])))
    by true = omega arith
    by false = omega arith

module _ (setting : Setting) where
  -- a point with new values, where registers behind the first ones were set
  pub reached_new :
      {credit : ℕ} (a : Start setting) (z : State → State) (regs : Registers) {y : MidState} → WorldKept setting a.w a.w a.z (on_state z a.z) a.y y → Around setting credit a.z (on_state z a.z) a.y y
      → length regs ≡ length a.regs → ((i : ℕ) → i < a.d → slice_get regs i ≡ slice_get a.regs i) → ReachedFrom setting credit a a.d a.w (on_state z a.z) regs y
  reached_new a z regs world back count same = record {
    kept = record {
      world = world;
      activation =
          activation_later setting {d = a.d} {y = a.y} (later_same a.w) (same_world setting world back) refl (λ n cs k. k) (λ i few. ap word_in (same i few)) a.begins.scope a.begins.activation;
      registers = record { count = count; same = λ i few none. same i few };
    };
    back = back;
  }

module _ (setting : Setting) (placed : IsPlaced setting) (k n : ℕ) (has : HasDynamic setting n) (symbol_there : HasSymbol setting n) where
  abbrev given : Value → FlatState → FlatState
  given v z = on_state (λ (y : State). record y { dynamics = (text setting.names n, v) ∷ y.dynamics }) z

  module _ (a : Start setting) (clean : Clean a.w a.y) (v : Value) (word : ℕ) (fits : a.d + 1 < length a.regs) (held : register a.d a.regs ≡ Some word) (is : word_of a.w.places v ≡ Some word) where
    abbrev c : Context
    c = code_at setting k a.turns

    abbrev first_steps : Steps
    first_steps = store_to a.d (a.d + 1) (dynamic_address setting.at n)

    abbrev last_steps : Steps
    last_steps = constant a.d (symbol_word setting.at n) ∷ []

    stored : Stored c first_steps (a.d + 1) a.regs a.y (dynamic_address setting.at n) word
    stored =
        let new = new_outermost setting placed a.begins.call.things clean n has v word 0 is in
        let low = new.low in
        store_to_runs c a.regs a.y a.d (a.d + 1) (dynamic_address setting.at n) word fits (λ e. omega (arith, e)) held (omega (arith, low)) new.lent

    reached : ReachedFrom setting 24 a a.d a.w (given v a.z) stored.after (with_arena (with_word (dynamic_address setting.at n) word a.y.arena) (mid_charged stored.cost a.y))
    reached =
        let within = stored.within in
        let new = new_outermost setting placed a.begins.call.things clean n has v word stored.cost is in
        reached_new setting {credit = 24} a (λ (y : State). record y { dynamics = (text setting.names n, v) ∷ y.dynamics }) stored.after new.world (new.around 24 (omega (arith, within))) stored.count
        (λ i few. stored.others i (λ e. omega (arith, e, few)))

    abbrev behind_it : Start setting
    behind_it = start_after setting a a.d a.d a.n (omega arith) (omega arith) (omega arith) a.begins.first reached

    clean_defined :
        EndsAt setting form_credit a (gives (symbol (named (text setting.names n))) (given v a.z))
        (exec c (code_of (def_dynamic_code setting.names setting.at setting.program a.d n)) a.regs a.y)
    clean_defined =
        let runs : RunsTo c (code_of (first_steps ++ last_steps)) a.regs a.y (exec c (code_of last_steps) behind_it.regs behind_it.y) =
        parts_then first_steps last_steps stored.run (record { same = refl })
        in
        subst (λ t. EndsAt setting form_credit a (gives (symbol (named (text setting.names n))) (given v a.z)) t) (sym runs.same)
        (behind setting {c1 = 24} {c2 = 6} a a.d (omega arith) reached (omega arith) (omega arith)
        (gives_run setting {credit = 6} behind_it (symbol (named (text setting.names n))) (omega arith) (behind_it.begins.call.things.symbols n symbol_there) (and_then constant_falls none_left)))

  pub defined :
      (a : Start setting) (v : Value) (word : ℕ) → a.d + 1 < length a.regs → register a.d a.regs ≡ Some word → word_of a.w.places v ≡ Some word
      → EndsAt setting form_credit a (gives (symbol (named (text setting.names n))) (given v a.z))
      (exec (code_at setting k a.turns) (code_of (def_dynamic_code setting.names setting.at setting.program a.d n)) a.regs a.y)
  defined a v word fits held is =
      behind setting {c1 = 0} {c2 = form_credit} a a.d (omega arith) (reached_clean setting a) (omega arith) (omega arith)
      (clean_defined (start_clean setting a) (is_clean setting a.begins.call.things) v word fits held is)

pub definitions_law : LawOfDynamicDefinitions
unfolding mean lower
definitions_law setting k turns n f placed f_does rs valid s d m first w env around z regs y stands begins registers words =
    ends_sparing setting {c1 = form_credit} (from_here setting k turns rs valid s d m env around w z regs y begins) 2 (omega arith) (omega arith)
    (subst (λ q. EndsAt setting form_credit a (go_on (mean (context_at setting k) f env around (charged 2 z)) (λ v after. next v after)) q)
    (sym (in_two_parts (code_at setting k turns) value code regs y))
    (two setting {c1 = 0} {c2 = form_credit} a d (λ v after. next v after) (λ r v. exec (code_at setting k turns) (code_of code) r v) (omega arith) (omega arith)
    (form_grows setting k f env around (charged 2 z)).units
    (form_spared setting turns a.begins
    (f_does rs valid s d m first w env around (charged 2 z) regs y
    (record { stands = stands.stands; fits = stands.fits; leads = stands.leads; placed = stands.placed.2; forms_known = stands.forms_known }) a.begins (registers_front value code (length regs) registers) words))
    (λ v x. record { printed = same_prefix x.state.printed; units = omega arith; exits = omega arith })
    (λ r v. code_grows setting k turns (code_of code) r v)
    (λ x.
    let size = x.reached.kept.registers.count in
    defined setting placed k n stands.placed.0 stands.placed.1 (start_after setting a d d m (omega arith) (omega arith) (omega arith) begins.first x.reached) x.result x.word (omega (arith, fits, size))
    x.in_register x.of_value)))
  where
    a : Start setting
    a = start_charged setting (from_here setting k turns rs valid s d m env around w z regs y begins) 2

    value : Steps
    value = (lower setting.names setting.at setting.program s.code d f).value

    code : Steps
    code = def_dynamic_code setting.names setting.at setting.program d n

    next : Value → FlatState → FlatEvaluated
    next v after = gives (symbol (named (text setting.names n))) (on_state (λ (y : State). record y { dynamics = (text setting.names n, v) ∷ y.dynamics }) after)

    fits : d + 1 < length regs
    fits =
        let behind = registers_behind value code (length regs) registers in
        let front = registers_front (store_to d (d + 1) (dynamic_address setting.at n)) (constant d (symbol_word setting.at n) ∷ []) (length regs) behind in
        let far = names_far d (d + 1) (dynamic_address setting.at n) in
        omega (arith, front, far)
