-- Behind a cleanup: the value is there, or the transfer goes on.
use Rattle.std.proofs.Common.{◌≡◌, ℕ, ◌+◌, ◌<◌, ◌≤◌, List, [], ◌∷◌, length, Some, refl, sym, ap, ◌∙◌, subst, arith}
use Rattle.std.specs.Prelude.{not, slice_get, slice_set}
use Rattle.std.proofs.lemmas.Bool.{ne_eqb}
use Rattle.std.proofs.Math.ListN.{length-set}
use Rattle.lang_meaning.specs.State.{Exit, Landing}
use Rattle.lang_meaning.specs.Values.{Value}
use Rattle.flat_language.specs.FlatState.{FlatState, gives, leaves}
use Rattle.mid_code.specs.declared.operation.Comparison.TheVariants.{Different}
use Rattle.mid_code.specs.Meaning.{Context, exec}
use Rattle.mid_code.specs.MidCode.{code_of}
use Rattle.mid_code.specs.State.{Registers, register, End, falls, ends, MidState, MidOutcome}
use Rattle.mid_code.specs.State.{charged as mid_charged}
use Rattle.mid_arena.specs.Places.{word_of}
use Rattle.mid_arena.proofs.Growing.{spot_below}
use Rattle.mid_arena.proofs.Lists.{set_elsewhere}
use Rattle.mid_arena.proofs.Registers.{register_here, register_beside}
use Rattle.mid_arena.proofs.Running.{RunsTo, and_then, and_ends, none_left, costing, constant_falls, store_falls, choose_first_ends, choose_second_falls, address_above}
use Rattle.back_lowering.specs.ControlWords.{landing_address}
use Rattle.back_lowering.specs.Routines.{transfer_routine}
use Rattle.back_lowering.specs.Steps.{Steps, constant, store, call, if_different, test_of}
use Rattle.back_relation.specs.Setting.{Setting}
use Rattle.back_relation.specs.Placed.{IsPlaced}
use Rattle.back_relation.specs.Room.{routine_words}
use Rattle.back_relation.specs.Worlds.{World, LandsIn, Standing, record_of_exit}
use Rattle.back_relation.specs.Around.{AroundStands}
use Rattle.back_relation.specs.Ends.{LandingIs, done}
use Rattle.back_relation.specs.Forms.{code_at}
use Rattle.back_relation.specs.Procedures.{called}
use Rattle.back_relation.specs.RoutineClaims.{routine_credit}
use Rattle.back_relation.specs.Starts.{Start, ReachedFrom, EndsAt}
use Rattle.back_relation.proofs.Parts.{single_step}
use Rattle.back_relation.proofs.Starts.{reached_set}
use Rattle.back_exits.specs.Inside.{around_with}
use Rattle.back_exits.specs.Touching.{touched}
use Rattle.back_exits.proofs.Charging.{next_start, whole_then}
use Rattle.back_exits.proofs.Exits.{found_record}
use Rattle.back_exits.proofs.Words.{control_lent, control_of}
use Rattle.back_exits.specs.Cleanups.{TransferGoes}
use Rattle.back_exits.proofs.Calls.{Passes, passes_last, called_passes, call_of_two}
use Rattle.back_exits.proofs.Going.{transfer_passes}
use Rattle.back_exits.proofs.Outside.{Came}

abbrev pub goes_on : (setting : Setting) (d : ℕ) → Steps
goes_on setting d = store (d + 2) (d + 3) landing_address ∷ call d (transfer_routine setting.at) ((d + 1) ∷ d ∷ []) ∷ []

abbrev pub end_steps : (setting : Setting) (d : ℕ) → Steps
end_steps setting d = constant (d + 3) 0 ∷ if_different (d + 1) (d + 3) (goes_on setting d) [] ∷ []

-- ---- the value is there

module _ (setting : Setting) (c : Context) (a : Start setting) {credit : ℕ} {w : World} {z : FlatState} {g : Registers} {y : MidState} (x : ReachedFrom setting credit a a.d w z g y)
    (there : a.d + 8 ≤ length a.regs) (none : register (a.d + 1) g ≡ Some 0) where
  wide : a.d + 3 < length g
  wide = let same = x.kept.registers.count in omega (arith, same, there)

  value_runs : RunsTo c (code_of (end_steps setting a.d)) g y (ends falls (slice_set g (a.d + 3) (Some 0)) (mid_charged 20 y))
  value_runs =
      costing {n = y.cost + 20}
      (and_then constant_falls
      (and_then
      (choose_second_falls {t = test_of Different (a.d + 1) (a.d + 3)} {a = 0} {b = 0}
      (register_beside g (a.d + 3) (a.d + 1) (Some 0) (λ e. omega (arith, e)) ∙ none) (register_here g (a.d + 3) 0 wide) refl none_left)
      none_left))
      (omega arith)

  -- **the word of the value is still there**
  pub value_ends :
      (whole : ℕ) (v : Value) (word : ℕ) → credit + 20 ≤ whole → a.z.state.units ≤ z.state.units → register a.d g ≡ Some word → word_of w.places v ≡ Some word
      → EndsAt setting whole a (gives v z) (exec c (code_of (end_steps setting a.d)) g y)
  value_ends whole v word enough up held is =
      let b : Start setting = next_start setting 20 whole a a.d a.d a.n (omega arith) (omega arith) (omega arith) a.begins.first x enough in
      subst (λ q. EndsAt setting whole a (gives v z) q) (sym value_runs.same)
      (whole_then setting 20 whole a a.d a.d a.n (omega arith) (omega arith) (omega arith) a.begins.first x enough {r = gives v z} {q = ends falls (slice_set g (a.d + 3) (Some 0)) (mid_charged 20 y)} up
      (done (record {
        result = v;
        outcome = refl;
        end = refl;
        w' = w;
        reached = reached_set setting b a.d (a.d + 3) 0 20 (omega arith) (omega arith) (omega arith);
        word = word;
        in_register = register_beside g (a.d + 3) a.d (Some 0) (λ e. omega (arith, e)) ∙ held;
        of_value = is;
      })))

-- ---- the transfer goes on

module _ (setting : Setting) (placed : IsPlaced setting) (k : ℕ) (a : Start setting) (goes : TransferGoes setting k a.turns) {credit : ℕ} {w : World} {z : FlatState} {g : Registers} {y : MidState}
    (came : Came setting a credit w z g y) {valid : List Standing} {exits : List Exit} (around_stands : AroundStands setting w a.rs valid (around_with exits a.around) z y)
    (outer : (i : ℕ) (r : Standing) → record_of_exit i exits valid ≡ Some r → record_of_exit i a.around.exits a.valid ≡ Some r)
    (there : a.d + 8 ≤ length a.regs) (enough_words : routine_words ≤ a.n) (e : ℕ) (v : Value) (landing : Landing) (target : Standing) (word landing_word : ℕ)
    (value_held : register a.d g ≡ Some word) (target_held : register (a.d + 1) g ≡ Some target.address) (landing_held : register (a.d + 2) g ≡ Some landing_word)
    (is : word_of w.places v ≡ Some word) (valid_target : record_of_exit e exits valid ≡ Some target) (landing_is : LandingIs setting landing_word landing)
    (lands : LandsIn (slice_get w.exit_forms e) landing) (whole : ℕ) (enough : credit + 78 + routine_credit ≤ whole) (up : a.z.state.units ≤ z.state.units) where
  abbrev c : Context
  c = code_at setting k a.turns

  abbrev g6 : Registers
  g6 = slice_set g (a.d + 3) (Some 0)

  size6 : length g6 ≡ length g
  size6 = length-set g (a.d + 3) (Some 0)

  same6 : (i : ℕ) → i < a.d → slice_get g6 i ≡ slice_get g i
  same6 i low = set_elsewhere g (a.d + 3) i (Some 0) (λ f. omega (arith, f, low))

  abbrev total : ℕ
  total = y.cost + 6 + 12 + 8 + 52

  abbrev y8 : MidState
  y8 = touched ((landing_address, landing_word) ∷ []) y.arena (y.cost + 6 + 12 + 8 + 52) y

  abbrev q8 : MidOutcome
  q8 = called c (transfer_routine setting.at) (target.address ∷ word ∷ []) y8

  wide7 : a.d + 3 < length g
  wide7 = let same = came.registers.count in omega (arith, same, there)

  target_there : target.address ≡ 0 → ⊥
  target_there f =
      let t = around_stands in
      let low = (t.records target (found_record a.rs t.link z.state.exits e exits valid target t.links valid_target)).low in
      let arena = came.world.things.represents.arena in
      let room = arena.room in
      let below = spot_below arena (control_of setting came.world.things) in
      omega (arith, f, low, room, below)

  held6 : (r n : ℕ) → r < a.d + 3 → register r g ≡ Some n → register r g6 ≡ Some n
  held6 r n low f = register_beside g (a.d + 3) r (Some 0) (λ same. omega (arith, same, low)) ∙ f

  -- how the code ends, where the routine's end passes
  goes_runs : (last : End) → Passes last → q8.end ≡ last → RunsTo c (code_of (end_steps setting a.d)) g y (ends last g6 q8.state)
  goes_runs last passes same =
      and_then constant_falls
      (and_ends (passes_last last passes)
      (choose_first_ends {t = test_of Different (a.d + 1) (a.d + 3)} {a = target.address} {b = 0} (passes_last last passes) (held6 (a.d + 1) target.address (omega arith) target_held)
      (register_here g (a.d + 3) 0 wide7) (ap not (ne_eqb target.address 0 target_there))
      (and_then
      (store_falls (held6 (a.d + 2) landing_word (omega arith) landing_held) (register_here g (a.d + 3) 0 wide7) (address_above 0 landing_address landing_address (omega arith) (omega arith))
      (control_lent setting (control_of setting came.world.things) 16 (omega arith) refl))
      (record {
        same =
            single_step c (call a.d (transfer_routine setting.at) ((a.d + 1) ∷ a.d ∷ [])) g6 _
            ∙ call_of_two c g6 _ a.d (transfer_routine setting.at) (a.d + 1) a.d target.address word (held6 (a.d + 1) target.address (omega arith) target_held) (held6 a.d word (omega arith) value_held)
            ∙ called_passes q8 a.d g6 last passes same;
      }))))

  -- **the transfer goes on**
  pub transfer_ends : EndsAt setting whole a (leaves e v landing z) (exec c (code_of (end_steps setting a.d)) g y)
  transfer_ends =
      transfer_passes setting placed k a goes came around_stands outer enough_words e v landing target word landing_word is valid_target landing_is lands whole (credit + 78) total g6 size6 same6
      (let paid = came.paid in omega (arith, paid)) (omega (arith, enough)) up (exec c (code_of (end_steps setting a.d)) g y) (λ last passes same. (goes_runs last passes same).same)
