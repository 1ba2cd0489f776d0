-- Variables are set, wherever they are.
use Rattle.std.proofs.Common.{◌≡◌, ℕ, ◌+◌, ◌^◌, ◌<◌, ◌≤◌, [], ◌∷◌, ◌++◌, Option, Some, None, refl, sym, ap, ◌∙◌, subst, arith}
use Rattle.std.specs.Prelude.{slice_get, slice_set}
use Rattle.lang_meaning.specs.Lookup.{set_at}
use Rattle.lang_meaning.specs.Values.{Value}
use Rattle.flat_language.specs.declared.place.CapturedKind.TheVariants as kind
use Rattle.flat_language.specs.declared.place.Home.TheVariants as home
use Rattle.flat_language.specs.declared.place.VariablePlace.{VariablePlace}
use Rattle.flat_language.specs.declared.place.VariablePlace.TheVariants.{Slot, SlotBox, CapturedValue, CapturedBox}
use Rattle.flat_language.specs.FlatForm.{FlatForm, set_local}
use Rattle.flat_language.specs.FlatMeaning.{mean}
use Rattle.flat_language.specs.FlatStanding.{VariableStands, IsNoCapturedValue}
use Rattle.flat_language.specs.FlatState.{holds, holds_box, of_box, FlatEnvironment, FlatState, gives, charged, on_state, set_to, box_held, box_in}
use Rattle.mid_code.specs.Arena.{with_word}
use Rattle.mid_code.specs.Meaning.{Context}
use Rattle.mid_code.specs.MidCode.{code_of}
use Rattle.mid_code.specs.State.{Registers, register, falls, ends, MidState, with_arena}
use Rattle.mid_code.specs.State.{charged as mid_charged}
use Rattle.mid_arena.specs.Places.{word_of}
use Rattle.mid_arena.proofs.Registers.{register_here, register_beside}
use Rattle.mid_arena.proofs.Running.{RunsTo, and_then, none_left, move_falls, store_falls, address_here, parts_then, in_two_parts}
use Rattle.back_lowering.specs.Codes.{lower}
use Rattle.back_lowering.specs.Leaves.{slot_into, slot_from, captured_into, variable_from, captured_offset}
use Rattle.back_lowering.specs.Registers.{of_code, enough_for}
use Rattle.back_lowering.specs.Steps.{Steps, move, store}
use Rattle.back_relation.specs.Setting.{Setting}
use Rattle.back_relation.specs.Worlds.{World, BoxIs}
use Rattle.back_relation.specs.Activation.{FormScope}
use Rattle.back_relation.specs.Placed.{IsPlaced}
use Rattle.back_relation.specs.Ends.{done, form_credit}
use Rattle.back_relation.specs.Forms.{context_at, code_at}
use Rattle.back_relation.specs.Points.{Point, start_at, run, value_steps, Here}
use Rattle.back_relation.specs.Starts.{Start, EndsAt, ReachedFrom}
use Rattle.back_relation.proofs.Activations.{activation_later}
use Rattle.back_relation.proofs.FormGrowth.{form_grows}
use Rattle.back_relation.proofs.Growth.{same_prefix}
use Rattle.back_relation.proofs.Points.{point_after, code_grows}
use Rattle.back_relation.proofs.Starts.{start_charged, ends_sparing, ends_spared, behind, two}
use Rattle.back_relation.proofs.Straight.{set_beside, registers_set, world_cost, around_cost}
use Rattle.back_relation.proofs.Then.{same_world}
use Rattle.back_relation.proofs.Worlds.{later_same}
use Rattle.back_relation.specs.Starts.{FlatGrown}
use Rattle.back_relation.proofs.Fitting.{registers_behind}
use Rattle.back_values.specs.Boxes.{Clean}
use Rattle.back_values.specs.Variables.{CapturedByFunctions, KnownPlace, LawOfSetting}
use Rattle.back_values.proofs.CapturedWords.{of_kind, is_box, part_there}
use Rattle.back_values.proofs.Cleaning.{is_clean, reached_clean}
use Rattle.back_values.proofs.Far.{Loaded, load_far_runs, charged_twice}
use Rattle.back_values.proofs.Frames.{framed, world_framed, around_framed}
use Rattle.back_values.proofs.SetBoxes.{box_lent, world_set, around_set}
use Rattle.back_values.proofs.SetSlots.{activation_set, registers_of_set}
use Rattle.back_values.proofs.Variables.{slot_there, box_there}

set_grows : (p : VariablePlace) (v : Value) (env : FlatEnvironment) (z : FlatState) → FlatGrown z (gives v (set_to p v env z)).state
set_grows (Slot i) v env z = record { printed = same_prefix z.state.printed; units = omega arith; exits = omega arith }
set_grows (SlotBox i) v env z = by (box_held (slice_get z.frame i))
  where
    by : (o : Option ℕ) → FlatGrown z (on_state (λ x. set_at o v x) z)
    by None = record { printed = same_prefix z.state.printed; units = omega arith; exits = omega arith }
    by (Some b) = record { printed = same_prefix z.state.printed; units = omega arith; exits = omega arith }
set_grows (CapturedValue i) v env z = record { printed = same_prefix z.state.printed; units = omega arith; exits = omega arith }
set_grows (CapturedBox i) v env z = by (box_in (slice_get env.captured i))
  where
    by : (o : Option ℕ) → FlatGrown z (on_state (λ x. set_at o v x) z)
    by None = record { printed = same_prefix z.state.printed; units = omega arith; exits = omega arith }
    by (Some b) = record { printed = same_prefix z.state.printed; units = omega arith; exits = omega arith }

module _ (setting : Setting) (placed : IsPlaced setting) (s : FormScope) (d m size k n : ℕ) where
  abbrev start : Point setting s d m size → Start setting
  start p = start_at setting s d m size n p

  abbrev c : Context
  c = code_at setting k n

  -- code fell out where a value is there
  pub given_where :
      {c1 credit : ℕ} (a : Start setting) {w : World} {z : FlatState} {regs : Registers} {y : MidState} → ReachedFrom setting c1 a a.d w z regs y → (v : Value) (word : ℕ)
      → c1 ≤ credit → register a.d regs ≡ Some word → word_of w.places v ≡ Some word → EndsAt setting credit a (gives v z) (ends falls regs y)
  given_where {c1} {credit} a {w} {z} {regs} {y} r v word enough e is = done (record {
    result = v;
    outcome = refl;
    end = refl;
    w' = w;
    reached = record {
      kept = r.kept;
      back = record { control = r.back.control; blocks = r.back.blocks; charged = r.back.charged; paid = let paid = r.back.paid in omega (arith, paid, enough) };
    };
    word = word;
    in_register = e;
    of_value = is;
  })

  -- the value, whose word is in d
  module _ (q : Point setting s d m size) (v : Value) (word : ℕ) (here : register d q.regs ≡ Some word) (is : word_of q.w.places v ≡ Some word) where
    set_slot :
        (i : ℕ) → slice_get s.flat.homes i ≡ Some home.Slot
        → EndsAt setting form_credit (start q) (gives v (set_to (Slot i) v q.env q.z)) (run setting s d m size k n (variable_from s.code d (d + 1) (Slot i)) q.regs q.y)
    set_slot i stands =
        let has = q.begins.activation.homes i home.Slot stands in
        let at = slot_there setting s d m size k n q i (holds has.0) has.1 in
        let r : ℕ = at.0 in
        let below : r < d = q.begins.scope.slots_below i r at.1 in
        let first = q.begins.first in
        let act = activation_set setting {y = q.y} i r word v q.begins.scope at.1 stands is (omega (arith, below, first)) q.begins.activation in
        let reached : ReachedFrom setting 6 (start q) d q.w (framed (slice_set q.z.frame i (holds v)) q.z) (slice_set q.regs r (Some word)) (mid_charged 6 q.y) = record {
          kept = record {
            world = world_framed setting q.z.frame (slice_set q.z.frame i (holds v)) (world_cost setting 6 q.begins.call.things);
            activation =
                activation_later setting {d = d} {y = q.y} {y' = mid_charged 6 q.y} (later_same q.w) (same_world setting (world_cost setting 6 q.begins.call.things) (around_cost setting {credit = 6} q.z q.y 6 (omega arith))) refl
                (λ n cs k. k) (λ r few. refl) q.begins.scope act;
            registers = registers_of_set setting {y = q.y} i r word v q.begins.scope at.1 stands is (omega (arith, below, first)) q.begins.activation;
          };
          back = around_framed setting q.z.frame (slice_set q.z.frame i (holds v)) (around_cost setting q.z q.y 6 (omega arith));
        } in
        let run_move : RunsTo c (code_of (move r d ∷ [])) q.regs q.y (ends falls (slice_set q.regs r (Some word)) (mid_charged 6 q.y)) = and_then (move_falls here) none_left in
        subst (λ o. EndsAt setting form_credit (start q) (gives v (set_to (Slot i) v q.env q.z)) (run setting s d m size k n (slot_from d o) q.regs q.y)) (sym at.1)
        (subst (λ o. EndsAt setting form_credit (start q) (gives v (set_to (Slot i) v q.env q.z)) o) (sym run_move.same)
        (given_where (start q) reached v word (omega arith) (register_beside q.regs r d (Some word) (λ e. omega (arith, e, below)) ∙ here) is))

    set_box :
        (b x : ℕ) → BoxIs q.w b x → Clean q.w q.y → x < 2 ^ 26 → d + 1 < size → (ss : Steps) → Loaded c ss (d + 1) q.regs q.y x
        → EndsAt setting form_credit (start q) (gives v (on_state (λ y. set_at (Some b) v y) q.z)) (run setting s d m size k n (ss ++ (store d (d + 1) 0 ∷ [])) q.regs q.y)
    set_box b x box clean low there ss l =
        let within = l.within in
        let cost : ℕ = l.cost + 8 in
        let lent = box_lent setting placed q.begins.call.things clean b x box v word cost is in
        let world = world_set setting placed q.begins.call.things clean b x box v word cost is in
        let back = around_set setting placed q.begins.call.things clean b x box v word cost is {credit = 32} (omega (arith, within)) in
        let regs' : Registers = slice_set q.regs (d + 1) (Some x) in
        let y' : MidState = with_arena (with_word x word q.y.arena) (mid_charged cost q.y) in
        let run_store : RunsTo c (code_of (ss ++ (store d (d + 1) 0 ∷ []))) q.regs q.y (ends falls regs' (with_arena (with_word x word q.y.arena) (mid_charged 8 (mid_charged l.cost q.y)))) =
        parts_then ss (store d (d + 1) 0 ∷ []) l.run
        (and_then
        (store_falls (register_beside q.regs (d + 1) d (Some x) (λ e. omega (arith, e)) ∙ here) (register_here q.regs (d + 1) x (omega (arith, there, q.count)))
        (address_here x (omega (arith, low))) lent) none_left) in
        let same : run setting s d m size k n (ss ++ (store d (d + 1) 0 ∷ [])) q.regs q.y ≡ ends falls regs' y' =
        run_store.same ∙ ap (λ y. ends falls regs' (with_arena (with_word x word q.y.arena) y)) (charged_twice l.cost 8 cost q.y refl) in
        let reached : ReachedFrom setting 32 (start q) d q.w (on_state (λ y. set_at (Some b) v y) q.z) regs' y' = record {
          kept = record {
            world = world;
            activation =
                activation_later setting {d = d} {y = q.y} (later_same q.w) (same_world setting world back) refl (λ n cs k. k)
                (set_beside q.regs (d + 1) x (omega arith)) q.begins.scope q.begins.activation;
            registers = registers_set q.regs (d + 1) x (omega arith);
          };
          back = back;
        } in
        subst (λ o. EndsAt setting form_credit (start q) (gives v (on_state (λ y. set_at (Some b) v y) q.z)) o) (sym same)
        (given_where (start q) reached v word (omega arith) (register_beside q.regs (d + 1) d (Some x) (λ e. omega (arith, e)) ∙ here) is)

  -- a clean point first
  abbrev cleaned_point : Point setting s d m size → Point setting s d m size
  cleaned_point q = point_after setting s d m size n q (reached_clean setting (start q))

  abbrev Sets : VariablePlace → Type 0
  Sets p =
      (q : Point setting s d m size) (v : Value) (word : ℕ) → register d q.regs ≡ Some word → word_of q.w.places v ≡ Some word
      → EndsAt setting form_credit (start q) (gives v (set_to p v q.env q.z)) (run setting s d m size k n (variable_from s.code d (d + 1) p) q.regs q.y)

  slot_box :
      (i : ℕ) → slice_get s.flat.homes i ≡ Some home.Boxed → enough_for (of_code (code_of (variable_from s.code d (d + 1) (SlotBox i)))) ≤ size → Sets (SlotBox i)
  slot_box i stands fits q v word here is =
      let has = q.begins.activation.homes i home.Boxed stands in
      let at = slot_there setting s d m size k n q i (holds_box has.0) has.1 in
      let box = box_there setting q.begins.call.things has.0 at.2.0 at.2.2 in
      let r = reached_clean setting (start q) in
      let there : d + 1 < size = named at.0 at.1 in
      behind setting {c1 = 0} {c2 = form_credit} (start q) d (omega arith) r (omega arith) (omega arith)
      (subst (λ o. EndsAt setting form_credit (start (cleaned_point q)) (gives v (set_to (SlotBox i) v q.env q.z)) (run setting s d m size k n (slot_into (d + 1) o ++ (store d (d + 1) 0 ∷ [])) q.regs q.y)) (sym at.1)
      (subst (λ o. EndsAt setting form_credit (start (cleaned_point q)) (gives v (on_state (λ y. set_at (box_held o) v y) q.z)) (run setting s d m size k n (slot_into (d + 1) (Some at.0) ++ (store d (d + 1) 0 ∷ [])) q.regs q.y))
      (sym has.1)
      (set_box (cleaned_point q) v word here is has.0 at.2.0 (r.kept.world.later.boxes has.0 at.2.0 at.2.2) (is_clean setting q.begins.call.things) box.low there (move (d + 1) at.0 ∷ [])
      (record { cost = 6; within = omega arith; run = and_then (move_falls at.2.1) none_left }))))
    where
      named : (r : ℕ) → slice_get s.code.slots i ≡ Some r → d + 1 < size
      named r e =
          let fits' : enough_for (of_code (code_of (slot_into (d + 1) (Some r) ++ (store d (d + 1) 0 ∷ [])))) ≤ size =
          subst (λ o. enough_for (of_code (code_of (slot_into (d + 1) o ++ (store d (d + 1) 0 ∷ [])))) ≤ size) e fits in
          omega (arith, fits')

  captured_box :
      (i : ℕ) → slice_get s.flat.captured i ≡ Some kind.Boxed → ((q : Point setting s d m size) → CapturedByFunctions q.z)
      → enough_for (of_code (code_of (variable_from s.code d (d + 1) (CapturedBox i)))) ≤ size → Sets (CapturedBox i)
  captured_box i stands known fits q v word here is =
      let found = of_kind s.flat.captured q.env.captured i kind.Boxed q.begins.activation.kinds stands in
      let o = is_box found.0 found.2 in
      by o.0 (found.1 ∙ ap (λ x. Some x) o.1)
    where
      there : d + 1 < size
      there =
          let last = registers_behind (captured_into s.code (d + 1) i) (store d (d + 1) 0 ∷ []) size fits in
          omega (arith, last)

      by :
          (o : Option ℕ) → slice_get q.env.captured i ≡ Some (of_box o)
          → EndsAt setting form_credit (start q) (gives v (set_to (CapturedBox i) v q.env q.z)) (run setting s d m size k n (variable_from s.code d (d + 1) (CapturedBox i)) q.regs q.y)
      by None at =
          absurd (part_there setting q.begins.call.things (known q) (register s.code.function q.regs) q.env.captured q.begins.activation.self i (of_box None) at).at.is
      by (Some b) at =
          let part = part_there setting q.begins.call.things (known q) (register s.code.function q.regs) q.env.captured q.begins.activation.self i (of_box (Some b)) at in
          let box = box_there setting q.begins.call.things b part.at.word part.at.is in
          let r = reached_clean setting (start q) in
          let own = q.begins.scope.self.0 in
          behind setting {c1 = 0} {c2 = form_credit} (start q) d (omega arith) r (omega arith) (omega arith)
          (subst (λ o. EndsAt setting form_credit (start (cleaned_point q)) (gives v (on_state (λ y. set_at (box_in o) v y) q.z))
          (run setting s d m size k n (captured_into s.code (d + 1) i ++ (store d (d + 1) 0 ∷ [])) q.regs q.y))
          (sym at)
          (set_box (cleaned_point q) v word here is b part.at.word (r.kept.world.later.boxes b part.at.word part.at.is) (is_clean setting q.begins.call.things) box.low there
          (captured_into s.code (d + 1) i)
          (load_far_runs c q.regs q.y (d + 1) s.code.function (captured_offset i) part.pointer part.at.word (omega (arith, there, q.count)) (λ e. omega (arith, own, e)) part.held part.low
          part.at.stands)))

  sets :
      (p : VariablePlace) → VariableStands s.flat p → IsNoCapturedValue p → KnownPlace setting s d m size p
      → enough_for (of_code (code_of (variable_from s.code d (d + 1) p))) ≤ size → Sets p
  sets (Slot i) stands settable known fits = λ q v word here is. set_slot q v word here is i stands
  sets (SlotBox i) stands settable known fits = slot_box i stands fits
  sets (CapturedValue i) stands settable known fits = absurd settable
  sets (CapturedBox i) stands settable known fits = captured_box i stands known fits

  -- **a variable is set**
  pub set_here :
      (p : VariablePlace) (f : FlatForm) → VariableStands s.flat p → IsNoCapturedValue p → KnownPlace setting s d m size p
      → enough_for (of_code (code_of (variable_from s.code d (d + 1) p))) ≤ size → Here setting s d m size k n f → Here setting s d m size k n (set_local p f)
  unfolding mean lower
  set_here p f stands settable known fits here q =
      let a : Start setting = start_charged setting (start q) 1 in
      let b : Point setting s d m size = record {
        rs = q.rs;
        valid = q.valid;
        w = q.w;
        env = q.env;
        around = q.around;
        z = charged 1 q.z;
        regs = q.regs;
        y = q.y;
        begins = a.begins;
        count = q.count;
      } in
      let behind_steps : Steps = variable_from s.code d (d + 1) p in
      ends_sparing setting {c1 = form_credit} (start q) 1 (omega arith) (omega arith)
      (subst (λ o. EndsAt setting form_credit a (mean (context_at setting k) (set_local p f) q.env q.around q.z) o)
      (sym (in_two_parts c (value_steps setting s d m size k n f) behind_steps q.regs q.y))
      (two setting {c1 = 0} {c2 = form_credit} a d (λ v z. gives v (set_to p v q.env z)) (λ g y. run setting s d m size k n behind_steps g y) (omega arith) (omega arith)
      (form_grows setting k f q.env q.around (charged 1 q.z)).units (ends_spared setting (start b) (here b)) (λ v z. set_grows p v q.env z) (λ g y. code_grows setting s d m size k n behind_steps g y)
      (λ x. sets p stands settable known fits (point_after setting s d m size n b x.reached) x.result x.word x.in_register x.of_value)))

pub setting_law : LawOfSetting
setting_law setting s d m size k turns p f placed stands settable known fits here = set_here setting placed s d m size k turns p f stands settable known fits here
